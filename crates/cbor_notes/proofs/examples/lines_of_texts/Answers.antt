use Rattle.std.proofs.Common.{refl}
use Rattle.base64.proofs.OnLiterals.{base64_on_literals}
use Rattle.hex.specs.Hex.{encode_with}
use Rattle.cbor_tokens.specs.Base64.{decoded}
use Rattle.cbor_notes.specs.DecodedLines.{base64_lines, decoded_line, decoded_lines}
use Rattle.cbor_notes.proofs.examples.lines_of_texts.Goals as goal

pub returns : goal.returns
unfolding base64_lines decoded decoded_line decoded_lines encode_with base64_on_literals
returns c = record { standard = refl; url_safe = refl; other = refl; empty = refl }
