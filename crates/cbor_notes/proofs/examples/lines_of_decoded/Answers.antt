use Rattle.std.proofs.Common.{refl}
use Rattle.hex.specs.Hex.{encode_with}
use Rattle.cbor_notes.specs.DecodedLines.{decoded_line, decoded_lines}
use Rattle.cbor_notes.proofs.examples.lines_of_decoded.Goals as goal

pub returns : goal.returns
unfolding decoded_line decoded_lines encode_with
returns c = refl
