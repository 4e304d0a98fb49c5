use lib.Utf8.{encode}
use Rattle.std.proofs.Common.{refl}
use Rattle.std.specs.Fmt.{digits}
use Rattle.std.specs.Str.{chars}
use Rattle.hex.specs.Hex.{encode_with}
use Rattle.cbor_notes.proofs.examples.escapes.Goals as goal

pub returns-clause-bytes : goal.returns-clause-bytes
unfolding encode_with chars digits encode
returns-clause-bytes c = refl

pub returns-clause-text : goal.returns-clause-text
unfolding encode_with chars digits encode
returns-clause-text c = refl
