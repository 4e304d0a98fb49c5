-- The function that reads notation returns only what is true of the text.
use Rattle.cbor_notation.proofs.notation.sound.Items.{notation_sound}
use Rattle.cbor_notation.proofs.laws.notation_read.Goals as goal

pub returns : goal.returns
returns c = notation_sound
