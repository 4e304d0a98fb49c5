-- No text is two items.
use Rattle.cbor_notation.proofs.notation.OneReading.{one_reading}
use Rattle.cbor_notation.proofs.laws.one_reading.Goals as goal

pub returns : goal.returns
returns c = λ limit other text i j is is_too. one_reading limit other text i j is is_too
