-- What is said of bytes that embed no item is exactly what the grammar has.
use Rattle.cbor_grammar.proofs.shared.EmbeddedItems.{rejects_exactly}
use Rattle.cbor_grammar.proofs.laws.embedded_refusals.Goals as goal

pub returns : goal.returns
returns c = rejects_exactly
