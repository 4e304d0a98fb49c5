-- The functions that read embedded items return exactly what the grammar has.
use Rattle.cbor_grammar.proofs.shared.EmbeddedItems.{embeds_exactly}
use Rattle.cbor_grammar.proofs.laws.embedded_items.Goals as goal

pub returns : goal.returns
returns c = embeds_exactly
