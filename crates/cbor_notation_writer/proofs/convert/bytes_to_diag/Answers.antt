-- What is shown as embedded items is exactly what the bytes spell.
use Rattle.cbor_grammar.proofs.shared.EmbeddedItems.{embeds_exactly}
use Rattle.cbor_notation_writer.proofs.convert.bytes_to_diag.Goals as goal

pub returns-clause-embedded : goal.returns-clause-embedded
returns-clause-embedded c = embeds_exactly
