-- A string takes what its estimate is, whole or in chunks.
use Rattle.std.proofs.Common.{arith}
use Rattle.cbor_grammar.specs.declared.argument.Argument.TheVariants.{Indefinite}
use Rattle.cbor_grammar.specs.declared.head.ItemHead.TheVariants as item_head
use Rattle.cbor_notation_writer.proofs.straight.Ahead.{takes_two, container_found}
use Rattle.cbor_notation_writer.proofs.straight.StringsAhead.{string_found}
use Rattle.cbor_notation_writer.proofs.ahead.string_ahead.Goals as goal

pub returns-in-Number-clause-leaves : goal.returns-in-Number-clause-leaves
returns-in-Number-clause-leaves c =
    rw c.in-Number.is (string_found c.content_ahead.result c.args.budget c.args.kind c.in-Number.count
    c.in-Number.field-1 c.args.bytes.now (c.content_ahead.ensures.leaves c.in-Number.field-1))

pub returns-in-Indefinite-clause-leaves : goal.returns-in-Indefinite-clause-leaves
returns-in-Indefinite-clause-leaves c =
    rw c.in-Indefinite.is (container_found c.chunks_ahead.result c.args.budget c.saturating_sub.result
    (item_head.String c.args.kind Indefinite) c.args.bytes.now (omega arith)
    c.chunks_ahead.ensures.takes c.chunks_ahead.ensures.leaves)

pub returns-in-Indefinite-clause-takes : goal.returns-in-Indefinite-clause-takes
returns-in-Indefinite-clause-takes c =
    takes_two c.chunks_ahead.result c.args.budget c.saturating_sub.result (omega arith) c.chunks_ahead.ensures.takes
