-- the pieces so far are written
use Rattle.std.proofs.Common.{vec_items}
use Rattle.cbor_page.specs.Written.{Writes}
use Rattle.cbor_page.proofs.source.Source.push_all.Given as goal

abbrev pub invariant-events : goal.invariant-events
invariant-events l = Writes l.self l.fn.done l.now (vec_items l.initial.out) (vec_items l.out)
