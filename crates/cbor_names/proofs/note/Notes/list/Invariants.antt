-- The notes so far are in order, and the next one is to be behind them.
use Rattle.cbor_names.specs.Order.{RiseTo}
use Rattle.cbor_names.proofs.note.Notes.list.Given as goal

abbrev pub invariant-loop-found : goal.invariant-loop-found
invariant-loop-found l = RiseTo l.self.len 0 l.list.items l.from
