-- the items so far are written
use Rattle.std.proofs.Common.{vec_items}
use Rattle.cbor_page.specs.Written.{ShowsTo}
use Rattle.cbor_page.proofs.shown.push_whole.Given as goal

abbrev pub invariant-fronts : goal.invariant-fronts
invariant-fronts l = ShowsTo l.piece.bytes.now 0 l.front.used (vec_items l.initial.out) (vec_items l.out)
