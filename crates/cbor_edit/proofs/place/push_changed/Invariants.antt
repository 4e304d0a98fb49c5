-- What was appended, and what is left, is all of it.
use Rattle.std.proofs.Common.{◌≡◌, ◌++◌, drop}
use Rattle.cbor_edit.specs.Edited.{changed}
use Rattle.cbor_edit.proofs.place.push_changed.Given as goal

abbrev pub invariant-changes : goal.invariant-changes
invariant-changes l =
    l.out.items ++ changed l.bytes l.at (drop l.change-index l.changes)
    ≡ l.fn.out.items ++ changed l.bytes l.fn.from l.changes
