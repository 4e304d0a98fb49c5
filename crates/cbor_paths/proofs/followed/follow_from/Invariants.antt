-- The parts so far are items of the bytes.
use Rattle.std.specs.List.{AllByRecursion}
use Rattle.cbor_paths.specs.Followed.{IsPart}
use Rattle.cbor_paths.proofs.followed.follow_from.Given as goal

abbrev pub invariant-places : goal.invariant-places
invariant-places l = AllByRecursion (IsPart l.bytes) l.found.items
