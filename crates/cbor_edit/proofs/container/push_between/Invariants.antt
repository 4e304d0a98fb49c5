-- What was appended, and what is left, is all of it.
use Rattle.std.proofs.Common.{◌≡◌, ◌++◌, drop}
use Rattle.cbor_edit.specs.Members.{between}
use Rattle.cbor_edit.proofs.container.push_between.Given as goal

abbrev pub invariant-spans : goal.invariant-spans
invariant-spans l =
    l.out.items ++ between l.bytes l.at (drop l.span-index l.gone)
    ≡ l.fn.out.items ++ between l.bytes l.fn.from l.gone
