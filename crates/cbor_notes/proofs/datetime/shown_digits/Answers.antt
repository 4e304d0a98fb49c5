use Rattle.std.proofs.Common.{refl}
use Rattle.cbor_notes.proofs.datetime.shown_digits.Goals as goal

pub returns-then-ends_with-3-clause-count : goal.returns-then-ends_with-3-clause-count
returns-then-ends_with-3-clause-count c =
    rw (← c.if-ends_with.ensures.value, ← c.if-ends_with-2.ensures.value, ← c.if-ends_with-3.ensures.value) refl

pub returns-else-ends_with-3-clause-count : goal.returns-else-ends_with-3-clause-count
returns-else-ends_with-3-clause-count c =
    rw (← c.if-ends_with.ensures.value, ← c.if-ends_with-2.ensures.value, ← c.if-ends_with-3.ensures.value) refl
