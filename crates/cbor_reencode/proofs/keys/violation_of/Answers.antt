-- Bytes that keep the rules have no violation, and no keys are one where none are found.
use Rattle.std.proofs.Common.{refl, sym, ◌∙◌}
use Rattle.cbor_reencode.proofs.keys.violation_of.Goals as goal

pub returns-in_default-2-clause-is : goal.returns-in_default-2-clause-is
returns-in_default-2-clause-is c = (
  sym c.in_ok-found.ensures.first ∙ c.in_default.is,
  λ on. c.in_ok-first.ensures.none c.in_default-2.is,
)

pub returns-in_default-2-clause-none : goal.returns-in_default-2-clause-none
returns-in_default-2-clause-none c = (
  λ none. (c.in_ok-found.ensures.none.0 c.in_default.is, λ on. c.in_ok-first.ensures.none c.in_default-2.is),
  λ keeps. refl,
)
