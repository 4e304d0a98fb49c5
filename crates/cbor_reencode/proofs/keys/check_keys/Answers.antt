-- No keys are one where none are found; and where none are, memory alone is an error.
use Rattle.std.proofs.Common.{inl, inr, sym, ◌∙◌}
use Rattle.cbor_reencode.proofs.keys.check_keys.Goals as goal

pub returns-in-None-clause-distinct : goal.returns-in-None-clause-distinct
returns-in-None-clause-distinct c = inr (c.in_ok-keys_twice.ensures.none c.in-None.is)

pub returns-in-Some-2-clause-found : goal.returns-in-Some-2-clause-found
returns-in-Some-2-clause-found c = λ none apart.
    let twice = rw c.in-Some-2.is at c.in_ok-keys_twice.ensures.some in
    elim apart [
      | inl fixes ↦ (let wrong = sym (c.fixes_keys.ensures.1 fixes) ∙ c.if-fixes_keys.false in absurd cc)
      | inr once ↦ absurd (twice once)
    ]
