use Rattle.std.proofs.Common.{◌≡◌, ℕ, ◌∙◌, ap, sym, inl, inr, length, arith}
use Rattle.std.proofs.lemmas.Option.{IfSome_then}
use Rattle.cbor_notes.proofs.datetime.read_zone.Goals as goal

pub returns-in_ok-as_array-in_default-clause-found : goal.returns-in_ok-as_array-in_default-clause-found
returns-in_ok-as_array-in_default-clause-found c =
    let whole = c.in_ok-as_array-in_default.ensures.cases in
    IfSome_then c.read_offset.result c.read_offset.ensures.found (λ offset is. inr (rw whole.same at is))

pub returns-in_ok-as_array-in_default-clause-only : goal.returns-in_ok-as_array-in_default-clause-only
returns-in_ok-as_array-in_default-clause-only c = λ offset is.
    let whole = c.in_ok-as_array-in_default.ensures.cases in
    elim is [
      | inl utc ↦ elim utc.0 [
        | inl upper ↦ let bad : ◌≡◌ {A = ℕ} 6 1 = sym whole.long ∙ ap length upper in absurd (omega (arith, bad))
        | inr lower ↦ let bad : ◌≡◌ {A = ℕ} 6 1 = sym whole.long ∙ ap length lower in absurd (omega (arith, bad))
      ]
      | inr other ↦ c.read_offset.ensures.only offset (rw whole.same other)
    ]
