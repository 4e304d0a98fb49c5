use Rattle.std.proofs.Common.{◌≡◌, ℕ, suc, ◌+◌, ◌-◌, ◌*◌, ◌<◌, ◌≤◌, List, [], ◌∷◌, length, take, drop, false}
use Rattle.std.proofs.Common.{Some, None, refl, sym, ap, ◌∙◌, arith, if◌then◌else◌, nat_lt, lt-ltb, slice_index}
use Rattle.std.proofs.Math.Seq.{take-length}
use Rattle.std.proofs.Common.{inl, inr, le-ltb}
use Rattle.std.proofs.lemmas.Bool.{cases_lt}
use Rattle.std.specs.Char.{digit_value}
use Rattle.cbor_edn_grammar.specs.HexFloat.{hex_run}
use Rattle.cbor_edn_tokens.proofs.hex_float.hex_run.Goals as goal

run_end : (n : ℕ) (digits : List ℕ) → length digits < 1 → hex_run n digits ≡ Some n
run_end n [] none = refl
run_end n (b ∷ digits) none = absurd (omega (arith, none))

run_step : (n d : ℕ) (digits : List ℕ) → 1 ≤ length digits → digit_value (slice_index digits 0) ≡ d → d < 16
    → hex_run n digits ≡ hex_run (n * 16 + d) (take (length digits - 1) (drop 1 digits))
run_step n d [] some is less = absurd (omega (arith, some))
run_step n d (b ∷ digits) some is less =
    let one : suc (length digits) - 1 ≡ length digits = omega arith in
    let all : take (suc (length digits) - 1) digits ≡ digits = ap (λ k. take k digits) one ∙ take-length digits in
    ap (λ v. if nat_lt v 16 then hex_run (n * 16 + v) digits else None) is
    ∙ ap (λ t. if t then hex_run (n * 16 + d) digits else None) (lt-ltb d 16 less)
    ∙ ap (hex_run (n * 16 + d)) (sym all)

run_fails : (n : ℕ) (digits : List ℕ) → 1 ≤ length digits → nat_lt (digit_value (slice_index digits 0)) 16 ≡ false
    → hex_run n digits ≡ None
run_fails n [] some fails = absurd (omega (arith, some))
run_fails n (b ∷ digits) some fails =
    ap (λ t. if t then hex_run (n * 16 + digit_value b) digits else None) fails

no_digit : (a b : ℕ) → a ≡ b → (a < 16 → ⊥) → nat_lt b 16 ≡ false
no_digit a b e fails = elim (cases_lt a 16) [
  | inl lt ↦ absurd (fails lt)
  | inr ge ↦ ap (λ z. nat_lt z 16) (sym e) ∙ le-ltb a 16 ge
]

one_less : (behind before start all : ℕ) (digits : List ℕ) → 1 ≤ length digits → behind ≤ before + 1
    → before + length digits ≤ start + all
    → behind + length (take (length digits - 1) (drop 1 digits)) ≤ start + all
one_less behind before start all [] some more le = absurd (omega (arith, some))
one_less behind before start all (b ∷ digits) some more le =
    let one : suc (length digits) - 1 ≡ length digits = omega arith in
    let same : length (take (suc (length digits) - 1) digits) ≡ length digits =
    ap length (ap (λ k. take k digits) one ∙ take-length digits) in
    omega (arith, more, le, same)

pub returns-in_default-to_digit-clause-finds : goal.returns-in_default-to_digit-clause-finds
returns-in_default-to_digit-clause-finds c = λ n is.
    let m = c.digits.invariant.so_far n is in
    sym m.2 ∙ run_fails m.0 c.digits.rest.now c.in-len1-up.len_at_least
    (no_digit _ _ (ap digit_value c.from.ensures) c.in_default-to_digit.ensures.value)

pub digits-preserved : goal.digits-preserved
digits-preserved c = record {
  so_far = λ n is.
      let m = c.digits.invariant.so_far n is in
      let value = c.in-Some.ensures.value in (
        m.0 * 16 + c.in-Some.digit,
        c.then-front.ensures.number m.0 m.1,
        sym (run_step m.0 c.in-Some.digit c.digits.rest.now c.in-len1-up.len_at_least
            (ap digit_value (sym c.from.ensures) ∙ sym value.1) (omega (arith, value.0, value.1))) ∙ m.2,
      );
  fits = c.then-front.ensures.fits;
  behind = one_less _ c.digits.front.behind c.args.start.behind _ c.digits.rest.now c.in-len1-up.len_at_least
      c.then-front.ensures.behind c.digits.invariant.behind;
}

pub returns-clause-finds : goal.returns-clause-finds
returns-clause-finds c = λ n is.
    let m = c.digits.invariant.so_far n is in
    (m.0, sym m.2 ∙ run_end m.0 c.digits.rest.now c.in_default.len_below, m.1)
