-- The error and its place are those of the kept bytes; there is none if and only if these are whole bytes in hex.
use Rattle.std.proofs.Common.{◌-◌, List, ℕ, arith, refl, sym, subst}
use Rattle.cbor_grammar.specs.declared.error.Error.TheVariants as refusal
use Rattle.cbor_grammar.specs.HexText.{AreHexDigits, IsHexFault}
use Rattle.cbor_grammar.proofs.hex.Kept.{bad_digit, bad_not_all, odd_digits}
use Rattle.cbor_bytes.proofs.hex_text.place.hex_fault.Goals as goal

pub returns-in-Some-2-clause-fault : goal.returns-in-Some-2-clause-fault
returns-in-Some-2-clause-fault c =
    let place = c.in-Some.place in
    subst (λ (t : List ℕ). IsHexFault t refusal.BadHex place) c.as_bytes-text.ensures.value
    (bad_digit c.as_bytes-text.result.now place (omega (arith, c.kept_count-count.ensures)) c.in-Some.ensures.kept
    c.in-Some.ensures.bad c.in-Some.ensures.before)

pub returns-in-Some-2-clause-none : goal.returns-in-Some-2-clause-none
returns-in-Some-2-clause-none c = (
  λ e. absurd cc,
  λ digits. absurd (bad_not_all c.as_bytes-text.result.now c.in-Some.place c.in-Some.ensures.kept c.in-Some.ensures.bad
      (subst AreHexDigits (sym c.as_bytes-text.ensures.value) digits).1),
)

pub returns-in_ok-place-in-None-clause-fault : goal.returns-in_ok-place-in-None-clause-fault
returns-in_ok-place-in-None-clause-fault c =
    let place = c.in_ok-place-in-None.place in
    subst (λ (t : List ℕ). IsHexFault t refusal.OddHex place) c.as_bytes-text.ensures.value
    (odd_digits c.as_bytes-text.result.now (c.kept_count-count.result - 1) place
    (omega (arith, c.kept_count-count.ensures)) (omega arith) (c.in-None.ensures.none refl)
    c.in_ok-place-in-None.ensures.some)
