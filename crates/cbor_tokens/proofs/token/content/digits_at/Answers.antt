-- The digits from the place on, or none.
use Rattle.std.proofs.Common.{◌∙◌, ap, sym, arith}
use Rattle.cbor_tokens.specs.TokenReading.{digits_of}
use Rattle.cbor_tokens.proofs.tokens.TextPlaces.{from_place}
use Rattle.cbor_tokens.proofs.tokens.Spaced.{DigitsBetween-digits_of, only_digits, none_digits}
use Rattle.cbor_tokens.proofs.token.content.digits_at.Goals as goal

pub returns-in-Some-clause-found : goal.returns-in-Some-clause-found
returns-in-Some-clause-found c =
    let found = rw c.in-Some.is at c.in_ok-digits.ensures.found in
    let within = rw c.in-Some.is at c.in_ok-digits.ensures.within in (
      omega (arith, within.1, c.split_at.ensures.back_len),
      DigitsBetween-digits_of c.args.comments _ _ (from_place (digits_of c.args.comments) c.args.text.now
          c.split_at.result.1.now c.args.at c.in-Some.len c.in-Some.digits.items c.split_at.ensures.back found),
    )

pub returns-in-Some-clause-only : goal.returns-in-Some-clause-only
returns-in-Some-clause-only c =
    let found = rw c.in-Some.is at c.in_ok-digits.ensures.found in
    only_digits c.args.comments _ _ _ (from_place (digits_of c.args.comments) c.args.text.now
    c.split_at.result.1.now c.args.at c.in-Some.len c.in-Some.digits.items c.split_at.ensures.back found)

pub returns-in-None-clause-none : goal.returns-in-None-clause-none
returns-in-None-clause-none c =
    let none = rw c.in-None.is at c.in_ok-digits.ensures.none in
    none_digits c.args.comments _ (sym (ap (digits_of c.args.comments) c.split_at.ensures.back) ∙ none)

pub returns-in-None-clause-only : goal.returns-in-None-clause-only
returns-in-None-clause-only c = λ content digits rest is between. absurd
    (returns-in-None-clause-none c content digits rest is between)
