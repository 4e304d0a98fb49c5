-- The digits so far, and what comes next.
use Rattle.std.proofs.Common.{◌∙◌, ap, sym, length, inl, inr, arith}
use Rattle.std.proofs.lemmas.Bool.{eqb-true, eqb-false}
use Rattle.cbor_tokens.specs.TokenReading.{with_front}
use Rattle.cbor_tokens.proofs.tokens.Blanks.{after_blank-again}
use Rattle.cbor_tokens.proofs.tokens.Contents.{with_front-nil}
use Rattle.cbor_tokens.proofs.tokens.Spaced.{digits_in-after_blank, none_from, digits_closed, digits_read, digits_place}
use Rattle.cbor_tokens.proofs.tokens.Spaced.{digits_of-blank, digits_of-none, run_more}
use Rattle.cbor_tokens.proofs.token.content.digits_front.Goals as goal

pub runs-init : goal.runs-init
runs-init c =
    let text = c.args.text.now in
    let comments = c.args.comments in
    record {
      within = c.after_blank-rest.ensures.within;
      blank = rw c.after_blank-rest.ensures.gives (after_blank-again comments text);
      read =
          rw (c.after_blank-rest.ensures.gives, c.new-digits.ensures.items)
          (digits_in-after_blank comments text ∙ sym (with_front-nil _));
    }

pub runs-preserved : goal.runs-preserved
runs-preserved c =
    let comments = c.args.comments in
    let next = c.after_blank-rest-in-Some in
    record {
      within = omega (arith, next.ensures.within, c.in-Some.ensures.shorter, c.runs.invariant.within);
      blank = rw next.ensures.gives (after_blank-again comments c.in-Some.after.now);
      read = run_more comments c.args.text.now c.runs.digits.items c.in-Some.run'.now c.extend_from_slice.new.self.items
          c.runs.rest.now c.in-Some.after.now next.result.now c.runs.invariant.read c.in-Some.ensures.found
          next.ensures.gives c.in_ok-extend_from_slice.ensures.items;
    }

-- neither a digit, a blank nor the quote comes next
pub returns-in_default-after_quote-clause-none : goal.returns-in_default-after_quote-clause-none
returns-in_default-after_quote-clause-none c =
    let none = none_from c.args.comments c.runs.rest.now c.in_default.ensures.none c.in_default-after_quote.ensures.none
    c.runs.invariant.blank in
    digits_of-none c.args.comments c.args.text.now
    (c.runs.invariant.read ∙ ap (with_front c.runs.digits.items) none)

-- blanks alone
pub returns-then-rest-text-clause-none : goal.returns-then-rest-text-clause-none
returns-then-rest-text-clause-none c =
    let quote = c.in-Some-after_quote.ensures.found in
    digits_of-blank c.args.comments c.args.text.now c.runs.digits.items c.in-Some-after_quote.after.now
    (digits_closed c.args.comments c.args.text.now c.runs.digits.items c.runs.rest.now c.in-Some-after_quote.after.now
    c.runs.invariant.read quote)
    (omega (arith, eqb-true _ 0 (sym c.if-is_empty.ensures), c.runs.digits.ok.0))
    (omega (arith, ap length quote, c.if-rest-text.true))

pub returns-clause-found : goal.returns-clause-found
returns-clause-found c =
    let quote = c.in-Some-after_quote.ensures.found in
    let after = c.in-Some-after_quote.after.now in
    let read = digits_closed c.args.comments c.args.text.now c.runs.digits.items c.runs.rest.now after
    c.runs.invariant.read quote in
    digits_place c.args.comments c.args.text.now c.runs.digits.items after (digits_read c.args.comments c.args.text.now
    c.runs.digits.items after read (elim c.else-is_empty.either [
      | inl all ↦ inr (omega (arith, ap length quote, all.1, c.runs.invariant.within))
      | inr some ↦ inl (omega (arith, eqb-false _ 0 (sym c.is_empty.ensures ∙ some), c.runs.digits.ok.0))
    ]))
