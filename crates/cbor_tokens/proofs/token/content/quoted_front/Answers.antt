-- The quote closes the content.
use Rattle.std.proofs.Common.{◌∙◌, ap, sym, List, ℕ, Some}
use Rattle.cbor_tokens.specs.TokenReading.{with_front}
use Rattle.cbor_tokens.proofs.tokens.Quoted.{closed, quoted_place}
use Rattle.cbor_tokens.proofs.token.content.quoted_front.Goals as goal

pub returns-then-special-quote-clause-found : goal.returns-then-special-quote-clause-found
returns-then-special-quote-clause-found c =
    let after = c.in-Some.after.now in
    let piece = closed c.args.quote c.pieces.rest.now c.in-Some.piece.now c.in-Some.special after
    c.in-Some.ensures.found c.if-special-quote.true in
    quoted_place c.args.quote c.args.text.now c.extend_from_slice.new.self.items after
    (c.pieces.invariant.read ∙ ap (with_front c.pieces.content.items) piece
    ∙ ap (λ (t : List ℕ). Some (t, after)) (sym c.in_ok-extend_from_slice.ensures.items))
