-- A `/` opens a comment if another one closes it.
use Rattle.std.proofs.Common.{◌∙◌, sym, arith}
use Rattle.cbor_tokens.proofs.tokens.Blanks.{comment_left, slash_left}
use Rattle.cbor_tokens.proofs.tokens.TextPlaces.{front_byte}
use Rattle.cbor_tokens.proofs.token.after_piece.Goals as goal

pub returns-in_err-words-in-47-clause-none : goal.returns-in_err-words-in-47-clause-none
returns-in_err-words-in-47-clause-none c = rw c.from_residual.ensures
    (slash_left c.args.comments c.args.text.now _ c.if-comments.true
    (front_byte c.args.text.now 47 c.in-len1-up.len_at_least (omega arith))
    (sym c.words_len.ensures ∙ c.in_err-words-in-47.was))

pub returns-in_ok-words-in-47-clause-found : goal.returns-in_ok-words-in-47-clause-found
returns-in_ok-words-in-47-clause-found c = rw c.split_at.ensures.back
    (comment_left c.args.comments c.args.text.now _ c.in_ok-words-in-47.words c.if-comments.true
    (front_byte c.args.text.now 47 c.in-len1-up.len_at_least (omega arith))
    (sym c.words_len.ensures ∙ c.in_ok-words-in-47.was))
