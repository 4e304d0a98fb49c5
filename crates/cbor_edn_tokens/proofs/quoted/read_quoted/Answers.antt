-- The content is what the turns give, one after the other.
use Rattle.std.proofs.Common.{arith}
use Rattle.std.proofs.lemmas.Result.{err_from_is_err_and}
use Rattle.cbor_edn_grammar.proofs.Turns.{turn_fails, turn_last, turn_more}
use Rattle.cbor_edn_tokens.proofs.PlainText.{plain_more}
use Rattle.cbor_edn_tokens.proofs.quoted.read_quoted.Goals as goal

pub returns-in_err-more-clause-gives : goal.returns-in_err-more-clause-gives
returns-in_err-more-clause-gives c =
    let p = err_from_is_err_and c.from_residual-in_err-more.result c.from_residual-in_err-more.ensures.1 in
    let i = c.content.invariant in
    let after = plain_more c.args.quote _ _ _ _ i.enough i.so_far in
    let fails = rw (← c.push_plain.ensures.rest) at (turn_fails _ _ _ _ _ after.1 after.2 c.in_err-more.field-0.0) in
    rw (p.1, p.2) (fails c.in_err-more.ensures.gives)

pub returns-then-not-more-clause-gives : goal.returns-then-not-more-clause-gives
returns-then-not-more-clause-gives c =
    let i = c.content.invariant in
    let t = rw c.if-not-more.true at c.in_ok-more.ensures.gives in
    let after = plain_more c.args.quote _ _ _ _ i.enough i.so_far in
    rw (t.2, c.in_ok-push_plain.ensures.content)
    (turn_last _ _ _ _ _ after.1 after.2 (rw c.push_plain.ensures.rest at t.1))

pub content-preserved : goal.content-preserved
content-preserved c =
    let i = c.content.invariant in
    let t = rw c.if-not-more.false at c.in_ok-more.ensures.gives in
    let after = plain_more c.args.quote _ _ _ _ i.enough i.so_far in
    let next = turn_more _ _ _ _ _ after.1 after.2 (rw c.push_plain.ensures.rest at t.1)
    (rw c.push_plain.ensures.rest at c.in_ok-more.ensures.shorter) in
    record {
      bound = next.0;
      enough = next.1;
      so_far = rw (t.2, c.in_ok-push_plain.ensures.content) next.2;
      room = omega (arith, c.in_ok-more.ensures.shorter, c.push_plain.ensures.within, i.room);
    }
