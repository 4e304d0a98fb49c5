-- The content of a string is skipped where it is all there and, in a text, is UTF-8.
use Rattle.std.proofs.Common.{List, ℕ, length, take, subst, sym, arith}
use Rattle.cbor_grammar.specs.declared.error.Error.TheVariants.{Utf8}
use Rattle.cbor_grammar.specs.StringKind.{IsContent}
use Rattle.cbor_bytes.specs.mirror.Skipping.{here, Goes, FailsAt, skip_content}
use Rattle.cbor_bytes.proofs.skipping.Skips.{content_cut, content_goes, content_shows}
use Rattle.cbor_bytes.proofs.skip.after_content.Goals as goal

pub returns-then-bytes-count-clause-stops : goal.returns-then-bytes-count-clause-stops
returns-then-bytes-count-clause-stops c = λ w. content_cut c.args.kind c.args.count w c.args.bytes.now (omega arith)

pub returns-then-may_hold-clause-goes : goal.returns-then-may_hold-clause-goes
returns-then-may_hold-clause-goes c = λ w.
    let kind = c.args.kind in
    let b = c.args.bytes.now in
    let e = c.split_at.ensures in
    let holds = subst (IsContent kind) e.front (c.may_hold.ensures.0 c.if-may_hold.true) in
    subst (Goes (skip_content kind c.args.count w) here b) (sym e.back)
    (content_goes kind c.args.count w b (omega arith) holds)

pub returns-clause-stops : goal.returns-clause-stops
returns-clause-stops c = λ w.
    let kind = c.args.kind in
    let b = c.args.bytes.now in
    let e = c.split_at.ensures in
    let bad : ¬ (IsContent kind (take c.args.count b)) =
    λ holds. (let yes = c.may_hold.ensures.1 (subst (IsContent kind) (sym e.front) holds) in let no =
    c.if-may_hold.false in cc) in
    subst (λ (r : List ℕ). FailsAt (skip_content kind c.args.count w) b Utf8 (length r)) (sym e.back)
    (content_shows kind c.args.count w b (omega arith) bad)
