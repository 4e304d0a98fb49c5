-- The content of a string is there if it is whole and, in a text, is UTF-8.
use Rattle.std.proofs.Common.{ℕ, List, length, take, drop, ap, subst, sym, ◌∙◌, ◌≡◌, ◌≤◌, Err, Ok, arith}
use Rattle.std.proofs.lemmas.List.{take-append-drop, length-take}
use Rattle.cbor_grammar.specs.declared.error.Error.TheVariants.{Utf8}
use Rattle.cbor_grammar.specs.declared.width.IntegerWidth.{IntegerWidth}
use Rattle.cbor_grammar.specs.declared.strings.StringKind.{StringKind}
use Rattle.cbor_grammar.specs.declared.strings.StringKind.TheVariants.{Bytes, Text}
use Rattle.cbor_grammar.specs.StringKind.{IsContent}
use Rattle.cbor_grammar.proofs.bytes.StringRefusals.{bad_content, content_refuses}
use Rattle.cbor_bytes.specs.mirror.Skipping.{rest_of, skip_content}
use Rattle.cbor_bytes.proofs.skipping.Skips.{content_cut, content_goes, goes_at}
use Rattle.cbor_rules.proofs.check.strings.read_content.Goals as goal

-- a content that a string of this kind may not have
content_bad : (kind : StringKind) (n : ℕ) (w : IntegerWidth) (b : List ℕ) → n ≤ length b → ¬ (IsContent kind (take n b))
    → skip_content kind n w b ≡ Err Utf8
content_bad Bytes n w b le bad = absurd (bad tt)
content_bad Text n w b le bad =
    ap rest_of (content_refuses Text n w b Utf8
    (bad_content (take n b) (drop n b) (sym (take-append-drop n b)) (omega (arith, length-take n b)) bad))

pub returns-then-bytes-count-clause-gives : goal.returns-then-bytes-count-clause-gives
returns-then-bytes-count-clause-gives c = λ w. content_cut c.args.kind c.args.count w c.args.bytes.now (omega arith)

pub returns-then-may_hold-clause-gives : goal.returns-then-may_hold-clause-gives
returns-then-may_hold-clause-gives c = λ w.
    let kind = c.args.kind in
    let b = c.args.bytes.now in
    let e = c.split_at.ensures in
    let holds = subst (IsContent kind) e.front (c.may_hold.ensures.0 c.if-may_hold.true) in
    goes_at (content_goes kind c.args.count w b (omega arith) holds) ∙ ap (λ (r : List ℕ). Ok r) (sym e.back)

pub returns-else-may_hold-clause-gives : goal.returns-else-may_hold-clause-gives
returns-else-may_hold-clause-gives c = λ w.
    let kind = c.args.kind in
    let b = c.args.bytes.now in
    let e = c.split_at.ensures in
    let bad : ¬ (IsContent kind (take c.args.count b)) =
    λ holds. (let yes = c.may_hold.ensures.1 (subst (IsContent kind) (sym e.front) holds) in let no =
    c.if-may_hold.false in cc) in
    content_bad kind c.args.count w b (omega arith) bad
