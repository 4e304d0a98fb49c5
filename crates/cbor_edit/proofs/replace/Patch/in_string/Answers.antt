use Rattle.std.proofs.Common.{◌≡◌, ℕ, ◌≤◌, ◌+◌, List, ◌++◌, length, refl, ap, ◌∙◌, arith}
use Rattle.cbor_grammar.specs.declared.width.IntegerWidth.{IntegerWidth}
use Rattle.cbor_grammar.specs.Head.{head}
use Rattle.cbor_edit.specs.Edited.{kept}
use Rattle.cbor_edit.proofs.Edits.{with_head}
use Rattle.cbor_edit.proofs.replace.Patch.in_string.Goals as goal

pub returns : goal.returns
returns c = λ old part inner.
    let begins = c.in-Some.ensures in
    let room : c.in-Some.head.inner ≤ length c.args.bytes.now = begins.within in
    let within : c.in-Some.head.inner + c.in-Some.head.len ≤ length c.args.bytes.now = omega arith in
    let count : c.len-len.result ≡ length c.in-Some-2.content.items = omega (arith, c.in-Some-2.content.ok.0) in
    let in_width : c.in_ok-new.new.items ≡ head 2 c.len-len.result (kept c.in-Some.head.width c.len-len.result) =
    c.in_ok-new.ensures ∙ ap (λ (w : IntegerWidth). head 2 c.len-len.result w) c.kept.ensures.same in
    with_head c.args.bytes.now old part c.in-Some-2.content.items c.in_ok-new.new.items
    c.extend_from_slice.new.self.items c.args.start c.in-Some.head.inner c.in-Some.head.len
    (c.in-Some.head.inner + c.in-Some.head.len) c.in-Some.head.width begins refl within
    (rw c.in-Some-2.is at (c.in_ok-content.ensures old part inner))
    (in_width ∙ ap (λ (n : ℕ). head 2 n (kept c.in-Some.head.width n)) count)
    (c.in_ok-extend_from_slice.ensures.items ∙ ap (λ (y : List ℕ). c.in_ok-new.new.items ++ y) c.deref.ensures.value)
