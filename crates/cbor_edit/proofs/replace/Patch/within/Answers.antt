use Rattle.std.proofs.Common.{List, ℕ, ◌++◌, ap, ◌∙◌}
use Rattle.cbor_edit.proofs.Edits.{appended, with_sides}
use Rattle.cbor_edit.proofs.replace.Patch.within.Goals as goal

pub returns : goal.returns
returns c = λ old part inner.
    let first = c.in_ok-new.ensures.items in
    let second = c.in_ok-extend_from_slice.ensures.items
    ∙ ap (λ (x : List ℕ). c.in_ok-new.new.items ++ x) c.deref.ensures.value
    ∙ ap (λ (x : List ℕ). x ++ c.args.self.now.new.items) first in
    with_sides c.args.bytes.now old part c.args.self.now.new.items c.extend_from_slice-2.new.self.items
    c.args.outer.start c.args.self.now.span.start c.args.self.now.span.end c.args.outer.end c.if-start-outer.false
    c.if-end-start.false c.if-outer-end.false inner
    (appended _ _ _ _ _ second c.in_ok-extend_from_slice-2.ensures.items)
