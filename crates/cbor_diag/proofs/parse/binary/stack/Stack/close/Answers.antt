use Rattle.std.proofs.Common.{◌≡◌, ◌∷◌, [], Some, ap, sym, subst, ◌∙◌}
use Rattle.std.specs.Prelude.{IfOk, IsSome, drop, reverse}
use Rattle.std.proofs.lemmas.List.{reverse-append}
use Rattle.cbor_diag.specs.View.{view}
use Rattle.cbor_grammar.specs.mirror.Counting.{closed_innermost}
use Rattle.cbor_diag.specs.mirror.Stack.{frames}
use Rattle.cbor_diag.proofs.parse.binary.stack.Stack.close.Goals as goal

pub close-requires : goal.close-requires
close-requires c =
    let is = sym c.self.view_is ∙ ap reverse c.in-Some.ensures.items
    ∙ reverse-append c.pop.new.self.items (c.in-Some.top ∷ []) in
    subst (λ fs. IsSome (closed_innermost (frames fs))) is c.requires

pub returns-clause-item : goal.returns-clause-item
returns-clause-item c =
    let is = sym c.self.view_is ∙ ap reverse c.in-Some.ensures.items
    ∙ reverse-append c.pop.new.self.items (c.in-Some.top ∷ []) in
    subst (λ fs. IfOk c.close.result (λ i. closed_innermost (frames fs) ≡ Some (view i))) (sym is) c.close.ensures.item

pub returns-clause-outer : goal.returns-clause-outer
returns-clause-outer c =
    let is = sym c.self.view_is ∙ ap reverse c.in-Some.ensures.items
    ∙ reverse-append c.pop.new.self.items (c.in-Some.top ∷ []) in
    ap (λ fs. drop 1 (frames fs)) (sym is)
