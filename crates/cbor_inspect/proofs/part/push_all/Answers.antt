-- What a further part has is behind what those before it have.
use Rattle.std.proofs.Common.{◌≡◌, ◌∙◌, ◌++◌, ◌∷◌, [], List, ℕ, ap, append_assoc, vec_items}
use Rattle.cbor_inspect.specs.Forms.{IsForm}
use Rattle.cbor_inspect.proofs.OutputLemmas.{one_more}
use Rattle.cbor_inspect.proofs.part.push_all.Goals as goal

pub each-preserved : goal.each-preserved
each-preserved c =
    let show = c.args.show.now in
    let before = c.each.invariant in
    let more = c.in_default.ensures.written in (
      before.0 ++ more.0,
      more.1 ∙ ap (λ (l : List ℕ). l ++ more.0) before.1
          ∙ append_assoc (vec_items c.args.out.now) before.0 more.0,
      (
        before.2.0 ++ more.2 ∷ [],
        one_more (IsForm show) before.2.0 more.2 before.0 more.0 before.2.1 more.3,
      ),
    )
