-- Each turn appends the next value of the map.
use Rattle.std.proofs.Common.{◌++◌, ◌∷◌, [], ap, sym, ◌∙◌}
use Rattle.std.proofs.lemmas.List.{append_assoc, append-nil}
use Rattle.cbor_fits.proofs.read.datum.pairs_in.Goals as goal

pub pairs-init : goal.pairs-init
pairs-init c =
    (λ j. c.in_ok-pairs.ensures.items j ++ c.into_iter-pair-iterator.ensures.into_iter_gives j)
    ∙ c.into_values-pair-items.ensures.rest

pub pairs-preserved : goal.pairs-preserved
pairs-preserved c =
    let done = c.pairs.pairs.items in
    let left = c.next.new.self in
    ap (λ v. v ++ left) c.in_ok-push.ensures.items ∙ (append_assoc done (c.in-Some.pair ∷ []) left
    ∙ (ap (λ v. done ++ v) (sym c.in-Some.ensures.steps) ∙ c.pairs.invariant))

pub returns : goal.returns
returns c =
    sym (append-nil c.pairs.pairs.items) ∙ (ap (λ v. c.pairs.pairs.items ++ v) (sym c.in-None.ensures.steps.0)
    ∙ c.pairs.invariant)
