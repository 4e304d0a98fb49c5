-- Maps with the same pairs are the same.
use Rattle.std.proofs.Common.{map, ap, sym, ◌∙◌}
use Rattle.cbor_fits.specs.View.{view}
use Rattle.cbor_fits.specs.Rests.{pair_view}
use Rattle.cbor_fits.specs.Value as spec
use Rattle.cbor_fits.specs.Value.{pairs_of}
use Rattle.cbor_fits.proofs.Views.{view-Map}
use Rattle.cbor_fits.proofs.same.+same.Goals as goal

pub same-returns-in-Map-second : goal.same-returns-in-Map-second
same-returns-in-Map-second t c = λ e.
    let pairs = c.same_pairs.ensures e ∙ ap (map pair_view) c.deref-in-Map-second.ensures.value in
    ap view c.in-Map.is ∙ (view-Map c.in-Map.a ∙ (ap (λ ps. spec.map (pairs_of ps)) pairs
    ∙ (sym (view-Map c.in-Map-second.b) ∙ sym (ap view c.in-Map-second.is))))
