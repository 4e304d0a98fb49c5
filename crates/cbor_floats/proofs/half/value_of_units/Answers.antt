use Rattle.std.proofs.Common.{false, ap, ◌∙◌, le_trans, lit≤, le_of_lt}
use lib.Ieee.{Float, binary64, div, of_int, round}
use lib.Ieee.Back.{round_whole}
use Rattle.cbor_floats.proofs.Halves.{scale_is, scaled_down}
use Rattle.cbor_floats.proofs.half.value_of_units.Goals as goal

pub returns : goal.returns
unfolding of_int
returns c =
    let u = c.args.units in
    ap (λ (d : Float). div binary64 (round binary64 false u 1) d) scale_is
    ∙ scaled_down (round binary64 false u 1) u (round_whole binary64 false u (le_trans (le_of_lt c.requires) (lit≤ tt)))
