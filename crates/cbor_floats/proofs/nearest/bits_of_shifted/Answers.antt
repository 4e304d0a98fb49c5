use Rattle.std.proofs.Common.{◌∙◌}
use Rattle.cbor_floats.proofs.Rounding.{joined, cut_below, dropped_is}
use Rattle.cbor_floats.proofs.nearest.bits_of_shifted.Goals as goal

pub rounded-kept-requires : goal.rounded-kept-requires
rounded-kept-requires c =
    let digits = c.args.digits in
    let shift = c.args.shift in
    let d = c.saturating_sub-dropped in (
      c.requires.0,
      cut_below digits shift d.result c.requires.0 c.requires.2
          (dropped_is digits shift c.power_of_two.result d.result c.power_of_two.ensures.same d.ensures),
    )

pub returns-clause-same : goal.returns-clause-same
returns-clause-same c =
    let digits = c.args.digits in
    let shift = c.args.shift in
    let d = c.saturating_sub-dropped in
    c.min.ensures
    ∙ joined digits shift d.result c.rounded-kept.result c.requires.0
    (dropped_is digits shift c.power_of_two.result d.result c.power_of_two.ensures.same d.ensures)
    c.rounded-kept.ensures.same
