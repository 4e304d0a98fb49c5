-- What a `Rest` (what is left for a group to take) and an `Outcome` (what a group does) stand for in `Fits.antt`.
use Rattle.std.specs.Prelude.{map}
use Rattle.std.specs.Borrow.{Bor}
use Rattle.cbor_fits.specs.Value.{Value}
use Rattle.cbor_fits.specs.View.{view}
use Rattle.cbor_fits.specs.Fits as spec
use Rattle.cbor_fits.specs.declared.value.Datum.{Datum}
use Rattle.cbor_fits.specs.declared.rest.Rest.{Rest}
use Rattle.cbor_fits.specs.declared.rest.Rest.TheVariants as rest
use Rattle.cbor_fits.specs.declared.rest.Outcome.{Outcome}
use Rattle.cbor_fits.specs.declared.rest.Outcome.TheVariants as outcome

abbrev pub pair_view : Datum × Datum → Value × Value
pair_view p = (view p.0, view p.1)

-- the same behind a reference
abbrev pub pair_view_of : Bor (Datum × Datum) → Value × Value
pair_view_of r = pair_view r.now

abbrev pub rest_view : Rest → spec.Rest
rest_view (rest.Members xs) = spec.members (map view xs.now)
rest_view (rest.Pairs v) = spec.pairs (map pair_view_of v.items)

abbrev pub outcome_view : Outcome → spec.Outcome
outcome_view (outcome.Takes r) = spec.takes (rest_view r)
outcome_view outcome.Refuses = spec.refuses
outcome_view outcome.Cuts = spec.cuts
