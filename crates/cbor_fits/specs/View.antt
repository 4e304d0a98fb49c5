-- The value that a `Datum` stands for in the definitions.
use Rattle.std.specs.Prelude.{pos, negsuc, string_bytes}
use Rattle.cbor_fits.specs.Value as spec
use Rattle.cbor_fits.specs.Value.{Value, values_of, pairs_of}
use Rattle.cbor_fits.specs.declared.value.Datum.{Datum, fold-Datum}
use Rattle.cbor_fits.specs.declared.value.Datum.TheOpen.{Datum-F}

-- one level, with each item inside already seen
abbrev pub view_step : Datum-F Value → Value
view_step (Datum-F.Unsigned n) = spec.integer (pos n)
view_step (Datum-F.Negative n) = spec.integer (negsuc n)
view_step (Datum-F.Float x) = spec.float x
view_step (Datum-F.Simple n) = spec.simple n
view_step (Datum-F.Bytes v) = spec.bytes v.items
view_step (Datum-F.Text s) = spec.text (string_bytes s)
view_step (Datum-F.Array v) = spec.array (values_of v.items)
view_step (Datum-F.Map v) = spec.map (pairs_of v.items)
view_step (Datum-F.Tag n v) = spec.tagged n v.value

-- the value that a datum is
abbrev pub view : Datum → Value
view = fold-Datum Value view_step
