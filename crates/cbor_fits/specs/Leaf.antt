-- Which values fit types without parts, such as `uint`, literals and ranges (RFC 8610, section 2.2 and appendix D), and
-- how numbers are compared, as by `.lt` (section 3.8.6).
use Rattle.std.specs.Prelude.{ℕ, ◌^◌, List, length, Bool, true, false, ◌&&◌, ◌||◌, ◌==◌, if◌then◌else◌}
use Rattle.std.specs.Prelude.{◌-◌, min, ℤ, pos, negsuc, int_lt, int_le, Float, is_nan, bytes_eq, suc}
use Rattle.std.specs.Float.{round_to_format}
use Rattle.std.specs.Float.Ieee as ieee
use Rattle.cbor_floats.specs.Value.{half_value}
use Rattle.cbor_floats.specs.Nearest.{nearest_half}
use Rattle.cbor_floats.specs.declared.float.Width.{Width}
use Rattle.cbor_floats.specs.declared.float.Width.TheVariants as width
use Rattle.cbor_cddl.specs.declared.schema.Node.{Node}
use Rattle.cbor_cddl.specs.declared.schema.Node.TheVariants as node
use Rattle.cbor_cddl.specs.declared.schema.Floats.{Floats}
use Rattle.cbor_cddl.specs.declared.schema.Comparison.{Comparison}
use Rattle.cbor_cddl.specs.declared.schema.Comparison.TheVariants as compare
use Rattle.cbor_cddl.specs.declared.schema.Value as limit
use Rattle.cbor_cddl.specs.declared.schema.Value.TheVariants as limit_of
use Rattle.cbor_fits.specs.Value.{Value, integer, float, simple, bytes, text, array, map, tagged, list_of}
use Rattle.cbor_fits.specs.Value.{list_of_pairs}
use Rattle.cbor_fits.specs.Rules.{Rules}

-- the major type (RFC 8949, section 3.1)
abbrev pub major : Value → ℕ
major (integer (pos n)) = 0
major (integer (negsuc n)) = 1
major (bytes b) = 2
major (text t) = 3
major (array xs) = 4
major (map ps) = 5
major (tagged n x) = 6
major (float x) = 7
major (simple n) = 7

-- the argument of the head, where lengths are definite
abbrev pub argument : Value → ℕ
argument (integer (pos n)) = n
argument (integer (negsuc n)) = n
argument (bytes b) = length b
argument (text t) = length t
argument (array xs) = length (list_of xs)
argument (map ps) = length (list_of_pairs ps)
argument (tagged n x) = n
argument (float x) = 0
argument (simple n) = n

-- an integer of a range
abbrev pub is_integer_within : ℤ → ℤ → Value → Bool
is_integer_within least most (integer z) = int_le least z && int_le z most
is_integer_within least most x = false

-- a float of a range; `...` leaves the greatest one out
abbrev pub is_float_within : Floats → Value → Bool
is_float_within f (float x) = ieee.le f.least x && (if f.below then ieee.lt x f.most else ieee.le x f.most)
is_float_within f x = false

-- whether floats of this width have the number, as its nearest one; each width has a NaN
abbrev pub holds : Width → Float → Bool
holds width.Sixteen x = is_nan x || ieee.eq (half_value (nearest_half x)) x
holds width.ThirtyTwo x = is_nan x || ieee.eq (round_to_format ieee.binary32 x) x
holds width.SixtyFour x = true

abbrev pub is_float_of : Width → Value → Bool
is_float_of w (float x) = holds w x
is_float_of w x = false

abbrev pub is_simple : ℕ → Value → Bool
is_simple n (simple k) = n == k
is_simple n x = false

abbrev pub is_text : List ℕ → Value → Bool
is_text t (text u) = bytes_eq t u
is_text t x = false

abbrev pub is_bytes : List ℕ → Value → Bool
is_bytes b (bytes c) = bytes_eq b c
is_bytes b x = false

-- whether a value fits a type that has no parts
abbrev pub fits_leaf : Rules → Node → Value → Bool
fits_leaf r node.Any x = true
fits_leaf r (node.Major m) x = major x == m
fits_leaf r (node.Argument m n) x = major x == m && argument x == n
fits_leaf r (node.Integers least most) x = is_integer_within least most x
fits_leaf r (node.Floats f) x = is_float_within f x
fits_leaf r (node.FloatsOf w) x = is_float_of w x
fits_leaf r (node.Simple n) x = is_simple n x
fits_leaf r (node.Text s) x = is_text (r.literal s) x
fits_leaf r (node.Bytes s) x = is_bytes (r.literal s) x
fits_leaf r other x = false

-- ---- comparisons of numbers: RFC 8610, section 3.8.6

-- whether integers compare so
abbrev pub compares : Comparison → ℤ → ℤ → Bool
compares compare.Less a b = int_lt a b
compares compare.LessOrEqual a b = int_le a b
compares compare.Greater a b = int_lt b a
compares compare.GreaterOrEqual a b = int_le b a

-- whether floats compare so
abbrev pub compares_floats : Comparison → Float → Float → Bool
compares_floats compare.Less a b = ieee.lt a b
compares_floats compare.LessOrEqual a b = ieee.le a b
compares_floats compare.Greater a b = ieee.lt b a
compares_floats compare.GreaterOrEqual a b = ieee.le b a

-- The float nearest to an integer. Integers past 64 bits, which no item has, are like the last one before them.
abbrev pub nearest : ℤ → Float
nearest (pos n) = ieee.of_int ieee.binary64 (pos (min n (2 ^ 64 - 1)))
nearest (negsuc n) = ieee.neg (ieee.of_int ieee.binary64 (pos (min (suc n) (2 ^ 64 - 1))))

-- Whether a value compares so with a limit. An integer and a float compare by the float nearest to the integer.
abbrev pub compares_with : Comparison → limit.Value → Value → Bool
compares_with c (limit_of.Integer b) (integer a) = compares c a b
compares_with c (limit_of.Integer b) (float a) = compares_floats c a (nearest b)
compares_with c (limit_of.Float b) (integer a) = compares_floats c (nearest a) b
compares_with c (limit_of.Float b) (float a) = compares_floats c a b
compares_with c limit x = false
