-- The `view` of a `Datum` that is an array or a map is made of the views of its members or pairs, and that of a byte
-- string or an unsigned integer is the value with the same content. A list turned into `Values` or `Pairs` and back is
-- the same list, with as many members.
use Rattle.std.proofs.Common.{◌≡◌, ℕ, suc, map, List, [], ◌∷◌, Vec, Global, pos, length}
use Rattle.std.proofs.Common.{refl, ap, rules}
use Rattle.cbor_fits.specs.declared.value.Datum.{Datum, Unsigned, Bytes}
use Rattle.cbor_fits.specs.declared.value.Datum.{Array}
use Rattle.cbor_fits.specs.declared.value.Datum.{Map, the_lemmas}
use Rattle.cbor_fits.specs.Value as spec
use Rattle.cbor_fits.specs.Value.{Value, list_of, values_of, list_of_pairs, pairs_of}
use Rattle.cbor_fits.specs.View.{view}
use Rattle.cbor_fits.specs.Rests.{pair_view}

pub view-Array : (v : Vec Datum Global) → view (Array v) ≡ spec.array (values_of (map view v.items))
view-Array v = search (rules, the_lemmas)

pub view-Map : (v : Vec (Datum × Datum) Global) → view (Map v) ≡ spec.map (pairs_of (map pair_view v.items))
view-Map v = search (rules, the_lemmas)

-- the members of an array are those of its list
pub list_of-values_of : (xs : List Value) → list_of (values_of xs) ≡ xs
list_of-values_of [] = refl
list_of-values_of (x ∷ xs) = ap (λ ys. x ∷ ys) (list_of-values_of xs)

pub list_of_pairs-pairs_of : (ps : List (Value × Value)) → list_of_pairs (pairs_of ps) ≡ ps
list_of_pairs-pairs_of [] = refl
list_of_pairs-pairs_of (p ∷ ps) = ap (λ qs. p ∷ qs) (list_of_pairs-pairs_of ps)

pub member_count : (xs : List Datum) → length (list_of (values_of (map view xs))) ≡ length xs
member_count [] = refl
member_count (x ∷ xs) = ap suc (member_count xs)

pub pair_count : (ps : List (Datum × Datum)) → length (list_of_pairs (pairs_of (map pair_view ps))) ≡ length ps
pair_count [] = refl
pair_count (p ∷ ps) = ap suc (pair_count ps)

pub view-Bytes : (v : Vec ℕ Global) → view (Bytes v) ≡ spec.bytes v.items
view-Bytes v = search (rules, the_lemmas)

pub view-Unsigned : (n : ℕ) → view (Unsigned n) ≡ spec.integer (pos n)
view-Unsigned n = search (rules, the_lemmas)
