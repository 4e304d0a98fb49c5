-- What `view` returns for each variant of `DataItem` except `Tag`. The view of a list of members has as many members as
-- the list, and stays well formed if a well-formed member is added at the end.
use Rattle.std.proofs.Common.{◌≡◌, ℕ, suc, map, List, [], ◌∷◌, ◌++◌, Option, Vec, Global, length, refl, ap, rules}
use Rattle.cbor_grammar.specs.declared.width.IntegerWidth.{IntegerWidth}
use Rattle.cbor_grammar.specs.declared.width.FloatWidth.{FloatWidth}
use Rattle.cbor_grammar.specs.declared.strings.ByteString as byte_string
use Rattle.cbor_grammar.specs.declared.strings.TextString as text_string
use Rattle.cbor_grammar.specs.declared.tags.Simple as simple
use Rattle.cbor_diag.specs.declared.syntax.DataItem.{DataItem, Integer, Negative, ByteString, TextString}
use Rattle.cbor_diag.specs.declared.syntax.DataItem.{IndefiniteByteString, IndefiniteTextString, Array, Map, Float}
use Rattle.cbor_diag.specs.declared.syntax.DataItem.{Simple, the_lemmas}
use Rattle.cbor_grammar.specs.Item as spec
use Rattle.cbor_grammar.specs.Item.{item_count, pair_count}
use Rattle.cbor_grammar.specs.declared.strings.StringKind.TheVariants.{Bytes, Text}
use Rattle.cbor_grammar.specs.WellFormed.{WellFormed, WellFormedItems, WellFormedPairs}
use Rattle.cbor_diag.specs.View.{view, items_view, pairs_view}
use Rattle.cbor_grammar.specs.Strings.{byte_chunk, text_chunk}

pub view-Array : (v : Vec DataItem Global) (w : Option IntegerWidth)
    → view (Array v w) ≡ spec.array (items_view v.items) w
view-Array v w = search (rules, the_lemmas)

pub view-Map : (v : Vec (DataItem × DataItem) Global) (w : Option IntegerWidth)
    → view (Map v w) ≡ spec.map (pairs_view v.items) w
view-Map v w = search (rules, the_lemmas)

pub item_count_view : (vs : List DataItem) → item_count (items_view vs) ≡ length vs
item_count_view [] = refl
item_count_view (v ∷ vs) = ap suc (item_count_view vs)

pub pair_count_view : (vs : List (DataItem × DataItem)) → pair_count (pairs_view vs) ≡ length vs
pair_count_view [] = refl
pair_count_view (v ∷ vs) = ap suc (pair_count_view vs)

pub view-Integer : (n : ℕ) (w : IntegerWidth) → view (Integer n w) ≡ spec.atom (spec.integer n w)
view-Integer n w = search (rules, the_lemmas)

pub view-Negative : (n : ℕ) (w : IntegerWidth) → view (Negative n w) ≡ spec.atom (spec.negative n w)
view-Negative n w = search (rules, the_lemmas)

pub view-ByteString : (s : byte_string.ByteString) → view (ByteString s) ≡ spec.atom (spec.string Bytes (byte_chunk s))
view-ByteString s = search (rules, the_lemmas)

pub view-TextString : (s : text_string.TextString) → view (TextString s) ≡ spec.atom (spec.string Text (text_chunk s))
view-TextString s = search (rules, the_lemmas)

pub view-IndefiniteByteString : (v : Vec byte_string.ByteString Global)
    → view (IndefiniteByteString v) ≡ spec.atom (spec.chunked_string Bytes (map byte_chunk v.items))
view-IndefiniteByteString v = search (rules, the_lemmas)

pub view-IndefiniteTextString : (v : Vec text_string.TextString Global)
    → view (IndefiniteTextString v) ≡ spec.atom (spec.chunked_string Text (map text_chunk v.items))
view-IndefiniteTextString v = search (rules, the_lemmas)

pub view-Float : (n : ℕ) (w : FloatWidth) → view (Float n w) ≡ spec.atom (spec.float n w)
view-Float n w = search (rules, the_lemmas)

pub view-Simple : (s : simple.Simple) → view (Simple s) ≡ spec.atom (spec.simple s.0)
view-Simple s = search (rules, the_lemmas)

-- one item more
pub items_push : (level : ℕ) (vs : List DataItem) (v : DataItem) → WellFormedItems level (items_view vs)
    → WellFormed level (view v) → WellFormedItems level (items_view (vs ++ v ∷ []))
items_push level [] v held well = (well, tt)
items_push level (w ∷ vs) v held well = (held.0, items_push level vs v held.1 well)

pub pairs_push : (level : ℕ) (vs : List (DataItem × DataItem)) (v : DataItem × DataItem)
    → WellFormedPairs level (pairs_view vs) → WellFormed level (view v.0) → WellFormed level (view v.1)
    → WellFormedPairs level (pairs_view (vs ++ v ∷ []))
pairs_push level [] v held key value = (key, value, tt)
pairs_push level (w ∷ vs) v held key value = (held.0, held.1, pairs_push level vs v held.2 key value)
