-- `normal`: the normal form of an item. It leaves out the differences in width that diagnostic notation does not show,
-- also in embedded items. Two items have the same compact text if and only if their normal forms are equal.
use Rattle.std.specs.Prelude.{ℕ, zero, suc, List, ◌++◌, map, Option, Some, None, nat_lt, if◌then◌else◌, ◌==◌}
use Rattle.cbor_grammar.specs.declared.width.IntegerWidth.{IntegerWidth}
use Rattle.cbor_grammar.specs.declared.width.IntegerWidth.TheVariants.{Unknown, Zero}
use Rattle.cbor_grammar.specs.WellFormed.{levels_left}
use Rattle.cbor_grammar.specs.Item as spec
use Rattle.cbor_grammar.specs.Item.{Chunk, Atom, integer, negative, string, chunked_string}
use Rattle.cbor_grammar.specs.Item.{float, simple, Item, atom, array, tagged, Items, no_items, item, Pairs, no_pairs}
use Rattle.cbor_grammar.specs.Item.{pair}
use Rattle.cbor_grammar.specs.declared.strings.StringKind.TheVariants.{Bytes, Text}
use Rattle.cbor_grammar.specs.Written.{encoded, encoded_items, resolve_float}
use Rattle.cbor_grammar.specs.Embedded.{embedded_at, sequence_at}

-- an unstated width of a number or a tag up to 23 is that of the first byte; every other width stays
abbrev pub normal_width : IntegerWidth → ℕ → IntegerWidth
normal_width Unknown n = if nat_lt n 24 then Zero else Unknown
normal_width w n = w

-- the width of a definite length is open
abbrev pub normal_chunk : Chunk → Chunk
normal_chunk c = record { bytes = c.bytes; width = Unknown }

abbrev pub normal_count : Option IntegerWidth → Option IntegerWidth
normal_count (Some w) = Some Unknown
normal_count None = None

-- ---- items, the items in them made normal by `into`

abbrev pub normal_items : (Item → Item) → Items → Items
normal_items into no_items = no_items
normal_items into (item i is) = item (into i) (normal_items into is)

abbrev pub normal_pairs : (Item → Item) → Pairs → Pairs
normal_pairs into no_pairs = no_pairs
normal_pairs into (pair k v ps) = pair (into k) (into v) (normal_pairs into ps)

-- bytes that are one item are those of the normal item
abbrev pub normal_embedded : (Item → Item) → List ℕ → Option Item → List ℕ
normal_embedded into b (Some e) = encoded (into e)
normal_embedded into b None = b

-- bytes that are a sequence of items and a rest become those of the normal items, and the rest
abbrev pub normal_sequence : (Item → Item) → Items × List ℕ → List ℕ
normal_sequence into s = encoded_items (normal_items into s.0) ++ s.1

-- The bytes of a byte string right below this tag, if there is one, with this many levels left below the string:
-- below tag 24 those of the one item that they are, below tag 63 those of the items.
abbrev pub normal_content : ℕ → (Item → Item) → Option ℕ → List ℕ → List ℕ
normal_content left into None b = b
normal_content left into (Some t) b =
    if t == 24 then normal_embedded into b (embedded_at left b)
    else if t == 63 then normal_sequence into (sequence_at left b)
    else b

-- an item right below this tag, if there is one
abbrev pub normal_atom : ℕ → (Option ℕ → Item → Item) → Option ℕ → Atom → Atom
normal_atom left into tag (integer n w) = integer n (normal_width w n)
normal_atom left into tag (negative n w) = negative n (normal_width w n)
normal_atom left into tag (string Bytes c) =
    string Bytes (record { bytes = normal_content left (into None) tag c.bytes; width = Unknown })
normal_atom left into tag (string Text c) = string Text (normal_chunk c)
normal_atom left into tag (chunked_string kind cs) = chunked_string kind (map normal_chunk cs)
normal_atom left into tag (float bits w) = float bits (resolve_float w)
normal_atom left into tag (simple n) = simple n

abbrev pub normal_with : ℕ → (Option ℕ → Item → Item) → Option ℕ → Item → Item
normal_with left into tag (atom a) = atom (normal_atom left into tag a)
normal_with left into tag (array is w) = array (normal_items (into None) is) (normal_count w)
normal_with left into tag (spec.map ps w) = spec.map (normal_pairs (into None) ps) (normal_count w)
normal_with left into tag (tagged t w i) = tagged t (normal_width w t) (into (Some t) i)

-- An item with this many levels left for it and what is nested in it, embedded items included: `levels_left`
-- of its level. Where none is left there is no item.
unfoldable pub normal_at : ℕ → Option ℕ → Item → Item
normal_at zero tag i = i
normal_at (suc left) tag i = normal_with left (normal_at left) tag i

-- The normal form of an item at this level. Nothing is left of the widths of lengths, nor of an unstated width
-- that a text shows as another; bytes that are shown as embedded items are the bytes of the normal items.
-- Nothing else changes.
abbrev pub normal : ℕ → Item → Item
normal level i = normal_at (levels_left level) None i
