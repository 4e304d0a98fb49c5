-- For `width.rt`: how far to the right the hex digits of an item reach in a dump, from the lengths of heads and pieces
-- (`width_at`). `Measured`: an item was read, and its digits were counted. No public clause names these definitions.
use Rattle.std.specs.Prelude.{◌≡◌, ℕ, zero, suc, ◌+◌, ◌*◌, ◌%◌, ◌==◌, ◌<◌, ◌≤◌, List, [], ◌∷◌, length, max, min, nat_le}
use Rattle.std.specs.Prelude.{nat_lt, Option, Some, None, Ok, if◌then◌else◌}
use Rattle.cbor_notes.specs.Element.{element_size}
use Rattle.cbor_grammar.specs.declared.width.IntegerWidth.{IntegerWidth}
use Rattle.cbor_dump.specs.declared.width.DumpPlace.{DumpPlace}
use Rattle.cbor_grammar.specs.declared.argument.Argument.TheVariants.{Number, Indefinite}
use Rattle.cbor_grammar.specs.Item as spec
use Rattle.cbor_grammar.specs.Item.{Chunk, Atom, integer, negative, string, chunked_string, float, simple, Item, atom}
use Rattle.cbor_grammar.specs.Item.{array, tagged, Items, no_items, item, Pairs, no_pairs, pair, item_count, pair_count}
use Rattle.cbor_grammar.specs.declared.head.ItemHead.TheVariants as item_head
use Rattle.cbor_grammar.specs.declared.head.ItemHead.{ItemHead}
use Rattle.cbor_dump.specs.Pieces.{piece_size, text_pieces}
use Rattle.cbor_grammar.specs.Reading.{Read, count_width}
use Rattle.cbor_grammar.specs.declared.strings.StringKind.{StringKind}
use Rattle.cbor_grammar.specs.declared.strings.StringKind.TheVariants.{Bytes, Text}
use Rattle.cbor_grammar.specs.StringKind.{major_of}
use Rattle.cbor_grammar.specs.WellFormed.{deepest, levels_left}
use Rattle.cbor_grammar.specs.Written.{encoded_head, encoded_open, encoded_float, encoded_simple}
use Rattle.cbor_grammar.specs.mirror.AtLevel.{read_behind}
use Rattle.cbor_dump.specs.mirror.Dumped.{tag_number}

-- ---- lines

-- where this many digits and blanks end, and 0 where there are none
abbrev pub reached : ℕ → ℕ → ℕ
reached depth digits = if digits == 0 then 0 else 3 * depth + digits

-- the digits of a head of this many bytes, and a blank after the first if there are others
abbrev pub head_digits : ℕ → ℕ
head_digits n = if nat_le n 1 then 2 * n else 2 * n + 1

abbrev pub head_reach : ℕ → ℕ → ℕ
head_reach depth n = reached depth (head_digits n)

abbrev pub piece_reach : ℕ → ℕ → ℕ
piece_reach depth n = reached depth (2 * n)

-- ---- strings

-- the length of the longest piece
abbrev pub longest : List (List ℕ) → ℕ
longest [] = 0
longest (piece ∷ pieces) = max (length piece) (longest pieces)

-- the same of a byte string of this many bytes, by the size of an element, if it may have elements
abbrev pub sized_piece : Option ℕ → ℕ → ℕ
sized_piece None n = min n piece_size
sized_piece (Some size) n = if n % size == 0 then min n size else min n piece_size

abbrev pub tagged_piece : Option ℕ → ℕ → ℕ
tagged_piece None n = min n piece_size
tagged_piece (Some t) n = sized_piece (element_size t) n

abbrev pub longest_piece : StringKind → Option ℕ → List ℕ → ℕ
longest_piece Bytes tag bytes = tagged_piece tag (length bytes)
longest_piece Text tag bytes = longest (text_pieces bytes)

-- the content of a string, one deeper than the string
abbrev pub content_width : StringKind → ℕ → Option ℕ → List ℕ → ℕ
content_width kind depth tag bytes = piece_reach (depth + 1) (longest_piece kind tag bytes)

abbrev pub string_width : StringKind → ℕ → Option ℕ → Chunk → ℕ
string_width kind depth tag c =
    max (head_reach depth (length (encoded_head (major_of kind) (length c.bytes) c.width)))
    (content_width kind depth tag c.bytes)

abbrev pub chunks_width : StringKind → ℕ → List Chunk → ℕ
chunks_width kind depth [] = 0
chunks_width kind depth (c ∷ cs) = max (string_width kind depth None c) (chunks_width kind depth cs)

-- ---- items

-- how many bytes the head of an item takes
abbrev pub head_length : Item → ℕ
head_length (atom (integer n w)) = length (encoded_head 0 n w)
head_length (atom (negative n w)) = length (encoded_head 1 n w)
head_length (atom (string kind c)) = length (encoded_head (major_of kind) (length c.bytes) c.width)
head_length (atom (chunked_string kind cs)) = 1
head_length (atom (float bits w)) = length (encoded_float bits w)
head_length (atom (simple n)) = length (encoded_simple n)
head_length (array is w) = length (encoded_open 4 (item_count is) w)
head_length (spec.map ps w) = length (encoded_open 5 (pair_count ps) w)
head_length (tagged t w i) = length (encoded_head 6 t w)

-- the break, where there is one
abbrev pub close_width : ℕ → Option IntegerWidth → ℕ
close_width depth (Some w) = 0
close_width depth None = head_reach depth 1

abbrev pub items_width : (Item → ℕ) → Items → ℕ
items_width each no_items = 0
items_width each (item i is) = max (each i) (items_width each is)

abbrev pub pairs_width : (Item → ℕ) → Pairs → ℕ
pairs_width each no_pairs = 0
pairs_width each (pair k v ps) = max (each k) (max (each v) (pairs_width each ps))

-- what follows the head of an item that holds no item
abbrev pub atom_inner : ℕ → Option ℕ → Atom → ℕ
atom_inner depth tag (string kind c) = content_width kind depth tag c.bytes
atom_inner depth tag (chunked_string kind cs) = max (chunks_width kind (depth + 1) cs) (close_width (depth + 1) None)
atom_inner depth tag _ = 0

-- what follows the head of an item; what a container or a tag holds is one deeper
abbrev pub inner_width : (ℕ → Option ℕ → Item → ℕ) → ℕ → Option ℕ → Item → ℕ
inner_width each depth tag (atom a) = atom_inner depth tag a
inner_width each depth tag (array is w) = max (items_width (each (depth + 1) None) is) (close_width (depth + 1) w)
inner_width each depth tag (spec.map ps w) =
    max (pairs_width (each (depth + 1) None) ps) (close_width (depth + 1) w)
inner_width each depth tag (tagged t w i) = each (depth + 1) (Some t) i

-- an item at this depth, right below that tag, with this many levels left for it and the items in it
unfoldable pub width_at : ℕ → ℕ → Option ℕ → Item → ℕ
width_at zero depth tag i = 0
width_at (suc left) depth tag i =
    max (head_reach depth (head_length i)) (inner_width (width_at left) depth tag i)

-- ---- places

-- an item is less deep than its level, which is at most one past the deepest
abbrev pub IsPlace : DumpPlace → Type 0
IsPlace p = (p.depth < p.level) × (p.level ≤ deepest + 1)

abbrev pub width_there : DumpPlace → Item → ℕ
width_there p i = width_at (levels_left p.level) p.depth (tag_number p.tag) i

abbrev pub inner_there : DumpPlace → Item → ℕ
inner_there p i = inner_width (width_at (levels_left (p.level + 1))) p.depth (tag_number p.tag) i

-- ---- what was measured

-- Reading gives an item before the rest, and its digits count.
abbrev pub Measured : (Item → ℕ) → Read Item → List ℕ → ℕ → ℕ → Type 0
Measured width read rest old new = (i : Item) × (read ≡ Ok (i, rest)) × (new ≡ max old (width i))

-- the item has this head
abbrev pub HasHead : ItemHead → Item → Type 0
HasHead (item_head.Integer n w) i = i ≡ atom (integer n w)
HasHead (item_head.Negative n w) i = i ≡ atom (negative n w)
HasHead (item_head.String kind (Number n w)) i = (c : Chunk) × (i ≡ atom (string kind c)) × (c.width ≡ w)
HasHead (item_head.String kind Indefinite) i = (cs : List Chunk) × (i ≡ atom (chunked_string kind cs))
HasHead (item_head.Array a) i = (is : Items) × (i ≡ array is (count_width a))
HasHead (item_head.Map a) i = (ps : Pairs) × (i ≡ spec.map ps (count_width a))
HasHead (item_head.Tag t w) i = (j : Item) × (i ≡ tagged t w j)
HasHead (item_head.Float bits w) i = i ≡ atom (float bits w)
HasHead (item_head.Simple n) i = i ≡ atom (simple n)

-- the same after a head, which was counted
abbrev pub MeasuredBehind : DumpPlace → ItemHead → List ℕ → List ℕ → ℕ → ℕ → Type 0
MeasuredBehind p h b rest old new =
    (i : Item) × (read_behind p.level h b ≡ Ok (i, rest)) × HasHead h i × (new ≡ max old (inner_there p i))

-- How many bytes a head of this many bytes takes in a dump: a simple value below 24 takes one.
abbrev pub shown_length : ItemHead → ℕ → ℕ
shown_length (item_head.Simple n) taken = if nat_lt n 24 then 1 else taken
shown_length _ taken = taken
