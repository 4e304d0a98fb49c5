-- The rule: which byte string is shown as the items in it, and which paths, edits and differences go into (`shown_as`).
-- `content_under` is its part that reads no item: `Item` there means that the bytes may be one.
--
-- Below tag 24 the bytes are an item (RFC 8949, section 3.4.5.1), and below tag 63 a sequence (RFC 8742). Below a tag
-- that says what they are instead, they are never opened. All others are opened if a caller says so, by an option or by
-- a name, and if they begin as an array, a map or a tagged item does. What is opened is read back as the same bytes
-- (`is_strict`).
use Rattle.std.specs.Prelude.{ℕ, ◌+◌, List, [], ◌∷◌, length, take, Option, Some, None, Bool, true, false, not}
use Rattle.std.specs.Prelude.{◌==◌, ◌&&◌, ◌||◌, if◌then◌else◌, nat_lt, nat_le}
use Rattle.std.specs.List.{list_any}
use Rattle.cbor_grammar.specs.declared.argument.Argument.TheVariants.{Number}
use Rattle.cbor_grammar.specs.declared.head.ItemHead.{ItemHead}
use Rattle.cbor_grammar.specs.declared.head.ItemHead.TheVariants as item_head
use Rattle.cbor_grammar.specs.declared.layout.Content.{Content}
use Rattle.cbor_grammar.specs.declared.layout.Content.TheVariants as shown
use Rattle.cbor_grammar.specs.declared.strings.StringKind.TheVariants.{Bytes}
use Rattle.cbor_grammar.specs.Embedded.{embedded_at, sequence_at}
use Rattle.cbor_grammar.specs.Item.{Item}
use Rattle.cbor_grammar.specs.WellFormed.{deepest, levels_left}
use Rattle.cbor_inside.specs.Strict.{is_strict}

-- ---- tags

-- Below these tags bytes are a big number (2, 3), a UUID (37), an address (52, 54, 260) or a typed array (64 to 87).
abbrev pub says_what_bytes_are : ℕ → Bool
says_what_bytes_are tag = (tag == 2) || (tag == 3) || (tag == 37) || (tag == 52) || (tag == 54)
    || (nat_le 64 tag && nat_le tag 87) || (tag == 260)

-- ---- bytes

abbrev pub is_empty : List ℕ → Bool
is_empty [] = true
is_empty (b ∷ bs) = false

-- the first byte of an array, a map or a tagged item
abbrev pub begins_container : List ℕ → Bool
begins_container [] = false
begins_container (b ∷ bs) = nat_le 0x80 b && nat_lt b 0xe0

abbrev pub is_found : Option Item → Bool
is_found (Some i) = true
is_found None = false

-- the bytes are one item, below a byte string at this level
abbrev pub is_item : ℕ → List ℕ → Bool
is_item level b = nat_le level deepest && is_found (embedded_at (levels_left (level + 1)) b)

-- the bytes are a sequence of items there
abbrev pub is_sequence : ℕ → List ℕ → Bool
is_sequence level b = nat_le level deepest && is_empty (sequence_at (levels_left (level + 1)) b).1

-- ---- the rule

abbrev pub item_if : Bool → Content
item_if shows = if shows then shown.Item else shown.Bytes

-- directly below a tag
abbrev pub content_below : Bool → ℕ → ℕ → List ℕ → Content
content_below opened level tag b =
    if tag == 24 then item_if (not (is_empty b) && is_strict b)
    else if tag == 63 then (if is_sequence level b && is_strict b then shown.Sequence else shown.Bytes)
    else item_if (opened && (not (says_what_bytes_are tag) && (begins_container b && is_strict b)))

-- What the content of a byte string at this level is shown as, below a tag or none, if bytes that may be one item are.
-- `opened`: a caller says that it is opened.
abbrev pub content_under : Bool → ℕ → Option ℕ → List ℕ → Content
content_under opened level None b = item_if (opened && (begins_container b && is_strict b))
content_under opened level (Some tag) b = content_below opened level tag b

-- an item only if the bytes are one
abbrev pub if_item : Bool → Content → Content
if_item whole shown.Item = item_if whole
if_item whole shows = shows

-- What it is shown as. This is the rule.
abbrev pub shown_as : Bool → ℕ → Option ℕ → List ℕ → Content
shown_as opened level tag b = if_item (is_item level b) (content_under opened level tag b)

-- What a caller says of the byte string that begins at this place: all are opened, or it is at one of the places of
-- those that hold an item by their names.
abbrev pub is_opened : Bool → List ℕ → ℕ → Bool
is_opened embedded named start = embedded || list_any (λ place. place == start) named

-- ---- content

abbrev pub first_bytes : ℕ → List ℕ → Option (List ℕ)
first_bytes n b = if nat_le n (length b) then Some (take n b) else None

-- the content of the byte string of definite length with this head, which these bytes follow
abbrev pub content_after : ItemHead → List ℕ → Option (List ℕ)
content_after (item_head.String Bytes (Number n w)) b = first_bytes n b
content_after h b = None
