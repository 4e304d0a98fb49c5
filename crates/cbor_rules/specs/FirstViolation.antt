-- The first violation of the rules, as a function that reads the bytes from left to right, head by head. A head is
-- tested before the items inside it. A key is compared with the previous key once the whole key is read. The clause
-- `none` of `violation` in `src/check.rt` says which bytes have no violation.
use Rattle.std.specs.Prelude.{ℕ, zero, suc, ◌-◌, List, [], ◌∷◌, length, take, Option, Some, None}
use Rattle.std.specs.Prelude.{Bool, false, ◌&&◌, ◌||◌, Result, Ok, Err, nat_lt, nat_le, ◌==◌, if◌then◌else◌, not}
use Rattle.std.specs.Prelude.{is_nan, chars, bytes_eq}
use Rattle.unicode_normalization.specs.Forms.{is_nfc}
use Rattle.std.specs.declared.cmp.Ordering.{Ordering}
use Rattle.std.specs.declared.cmp.Ordering.TheVariants.{Less, Equal, Greater}
use Rattle.cbor_grammar.specs.declared.width.IntegerWidth.{IntegerWidth}
use Rattle.cbor_grammar.specs.declared.width.IntegerWidth.TheVariants.{Zero, Eight, Sixteen, ThirtyTwo}
use Rattle.cbor_grammar.specs.declared.width.IntegerWidth.TheVariants.{SixtyFour}
use Rattle.cbor_grammar.specs.declared.error.Error.{Error}
use Rattle.cbor_grammar.specs.declared.error.Error.TheVariants as refusal
use Rattle.cbor_grammar.specs.declared.argument.Argument.{Argument}
use Rattle.cbor_grammar.specs.declared.argument.Argument.TheVariants.{Number, Indefinite}
use Rattle.cbor_grammar.specs.declared.head.ItemHead.{ItemHead}
use Rattle.cbor_grammar.specs.declared.head.ItemHead.TheVariants as item_head
use Rattle.cbor_grammar.specs.declared.strings.StringKind.{StringKind}
use Rattle.cbor_grammar.specs.declared.strings.StringKind.TheVariants.{Bytes, Text}
use Rattle.cbor_grammar.specs.StringKind.{major_of}
use Rattle.cbor_grammar.specs.WellFormed.{deepest}
use Rattle.cbor_grammar.specs.Reading.{Read, read_head, read_chunk_length, after_members, one_less, no_level_left}
use Rattle.cbor_bytes.specs.mirror.Skipping.{skip_content}
use Rattle.cbor_floats.specs.Preferred.{shorter}
use Rattle.cbor_floats.specs.declared.float.EncodedFloat.{EncodedFloat}
use Rattle.cbor_floats.specs.declared.float.EncodedFloat.TheVariants.{Half}
use Rattle.cbor_rules.specs.Keeps.{float_of}
use Rattle.cbor_rules.specs.declared.rules.Rules.{Rules}
use Rattle.cbor_rules.specs.declared.kind.Violation.{Violation}
use Rattle.cbor_rules.specs.declared.kind.ViolationKind.{ViolationKind}
use Rattle.cbor_rules.specs.declared.kind.ViolationKind.TheVariants as kind
use Rattle.cbor_rules.specs.declared.check.Chunk.{Chunk}
use Rattle.cbor_rules.specs.declared.check.Chunk.TheVariants as chunk
use Rattle.cbor_rules.specs.KeyOrder.{key_cmp}
use Rattle.cbor_rules.specs.Reduced.{number_of, reduced}

-- ---- one head

-- a shorter width would hold the number
abbrev pub is_long : IntegerWidth → ℕ → Bool
is_long Eight n = nat_lt n 24
is_long Sixteen n = nat_lt n 0x100
is_long ThirtyTwo n = nat_lt n 0x10000
is_long SixtyFour n = nat_lt n 0x100000000
is_long w n = nat_lt n 0

abbrev pub number_violation : Rules → ℕ → IntegerWidth → Option ViolationKind
number_violation rules n w =
    if rules.shortest_heads && is_long w n then Some (kind.LongHead n w) else None

-- of a length or a count
abbrev pub argument_violation : Rules → Argument → Option ViolationKind
argument_violation rules (Number n w) = number_violation rules n w
argument_violation rules Indefinite = if rules.definite_lengths then Some kind.Indefinite else None

-- of the head of an array or a map at this level
abbrev pub container_violation : Rules → ℕ → Argument → Option ViolationKind
container_violation rules level a = if nat_lt rules.deepest level then Some kind.TooDeep else argument_violation rules a

abbrev pub long_float : EncodedFloat → Option EncodedFloat → Option ViolationKind
long_float float None = None
long_float float (Some shortest) = Some (kind.LongFloat float shortest)

-- of a float that is that integer
abbrev pub integer_float : EncodedFloat → Option (Bool × ℕ) → Option ViolationKind
integer_float float None = None
integer_float float (Some n) = Some (kind.IntegerFloat float n.0 n.1)

abbrev pub is_usual_nan : EncodedFloat → Bool
is_usual_nan (Half bits) = bits == 0x7e00
is_usual_nan float = false

abbrev pub nan_violation : EncodedFloat → Option ViolationKind
nan_violation float = if is_nan (number_of float) && not (is_usual_nan float) then Some (kind.OtherNan float) else None

abbrev pub violation_or_else : Option ViolationKind → Option ViolationKind → Option ViolationKind
violation_or_else (Some kind) other = Some kind
violation_or_else None other = other

-- of a float where numbers are reduced
abbrev pub reduced_violation : EncodedFloat → Option ViolationKind
reduced_violation float = violation_or_else (integer_float float (reduced float)) (nan_violation float)

abbrev pub float_violation : Rules → EncodedFloat → Option ViolationKind
float_violation rules float =
    violation_or_else (if rules.reduced_floats then reduced_violation float else None)
    (if rules.shortest_floats then long_float float (shorter float) else None)

-- a simple value in two bytes is not below 32
abbrev pub two_byte_violation : List ℕ → Option ViolationKind
two_byte_violation (first ∷ n ∷ b) = if (first == 0xf8) && nat_lt n 32 then Some kind.LongSimple else None
two_byte_violation b = None

-- of a simple value that may be none but false, true and null
abbrev pub other_violation : Rules → ℕ → Option ViolationKind
other_violation rules n =
    if rules.other_simple || (nat_le 20 n && nat_le n 22) then None else Some (kind.OtherSimple n)

-- of a simple value; the bytes begin with its head
abbrev pub simple_violation : Rules → ℕ → List ℕ → Option ViolationKind
simple_violation rules n b = violation_or_else (two_byte_violation b) (other_violation rules n)

-- of the content of a big number, of this length, which begins with these bytes: an integer has up to 8 bytes
abbrev pub content_violation : ℕ → List ℕ → Option ViolationKind
content_violation n (first ∷ b) =
    if nat_lt n 9 then Some kind.SmallBigNumber
    else if first == 0 then Some kind.LeadingZero
    else None
content_violation n [] = if nat_lt n 9 then Some kind.SmallBigNumber else None

-- of the item of a tag for big numbers, by its head, if that is a byte string of definite length
abbrev pub big_violation : Read ItemHead → Option ViolationKind
big_violation (Ok (item_head.String Bytes (Number n w), rest)) = content_violation n rest
big_violation read = None

-- of a tag before these bytes
abbrev pub tag_violation : Rules → ℕ → List ℕ → Option ViolationKind
tag_violation rules t rest =
    if rules.big_numbers && ((t == 2) || (t == 3)) then big_violation (read_head rest) else None

-- of a head at this level; the bytes begin with it, and the rest comes after it
abbrev pub head_violation : Rules → ℕ → List ℕ → ItemHead → List ℕ → Option ViolationKind
head_violation rules level b (item_head.Integer n w) rest = number_violation rules n w
head_violation rules level b (item_head.Negative n w) rest = number_violation rules n w
head_violation rules level b (item_head.String kind a) rest = argument_violation rules a
head_violation rules level b (item_head.Array a) rest = container_violation rules level a
head_violation rules level b (item_head.Map a) rest = container_violation rules level a
head_violation rules level b (item_head.Tag n w) rest =
    if rules.tags then violation_or_else (number_violation rules n w) (tag_violation rules n rest) else Some kind.Tag
head_violation rules level b (item_head.Float bits w) rest = float_violation rules (float_of bits w)
head_violation rules level b (item_head.Simple n) rest = simple_violation rules n b

-- ---- keys

-- an encoded key, and how many bytes are before it
pub record KeyAt : Type 0 where
  pub place : ℕ
  pub bytes : List ℕ

abbrev pub compared : Ordering → ℕ → Option ViolationKind
compared Less place = None
compared Equal place = Some (kind.KeyTwice place)
compared Greater place = Some (kind.KeyOrder place)

-- of a key after the one before it in its map
abbrev pub order_violation : Rules → Option KeyAt → List ℕ → Option ViolationKind
order_violation rules None key = None
order_violation rules (Some last) key = compared (key_cmp rules.key_order last.bytes key) last.place

-- where each key of a map is
abbrev pub Places : Type 0
Places = List ℕ → Option ℕ

abbrev pub no_places : Places
no_places key = None

-- one key more
abbrev pub placed : KeyAt → Places → Places
placed k seen key = if bytes_eq k.bytes key then Some k.place else seen key

abbrev pub twice : Option ℕ → Option ViolationKind
twice None = None
twice (Some place) = Some (kind.KeyTwice place)

-- of a key after those that were seen
abbrev pub twice_violation : Rules → Places → List ℕ → Option ViolationKind
twice_violation rules seen key = if rules.distinct_keys then twice (seen key) else None

abbrev pub key_violation : Rules → Option KeyAt → Places → List ℕ → Option ViolationKind
key_violation rules last seen key = violation_or_else (order_violation rules last key) (twice_violation rules seen key)

abbrev pub with_key : Rules → KeyAt → Places → Places
with_key rules k seen = if rules.distinct_keys then placed k seen else seen

-- ---- reading

-- what was read, or the first violation
abbrev pub Kept : Type 0 → Type 0
Kept X = Result X Violation

abbrev pub kept_then : {X Y : Type 0} → Kept X → (X → Kept Y) → Kept Y
kept_then (Ok x) f = f x
kept_then (Err e) f = Err e

-- how many of all bytes are before these last ones
abbrev pub place_of : ℕ → List ℕ → ℕ
place_of total b = total - length b

abbrev pub violation_at : ℕ → List ℕ → ViolationKind → Violation
violation_at total b kind = record { place = place_of total b; kind = kind }

-- what was read after a head at these bytes, if no rule is broken there
abbrev pub unless : {X : Type 0} → ℕ → List ℕ → Option ViolationKind → X → Kept X
unless total b None x = Ok x
unless total b (Some kind) x = Err (violation_at total b kind)

-- what was read there, if it could be read
abbrev pub at : {X : Type 0} → ℕ → List ℕ → Result X Error → Kept X
at total b (Ok x) = Ok x
at total b (Err e) = Err (violation_at total b (kind.NoItem e))

-- an item's head, and the bytes after it
abbrev pub kept_head : Rules → ℕ → ℕ → List ℕ → Kept (ItemHead × List ℕ)
kept_head rules total level b =
    kept_then (at total b (read_head b)) (λ h. unless total b (head_violation rules level b h.0 h.1) h)

-- of the content of a text
abbrev pub nfc_violation : List ℕ → Option ViolationKind
nfc_violation content = if is_nfc (chars content) then None else Some kind.NotNfc

-- of the content of a string
abbrev pub text_violation : Rules → StringKind → List ℕ → Option ViolationKind
text_violation rules Text content = if rules.nfc then nfc_violation content else None
text_violation rules Bytes content = None

-- the bytes after the content of a string or a chunk, whose head is at these bytes
abbrev pub kept_content : Rules → ℕ → List ℕ → StringKind → ℕ → IntegerWidth → List ℕ → Kept (List ℕ)
kept_content rules total b kind n w rest =
    kept_then (at total b (skip_content kind n w rest)) (unless total b (text_violation rules kind (take n rest)))

-- what comes after the head of a chunk at these bytes: its content, or nothing after the break
abbrev pub chunk_content : Rules → ℕ → StringKind → List ℕ → Option (ℕ × IntegerWidth) → List ℕ
    → Kept (Chunk × List ℕ)
chunk_content rules total kind b None rest = Ok (chunk.Break, rest)
chunk_content rules total kind b (Some n) rest =
    kept_then (unless total b (number_violation rules n.0 n.1) rest)
    (λ r. kept_then (kept_content rules total b kind n.0 n.1 r) (λ after. Ok (chunk.Content, after)))

-- the next chunk of an indefinite string, or its break, and the bytes after it
abbrev pub kept_chunk : Rules → ℕ → StringKind → List ℕ → Kept (Chunk × List ℕ)
kept_chunk rules total kind b =
    kept_then (at total b (read_chunk_length (major_of kind) b)) (λ c. chunk_content rules total kind b c.0 c.1)

-- the bytes after the chunks that follow this one
abbrev pub chunks_after : (List ℕ → Kept (List ℕ)) → Chunk → List ℕ → Kept (List ℕ)
chunks_after read chunk.Content rest = read rest
chunks_after read chunk.Break rest = Ok rest

-- The bytes after the break of an indefinite string. The first number bounds how many chunks are looked for; no input
-- has more than it has bytes.
unfoldable pub kept_chunks : ℕ → Rules → ℕ → StringKind → List ℕ → Kept (List ℕ)
kept_chunks zero rules total kind b = at total b (Err refusal.CutShort)
kept_chunks (suc n) rules total kind b =
    kept_then (kept_chunk rules total kind b) (λ c. chunks_after (kept_chunks n rules total kind) c.0 c.1)

-- ---- containers

-- What is still to come in an open container: this many members, or all up to a break; pairs, with keys after the last
-- one and those that were seen; or the value of a key, and then pairs. A tag is a container of one member.
pub data Open : Type 0 where
  members : Argument → Open
  pairs : Option KeyAt → Places → Argument → Open
  value : KeyAt → Places → Argument → Open

-- the container that a head opens, if it opens one
abbrev pub opened : ItemHead → Option Open
opened (item_head.Array a) = Some (members a)
opened (item_head.Map a) = Some (pairs None no_places a)
opened (item_head.Tag n w) = Some (members (Number 1 Zero))
opened _ = None

-- the bytes after the container, if it ends here
abbrev pub after_end : Open → List ℕ → Option (List ℕ)
after_end (members left) b = after_members left b
after_end (pairs last seen left) b = after_members left b
after_end (value key seen left) b = None

-- the bytes before these last ones
abbrev pub front : List ℕ → List ℕ → List ℕ
front b rest = take (length b - length rest) b

-- the key that was read up to the rest
abbrev pub key_at : ℕ → List ℕ → List ℕ → KeyAt
key_at total b rest = record { place = place_of total b; bytes = front b rest }

-- what is to come after one part more, which was read up to the rest
abbrev pub after_part : Rules → ℕ → Open → List ℕ → List ℕ → Kept Open
after_part rules total (members left) b rest = Ok (members (one_less left))
after_part rules total (pairs last seen left) b rest =
    unless total b (key_violation rules last seen (front b rest))
    (value (key_at total b rest) (with_key rules (key_at total b rest) seen) (one_less left))
after_part rules total (value key seen left) b rest = Ok (pairs (Some key) seen left)

abbrev pub ended_or : Option (List ℕ) → Kept (List ℕ) → Kept (List ℕ)
ended_or (Some after) more = Ok after
ended_or None more = more

-- The bytes after the container. The first number bounds how many parts are looked for.
unfoldable pub kept_parts : ℕ → Rules → ℕ → (List ℕ → Kept (List ℕ)) → Open → List ℕ → Kept (List ℕ)
kept_parts zero rules total read o b = at total b (Err refusal.CutShort)
kept_parts (suc n) rules total read o b =
    ended_or (after_end o b)
    (kept_then (read b)
    (λ rest. kept_then (after_part rules total o b rest) (λ p. kept_parts n rules total read p rest)))

-- ---- items

-- the bytes after the content of a string; its head is at these bytes and is read already
abbrev pub kept_string : Rules → ℕ → List ℕ → StringKind → Argument → List ℕ → Kept (List ℕ)
kept_string rules total b kind (Number n w) rest = kept_content rules total b kind n w rest
kept_string rules total b kind Indefinite rest = kept_chunks (suc (length rest)) rules total kind rest

-- the bytes after an item; its head is at these bytes and is read already
abbrev pub kept_atom : Rules → ℕ → List ℕ → ItemHead → List ℕ → Kept (List ℕ)
kept_atom rules total b (item_head.String kind a) rest = kept_string rules total b kind a rest
kept_atom rules total b h rest = Ok rest

abbrev pub kept_body : Rules → ℕ → List ℕ → (List ℕ → Kept (List ℕ)) → Option Open → ItemHead → List ℕ
    → Kept (List ℕ)
kept_body rules total b read (Some o) h rest = kept_parts (suc (length rest)) rules total read o rest
kept_body rules total b read None h rest = kept_atom rules total b h rest

-- the bytes after an item, with `left` levels left for it and the items in it
unfoldable pub kept_item : ℕ → Rules → ℕ → List ℕ → Kept (List ℕ)
kept_item zero rules total b = at total b (Err (no_level_left b))
kept_item (suc left) rules total b =
    kept_then (kept_head rules total (deepest - left) b)
    (λ h. kept_body rules total b (kept_item left rules total) (opened h.0) h.0 h.1)

-- ---- items one after the other

abbrev pub violation_or : Kept (List ℕ) → (List ℕ → Option Violation) → Option Violation
violation_or (Ok rest) more = more rest
violation_or (Err violation) more = Some violation

unfoldable pub violation_from : ℕ → Rules → ℕ → List ℕ → Option Violation
violation_from zero rules total b = None
violation_from (suc n) rules total [] = None
violation_from (suc n) rules total (first ∷ b) =
    violation_or (kept_item deepest rules total (first ∷ b)) (violation_from n rules total)

-- the first violation in bytes that should be items one after the other
abbrev pub first_violation : Rules → List ℕ → Option Violation
first_violation rules b = violation_from (length b) rules (length b) b
