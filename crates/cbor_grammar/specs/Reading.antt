-- `read_item` reads an item from left to right, as `parse/binary.rt` of `cbor_diag` does. It takes bytes and returns
-- the item and the bytes after it, or the first error, which is `CutShort` if the bytes end. `counted_item` also counts
-- the turns. Other functions read heads, strings and containers. Public contracts name these functions only for
-- embedded items; `laws.rt` says that they agree there with `Spells`, `Cut` and `Fault`.
use Rattle.std.specs.Prelude.{◌≡◌, ℕ, zero, suc, ◌+◌, ◌/◌, ◌%◌, List, [], ◌∷◌, length, take, drop, Option, Some, None}
use Rattle.std.specs.Prelude.{Result, Ok, Err, nat_lt, ◌==◌, if◌then◌else◌}
use Rattle.std.specs.Str.{is_utf8}
use Rattle.std.specs.Int.{Width, w8, w16, w32, w64, byte_len, from_be_bytes}
use Rattle.cbor_grammar.specs.declared.width.IntegerWidth.{IntegerWidth}
use Rattle.cbor_grammar.specs.declared.width.IntegerWidth.TheVariants.{Zero, Eight, Sixteen, ThirtyTwo, SixtyFour}
use Rattle.cbor_grammar.specs.declared.width.FloatWidth.TheVariants as float_width
use Rattle.cbor_grammar.specs.declared.error.Error.{Error}
use Rattle.cbor_grammar.specs.declared.error.Error.TheVariants as refusal
use Rattle.cbor_grammar.specs.declared.argument.Argument.{Argument}
use Rattle.cbor_grammar.specs.declared.argument.Argument.TheVariants.{Number, Indefinite}
use Rattle.cbor_grammar.specs.Item as spec
use Rattle.cbor_grammar.specs.Item.{Chunk, Item, atom, array, tagged, Items, no_items, item, Pairs, no_pairs, pair}
use Rattle.cbor_grammar.specs.declared.head.ItemHead.TheVariants as item_head
use Rattle.cbor_grammar.specs.declared.head.ItemHead.{ItemHead}
use Rattle.cbor_grammar.specs.Head.{FitsStated, break_byte}
use Rattle.cbor_grammar.specs.declared.strings.StringKind.{StringKind}
use Rattle.cbor_grammar.specs.declared.strings.StringKind.TheVariants.{Bytes, Text}
use Rattle.cbor_grammar.specs.StringKind.{major_of}

-- a value and the bytes after it
abbrev pub Read : Type 0 → Type 0
Read X = Result (X × List ℕ) Error

infixl 10 ◌>>=◌
abbrev pub ◌>>=◌ : {A B : Type 0} → Result A Error → (A → Result B Error) → Result B Error
(Ok x) >>= f = f x
(Err e) >>= f = Err e

-- An error other than out of memory is the one that reading gives.
abbrev pub Fails : {Y : Type 0} → Error → Result Y Error → Type 0
Fails refusal.Memory read = Unit {0}
Fails e read = read ≡ Err e

-- What a function returned, seen by view, is what reading gives, unless memory ran out.
abbrev pub Gives : {X Y : Type 0} → (X → Y) → Result X Error → Result Y Error → Type 0
Gives view (Ok x) read = read ≡ Ok (view x)
Gives view (Err e) read = Fails e read

abbrev pub read_number : Width → List ℕ → Read ℕ
read_number w b =
    if nat_lt (length b) (byte_len w) then Err refusal.CutShort
    else Ok (from_be_bytes w (take (byte_len w) b), drop (byte_len w) b)

-- ---- heads

-- the number after info 24 to 27
unfoldable pub read_wide : Width → IntegerWidth → List ℕ → Read Argument
read_wide w width b = read_number w b >>= λ n. Ok (Number n.0 width, n.1)

-- what the five bits of info say, with the bytes that they ask for
unfoldable pub read_argument : ℕ → List ℕ → Read Argument
read_argument info b =
    if nat_lt info 24 then Ok (Number info Zero, b)
    else if info == 24 then read_wide w8 Eight b
    else if info == 25 then read_wide w16 Sixteen b
    else if info == 26 then read_wide w32 ThirtyTwo b
    else if info == 27 then read_wide w64 SixtyFour b
    else if info == 31 then Ok (Indefinite, b)
    else Err refusal.Head

-- a number that was read fits the width that it was read in
abbrev pub FitsArgument : Argument → Type 0
FitsArgument (Number n w) = FitsStated w n
FitsArgument Indefinite = Unit {0}

-- in major type 7 a number of one byte is a simple value, and a wider one the bits of a float
abbrev pub simple_or_float : ℕ → IntegerWidth → ItemHead
simple_or_float n Sixteen = item_head.Float n float_width.Sixteen
simple_or_float n ThirtyTwo = item_head.Float n float_width.ThirtyTwo
simple_or_float n SixtyFour = item_head.Float n float_width.SixtyFour
simple_or_float n w = item_head.Simple n

-- The major types 0, 1, 6 and 7 have a number. Without one, 7 is the break, with which no item begins.
abbrev pub numbered : ℕ → Argument → Result ItemHead Error
numbered major (Number n w) =
    if major == 0 then Ok (item_head.Integer n w)
    else if major == 1 then Ok (item_head.Negative n w)
    else if major == 6 then Ok (item_head.Tag n w)
    else Ok (simple_or_float n w)
numbered major Indefinite = Err refusal.Head

unfoldable pub head_of : ℕ → Argument → Result ItemHead Error
head_of major a =
    if major == 2 then Ok (item_head.String Bytes a)
    else if major == 3 then Ok (item_head.String Text a)
    else if major == 4 then Ok (item_head.Array a)
    else if major == 5 then Ok (item_head.Map a)
    else numbered major a

unfoldable pub read_head : List ℕ → Read ItemHead
read_head [] = Err refusal.CutShort
read_head (first ∷ b) = read_argument (first % 32) b >>= λ a. head_of (first / 32) a.0 >>= λ h. Ok (h, a.1)

-- ---- strings

-- a number of bytes
abbrev pub split_at : ℕ → List ℕ → Read (List ℕ)
split_at n b = if nat_lt (length b) n then Err refusal.CutShort else Ok (take n b, drop n b)

-- the string of that content, where its kind may hold it
abbrev pub checked_chunk : StringKind → IntegerWidth → List ℕ → Result Chunk Error
checked_chunk Bytes w content = Ok (record { bytes = content; width = w })
checked_chunk Text w content =
    if is_utf8 content then Ok (record { bytes = content; width = w }) else Err refusal.Utf8

-- a string of that length and its content
unfoldable pub read_content : StringKind → ℕ → IntegerWidth → List ℕ → Read Chunk
read_content kind n w b = split_at n b >>= λ s. checked_chunk kind w s.0 >>= λ c. Ok (c, s.1)

-- the length in a chunk's head
abbrev pub length_of : Argument → List ℕ → Read (Option (ℕ × IntegerWidth))
length_of (Number n w) b = Ok (Some (n, w), b)
length_of Indefinite b = Err refusal.Head

-- the length in the head of the next chunk of an indefinite string of that major type, or none at its break
unfoldable pub read_chunk_length : ℕ → List ℕ → Read (Option (ℕ × IntegerWidth))
read_chunk_length major [] = Err refusal.CutShort
read_chunk_length major (first ∷ b) =
    if first == break_byte then Ok (None, b)
    else if first / 32 == major then (read_argument (first % 32) b >>= λ a. length_of a.0 a.1)
    else Err refusal.Head

-- a chunk after its head
abbrev pub chunk_of : StringKind → Argument → List ℕ → Read (Option Chunk)
chunk_of kind (Number n w) b = read_content kind n w b >>= λ c. Ok (Some c.0, c.1)
chunk_of kind Indefinite b = Err refusal.Head

-- the next chunk of an indefinite string, or none at its break
unfoldable pub read_chunk : StringKind → List ℕ → Read (Option Chunk)
read_chunk kind [] = Err refusal.CutShort
read_chunk kind (first ∷ b) =
    if first == break_byte then Ok (None, b)
    else if first / 32 == major_of kind then (read_argument (first % 32) b >>= λ a. chunk_of kind a.0 a.1)
    else Err refusal.Head

-- ---- turns

-- how many turns were taken, and what was read
abbrev pub Counted : Type 0 → Type 0
Counted X = ℕ × Read X

-- a number of turns before
abbrev pub later : {X : Type 0} → ℕ → Counted X → Counted X
later k c = (k + c.0, c.1)

abbrev pub go_on : {A B : Type 0} → ℕ → Read A → (A × List ℕ → Counted B) → Counted B
go_on n (Ok x) f = later n (f x)
go_on n (Err e) f = (n, Err e)

infixl 10 ◌>>-◌
abbrev pub ◌>>-◌ : {A B : Type 0} → Counted A → (A × List ℕ → Counted B) → Counted B
c >>- f = go_on c.0 c.1 f

abbrev pub more_chunks : (List ℕ → Counted (List Chunk)) → Option Chunk → List ℕ → Counted (List Chunk)
more_chunks read None b = (0, Ok ([], b))
more_chunks read (Some c) b = read b >>- λ cs. (0, Ok (c ∷ cs.0, cs.1))

-- The chunks up to the break, each in a turn. The first number bounds how many are looked for; no input has more than
-- it has bytes.
unfoldable pub read_chunks : ℕ → StringKind → List ℕ → Counted (List Chunk)
read_chunks zero kind b = (1, Err refusal.CutShort)
read_chunks (suc n) kind b = (1, read_chunk kind b) >>- λ c. more_chunks (read_chunks n kind) c.0 c.1

-- an item that holds no item, after its head
abbrev pub read_atom : ItemHead → List ℕ → Counted Item
read_atom (item_head.Integer n w) b = (0, Ok (atom (spec.integer n w), b))
read_atom (item_head.Negative n w) b = (0, Ok (atom (spec.negative n w), b))
read_atom (item_head.String kind (Number n w)) b =
    (0, read_content kind n w b >>= λ c. Ok (atom (spec.string kind c.0), c.1))
read_atom (item_head.String kind Indefinite) b =
    read_chunks (length b) kind b >>- λ cs. (0, Ok (atom (spec.chunked_string kind cs.0), cs.1))
read_atom (item_head.Float bits w) b = (0, Ok (atom (spec.float bits w), b))
read_atom (item_head.Simple n) b = (0, Ok (atom (spec.simple n), b))
read_atom _ b = (0, Err refusal.Head)

-- ---- containers

abbrev pub joined : Items → Items → Items
joined no_items js = js
joined (item i is) js = item i (joined is js)

abbrev pub joined_pairs : Pairs → Pairs → Pairs
joined_pairs no_pairs qs = qs
joined_pairs (pair k v ps) qs = pair k v (joined_pairs ps qs)

-- A container that is open: what was read of it, and how many members or pairs are still to come, or all up to a break.
pub data Frame : Type 0 where
  items_in : Items → Argument → Frame
  pairs_in : Pairs → Argument → Frame
  -- a key was read, its value is to come, and then this number of pairs
  value_of : Pairs → Item → Argument → Frame
  tag_of : ℕ → IntegerWidth → Frame
  tagged_with : ℕ → IntegerWidth → Item → Frame

-- the container that a head opens, if it opens one
abbrev pub opened : ItemHead → Option Frame
opened (item_head.Array a) = Some (items_in no_items a)
opened (item_head.Map a) = Some (pairs_in no_pairs a)
opened (item_head.Tag n w) = Some (tag_of n w)
opened _ = None

abbrev pub one_less : Argument → Argument
one_less (Number (suc n) w) = Number n w
one_less a = a

abbrev pub count_width : Argument → Option IntegerWidth
count_width (Number n w) = Some w
count_width Indefinite = None

-- the container with one more part
abbrev pub put : Frame → Item → Frame
put (items_in is left) i = items_in (joined is (item i no_items)) (one_less left)
put (pairs_in ps left) k = value_of ps k (one_less left)
put (value_of ps k left) v = pairs_in (joined_pairs ps (pair k v no_pairs)) left
put (tag_of t w) i = tagged_with t w i
put (tagged_with t w j) i = tagged_with t w i

-- the bytes after the break, if one is here
abbrev pub after_break : List ℕ → Option (List ℕ)
after_break [] = None
after_break (first ∷ b) = if first == break_byte then Some b else None

-- the bytes after the members or pairs, if none is to come
abbrev pub after_members : Argument → List ℕ → Option (List ℕ)
after_members (Number zero w) b = Some b
after_members (Number (suc n) w) b = None
after_members Indefinite b = after_break b

-- the bytes after the container, if it ends here
abbrev pub after_end : Frame → List ℕ → Option (List ℕ)
after_end (items_in is left) b = after_members left b
after_end (pairs_in ps left) b = after_members left b
after_end (value_of ps k left) b = None
after_end (tag_of t w) b = None
after_end (tagged_with t w i) b = Some b

-- the item that the container is where it ends
abbrev pub closed : Frame → Option Item
closed (items_in is left) = Some (array is (count_width left))
closed (pairs_in ps left) = Some (spec.map ps (count_width left))
closed (value_of ps k left) = None
closed (tag_of t w) = None
closed (tagged_with t w i) = Some (tagged t w i)

abbrev pub close_or : Option Item → Option (List ℕ) → Counted Item → Counted Item
close_or (Some i) (Some after) more = (1, Ok (i, after))
close_or _ _ more = more

-- What becomes of an open container: closed where it ends, and else with one part more, each read by `read`. The first
-- number bounds how many are looked for.
unfoldable pub parts_from : ℕ → (List ℕ → Counted Item) → Frame → List ℕ → Counted Item
parts_from zero read f b = (1, Err refusal.CutShort)
parts_from (suc n) read f b = close_or (closed f) (after_end f b) (read b >>- λ i. parts_from n read (put f i.0) i.1)

-- no input has more parts than it has bytes
abbrev pub read_parts : (List ℕ → Counted Item) → Frame → List ℕ → Counted Item
read_parts read f b = parts_from (suc (length b)) read f b

-- ---- items

-- an item after its head: a container, if one is opened, or an item that holds none
abbrev pub read_body : (List ℕ → Counted Item) → Option Frame → ItemHead → List ℕ → Counted Item
read_body read (Some f) h b = read_parts read f b
read_body read None h b = read_atom h b

-- why there is no item where no more levels are left for it
abbrev pub no_level_left : List ℕ → Error
no_level_left [] = refusal.CutShort
no_level_left (first ∷ b) = refusal.TooDeep

-- an item, with `left` levels left for it and the items in it, in its turns
unfoldable pub counted_item : ℕ → List ℕ → Counted Item
counted_item zero b = (1, Err (no_level_left b))
counted_item (suc left) b = (1, read_head b) >>- λ h. read_body (counted_item left) (opened h.0) h.0 h.1

-- the same without its turns
abbrev pub read_item : ℕ → List ℕ → Read Item
read_item left b = (counted_item left b).1
