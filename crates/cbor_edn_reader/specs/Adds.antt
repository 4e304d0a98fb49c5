-- What a function that reads EDN appends: the encoding of what it read. After an error, what was read before may have
-- been appended.
use Rattle.std.specs.Prelude.{◌≡◌, ℕ, List, [], ◌∷◌, ◌++◌, length, Bool, Option, Some, Result, Ok, Err}
use Rattle.std.specs.Prelude.{if◌then◌else◌}
use Rattle.std.specs.List.{flat_map}
use Rattle.cbor_grammar.specs.declared.strings.StringKind.{StringKind}
use Rattle.cbor_grammar.specs.declared.width.IntegerWidth.{IntegerWidth}
use Rattle.cbor_grammar.specs.StringKind.{major_of}
use Rattle.cbor_grammar.specs.Item.{Item, Chunk, Atom, integer, negative, items_of, pairs_of}
use Rattle.cbor_grammar.specs.Written.{encoded, encoded_items, encoded_pairs, encoded_chunk}
use Rattle.cbor_edn_grammar.specs.declared.error.Stop.{Stop}
use Rattle.cbor_edn_grammar.specs.Reading.{Read, ◌>>=◌, Refuses}
use Rattle.cbor_edn_grammar.specs.Edn.{item_of_edn}
use Rattle.cbor_edn_grammar.specs.Items.{is_string}
use Rattle.cbor_edn_reader.specs.declared.scalars.Integer.{Integer}

-- the item that a word or a content is; what is returned is whether it is a string of definite length
abbrev pub AddsItem : Result Bool Stop → List ℕ → List ℕ → Option Item → Type 0
AddsItem (Ok string) old new read =
    (i : Item) × (read ≡ Some i) × (new ≡ old ++ encoded i) × (string ≡ is_string i)
AddsItem (Err e) old new read = Refuses e read

-- the item at the front of a text, and what follows it
abbrev pub ReadsItem : Result Bool Stop → List ℕ → List ℕ → List ℕ → Read Item → Type 0
ReadsItem (Ok string) old new rest read =
    (i : Item) × (read ≡ Some (i, rest)) × (new ≡ old ++ encoded i) × (string ≡ is_string i)
ReadsItem (Err e) old new rest read = Refuses e read

-- a string of definite length, or a chunk of another
abbrev pub AddsChunk : {A : Type 0} → Result A Stop → List ℕ → List ℕ → StringKind → Option Chunk → Type 0
AddsChunk (Ok u) old new kind read =
    (chunk : Chunk) × (read ≡ Some chunk) × (new ≡ old ++ encoded_chunk (major_of kind) chunk)
AddsChunk (Err e) old new kind read = Refuses e read

-- bytes that were read at the front of a text
abbrev pub Pushes : {A : Type 0} → Result A Stop → List ℕ → List ℕ → List ℕ → Read (List ℕ) → Type 0
Pushes (Ok u) old new rest read = (bytes : List ℕ) × (read ≡ Some (bytes, rest)) × (new ≡ old ++ bytes)
Pushes (Err e) old new rest read = Refuses e read

-- of a string what is returned, and its bytes, which are appended
abbrev pub ReadsContent : Result (StringKind × Option IntegerWidth) Stop → List ℕ → List ℕ → List ℕ
    → Read (StringKind × List ℕ × Option IntegerWidth) → Type 0
ReadsContent (Ok x) old new rest read =
    (bytes : List ℕ) × (read ≡ Some ((x.0, bytes, x.1), rest)) × (new ≡ old ++ bytes)
ReadsContent (Err e) old new rest read = Refuses e read

-- the integer of a word
abbrev pub integer_atom : Integer → Atom
integer_atom x = if x.negative then negative x.number x.width else integer x.number x.width

-- ---- lists

abbrev pub items_bytes : List Item → List ℕ
items_bytes items = encoded_items (items_of items)

abbrev pub pairs_bytes : List (Item × Item) → List ℕ
pairs_bytes pairs = encoded_pairs (pairs_of pairs)

abbrev pub chunks_bytes : StringKind → List Chunk → List ℕ
chunks_bytes kind chunks = flat_map (encoded_chunk (major_of kind)) chunks

-- one member, and whether another one follows
abbrev pub TurnAdds : {X : Type 0} → (List X → List ℕ) → Result Bool Stop → List ℕ → List ℕ → List ℕ
    → Option (List X × Bool × List ℕ) → Type 0
TurnAdds {X} written (Ok more) old new rest turn =
    (x : X) × (turn ≡ Some (x ∷ [], more, rest)) × (new ≡ old ++ written (x ∷ []))
TurnAdds written (Err e) old new rest turn = Refuses e turn

-- all members, of which the count is returned
abbrev pub ReadsMembers : {X : Type 0} → (List X → List ℕ) → Result ℕ Stop → List ℕ → List ℕ → List ℕ
    → Read (List X) → Type 0
ReadsMembers {X} written (Ok count) old new rest read =
    (xs : List X) × (read ≡ Some (xs, rest)) × (new ≡ old ++ written xs) × (count ≡ length xs)
ReadsMembers written (Err e) old new rest read = Refuses e read

-- the bytes of the item that a text is
abbrev pub item_bytes_of_edn : List ℕ → Option (List ℕ)
item_bytes_of_edn text = item_of_edn text >>= λ i. Some (encoded i)
