-- Which containers are open at a byte, by reading from left to right. `IsPartAt`: the byte is in this part of the item
-- at a spot. `IsWay`: the byte is in these parts, from the outermost to the innermost, and in no smaller one.
-- `IsHeadAt`: the head at a place, and where it ends. `EndsAt`: where the item at a spot ends.
use Rattle.std.specs.Prelude.{◌≡◌, ℕ, zero, suc, ◌+◌, ◌*◌, ◌<◌, ◌≤◌, List, [], ◌∷◌, length, drop, None, Ok}
use Rattle.cbor_grammar.specs.declared.argument.Argument.{Argument}
use Rattle.cbor_grammar.specs.declared.argument.Argument.TheVariants.{Number, Indefinite}
use Rattle.cbor_grammar.specs.declared.head.ItemHead.{ItemHead}
use Rattle.cbor_grammar.specs.declared.head.ItemHead.TheVariants as item_head
use Rattle.cbor_grammar.specs.Item.{Item}
use Rattle.cbor_grammar.specs.Reading.{Read, read_head, read_item, after_break}
use Rattle.cbor_grammar.specs.Answer.{spelled, IsOutcome}
use Rattle.cbor_grammar.specs.WellFormed.{deepest, levels_left}
use Rattle.cbor_trace.specs.declared.open.Open.{Open}
use Rattle.cbor_trace.specs.declared.open.Open.TheVariants.{Array, Key, Value, Tag}
use Rattle.cbor_trace.specs.declared.part.Part.{Part}
use Rattle.cbor_trace.specs.declared.part.Spot.{Spot}

-- ---- containers before one of their parts

-- the head that opens it
abbrev pub head_of : Open → ItemHead
head_of (Array count index) = item_head.Array count
head_of (Key count index) = item_head.Map count
head_of (Value count index key) = item_head.Map count
head_of (Tag number width) = item_head.Tag number width

-- how many parts are before the next; a map's are its keys and values in turn
abbrev pub parts_before : Open → ℕ
parts_before (Array count index) = index
parts_before (Key count index) = 2 * index
parts_before (Value count index key) = 2 * index + 1
parts_before (Tag number width) = 0

-- After this many members or pairs a container of that count goes on at these bytes: there are fewer than are stated,
-- or no break is here.
abbrev pub MembersGoOn : Argument → ℕ → List ℕ → Type 0
MembersGoOn (Number n w) index rest = index < n
MembersGoOn Indefinite index rest = after_break rest ≡ None

-- the same within the next pair, where no break may be
abbrev pub PairGoesOn : Argument → ℕ → Type 0
PairGoesOn (Number n w) index = index < n
PairGoesOn Indefinite index = Unit {0}

-- the next part is to come at these bytes
abbrev pub GoesOn : Open → List ℕ → Type 0
GoesOn (Array count index) rest = MembersGoOn count index rest
GoesOn (Key count index) rest = MembersGoOn count index rest
GoesOn (Value count index key) rest = PairGoesOn count index
GoesOn (Tag number width) rest = Unit {0}

-- From these bytes this many values are read in sequence, and then the rest is left.
abbrev pub After : {X : Type 0} → (List ℕ → Read X) → ℕ → List ℕ → List ℕ → Type 0
After read zero b rest = b ≡ rest
After {X = X} read (suc k) b rest = (mid : List ℕ) × (x : X) × After read k b mid × (read mid ≡ Ok (x, rest))

-- What is read from these bytes, if it can be read, ends behind the byte at that place.
abbrev pub EndsBehind : {X : Type 0} → ℕ → (List ℕ → Read X) → ℕ → List ℕ → Type 0
EndsBehind {X = X} total read at b = (x : X) (rest : List ℕ) → read b ≡ Ok (x, rest) → at + length rest < total

-- items, with `left` levels left for each
abbrev pub AfterItems : ℕ → ℕ → List ℕ → List ℕ → Type 0
AfterItems left = After (read_item left)

-- the place of a key among all bytes, where the parts of the map are the last of them
abbrev pub KeyBegins : ℕ → ℕ → List ℕ → Open → Type 0
KeyBegins total left inner (Value count index key) =
    (b : List ℕ) × AfterItems left (2 * index) inner b × (key + length b ≡ total)
KeyBegins total left inner _ = Unit {0}

-- The item at this level at the front of the last of all bytes is this container, and the rest is in the place of its
-- next part, after whole ones.
pub record IsBefore (total level : ℕ) (b : List ℕ) (o : Open) (rest : List ℕ) : Type 0 where
  pub levels : level ≤ deepest
  pub inner : List ℕ
  pub head : read_head b ≡ Ok (head_of o, inner)
  pub whole : AfterItems (levels_left (level + 1)) (parts_before o) inner rest
  pub goes_on : GoesOn o rest
  pub key : KeyBegins total (levels_left (level + 1)) inner o

-- ---- the part at a byte

-- The byte is not before this part, and if an item is read there, the item ends behind the byte.
pub record IsPartOf (total level : ℕ) (b : List ℕ) (at : ℕ) (p : Part) : Type 0 where
  pub rest : List ℕ
  pub before : IsBefore total level b p.«open» rest
  pub place : p.start + length rest ≡ total
  pub from : p.start ≤ at
  pub to : EndsBehind total (read_item (levels_left (level + 1))) at rest

-- the same of the item at that spot
abbrev pub IsPartAt : List ℕ → Spot → ℕ → Part → Type 0
IsPartAt b s at p = (s.start ≤ length b) × IsPartOf (length b) s.level (drop s.start b) at p

-- ---- from the outermost item to the innermost

abbrev pub outermost : Spot
outermost = record { start = 0; level = 1 }

-- A whole item is at this spot, and the byte is in it.
abbrev pub IsWholeAt : List ℕ → Spot → ℕ → Type 0
IsWholeAt b s at =
    (i : Item) × (n : ℕ) × IsOutcome s.level (drop s.start b) (spelled i n) × (s.start ≤ at) × (at < s.start + n)

abbrev pub spot_of : Spot → Part → Spot
spot_of s p = record { start = p.start; level = s.level + 1 }

-- From this spot the byte is in these parts, the outermost first, and in no part of the last, which is at that spot.
pub data IsWay (b : List ℕ) (at : ℕ) : Spot → List Part → Spot → Type 0 where
  ends : {s : Spot} → ((p : Part) → ¬ (IsPartAt b s at p)) → IsWay b at s [] s
  enters : {s t : Spot} {ps : List Part} (p : Part) → IsPartAt b s at p → IsWay b at (spot_of s p) ps t
      → IsWay b at s (p ∷ ps) t

-- ---- the item at a spot

-- the head at this place, and where it ends
abbrev pub IsHeadAt : List ℕ → ℕ → ItemHead → ℕ → Type 0
IsHeadAt b start h end =
    (start ≤ length b) × (rest : List ℕ) × (read_head (drop start b) ≡ Ok (h, rest)) × (end + length rest ≡ length b)

-- a whole item is at this spot, and ends at this place
abbrev pub EndsAt : List ℕ → Spot → ℕ → Type 0
EndsAt b s end = (s.start ≤ length b)
    × (i : Item) × (n : ℕ) × IsOutcome s.level (drop s.start b) (spelled i n) × (end ≡ s.start + n)
