-- Which items have an encoding (RFC 7049 section 2).
use Rattle.std.specs.Prelude.{ℕ, ◌+◌, ◌-◌, ◌^◌, ◌<◌, ◌≤◌, length, Option, Some, None}
use Rattle.std.specs.List.{AllByRecursion}
use Rattle.cbor_grammar.specs.declared.width.IntegerWidth.{IntegerWidth}
use Rattle.cbor_grammar.specs.declared.width.FloatWidth.{FloatWidth}
use Rattle.cbor_grammar.specs.declared.width.FloatWidth.TheVariants as float_width
use Rattle.cbor_grammar.specs.Item as spec
use Rattle.cbor_grammar.specs.Item.{Chunk, Atom, integer, negative, string, chunked_string, float, simple, Item, atom}
use Rattle.cbor_grammar.specs.Item.{array, tagged, Items, no_items, item, Pairs, no_pairs, pair, item_count, pair_count}
use Rattle.cbor_grammar.specs.Head.{FitsWidth}
use Rattle.cbor_grammar.specs.declared.strings.StringKind.{StringKind}
use Rattle.cbor_grammar.specs.StringKind.{IsContent}

-- the deepest level of an item; the outermost is at level 1
abbrev pub deepest : ℕ
deepest = 128

-- how many levels are left for an item at this level and the items in it
abbrev pub levels_left : ℕ → ℕ
levels_left level = deepest + 1 - level

-- the length fits its width, and the content is what a string of this kind may hold
pub record IsChunk (kind : StringKind) (c : Chunk) : Type 0 where
  pub fits : FitsWidth c.width (length c.bytes)
  pub bytes : AllByRecursion (λ b. b < 256) c.bytes
  pub content : IsContent kind c.bytes

-- the bits of a float can be written in this width; an unstated one is 64 bits
abbrev pub FitsFloat : FloatWidth → ℕ → Type 0
FitsFloat float_width.Unknown bits = bits < 2 ^ 64
FitsFloat float_width.Sixteen bits = bits < 2 ^ 16
FitsFloat float_width.ThirtyTwo bits = bits < 2 ^ 32
FitsFloat float_width.SixtyFour bits = bits < 2 ^ 64

-- the numbers of an item that holds no item fit their widths
abbrev pub WellFormedAtom : Atom → Type 0
WellFormedAtom (integer n w) = FitsWidth w n
WellFormedAtom (negative n w) = FitsWidth w n
WellFormedAtom (string kind c) = IsChunk kind c
WellFormedAtom (chunked_string kind cs) = AllByRecursion (IsChunk kind) cs
WellFormedAtom (float bits w) = FitsFloat w bits
WellFormedAtom (simple n) = n < 256

-- a count fits its width; of an indefinite length there is none
abbrev pub FitsCount : Option IntegerWidth → ℕ → Type 0
FitsCount None n = Unit {0}
FitsCount (Some w) n = FitsWidth w n

-- Each number, tag, length and count fits its width, and no item is deeper than the deepest level.
abbrev mutual
  pub WellFormed : ℕ → Item → Type 0
  WellFormed level (atom a) = (level ≤ deepest) × WellFormedAtom a
  WellFormed level (array is w) = (level ≤ deepest) × FitsCount w (item_count is) × WellFormedItems (level + 1) is
  WellFormed level (spec.map ps w) =
      (level ≤ deepest) × FitsCount w (pair_count ps) × WellFormedPairs (level + 1) ps
  WellFormed level (tagged t w i) = (level ≤ deepest) × FitsWidth w t × WellFormed (level + 1) i

  pub WellFormedItems : ℕ → Items → Type 0
  WellFormedItems level no_items = Unit {0}
  WellFormedItems level (item i is) = WellFormed level i × WellFormedItems level is

  pub WellFormedPairs : ℕ → Pairs → Type 0
  WellFormedPairs level no_pairs = Unit {0}
  WellFormedPairs level (pair k v ps) = WellFormed level k × WellFormed level v × WellFormedPairs level ps
