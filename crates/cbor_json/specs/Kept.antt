-- Which items JSON keeps whole, apart from widths and kinds of length (`IsKept`), and the first thing in an item that
-- JSON does not keep (`FirstLoss`), such as a tag or a byte string.
use Rattle.std.specs.Prelude.{◌≡◌, ℕ, suc, ◌+◌, ◌<◌, List, length, Bool, true, false, Option, Some, None, Ok, IsTrue}
use Rattle.std.specs.Prelude.{◌==◌, ◌||◌, if◌then◌else◌}
use Rattle.std.specs.Float.{float_is_finite}
use Rattle.cbor_floats.specs.Value.{value_of}
use Rattle.cbor_grammar.specs.declared.head.ItemHead.{ItemHead}
use Rattle.cbor_grammar.specs.declared.head.ItemHead.TheVariants as head
use Rattle.cbor_grammar.specs.declared.argument.Argument.{Argument}
use Rattle.cbor_grammar.specs.declared.argument.Argument.TheVariants.{Number, Indefinite}
use Rattle.cbor_grammar.specs.declared.strings.StringKind.{StringKind}
use Rattle.cbor_grammar.specs.declared.strings.StringKind.TheVariants as kind
use Rattle.cbor_grammar.specs.declared.width.FloatWidth.{FloatWidth}
use Rattle.cbor_grammar.specs.Item as spec
use Rattle.cbor_grammar.specs.Item.{Atom, integer, negative, string, chunked_string, float, simple, Item, atom, array}
use Rattle.cbor_grammar.specs.Item.{tagged, Items, no_items, item, item_count, Pairs, no_pairs, pair, pair_count, parts}
use Rattle.cbor_grammar.specs.Reading.{read_head, read_item}
use Rattle.cbor_grammar.specs.WellFormed.{deepest}
use Rattle.cbor_json.specs.JsonLeaves.{encoded_float}
use Rattle.cbor_json.specs.declared.error.Loss.{Loss}
use Rattle.cbor_json.specs.declared.error.LossKind.{LossKind}
use Rattle.cbor_json.specs.declared.error.LossKind.TheVariants as loss

-- ---- items

abbrev pub is_finite : ℕ → FloatWidth → Bool
is_finite bits w = float_is_finite (value_of (encoded_float bits w))

-- false, true and null
abbrev pub is_json_simple : ℕ → Bool
is_json_simple n = (n == 20) || ((n == 21) || (n == 22))

abbrev pub IsTextKind : StringKind → Type 0
IsTextKind kind.Text = Unit {0}
IsTextKind kind.Bytes = ⊥

abbrev pub IsKeptAtom : Atom → Type 0
IsKeptAtom (integer n w) = Unit {0}
IsKeptAtom (negative n w) = Unit {0}
IsKeptAtom (string k c) = IsTextKind k
IsKeptAtom (chunked_string k cs) = IsTextKind k
IsKeptAtom (float bits w) = IsTrue (is_finite bits w)
IsKeptAtom (simple n) = IsTrue (is_json_simple n)

-- a text, in chunks or not
abbrev pub IsText : Item → Type 0
IsText (atom (string k c)) = IsTextKind k
IsText (atom (chunked_string k cs)) = IsTextKind k
IsText i = ⊥

-- JSON has no tags, and its keys are texts
abbrev mutual
  pub IsKept : Item → Type 0
  IsKept (atom a) = IsKeptAtom a
  IsKept (array is w) = KeptItems is
  IsKept (spec.map ps w) = KeptPairs ps
  IsKept (tagged n w i) = ⊥

  pub KeptItems : Items → Type 0
  KeptItems no_items = Unit {0}
  KeptItems (item i is) = IsKept i × KeptItems is

  pub KeptPairs : Pairs → Type 0
  KeptPairs no_pairs = Unit {0}
  KeptPairs (pair k v ps) = IsText k × IsKept v × KeptPairs ps

-- ---- the first that is not kept, from the left

-- what is not kept of an item with this head, where it is no key
abbrev pub head_loss : ItemHead → Option LossKind
head_loss (head.Integer n w) = None
head_loss (head.Negative n w) = None
head_loss (head.String kind.Bytes a) = Some loss.Bytes
head_loss (head.String kind.Text a) = None
head_loss (head.Array a) = None
head_loss (head.Map a) = None
head_loss (head.Tag n w) = Some loss.Tag
head_loss (head.Float bits w) = if is_finite bits w then None else Some loss.NotFinite
head_loss (head.Simple n) = if is_json_simple n then None else Some loss.Simple

abbrev pub is_text_head : ItemHead → Bool
is_text_head (head.String kind.Text a) = true
is_text_head h = false

-- From these bytes items are read one after the other, with `left` levels left for each, and then the rest is left.
abbrev pub ReadsItems : ℕ → List ℕ → Items → List ℕ → Type 0
ReadsItems left b no_items rest = b ≡ rest
ReadsItems left b (item i is) rest =
    (mid : List ℕ) × (read_item left b ≡ Ok (i, mid)) × ReadsItems left mid is rest

-- A container of this length has more than `held` members. One of indefinite length has as many as are read.
abbrev pub HasMore : Argument → ℕ → Type 0
HasMore (Number n w) held = held < n
HasMore Indefinite held = Unit {0}

-- The first thing that is not kept of the item at the front, with `left` levels left for it: all before it is kept, and
-- `n` bytes are left from it on.
pub data FirstLoss : ℕ → List ℕ → ℕ → LossKind → Type 0 where
  at_head : {left : ℕ} {b : List ℕ} {kind : LossKind} (h : ItemHead) (rest : List ℕ) → read_head b ≡ Ok (h, rest)
      → head_loss h ≡ Some kind → FirstLoss (suc left) b (length b) kind
  in_member : {left n : ℕ} {b : List ℕ} {kind : LossKind} (a : Argument) (inner mid : List ℕ) (is : Items)
      → read_head b ≡ Ok (head.Array a, inner) → ReadsItems left inner is mid → KeptItems is
      → HasMore a (item_count is) → FirstLoss left mid n kind → FirstLoss (suc left) b n kind
  at_key : {left n : ℕ} {b : List ℕ} (a : Argument) (inner mid : List ℕ) (ps : Pairs) (h : ItemHead) (rest : List ℕ)
      → read_head b ≡ Ok (head.Map a, inner) → ReadsItems left inner (parts ps) mid → KeptPairs ps
      → HasMore a (pair_count ps) → read_head mid ≡ Ok (h, rest) → is_text_head h ≡ false → n ≡ length mid
      → FirstLoss (suc left) b n loss.Key
  in_value : {left n : ℕ} {b : List ℕ} {kind : LossKind} (a : Argument) (inner mid rest : List ℕ) (ps : Pairs)
      (k : Item)
      → read_head b ≡ Ok (head.Map a, inner) → ReadsItems left inner (parts ps) mid → KeptPairs ps
      → HasMore a (pair_count ps) → read_item left mid ≡ Ok (k, rest) → IsText k → FirstLoss left rest n kind
      → FirstLoss (suc left) b n kind

-- the same of the outermost item, by its place
abbrev pub IsLoss : List ℕ → Loss → Type 0
IsLoss b l = (n : ℕ) × FirstLoss deepest b n l.kind × (l.place + n ≡ length b)
