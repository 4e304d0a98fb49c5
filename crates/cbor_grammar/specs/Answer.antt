-- The answers of a reader of bytes. The bytes begin with an item, are truncated, or are malformed (`Outcome`).
-- `IsRefused` says why they are not exactly one item. `GaveText`, `GaveRefusal` and `RefusedSo` compare the result of a
-- call with these answers, unless memory ran out. `MayWantMemory`: a reader may need memory for bytes that begin so.
-- `size` counts the items in an item.
use Rattle.std.specs.Prelude.{◌≡◌, ◌≢◌, ℕ, ◌+◌, ◌/◌, ◌%◌, ◌<◌, ◌≤◌, List, [], ◌∷◌, ◌++◌, length, take, Option, Some}
use Rattle.std.specs.Prelude.{None}
use Rattle.std.specs.Prelude.{Result, Ok, Err, MatchResult, IfErr, ◌⊎◌}
use Rattle.cbor_grammar.specs.declared.error.Error.{Error}
use Rattle.cbor_grammar.specs.declared.error.Error.TheVariants as refusal
use Rattle.cbor_grammar.specs.Item as spec
use Rattle.cbor_grammar.specs.Item.{Atom, chunked_string, Item, atom, array, tagged, Items, no_items, item}
use Rattle.cbor_grammar.specs.Item.{Pairs, no_pairs, pair}
use Rattle.cbor_grammar.specs.Bytes.{any, Spells}
use Rattle.cbor_grammar.specs.Refused.{Cut, Fault}

-- what the front of an input is: an item, and how many bytes it takes; cut before an item is whole and
-- before any fault; or at fault, and why
pub data Outcome : Type 0 where
  spelled : Item → ℕ → Outcome
  cut : Outcome
  fault : Error → Outcome

-- the input, read from this level, is that at its front
abbrev pub IsOutcome : ℕ → List ℕ → Outcome → Type 0
IsOutcome level b (spelled i n) = (n ≤ length b) × Spells any level (take n b) i
IsOutcome level b cut = Cut level b
IsOutcome level b (fault e) = Fault level b e

-- one outcome holds, and no other
pub record OneOutcome (level : ℕ) (b : List ℕ) : Type 0 where
  pub outcome : Outcome
  pub holds : IsOutcome level b outcome
  pub only : (other : Outcome) → IsOutcome level b other → other ≡ outcome

-- why an input is not one whole item
abbrev pub IsRefused : ℕ → List ℕ → Error → Type 0
IsRefused level b refusal.CutShort = Cut level b
IsRefused level b refusal.Head = Fault level b refusal.Head
IsRefused level b refusal.Utf8 = Fault level b refusal.Utf8
IsRefused level b refusal.TooDeep = Fault level b refusal.TooDeep
IsRefused level b refusal.Remaining = (i : Item) × (n : ℕ) × (n < length b) × Spells any level (take n b) i
IsRefused level b _ = ⊥

-- an error has this meaning, unless memory ran out
abbrev pub UnlessMemory : (Error → Type 0) → Error → Type 0
UnlessMemory Means refusal.Memory = Unit {0}
UnlessMemory Means e = Means e

-- A call that appends the text of the item at the front gave this outcome, and of an item its text after the old one;
-- or memory ran out.
abbrev pub GaveText : (Item → List ℕ) → Result (Option ℕ) Error → List ℕ → List ℕ → Outcome → Type 0
GaveText text (Ok (Some n)) old new o = (i : Item) × (o ≡ spelled i n) × (new ≡ old ++ text i)
GaveText text (Ok None) old new o = o ≡ cut
GaveText text (Err refusal.Memory) old new o = Unit {0}
GaveText text (Err e) old new o = o ≡ fault e

-- A reader refused so, or memory ran out.
abbrev pub GaveRefusal : {X : Type 0} → Result X Error → Error → Type 0
GaveRefusal result e = MatchResult result (λ _. ⊥) (λ f. (f ≡ e) ⊎ (f ≡ refusal.Memory))

-- an error other than out of memory has this meaning
abbrev pub RefusedSo : {X : Type 0} → Result X Error → (Error → Type 0) → Type 0
RefusedSo result Means = IfErr result (λ e. e ≢ refusal.Memory → Means e)

-- The first byte opens what a reader needs memory for: a string, an array, a map or a tag, and no
-- fault is in it. Elsewhere memory is never needed.
abbrev pub MayWantMemory : List ℕ → Type 0
MayWantMemory [] = ⊥
MayWantMemory (first ∷ b) =
    (2 ≤ first / 32) × (first / 32 ≤ 6) × ((first % 32 < 28) ⊎ ((first % 32 ≡ 31) × (first / 32 ≤ 5)))

-- how many items there are in an item, itself and the chunks of strings counted
abbrev pub atom_size : Atom → ℕ
atom_size (chunked_string kind cs) = 1 + length cs
atom_size _ = 1

abbrev mutual
  pub size : Item → ℕ
  size (atom a) = atom_size a
  size (array is w) = 1 + items_size is
  size (spec.map ps w) = 1 + pairs_size ps
  size (tagged t w i) = 1 + size i

  pub items_size : Items → ℕ
  items_size no_items = 0
  items_size (item i is) = size i + items_size is

  pub pairs_size : Pairs → ℕ
  pairs_size no_pairs = 0
  pairs_size (pair k v ps) = size k + (size v + pairs_size ps)
