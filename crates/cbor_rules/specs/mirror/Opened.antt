-- For `check.rt`, `keys.rt` and `container.rt`: what the code's `Keys` and `Parts` stand for in `FirstViolation.antt`,
-- and whether a result of the code is what reading gives, unless memory ran out (`Gives`).
use Rattle.std.specs.Prelude.{◌≡◌, ◌≢◌, ◌≤◌, ℕ, List, Bool, false, Option, Some, None, is_some, if◌then◌else◌}
use Rattle.std.specs.Prelude.{Result, Ok, Err}
use Rattle.std.specs.BTreeMap.{BTreeMap, get_by}
use Rattle.std.specs.Cmp.Lexicographic.{slice_cmp}
use Rattle.std.specs.Ordering.{nat_cmp}
use Rattle.std.specs.declared.alloc.Global.{Global}
use denote.Ref.{Bor}
use Rattle.cbor_grammar.specs.WellFormed.{FitsFloat}
use Rattle.cbor_grammar.specs.declared.head.ItemHead.{ItemHead}
use Rattle.cbor_grammar.specs.declared.head.ItemHead.TheVariants as item_head
use Rattle.cbor_rules.specs.declared.keys.Key.{Key}
use Rattle.cbor_rules.specs.declared.keys.Keys.{Keys}
use Rattle.cbor_rules.specs.declared.container.Parts.{Parts}
use Rattle.cbor_rules.specs.declared.container.Parts.TheVariants as code
use Rattle.cbor_rules.specs.FirstViolation.{KeyAt, Kept, Places, no_places, key_violation, with_key, violation_at, Open}
use Rattle.cbor_rules.specs.FirstViolation.{members}
use Rattle.cbor_rules.specs.FirstViolation.{pairs}
use Rattle.cbor_rules.specs.declared.rules.Rules.{Rules}
use Rattle.cbor_rules.specs.declared.kind.ViolationKind.{ViolationKind}
use Rattle.cbor_rules.specs.declared.kind.ViolationKind.TheVariants as kind
use Rattle.cbor_rules.specs.declared.check.Stop.{Stop}
use Rattle.cbor_rules.specs.declared.check.Stop.TheVariants as stop
use Rattle.cbor_rules.specs.declared.check.strings.BadContent.{BadContent}
use Rattle.cbor_rules.specs.declared.check.strings.BadContent.TheVariants as bad

abbrev pub key_of : Key → KeyAt
key_of k = record { place = k.place; bytes = k.bytes.now }

-- where the keys are
abbrev pub tree_places : BTreeMap (Bor (List ℕ)) ℕ → Places
tree_places seen key = get_by (λ k. slice_cmp nat_cmp key k.now) seen

abbrev pub places_in : Option (BTreeMap (Bor (List ℕ)) ℕ) → Places
places_in None = no_places
places_in (Some seen) = tree_places seen

abbrev pub places_of : Keys → Places
places_of keys = places_in keys.places

-- the keys are seen
abbrev pub is_on : Keys → Bool
is_on keys = is_some keys.places

-- the parts of a container of which none is read
abbrev pub parts_of : Parts → Open
parts_of (code.Members a) = members a
parts_of (code.Pairs a) = pairs None no_places a

-- what reading gives; nothing is said of it where memory runs out
abbrev pub Gives : {X : Type 0} → Kept X → Result X Stop → Type 0
Gives kept (Ok x) = kept ≡ Ok x
Gives kept (Err (stop.Violation b)) = kept ≡ Err b
Gives kept (Err stop.OutOfMemory) = Unit {0}

abbrev pub or_stop : {X : Type 0} → Option X → Stop → Result X Stop
or_stop (Some x) s = Ok x
or_stop None s = Err s

-- the same of what was read, or of why reading stops
abbrev pub Reads : {X : Type 0} → Kept X → Option X → Stop → Type 0
Reads kept read s = Gives kept (or_stop read s)

-- why the content of a string stops reading; its head is at these bytes
abbrev pub content_stop : ℕ → List ℕ → BadContent → Stop
content_stop total b (bad.NoItem e) = stop.Violation (violation_at total b (kind.NoItem e))
content_stop total b bad.NotNfc = stop.Violation (violation_at total b kind.NotNfc)
content_stop total b bad.OutOfMemory = stop.OutOfMemory

-- of a text that is in NFC, or is not
abbrev pub if_normal : Bool → Option ViolationKind
if_normal normal = if normal then None else Some kind.NotNfc

abbrev pub kept_found : ℕ → Option ViolationKind → Places → Kept Places
kept_found place None seen = Ok seen
kept_found place (Some kind) seen = Err (record { place = place; kind = kind })

-- the keys that were seen after one key more, if that keeps the rules
abbrev pub kept_key : Rules → Option KeyAt → Places → KeyAt → Kept Places
kept_key rules last seen key = kept_found key.place (key_violation rules last seen key.bytes) (with_key rules key seen)

abbrev pub then_some : {X : Type 0} → Bool → X → Option X
then_some holds x = if holds then Some x else None

-- A violation is in the bytes, and memory runs out only where there is an allocator.
abbrev pub StopFits : Option Global → ℕ → Stop → Type 0
StopFits alloc total (stop.Violation b) = b.place ≤ total
StopFits alloc total stop.OutOfMemory = alloc ≢ None

-- The rules whose check takes memory have an allocator.
abbrev pub HasMemory : Option Global → Rules → Type 0
HasMemory alloc rules = alloc ≡ None → (rules.nfc ≡ false) × (rules.distinct_keys ≡ false)

-- of a float, its bits fit its width
abbrev pub FloatFits : ItemHead → Type 0
FloatFits (item_head.Float bits w) = FitsFloat w bits
FloatFits h = Unit {0}
