-- For `walk.rt` and `names.rt`: the texts of an item in JSON in which no object has a name twice (`UniqueTexts`), and
-- where the names of an object are in a text (`AreAt`).
use Rattle.std.specs.Prelude.{◌≡◌, ℕ, ◌+◌, ◌≤◌, List, [], ◌∷◌, ◌++◌, codes, length, Some}
use Rattle.std.specs.Cmp.Lexicographic.{slice_cmp}
use Rattle.std.specs.List.{AllZip, between}
use Rattle.std.specs.declared.cmp.Ordering.{Ordering}
use Rattle.std.specs.Ordering.{nat_cmp, ordering_then}
use Rattle.json.specs.Json.{Json, document}
use Rattle.json.specs.Strict.{HasUniqueKeys, AreDistinct}
use Rattle.cbor_grammar.specs.declared.layout.ContainerStyle.{ContainerStyle}
use Rattle.cbor_grammar.specs.Item as spec
use Rattle.cbor_grammar.specs.Item.{Item, atom, array, tagged, Pairs, no_pairs, pair, pair_count}
use Rattle.cbor_grammar.specs.NotationText.{members_layout}
use Rattle.cbor_grammar.specs.WellFormed.{levels_left}
use Rattle.cbor_notation_writer.specs.declared.parts.Container.{Container}
use Rattle.cbor_notation_writer.specs.declared.parts.Container.TheVariants.{Map}
use Rattle.cbor_notation_writer.specs.Dialect.{Texts, Writer, Listed, TextWith, TextsOf, count_of, style_at}
use Rattle.cbor_json.specs.JsonLeaves.{json_leaves}
use Rattle.cbor_json.specs.declared.names.Name.{Name}
use Rattle.cbor_json.specs.declared.print.place.JsonPlace.{JsonPlace}
use Rattle.cbor_json.specs.declared.print.place.Role.{Role}
use Rattle.cbor_json.specs.declared.print.place.Role.TheVariants as role

-- ---- names in a text

-- the shorter names first
abbrev pub name_order : List ℕ → List ℕ → Ordering
name_order a b = ordering_then (nat_cmp (length a) (length b)) (slice_cmp nat_cmp a b)

-- the name is there
abbrev pub IsAt : List ℕ → Name → List ℕ → Type 0
IsAt text name n = (between name.start name.end text ≡ n) × (name.end ≤ length text)

-- what is written between these two texts, of the key that this many bytes begin with
abbrev pub name_between : List ℕ → List ℕ → ℕ → Name
name_between before after left = record { start = length before; end = length after; left = left }

abbrev pub AreAt : List ℕ → List Name → List (List ℕ) → Type 0
AreAt text names ns = AllZip (IsAt text) names ns

-- ---- texts

-- no object of the JSON that the text is has a key twice
abbrev pub IsUnique : List ℕ → Type 0
IsUnique t = (j : Json) → document t ≡ Some j → HasUniqueKeys j

abbrev pub UniqueAs : Role → List ℕ → Type 0
UniqueAs role.Key t = Unit {0}
UniqueAs role.InKey t = Unit {0}
UniqueAs s t = IsUnique t

-- the texts of an item, of which none has an object with a key twice
abbrev pub UniqueTexts : ℕ → Writer JsonPlace
UniqueTexts left p i t = TextsOf json_leaves left p i t × UniqueAs p.role t

-- a key by its name, and its value
abbrev pub NamedPair : Writer JsonPlace → JsonPlace → Item → Item → List ℕ → Texts
NamedPair write p k v n m =
    (b : List ℕ) × write p k n × write (json_leaves.value k p) v b × (m ≡ n ++ (codes ": " ++ b))

abbrev pub NamedPairs : Writer JsonPlace → JsonPlace → Pairs → List (List ℕ) → List (List ℕ) → Type 0
NamedPairs write p no_pairs [] [] = Unit {0}
NamedPairs write p no_pairs [] (m ∷ ms) = ⊥
NamedPairs write p no_pairs (n ∷ ns) ms = ⊥
NamedPairs write p (pair k v ps) [] ms = ⊥
NamedPairs write p (pair k v ps) (n ∷ ns) [] = ⊥
NamedPairs write p (pair k v ps) (n ∷ ns) (m ∷ ms) =
    NamedPair write p k v n m × NamedPairs write (json_leaves.next (json_leaves.value k p)) ps ns ms

-- a map whose names differ
abbrev pub NamedText : Writer JsonPlace → JsonPlace → Container → ContainerStyle → Pairs → Texts
NamedText write p c l ps t =
    (ns ms : List (List ℕ)) × NamedPairs write (json_leaves.inside c (members_layout l) p) ps ns ms × AreDistinct ns
    × Listed json_leaves p c l ms t

-- an item, the items in it written by `write`
abbrev pub UniqueWith : ℕ → Writer JsonPlace → JsonPlace → Item → Texts
UniqueWith left write p (atom a) t = TextWith json_leaves left write p (atom a) t
UniqueWith left write p (array is w) t = TextWith json_leaves left write p (array is w) t
UniqueWith left write p (spec.map ps w) t =
    NamedText write p (Map (count_of w (pair_count ps))) (style_at json_leaves p (spec.map ps w)) ps t
UniqueWith left write p (tagged n w i) t = TextWith json_leaves left write p (tagged n w i) t

-- the texts of an item whose head is read
abbrev pub UniqueHere : JsonPlace → Item → Texts
UniqueHere p = let left = levels_left (p.level + 1) in UniqueWith left (UniqueTexts left) p
