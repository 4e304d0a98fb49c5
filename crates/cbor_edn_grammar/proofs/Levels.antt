-- An item that is well formed at a level is well formed at each level with a smaller number, further out. In the
-- definitions of EDN, `read_item` returns nothing if no level is left; otherwise it is `read_string` for a text that
-- begins a string, and `other_item` for another text.
use Rattle.std.proofs.Common.{◌≡◌, ℕ, zero, suc, true, false, if◌then◌else◌, ◌+◌, ◌≤◌, List, None}
use Rattle.std.proofs.Common.{refl, ap, ◌∙◌, arith}
use Rattle.cbor_grammar.specs.Item as spec
use Rattle.cbor_grammar.specs.Item.{Item, atom, array, tagged, Items, no_items, item, Pairs}
use Rattle.cbor_grammar.specs.Item.{no_pairs, pair}
use Rattle.cbor_edn_grammar.specs.Strings.{begins_string, read_string}
use Rattle.cbor_edn_grammar.specs.Items.{read_embedded, other_item, read_core, read_item}
use Rattle.cbor_grammar.specs.WellFormed.{WellFormed, WellFormedItems, WellFormedPairs}

mutual
  pub well_above : (low high : ℕ) (i : Item) → low ≤ high → WellFormed high i → WellFormed low i
  well_above low high (atom a) le well = let deep = well.0 in (omega arith, well.1)
  well_above low high (array is w) le well =
      let deep = well.0 in (omega arith, well.1, items_above (low + 1) (high + 1) is (omega arith) well.2)
  well_above low high (spec.map ps w) le well =
      let deep = well.0 in (omega arith, well.1, pairs_above (low + 1) (high + 1) ps (omega arith) well.2)
  well_above low high (tagged t w i) le well =
      let deep = well.0 in (omega arith, well.1, well_above (low + 1) (high + 1) i (omega arith) well.2)

  pub items_above : (low high : ℕ) (is : Items) → low ≤ high → WellFormedItems high is → WellFormedItems low is
  items_above low high no_items le well = tt
  items_above low high (item i is) le well = (well_above low high i le well.0, items_above low high is le well.1)

  pub pairs_above : (low high : ℕ) (ps : Pairs) → low ≤ high → WellFormedPairs high ps → WellFormedPairs low ps
  pairs_above low high no_pairs le well = tt
  pairs_above low high (pair k v ps) le well =
      (well_above low high k le well.0, well_above low high v le well.1, pairs_above low high ps le well.2)

-- ---- an item, by the levels that are left for it

pub none_left : (left : ℕ) (text : List ℕ) → left ≡ 0 → read_item left text ≡ None
unfolding read_item
none_left zero text e = refl
none_left (suc left) text e = absurd (omega arith)

pub one_left : (left inner : ℕ) (text : List ℕ) → left ≡ inner + 1 → read_item left text
    ≡ read_core inner (read_item inner) text
unfolding read_item
one_left zero inner text e = absurd (omega arith)
one_left (suc left) inner text e =
    let same : left ≡ inner = omega arith in ap (λ n. read_core n (read_item n) text) same

pub core_string : (left inner : ℕ) (text : List ℕ) → left ≡ inner + 1 → begins_string text ≡ true
    → read_item left text ≡ read_string (read_embedded (read_item inner)) text
unfolding read_core
core_string left inner text e string =
    let item = read_item inner in
    one_left left inner text e
    ∙ ap (λ b. if b then read_string (read_embedded item) text else other_item inner item text) string

pub core_other : (left inner : ℕ) (text : List ℕ) → left ≡ inner + 1 → begins_string text ≡ false
    → read_item left text ≡ other_item inner (read_item inner) text
unfolding read_core
core_other left inner text e string =
    let item = read_item inner in
    one_left left inner text e
    ∙ ap (λ b. if b then read_string (read_embedded item) text else other_item inner item text) string
