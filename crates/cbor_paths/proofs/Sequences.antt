-- If some items are followed by more items, all of them are one sequence (`ItemsThen`), and their outputs, one after
-- the other, are the output of all (`IsShownOfFirst`). Bytes that come later change neither the items nor the output.
use Rattle.std.proofs.Common.{ℕ, List, [], ◌∷◌, ◌++◌, take, drop, refl, sym, ap, subst, ◌∙◌}
use Rattle.std.proofs.Common.{append-nil, append_assoc, take-append-drop}
use Rattle.cbor_grammar.specs.Item.{Item}
use Rattle.cbor_grammar.specs.Facts.{IsItem}
use Rattle.cbor_paths.specs.Sequence.{ItemsThen, ShowsEach, IsShownOfFirst}

-- the item at the front
pub one_shown : (Shows : Item → List ℕ → Type 0) (b : List ℕ) (used : ℕ) (i : Item) (output : List ℕ)
    → IsItem (take used b) i → Shows i output → IsShownOfFirst Shows b output (drop used b)
one_shown Shows b used i output h shows = record {
  items = i ∷ [];
  input_is = (take used b, drop used b, sym (take-append-drop used b), h, refl);
  output_is = (output, [], sym (append-nil output), shows, refl);
}

pub items_then : (b : List ℕ) (is js : List Item) (mid rest : List ℕ) → ItemsThen b is mid → ItemsThen mid js rest
    → ItemsThen b (is ++ js) rest
items_then b [] js mid rest first more = subst (λ (x : List ℕ). ItemsThen x js rest) (sym first) more
items_then b (i ∷ is) js mid rest first more =
    (first.0, first.1, first.2, first.3, items_then first.1 is js mid rest first.4 more)

pub shows_both : (Shows : Item → List ℕ → Type 0) (is js : List Item) (a b : List ℕ) → ShowsEach Shows is a
    → ShowsEach Shows js b → ShowsEach Shows (is ++ js) (a ++ b)
shows_both Shows [] js a b none more = subst (λ (x : List ℕ). ShowsEach Shows js (x ++ b)) (sym none) more
shows_both Shows (i ∷ is) js a b first more = (
  first.0,
  first.1 ++ b,
  ap (λ (x : List ℕ). x ++ b) first.2 ∙ append_assoc first.0 first.1 b,
  first.3,
  shows_both Shows is js first.1 b first.4 more,
)

-- the items after the first ones
pub more_shown : (Shows : Item → List ℕ → Type 0) (b out mid more rest : List ℕ) → IsShownOfFirst Shows b out mid
    → IsShownOfFirst Shows mid more rest → IsShownOfFirst Shows b (out ++ more) rest
more_shown Shows b out mid more rest first second = record {
  items = first.items ++ second.items;
  input_is = items_then b first.items second.items mid rest first.input_is second.input_is;
  output_is = shows_both Shows first.items second.items out more first.output_is second.output_is;
}

-- the item at the front, and then the others
pub item_then : (b : List ℕ) (used : ℕ) (i : Item) → IsItem (take used b) i → ItemsThen b (i ∷ []) (drop used b)
item_then b used i h = (take used b, drop used b, sym (take-append-drop used b), h, refl)

-- ---- bytes that come later

pub came_later : (came more : List ℕ) (items : List Item) (rest : List ℕ) → ItemsThen came items rest
    → ItemsThen (came ++ more) items (rest ++ more)
came_later came more [] rest h = ap (λ (x : List ℕ). x ++ more) h
came_later came more (i ∷ is) rest h = (
  h.0,
  h.1 ++ more,
  ap (λ (x : List ℕ). x ++ more) h.2 ∙ append_assoc h.0 h.1 more,
  h.3,
  came_later h.1 more is rest h.4,
)

pub shown_later : (Shows : Item → List ℕ → Type 0) (came more written rest : List ℕ)
    → IsShownOfFirst Shows came written rest → IsShownOfFirst Shows (came ++ more) written (rest ++ more)
shown_later Shows came more written rest h = record {
  items = h.items;
  input_is = came_later came more h.items rest h.input_is;
  output_is = h.output_is;
}
