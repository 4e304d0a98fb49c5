-- Bytes are at most one sequence of items: two lists of items that the same bytes spell (`SpellsItems`) are equal.
use Rattle.std.proofs.Common.{◌≡◌, ℕ, List, [], ◌++◌, length, refl, sym, ap, ◌∙◌, length-append, arith}
use Rattle.cbor_grammar.specs.Item.{Item, Items, no_items, item}
use Rattle.cbor_grammar.specs.Bytes.{strict, Spells, SpellsItems}
use Rattle.cbor_grammar.specs.Reading.{read_item}
use Rattle.cbor_grammar.proofs.bytes.FoundAgain.{item_again}
use Rattle.cbor_grammar.proofs.bytes.Heads.{ok_is}
use Rattle.cbor_grammar.proofs.bytes.Sizes.{one_byte}
use Rattle.cbor_grammar.proofs.bytes.Strict.{strict_any}

-- the item at the front of bytes is one, and what follows it is too
same_front : (b x r y rest : List ℕ) (i j : Item) → b ≡ x ++ r → b ≡ y ++ rest → Spells strict 1 x i
    → Spells strict 1 y j → (i ≡ j) × (r ≡ rest)
same_front b x r y rest i j is also s t =
    let both = sym (item_again 1 128 x i r refl (strict_any 1 x i s)) ∙ ap (read_item 128) (sym is ∙ also)
    ∙ item_again 1 128 y j rest refl (strict_any 1 y j t) in
    let same = ok_is (i, r) (j, rest) both in
    (ap (λ (p : Item × List ℕ). p.0) same, ap (λ (p : Item × List ℕ). p.1) same)

nothing_first : (x r : List ℕ) (i : Item) → Spells strict 1 x i → [] ≡ x ++ r → ⊥
nothing_first x r i s e = absurd (omega (arith, one_byte 1 x i (strict_any 1 x i s), ap length e, length-append x r))

pub items_once : (is js : Items) (b c : List ℕ) → b ≡ c → SpellsItems strict 1 b is [] → SpellsItems strict 1 c js []
    → is ≡ js
items_once no_items no_items b c e s t = refl
items_once no_items (item j js) b c e s t = absurd (nothing_first t.0 t.1 j t.3 (sym s ∙ e ∙ t.2))
items_once (item i is) no_items b c e s t = absurd (nothing_first s.0 s.1 i s.3 (sym t ∙ sym e ∙ s.2))
items_once (item i is) (item j js) b c e s t =
    let front = same_front b s.0 s.1 t.0 t.1 i j s.2 (e ∙ t.2) s.3 t.3 in
    ap (λ (k : Item). item k is) front.0 ∙ ap (λ (ks : Items). item j ks) (items_once is js s.1 t.1 front.1 s.4 t.4)
