-- Bytes are a sequence of items in one way, so a run of the filter has one output: that of all items (`IsOutputOfAll`),
-- or that before one error (`IsOutputBefore`), but not both. The output of some first items is a beginning of it.
use Rattle.std.proofs.Common.{◌≡◌, ℕ, List, [], ◌∷◌, ◌++◌, Ok, Err, inl, inr, refl, sym, ap, ◌∙◌, subst}
use Rattle.std.proofs.Common.{append-nil, arith}
use Rattle.std.specs.List.{flat_map}
use Rattle.std.proofs.lemmas.Grind.{flat_map-append}
use Rattle.cbor_grammar.specs.declared.error.Error.{Error}
use Rattle.cbor_grammar.specs.declared.error.Error.TheVariants as refusal
use Rattle.cbor_diag.specs.Item.{Item}
use Rattle.cbor_diag.specs.Facts.{IsItem}
use Rattle.cbor_diag.specs.Refused.{nothing}
use Rattle.cbor_diag.specs.Reading.{Read, read_item}
use Rattle.cbor_grammar.proofs.bytes.FoundAgain.{item_again}
use Rattle.cbor_grammar.proofs.bytes.CutShort.{cut_again, fault_no_cut}
use Rattle.cbor_grammar.proofs.bytes.Faults.{fault_refuses}
use Rattle.cbor_diag.specs.declared.conversion.form.To.{To}
use Rattle.cbor_diag.specs.Output.{output_of}
use Rattle.cbor_view.specs.Sequence.{ItemsThen, IsOutputOfFirst, IsOutputOfAll, EndsTheItems, IsOutputBefore}

-- ---- what reading returns at the front

-- reading returns this error for the bytes
abbrev EndsReading : List ℕ → Error → Type 0
EndsReading b e = read_item 128 b ≡ Err e

item_read : (b front after : List ℕ) (i : Item) → b ≡ front ++ after → IsItem front i → read_item 128 b ≡ Ok (i, after)
item_read b front after i parts is = ap (read_item 128) parts ∙ item_again 1 128 front i after refl is

end_refused : EndsReading [] refusal.CutShort
end_refused = cut_again 1 128 [] refl (nothing (omega arith))

rest_refused : (rest : List ℕ) (e : Error) → EndsTheItems rest e → EndsReading rest e
rest_refused rest e (inl h) = cut_again 1 128 rest refl h.2 ∙ ap Err (sym h.0)
rest_refused rest e (inr fault) = fault_refuses 1 128 rest e refl fault

no_both : (b after : List ℕ) (i : Item) (e : Error) → read_item 128 b ≡ Ok (i, after) → EndsReading b e → ⊥
no_both b after i e found none = let never : ◌≡◌ {A = Read Item} (Ok (i, after)) (Err e) = sym found ∙ none in cc never

one_error : (b : List ℕ) (e d : Error) → EndsReading b e → EndsReading b d → e ≡ d
one_error b e d none also = let same : ◌≡◌ {A = Read Item} (Err e) (Err d) = sym none ∙ also in cc same

one_front : (b after behind : List ℕ) (i j : Item) → read_item 128 b ≡ Ok (i, after)
    → read_item 128 b ≡ Ok (j, behind) → (i ≡ j) × (after ≡ behind)
one_front b after behind i j found also =
    let same : ◌≡◌ {A = Read Item} (Ok (i, after)) (Ok (j, behind)) = sym found ∙ also in
    let pair : ◌≡◌ {A = Item × List ℕ} (i, after) (j, behind) = cc same in
    (ap (λ (p : Item × List ℕ). p.0) pair, ap (λ (p : Item × List ℕ). p.1) pair)

-- ---- the items of a sequence

-- some first items are the first of all items
continues : (b : List ℕ) (is js : List Item) (rest end : List ℕ) (e : Error) → ItemsThen b is rest → ItemsThen b js end
    → EndsReading end e
    → (ks : List Item) × (js ≡ is ++ ks) × ItemsThen rest ks end
continues b [] js rest end e first all none = (js, refl, subst (λ (x : List ℕ). ItemsThen x js end) first all)
continues b (i ∷ is) [] rest end e first all none =
    absurd (no_both b first.1 i e (item_read b first.0 first.1 i first.2 first.3) (ap (read_item 128) all ∙ none))
continues b (i ∷ is) (j ∷ js) rest end e first all none =
    let one = one_front b first.1 all.1 i j (item_read b first.0 first.1 i first.2 first.3)
    (item_read b all.0 all.1 j all.2 all.3) in
    let later = continues first.1 is js rest end e first.4
    (subst (λ (x : List ℕ). ItemsThen x js end) (sym one.1) all.4) none in
    let item_is = one.0 in
    let items_are = later.1 in
    (later.0, (cc), later.2)

-- after all items there are none
ends_there : (rest : List ℕ) (ks : List Item) (end : List ℕ) (e : Error) → EndsReading rest e → ItemsThen rest ks end
    → (ks ≡ []) × (rest ≡ end)
ends_there rest [] end e none all = (refl, all)
ends_there rest (k ∷ ks) end e none all = absurd
    (no_both rest all.1 k e (item_read rest all.0 all.1 k all.2 all.3) none)

-- ---- their output

module _ (to : To) (input a b rest end : List ℕ) (d : Error) (first : IsOutputOfFirst to input a rest)
    (all : IsOutputOfFirst to input b end) (none : EndsReading end d) where
  -- the output of some first items is a beginning of the whole
  first_output : (more : List ℕ) × (b ≡ a ++ more)
  first_output =
      let more = continues input first.items all.items rest end d first.input_is all.input_is none in
      let items_are = ap (flat_map (output_of to)) more.1 in (
        flat_map (output_of to) more.0,
        all.output_is ∙ items_are ∙ flat_map-append (output_of to) first.items more.0
            ∙ ap (λ (x : List ℕ). x ++ flat_map (output_of to) more.0) (sym first.output_is),
      )

  -- items that no other follows have the whole output
  whole_output : (e : Error) → EndsReading rest e → (a ≡ b) × (rest ≡ end)
  whole_output e ends =
      let more = continues input first.items all.items rest end d first.input_is all.input_is none in
      let there = ends_there rest more.0 end e ends more.2 in
      let items_are : all.items ≡ first.items = more.1 ∙ ap (λ (ks : List Item). first.items ++ ks) there.0
      ∙ append-nil first.items in
      (first.output_is ∙ sym (all.output_is ∙ ap (flat_map (output_of to)) items_are), there.1)

pub of_all : (to : To) (input a b : List ℕ) → IsOutputOfAll to input a → IsOutputOfAll to input b → a ≡ b
of_all to input a b first all = let one = whole_output to input a b [] [] refusal.CutShort first all end_refused
    refusal.CutShort end_refused in one.0

pub before : (to : To) (input a b : List ℕ) (e d : Error) → IsOutputBefore to input e a → IsOutputBefore to input d b
    → (a ≡ b) × (e ≡ d)
before to input a b e d first all =
    let ends = rest_refused first.0 e first.2 in
    let none = rest_refused all.0 d all.2 in
    let one = whole_output to input a b first.0 all.0 d first.1 all.1 none e ends in
    (one.0, one_error first.0 e d ends (ap (read_item 128) one.1 ∙ none))

not_ended : (e : Error) → EndsTheItems [] e → ⊥
not_ended e (inl h) = h.1 refl
not_ended e (inr fault) = fault_no_cut fault
    (one_error [] e refusal.CutShort (fault_refuses 1 128 [] e refl fault) end_refused)

pub not_both : (to : To) (input a b : List ℕ) (e : Error) → IsOutputOfAll to input a → ¬ (IsOutputBefore to input e b)
not_both to input a b e all before =
    let one = whole_output to input b a before.0 [] refusal.CutShort before.1 all end_refused e
    (rest_refused before.0 e before.2) in
    not_ended e (subst (λ (x : List ℕ). EndsTheItems x e) one.1 before.2)

pub first_of_all : (to : To) (input a rest b : List ℕ) → IsOutputOfFirst to input a rest → IsOutputOfAll to input b
    → (more : List ℕ) × (b ≡ a ++ more)
first_of_all to input a rest b first all = first_output to input a b rest [] refusal.CutShort first all end_refused

pub first_before : (to : To) (input a rest b : List ℕ) (e : Error) → IsOutputOfFirst to input a rest
    → IsOutputBefore to input e b → (more : List ℕ) × (b ≡ a ++ more)
first_before to input a rest b e first all =
    first_output to input a b rest all.0 e first all.1 (rest_refused all.0 e all.2)
