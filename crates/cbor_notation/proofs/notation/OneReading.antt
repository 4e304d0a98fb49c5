-- A text is at most one item, under any limits on levels. `notation_of` returns an item only if the text is this item
-- (`Reads`), and an error only if the text is no item under its limit. If the text is an item under another limit,
-- `notation_of` returns this item or `TooDeep`.
use Rattle.std.proofs.Common.{◌≡◌, ℕ, ◌-◌, ◌≤◌, List, [], Ok, Err, ◌⊎◌, inl, inr, refl, sym, ap, ◌∙◌, subst, arith}
use Rattle.std.proofs.lemmas.Bool.{cases_lt}
use Rattle.cbor_grammar.specs.declared.error.Error.TheVariants as refusal
use Rattle.cbor_grammar.specs.Item.{Item}
use Rattle.cbor_grammar.specs.Reading.{Read}
use Rattle.cbor_grammar.specs.Notation.{Reads}
use Rattle.cbor_notation.specs.mirror.NotationReading.{read_item, notation_of}
use Rattle.cbor_notation.proofs.notation.ItemsFound.{item_whole}
use Rattle.cbor_notation.proofs.notation.Levels.{Grows, levels_grow}
use Rattle.std.proofs.Common.{Result}
use Rattle.cbor_grammar.specs.declared.error.Error.{Error}
use Rattle.cbor_grammar.specs.NotationRefused.{IsAnswered}
use Rattle.cbor_notation.proofs.notation.ItemsFound.{notation_again}
use Rattle.cbor_notation.proofs.notation.sound.Items.{notation_sound}

pub levels_more : (left limit : ℕ) (text : List ℕ) → left ≤ limit → Grows (read_item left text) (read_item limit text)
levels_more left limit text le = subst (λ (n : ℕ). Grows (read_item left text) (read_item n text)) (omega arith)
    (levels_grow left (limit - left) text)

same_item : (few many : ℕ) (text : List ℕ) (i j : Item) → Reads few text i → Reads many text j
    → Grows (read_item few text) (read_item many text) → i ≡ j
same_item few many text i j is is_too (inl e) = let never : ◌≡◌ {A = Read Item} (Ok (i, [])) (Err refusal.TooDeep) =
    sym (item_whole few text i is) ∙ e in cc never
same_item few many text i j is is_too (inr e) =
    let both : ◌≡◌ {A = Read Item} (Ok (i, [])) (Ok (j, [])) = sym (item_whole few text i is)
    ∙ (e ∙ item_whole many text j is_too) in
    let one : ◌≡◌ {A = Item × List ℕ} (i, []) (j, []) = cc both in
    ap (λ (x : Item × List ℕ). x.0) one

-- a text is at most one item, under any limits
pub one_reading : (limit other : ℕ) (text : List ℕ) (i j : Item) → Reads limit text i → Reads other text j → i ≡ j
one_reading limit other text i j is is_too =
    elim (cases_lt limit other) [
      | inl less ↦ same_item limit other text i j is is_too (levels_more limit other text (omega arith))
      | inr le ↦ sym (same_item other limit text j i is_too is (levels_more other limit text le))
    ]

-- what one limit reads is read under any other, or is TooDeep there
pub read_or_too_deep : (limit other : ℕ) (text : List ℕ) (i : Item) → Reads other text i
    → (notation_of limit text ≡ Err refusal.TooDeep) ⊎ (notation_of limit text ≡ Ok i)
read_or_too_deep limit other text i is =
    elim (cases_lt other limit) [
      | inl more ↦ above (levels_more other limit text (omega arith))
      | inr le ↦ below (levels_more limit other text le)
    ]
  where
    found : read_item limit text ≡ Ok (i, []) → (notation_of limit text ≡ Err refusal.TooDeep)
        ⊎ (notation_of limit text ≡ Ok i)
    found read = inr (rw read refl)

    above : Grows (read_item other text) (read_item limit text) → (notation_of limit text ≡ Err refusal.TooDeep)
        ⊎ (notation_of limit text ≡ Ok i)
    above (inl e) = let never : ◌≡◌ {A = Read Item} (Ok (i, [])) (Err refusal.TooDeep) =
        sym (item_whole other text i is) ∙ e in absurd (cc never)
    above (inr e) = found (sym e ∙ item_whole other text i is)

    below : Grows (read_item limit text) (read_item other text) → (notation_of limit text ≡ Err refusal.TooDeep)
        ⊎ (notation_of limit text ≡ Ok i)
    below (inl e) = inl (rw e refl)
    below (inr e) = found (e ∙ item_whole other text i is)

pub no_both : (i : Item) (e : Error) (read : Result Item Error) → read ≡ Ok i → read ≡ Err e → ⊥
no_both i e read is other = let never : ◌≡◌ {A = Result Item Error} (Ok i) (Err e) = sym is ∙ other in cc never

-- what reading gives a text is what the text is, and a text that it refuses is nothing
pub is_read : (limit : ℕ) (text : List ℕ) (i : Item) → notation_of limit text ≡ Ok i → Reads limit text i
is_read limit text i e = subst (IsAnswered limit text) e (notation_sound limit text)

pub not_read : (limit : ℕ) (text : List ℕ) (e : Error) → notation_of limit text ≡ Err e → (i : Item)
    → ¬ (Reads limit text i)
not_read limit text e refused i is = no_both i e (notation_of limit text) (notation_again limit text i is) refused
