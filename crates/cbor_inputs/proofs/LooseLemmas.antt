-- For `kept` of `loose.rt`: `loose` of a text from a place on is the character there, if its turn keeps it (`turn_of`),
-- and then `loose` of the text after it. So if the character is appended or skipped as its turn says, the digits so far
-- and `loose` of the rest are still `loose` of the whole text.
use Rattle.std.proofs.Common.{◌≡◌, ℕ, ◌+◌, ◌<◌, Bool, true, false, List, [], ◌∷◌, ◌++◌, length, drop, get_or, refl, sym}
use Rattle.std.proofs.Common.{ap}
use Rattle.std.proofs.Common.{◌∙◌, append_assoc, add-zero}
use Rattle.std.proofs.lemmas.List.{at_drop_more, get_or-drop}
use Rattle.cbor_inputs.specs.declared.loose.Mode.{Mode}
use Rattle.cbor_inputs.specs.Loose.{first_of, turn_of, kept_before, loose}

first_is : (xs : List ℕ) → first_of xs ≡ get_or xs 0 0
first_is [] = refl
first_is (x ∷ xs) = refl

first_of_drop : (t : List ℕ) (j : ℕ) → first_of (drop j t) ≡ get_or t j 0
first_of_drop t j = first_is (drop j t) ∙ get_or-drop j t 0 0 ∙ ap (λ (k : ℕ). get_or t k 0) (add-zero j)

-- the character at a place is kept or not, by its turn
pub loose_turn : (m : Mode) (t : List ℕ) (i : ℕ) (keeps : Bool) (after : Mode) → i < length t
    → (keeps, after) ≡ turn_of m (get_or t i 0) (get_or t (i + 1) 0)
    → loose m (drop i t) ≡ kept_before keeps (get_or t i 0) (loose after (drop (i + 1) t))
loose_turn m t i keeps after within turn =
    let turned : turn_of m (get_or t i 0) (first_of (drop (i + 1) t)) ≡ (keeps, after) =
    ap (λ (x : ℕ). turn_of m (get_or t i 0) x) (first_of_drop t (i + 1)) ∙ sym turn in
    at_drop_more (loose m) t i 0 within
    ∙ ap (λ (p : Bool × Mode). kept_before p.0 (get_or t i 0) (loose p.1 (drop (i + 1) t))) turned

pub keep_step : (digits new : List ℕ) (keeps : Bool) (b : ℕ) (later rest whole : List ℕ) → digits ++ rest ≡ whole
    → rest ≡ kept_before keeps b later → keeps ≡ true → new ≡ digits ++ b ∷ [] → new ++ later ≡ whole
keep_step digits new keeps b later rest whole so_far turn kept pushed =
    let rest_is : rest ≡ b ∷ later = turn ∙ ap (λ (k : Bool). kept_before k b later) kept in
    ap (λ (x : List ℕ). x ++ later) pushed ∙ append_assoc digits (b ∷ []) later
    ∙ ap (λ (x : List ℕ). digits ++ x) (sym rest_is) ∙ so_far

pub skip_step : (digits new : List ℕ) (keeps : Bool) (b : ℕ) (later rest whole : List ℕ) → digits ++ rest ≡ whole
    → rest ≡ kept_before keeps b later → keeps ≡ false → new ≡ digits → new ++ later ≡ whole
skip_step digits new keeps b later rest whole so_far turn skipped same =
    let rest_is : rest ≡ later = turn ∙ ap (λ (k : Bool). kept_before k b later) skipped in
    ap (λ (x : List ℕ). x ++ later) same ∙ ap (λ (x : List ℕ). digits ++ x) (sym rest_is) ∙ so_far
