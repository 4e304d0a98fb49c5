-- Parts of a text by their places: the text from one place on is the part up to a later place (`slice_range`) and the
-- text from there on. The length of a rest gives its place. `position_or_len` is the place that `position` finds, or
-- else the length.
use Rattle.std.proofs.Common.{◌≡◌, ℕ, ◌+◌, ◌-◌, ◌<◌, ◌≤◌, Bool, not, nat_lt, List, [], ◌∷◌, ◌++◌, length, take, drop}
use Rattle.std.proofs.Common.{slice_range, get_or, unwrap_or, Option, Some, None, refl, sym, ap, ◌∙◌, inl, inr, arith}
use Rattle.std.specs.List.{position_or_len, position}
use Rattle.std.proofs.lemmas.List.{take-append-drop, drop-drop, drop_more, append_cancel_right, take_rest}
use Rattle.std.proofs.lemmas.List.{length-append, append_assoc}
use Rattle.std.proofs.lemmas.List.Sums.{prefix_len-le-length}
use Rattle.std.proofs.lemmas.Bool.{cases_Bool, cond-true, cond-false, ltb-true, ltb-false}
use Rattle.std.proofs.Math.Seq.{drop-append_seam}

-- the text from one place on is the part up to another place, and the text from that one on
pub part_and_rest : (text : List ℕ) (at end : ℕ) → at ≤ end → drop at text ≡ slice_range text at end ++ drop end text
part_and_rest text at end in_order =
    let rest : drop (end - at) (drop at text) ≡ drop end text = drop-drop (end - at) at text
    ∙ ap (λ (n : ℕ). drop n text) (omega arith) in
    sym (take-append-drop (end - at) (drop at text)) ∙ ap (λ (t : List ℕ). slice_range text at end ++ t) rest

pub part_is : (text front : List ℕ) (at end : ℕ) → at ≤ end → drop at text ≡ front ++ drop end text
    → slice_range text at end ≡ front
part_is text front at end in_order is = append_cancel_right (slice_range text at end) front (drop end text)
    (sym (part_and_rest text at end in_order) ∙ is)

-- the rest of a text by its place, and behind a byte
pub rest_place : (text front rest : List ℕ) → text ≡ front ++ rest → drop (length text - length rest) text ≡ rest
rest_place text front rest is =
    let place : length text - length rest ≡ length front = omega (arith, ap length is, length-append front rest) in
    rw (place, is) (drop-append_seam front rest)

pub place_after : (text front rest : List ℕ) (byte : ℕ) → text ≡ front ++ byte ∷ rest
    → drop (length text - length rest) text ≡ rest
place_after text front rest byte is =
    rest_place text (front ++ byte ∷ []) rest (is ∙ sym (append_assoc front (byte ∷ []) rest))

-- what is read from a place on, and the rest by its place in the whole text
pub from_place : {X : Type 0} (read : List ℕ → Option (X × List ℕ)) (text rest : List ℕ) (at len : ℕ) (x : X)
    → rest ≡ drop at text → read rest ≡ Some (x, drop len rest) → read (drop at text) ≡ Some (x, drop (at + len) text)
from_place {X} read text rest at len x is found = sym (ap read is)
    ∙ (found ∙ ap (λ (t : List ℕ). Some (x, t))
    (ap (drop len) is ∙ drop-drop len at text))

-- the first place that passes
pub first_at : (test : ℕ → Bool) (text : List ℕ) (answer : Option ℕ) (place : ℕ) → answer ≡ position test text
    → answer ≡ Some place → (place ≡ position_or_len test text) × (place < length text)
first_at test text answer place is some =
    let n = position_or_len test text in
    elim (cases_Bool (nat_lt n (length text))) [
      | inl within ↦
          let same : ◌≡◌ {A = Option ℕ} (Some place) (Some n) = sym some ∙ (is ∙ cond-true _ (Some n) None within) in
          let one : place ≡ n = cc same in
          (one, omega (arith, ltb-true n (length text) within))
      | inr past ↦ let never : ◌≡◌ {A = Option ℕ} (Some place) None = sym some
          ∙ (is ∙ cond-false _ (Some n) None past) in cc never
    ]

pub first_nowhere : (test : ℕ → Bool) (text : List ℕ) (answer : Option ℕ) → answer ≡ position test text → answer ≡ None
    → position_or_len test text ≡ length text
first_nowhere test text answer is none =
    let n = position_or_len test text in
    elim (cases_Bool (nat_lt n (length text))) [
      | inl within ↦ let never : ◌≡◌ {A = Option ℕ} None (Some n) = sym none
          ∙ (is ∙ cond-true _ (Some n) None within) in cc never
      | inr past ↦ omega (arith, ltb-false n (length text) past, prefix_len-le-length (λ b. not (test b)) text)
    ]

-- the first place that passes, or the length
pub first_or_length : (test : ℕ → Bool) (text : List ℕ) → unwrap_or (position test text) (length text)
    ≡ position_or_len test text
first_or_length test text =
    let n = position_or_len test text in
    elim (cases_Bool (nat_lt n (length text))) [
      | inl within ↦ rw within refl
      | inr past ↦ rw past (omega (
        arith,
        ltb-false n (length text) past,
        prefix_len-le-length (λ b. not (test b)) text,
      ))
    ]

-- the byte at a place, and what follows
pub from_byte : (text : List ℕ) (at byte : ℕ) → at < length text → get_or text at 0 ≡ byte
    → drop at text ≡ byte ∷ drop (at + 1) text
from_byte text at byte within is = drop_more text at 0 within ∙ ap (λ (b : ℕ). b ∷ drop (at + 1) text) is

-- the first byte, and what follows
pub front_byte : (text : List ℕ) (byte : ℕ) → 1 ≤ length text → get_or text 0 0 ≡ byte
    → text ≡ byte ∷ take (length text - 1) (drop 1 text)
front_byte [] byte some is = absurd (omega arith)
front_byte (first ∷ rest) byte some is = ap (λ (b : ℕ). b ∷ rest) is ∙ ap (λ (t : List ℕ). byte ∷ t)
    (sym (take_rest (first ∷ rest) 1))
