-- For strings that are not empty: if each cut takes at least one byte (`Cuts`), as `byte_cut` and `text_cut` do, the
-- pieces of a string are the first one and those of the rest. `text_cut` of a UTF-8 text is its last character boundary
-- within 16 bytes, and a text of at most 24 bytes is one piece.
use lib.Utf8.{encodes}
use Rattle.std.proofs.Common.{◌≡◌, ℕ, zero, suc, ◌+◌, ◌<◌, ◌≤◌, ◌==◌, true, false, min, List, [], ◌∷◌, length, take}
use Rattle.std.proofs.Common.{drop, slice_index, nat_le, inl, inr, refl, sym, ap, ◌∙◌, arith, length-drop}
use Rattle.std.specs.Char.{len_utf8}
use Rattle.std.specs.Str.{IsUtf8, IsCharBoundary}
use Rattle.std.proofs.lemmas.Bool.Decides.{nat_tests}
use Rattle.std.proofs.lemmas.Bool.{cases_lt, false_from_ne_true}
use Rattle.std.proofs.lemmas.Str.{IsCharBoundary-end, IsCharBoundary-past_char, len_utf8_bounds}
use Rattle.cbor_dump.specs.Pieces.{pieces_of, text_pieces, begins_character, last_start, piece_size, text_cut}
use Rattle.cbor_dump.specs.Pieces.{short_text}

-- a cut takes something off whatever is left
abbrev pub Cuts : (List ℕ → ℕ) → Type 0
Cuts cut = (bytes : List ℕ) → 0 < length bytes → 1 ≤ cut bytes

pieces_none : (cut : List ℕ → ℕ) (n : ℕ) → pieces_of cut n [] ≡ []
pieces_none cut zero = refl
pieces_none cut (suc n) = refl

pub shorter : (x : ℕ) (xs : List ℕ) (k n : ℕ) → 1 ≤ k → length (x ∷ xs) ≤ suc n → length (drop k (x ∷ xs)) ≤ n
shorter x xs k n some fits = let left = length-drop k (x ∷ xs) in omega arith

enough : (cut : List ℕ → ℕ) → Cuts cut → (n m : ℕ) (bytes : List ℕ) → length bytes ≤ n → length bytes ≤ m
    → pieces_of cut n bytes ≡ pieces_of cut m bytes
enough cut some n m [] fits fits' = pieces_none cut n ∙ sym (pieces_none cut m)
enough cut some zero m (x ∷ xs) fits fits' = absurd (omega arith)
enough cut some (suc n) zero (x ∷ xs) fits fits' = absurd (omega arith)
enough cut some (suc n) (suc m) (x ∷ xs) fits fits' =
    let k = cut (x ∷ xs) in
    let one = some (x ∷ xs) (omega arith) in
    ap (λ rest. take k (x ∷ xs) ∷ rest) (enough cut some n m (drop k (x ∷ xs)) (shorter x xs k n one fits)
    (shorter x xs k m one fits'))

-- the first piece, and those of what is left
pub pieces_more : (cut : List ℕ → ℕ) → Cuts cut → (bytes : List ℕ) → 0 < length bytes
    → pieces_of cut (length bytes) bytes ≡ take (cut bytes) bytes ∷ pieces_of cut (length (drop (cut bytes) bytes))
    (drop (cut bytes) bytes)
pieces_more cut cuts [] some = absurd (omega arith)
pieces_more cut cuts (x ∷ xs) some =
    let rest = drop (cut (x ∷ xs)) (x ∷ xs) in
    let fits : length rest ≤ length xs = shorter x xs (cut (x ∷ xs)) (length xs) (cuts (x ∷ xs) some) (omega arith) in
    ap (λ r. take (cut (x ∷ xs)) (x ∷ xs) ∷ r) (enough cut cuts (length xs) (length rest) rest fits (omega arith))

abbrev pub byte_cut : List ℕ → ℕ
byte_cut bytes = min (length bytes) piece_size

pub byte_cuts : Cuts byte_cut
byte_cuts bytes some = omega arith

pub text_cuts : Cuts text_cut
text_cuts bytes some = grind (arith, nat_tests)

-- a place where no character begins is no boundary
begins_at : (text : List ℕ) (i : ℕ) → i < length text → IsCharBoundary text i
    → begins_character (slice_index text i) ≡ true
begins_at text i inside here =
    let high = here.1 inside in
    elim (cases_lt (slice_index text i) 128) [
      | inl low ↦ grind (arith, nat_tests)
      | inr past ↦ let top = high past in grind (arith, nat_tests)
    ]

boundary_at : (text : List ℕ) (i : ℕ) → i < length text → begins_character (slice_index text i) ≡ true
    → IsCharBoundary text i
boundary_at text i inside begins = (omega arith, λ _ past. grind (arith, nat_tests))

-- a character begins last where the greatest boundary is
last_is : (text : List ℕ) (f : ℕ) → IsCharBoundary text f → (n : ℕ) → n < length text → f ≤ n
    → ((i : ℕ) → f < i → i ≤ n → IsCharBoundary text i → ⊥) → last_start text n ≡ f
last_is text f here zero inside low nearest = omega arith
last_is text f here (suc n) inside low nearest =
    elim (cases_lt f (suc n)) [
      | inl below ↦
          let others = last_is text f here n (omega arith) (omega arith) (λ i past up. nearest i past (omega arith)) in
          let none : begins_character (slice_index text (suc n)) ≡ false =
          false_from_ne_true _ (λ yes. nearest (suc n) below (omega arith) (boundary_at text (suc n) inside yes)) in
          rw none others
      | inr above ↦
          let same : f ≡ suc n = omega arith in
          let yes : begins_character (slice_index text (suc n)) ≡ true =
          begins_at text (suc n) inside (rw same at here) in
          rw yes (sym same)
    ]

-- a text that isn't empty has a boundary after its first character
first_boundary : (text : List ℕ) → IsUtf8 text → 0 < length text → (i : ℕ) × ((1 ≤ i) × (i ≤ 4) × IsCharBoundary text i)
first_boundary text utf8 some = first_of text utf8.0 utf8 utf8.1.1 some where
  first_of : (text cs : List ℕ) → IsUtf8 text → encodes cs ≡ text → 0 < length text
      → (i : ℕ) × ((1 ≤ i) × (i ≤ 4) × IsCharBoundary text i)
  first_of text [] utf8 e some = let none = ap length e in absurd (omega arith)
  first_of text (c ∷ cs) utf8 e some =
      let bounds = len_utf8_bounds c in
      let place : 0 + len_utf8 c ≡ len_utf8 c = omega arith in (
        len_utf8 c,
        (
          bounds.0,
          bounds.1,
          rw place at
              (IsCharBoundary-past_char text (encodes cs) 0 c (omega arith) utf8 (sym e)),
        ),
      )

-- the cut that `floor_char_boundary` finds
pub floor_is : (text : List ℕ) (f : ℕ) → IsUtf8 text → 0 < length text → f ≤ piece_size → IsCharBoundary text f
    → ((i : ℕ) → f < i → i ≤ piece_size → IsCharBoundary text i → ⊥) → f ≡ text_cut text
floor_is text f utf8 some low here nearest =
    elim (cases_lt piece_size (length text)) [
      | inl long ↦
          let last = last_is text f here piece_size long low nearest in
          let first = first_boundary text utf8 some in
          elim (cases_lt f 1) [
            | inl none ↦ absurd (nearest first.0 (omega (arith, first.1.0)) (omega (arith, first.1.1)) first.1.2)
            | inr one ↦ let past : nat_le (length text) piece_size ≡ false =
                grind (arith, nat_tests) in rw (past, last) (omega arith)
          ]
      | inr short ↦
          let fits : nat_le (length text) piece_size ≡ true = grind (arith, nat_tests) in
          let end : f ≡ length text = (elim (cases_lt f (length text)) as (λ _. f ≡ length text) [
            | inl before ↦ absurd (nearest (length text) before short (IsCharBoundary-end text))
            | inr at ↦ let within = here.0 in omega arith
          ]) in rw fits end
    ]

-- what a test of a length says
pub some_left : (n : ℕ) → false ≡ (n == 0) → 0 < n
some_left n e = grind (arith, nat_tests)

pub none_left : (n : ℕ) → true ≡ (n == 0) → n ≡ 0
none_left n e = grind (arith, nat_tests)

-- a text that is short is in one line
pub text_short : (text : List ℕ) → 0 < length text → length text ≤ short_text → text_pieces text ≡ text ∷ []
text_short [] some short = absurd (omega arith)
text_short (x ∷ xs) some short = let fits : nat_le (length (x ∷ xs)) short_text ≡ true =
    grind (arith, nat_tests) in rw fits refl

pub text_long : (text : List ℕ) → short_text < length text → text_pieces text ≡ pieces_of text_cut (length text) text
text_long [] long = absurd (omega arith)
text_long (x ∷ xs) long = let past : nat_le (length (x ∷ xs)) short_text ≡ false =
    grind (arith, nat_tests) in rw past refl
