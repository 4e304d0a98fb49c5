-- `Sound` says of a reader: what it returns is what the grammar says of the front of the text, and its error is one
-- that the text allows (`MayRefuse`). A reader stays `Sound` if bytes are taken before it (`moved`), if another `Sound`
-- reader follows (`sound_then`), or if its result is tested (`sound_check`).
use Rattle.std.proofs.Common.{◌≡◌, ℕ, suc, ◌+◌, ◌≤◌, Bool, true, false, cond, ◌==◌, List, [], ◌∷◌, ◌++◌, length, take}
use Rattle.std.proofs.Common.{drop, Option, Some, None, Ok, Err, Result, ◌⊎◌, inl, inr, refl, sym, ap, ◌∙◌}
use Rattle.std.proofs.Common.{append_assoc, arith, take-append-drop}
use Rattle.std.specs.Prelude.{nat_eq}
use Rattle.std.specs.List.{count_by, starts_with}
use Rattle.std.proofs.lemmas.Bool.{cases_eq, eq-eqb, ne_eqb}
use Rattle.std.proofs.lemmas.List.Sums.{sum_by-append, sum_by-cons}
use Rattle.std.proofs.lemmas.Slice.Eq.{bytes_eq-Decides}
use Rattle.cbor_grammar.specs.declared.error.Error.{Error}
use Rattle.cbor_grammar.specs.declared.error.Error.TheVariants as refusal
use Rattle.cbor_grammar.specs.Reading.{Read, ◌>>=◌}
use Rattle.cbor_notation.specs.mirror.NotationReading.{or_refused, after_byte, after_word}
use Rattle.cbor_grammar.specs.NotationRefused.{is_opening, openings, MayRefuse}

-- ---- what is said of a part of a text is said of the whole

count_front : (p : ℕ → Bool) (xs ys : List ℕ) → count_by p ys ≤ count_by p (xs ++ ys)
count_front p xs ys = omega (arith, sum_by-append (λ x. cond (p x) 1 0) xs ys)

pub may_later : (levels : ℕ) (text front rest : List ℕ) (e : Error) → text ≡ front ++ rest → MayRefuse levels rest e
    → MayRefuse levels text e
may_later levels text front rest refusal.TooDeep is h = rw is (omega (arith, count_front is_opening front rest))
may_later levels text front rest refusal.PastWidth is h = rw is (omega (arith, count_front (λ b. b == 95) front rest))
may_later levels text front rest refusal.Utf8 is h = rw is (omega (arith, count_front (λ b. b == 34) front rest))
may_later levels text front rest refusal.Notation is h = tt
may_later levels text front rest _ is h = absurd h

-- after an opening one level less is left
pub may_open : (levels : ℕ) (text front : List ℕ) (b : ℕ) (rest : List ℕ) (e : Error) → text ≡ front ++ b ∷ rest
    → is_opening b ≡ true → MayRefuse levels rest e → MayRefuse (suc levels) text e
may_open levels text front b rest refusal.TooDeep is opens h =
    let one : openings (b ∷ rest) ≡ 1 + openings rest = sum_by-cons (λ x. cond (is_opening x) 1 0) b rest
    ∙ rw opens refl in
    rw is (omega (arith, one, count_front is_opening front (b ∷ rest)))
may_open levels text front b rest refusal.PastWidth is opens h =
    rw is (omega (arith, count_front (λ b. b == 95) front (b ∷ rest), count_front (λ b. b == 95) (b ∷ []) rest))
may_open levels text front b rest refusal.Utf8 is opens h =
    rw is (omega (arith, count_front (λ b. b == 34) front (b ∷ rest), count_front (λ b. b == 34) (b ∷ []) rest))
may_open levels text front b rest refusal.Notation is opens h = tt
may_open levels text front b rest _ is opens h = absurd h

-- ---- readers

-- what was read is such, or the refusal may be
abbrev pub Sound : {X : Type 0} → ℕ → (List ℕ → X → Type 0) → List ℕ → Read X → Type 0
Sound levels Is text (Ok x) = (front : List ℕ) × (text ≡ front ++ x.1) × Is front x.0
Sound levels Is text (Err e) = MayRefuse levels text e

-- the same of what follows a front
pub moved : {X : Type 0} (levels : ℕ) (Is : List ℕ → X → Type 0) (text front rest : List ℕ) (r : Read X)
    → text ≡ front ++ rest → Sound levels (λ g x. Is (front ++ g) x) rest r → Sound levels Is text r
moved levels Is text front rest (Ok x) is s =
    (front ++ s.0, is ∙ ap (λ (z : List ℕ). front ++ z) s.1 ∙ sym (append_assoc front s.0 x.1), s.2)
moved levels Is text front rest (Err e) is s = may_later levels text front rest e is s

-- the same after an opening
pub moved_in : {X : Type 0} (levels : ℕ) (Is : List ℕ → X → Type 0) (text front : List ℕ) (b : ℕ) (rest : List ℕ)
    (r : Read X) → text ≡ front ++ b ∷ rest → is_opening b ≡ true → Sound levels (λ g x. Is (front ++ b ∷ g) x) rest r
    → Sound (suc levels) Is text r
moved_in levels Is text front b rest (Ok x) is opens s =
    (front ++ b ∷ s.0, is ∙ ap (λ (z : List ℕ). front ++ b ∷ z) s.1 ∙ sym (append_assoc front (b ∷ s.0) x.1), s.2)
moved_in levels Is text front b rest (Err e) is opens s = may_open levels text front b rest e is opens s

-- a weaker claim
pub weaker : {X : Type 0} (levels : ℕ) (Is Such : List ℕ → X → Type 0) (text : List ℕ) (r : Read X)
    → ((front : List ℕ) (x : X) → Is front x → Such front x) → Sound levels Is text r → Sound levels Such text r
weaker levels Is Such text (Ok x) h s = (s.0, s.1, h s.0 x.0 s.2)
weaker levels Is Such text (Err e) h s = s

-- the same, where what was read is in front of the text
pub weaker_here : {X : Type 0} (levels : ℕ) (Is Such : List ℕ → X → Type 0) (text : List ℕ) (r : Read X)
    → ((front rest : List ℕ) (x : X) → text ≡ front ++ rest → Is front x → Such front x) → Sound levels Is text r
    → Sound levels Such text r
weaker_here levels Is Such text (Ok x) h s = (s.0, s.1, h s.0 x.1 x.0 s.1 s.2)
weaker_here levels Is Such text (Err e) h s = s

-- one reader and then another
pub sound_then : {A B : Type 0} (levels : ℕ) (IsA : List ℕ → A → Type 0) (IsB : List ℕ → B → Type 0) (text : List ℕ)
    (r : Read A) (f : A × List ℕ → Read B) → Sound levels IsA text r
    → ((a : A) (front rest : List ℕ) → text ≡ front ++ rest → IsA front a
    → Sound levels (λ g b. IsB (front ++ g) b) rest (f (a, rest))) → Sound levels IsB text (r >>= f)
sound_then levels IsA IsB text (Ok x) f s h = moved levels IsB text s.0 x.1 (f x) s.1 (h x.0 s.0 x.1 s.1 s.2)
sound_then levels IsA IsB text (Err e) f s h = s

-- a reader, and what is made of its answer
pub sound_map : {A B : Type 0} (levels : ℕ) (IsA : List ℕ → A → Type 0) (IsB : List ℕ → B → Type 0) (text : List ℕ)
    (r : Read A) (make : A → B) → Sound levels IsA text r
    → ((front : List ℕ) (a : A) → IsA front a → IsB front (make a))
    → Sound levels IsB text (r >>= λ x. Ok (make x.0, x.1))
sound_map levels IsA IsB text (Ok x) make s h = (s.0, s.1, h s.0 x.0 s.2)
sound_map levels IsA IsB text (Err e) make s h = s

checked_so : {B : Type 0} (levels : ℕ) (Is : List ℕ → B → Type 0) (text front rest : List ℕ) → text ≡ front ++ rest
    → (r : Result B Error) → ((b : B) → r ≡ Ok b → Is front b) → ((e : Error) → r ≡ Err e → MayRefuse levels text e)
    → Sound levels Is text (r >>= λ b. Ok (b, rest))
checked_so levels Is text front rest is (Ok b) ok odd = (front, is, ok b refl)
checked_so levels Is text front rest is (Err e) ok odd = odd e refl

-- a reader, and a test of its answer
pub sound_check : {A B : Type 0} (levels : ℕ) (IsA : List ℕ → A → Type 0) (IsB : List ℕ → B → Type 0) (text : List ℕ)
    (r : Read A) (check : A → Result B Error) → Sound levels IsA text r
    → ((front : List ℕ) (a : A) (b : B) → IsA front a → check a ≡ Ok b → IsB front b)
    → ((front rest : List ℕ) (a : A) (e : Error) → text ≡ front ++ rest → IsA front a → check a ≡ Err e
    → MayRefuse levels text e)
    → Sound levels IsB text (r >>= λ x. check x.0 >>= λ b. Ok (b, x.1))
sound_check levels IsA IsB text (Err e) check s ok odd = s
sound_check levels IsA IsB text (Ok x) check s ok odd =
    checked_so levels IsB text s.0 x.1 s.1 (check x.0) (λ b is. ok s.0 x.0 b s.2 is)
    (λ e is. odd s.0 x.1 x.0 e s.1 s.2 is)

-- what an option holds, and else no notation
pub sound_refused : {X : Type 0} (levels : ℕ) (Is : List ℕ → X → Type 0) (text : List ℕ) (o : Option (X × List ℕ))
    → ((x : X × List ℕ) → o ≡ Some x → (front : List ℕ) × (text ≡ front ++ x.1) × Is front x.0)
    → Sound levels Is text (or_refused o)
sound_refused levels Is text None h = tt
sound_refused levels Is text (Some x) h = h x refl

pub sound_option : {A B : Type 0} (levels : ℕ) (Is : List ℕ → B → Type 0) (text : List ℕ) (o : Option A)
    (f : A → Read B) → ((a : A) → o ≡ Some a → Sound levels Is text (f a)) → Sound levels Is text (or_refused o >>= f)
sound_option levels Is text None f h = tt
sound_option levels Is text (Some a) f h = h a refl

-- ---- bytes and words

pub a_test : (t : Bool) → (t ≡ true) ⊎ (t ≡ false)
a_test true = inl refl
a_test false = inr refl

pub none_some : {X : Type 0} (x : X) → (let o : Option X = None in o ≡ Some x) → ⊥
none_some x e = cc

pub after_byte_is : (byte : ℕ) (text rest : List ℕ) → after_byte byte text ≡ Some rest → text ≡ byte ∷ rest
after_byte_is byte [] rest e = absurd cc
after_byte_is byte (b ∷ text) rest e =
    elim (cases_eq b byte) [
      | inl is ↦ let found : Some text ≡ Some rest = rw (eq-eqb b byte is) at e in cc
      | inr other ↦ absurd (none_some rest (rw (ne_eqb b byte other) at e))
    ]

pub after_word_is : (word text rest : List ℕ) → after_word word text ≡ Some rest → text ≡ word ++ rest
after_word_is word text rest e =
    elim (a_test (starts_with nat_eq text word)) [
      | inl this ↦
          let front : word ≡ take (length word) text = (bytes_eq-Decides word (take (length word) text)).0 this in
          let found : Some (drop (length word) text) ≡ Some rest = rw this at e in
          let behind : drop (length word) text ≡ rest = cc in
          sym (take-append-drop (length word) text) ∙ ap (λ (z : List ℕ). z ++ drop (length word) text) (sym front)
          ∙ ap (λ (z : List ℕ). word ++ z) behind
      | inr other ↦ absurd (none_some rest (rw other at e))
    ]
