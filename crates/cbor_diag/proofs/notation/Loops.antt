-- Reading the members of a list in notation, one turn of the loop at a time: a turn fails with the error of its member
-- or of a missing comma, ends at the closing byte, or goes on after the comma with one member more. Before the first
-- member, `read_members` ends at once or begins the loop.
use Rattle.std.proofs.Common.{◌≡◌, ℕ, zero, suc, ◌<◌, ◌≤◌, List, [], ◌∷◌, ◌++◌, length, Some, None, Ok, Err, refl, sym}
use Rattle.std.proofs.Common.{ap, subst, ◌∙◌, append_assoc, arith}
use Rattle.std.proofs.lemmas.List.{append-nil}
use Rattle.cbor_grammar.specs.declared.error.Error.{Error}
use Rattle.cbor_grammar.specs.declared.error.Error.TheVariants as refusal
use Rattle.cbor_grammar.specs.Reading.{Read, ◌>>=◌, Fails}
use Rattle.cbor_notation.specs.mirror.NotationReading.{or_refused, after_byte, after_end, skip_blank, more_members}
use Rattle.cbor_notation.specs.mirror.NotationReading.{members_from, members_or_end, read_members}
use Rattle.cbor_diag.proofs.notation.ChunkLoops.{Fails-bind, onto, onto_fails}

-- ---- the members of a list

-- a list that is closed before any member
pub members_closed : {X : Type 0} (read : List ℕ → Read X) (close : ℕ) (text : List ℕ) {rest after : List ℕ}
    {front : List X} → front ≡ [] → rest ≡ skip_blank text → after_end close rest ≡ Some after
    → read_members read close text ≡ Ok (front, after)
unfolding read_members
members_closed read close text {rest} {after} none blank e =
    ap (λ b. members_or_end read close b (after_end close b)) (sym blank) ∙ ap (members_or_end read close rest) e
    ∙ ap (λ f. Ok (f, after)) (sym none)

-- a list that is not closed before any member
pub members_first : {X : Type 0} (read : List ℕ → Read X) (close : ℕ) (text rest : List ℕ) → rest ≡ skip_blank text
    → after_end close rest ≡ None → read_members read close text ≡ members_from read close (suc (length rest)) rest
unfolding read_members
members_first read close text rest blank e =
    ap (λ b. members_or_end read close b (after_end close b)) (sym blank) ∙ ap (members_or_end read close rest) e

-- the same by the text alone
pub members_opened : {X : Type 0} (read : List ℕ → Read X) (close : ℕ) (text : List ℕ)
    → after_end close (skip_blank text) ≡ None
    → read_members read close text ≡ members_from read close (suc (length (skip_blank text))) (skip_blank text)
members_opened read close text e = members_first read close text (skip_blank text) refl e

-- before the first member
pub members_begin : {X : Type 0} (read : List ℕ → Read X) (close : ℕ) (text : List ℕ) (front : List X) → front ≡ []
    → (n : ℕ) × (length text < n) × (onto (λ xs. front ++ xs) (members_from read close n text)
    ≡ members_from read close (suc (length text)) text)
members_begin read close text front none = (suc (length text), omega arith, whole) where
  onto_nothing : {X : Type 0} (r : Read (List X)) → onto (λ xs. [] ++ xs) r ≡ r
  onto_nothing (Ok r) = refl
  onto_nothing (Err e) = refl

  whole : onto (λ xs. front ++ xs) (members_from read close (suc (length text)) text)
      ≡ members_from read close (suc (length text)) text
  whole =
      ap (λ f. onto (λ xs. f ++ xs) (members_from read close (suc (length text)) text)) none
      ∙ onto_nothing (members_from read close (suc (length text)) text)

pub more_from : {X : Type 0} (front front' : List X) (x : X) (r : Read (List X)) → front' ≡ front ++ x ∷ []
    → onto (λ xs. front ++ xs) (r >>= λ xs. Ok (x ∷ xs.0, xs.1)) ≡ onto (λ xs. front' ++ xs) r
more_from front front' x (Ok r) e = ap (λ xs. Ok (xs, r.1))
    (sym (append_assoc front (x ∷ []) r.0) ∙ ap (λ f. f ++ r.0) (sym e))
more_from front front' x (Err e) _ = refl

-- there is room for one more
room_left : (n k : ℕ) → k < n → (m : ℕ) × (n ≡ suc m)
room_left zero k lt = absurd (omega arith)
room_left (suc m) k lt = (m, refl)

module _ {X : Type 0} (read : List ℕ → Read X) (close : ℕ) (front : List X) (n : ℕ) (text : List ℕ)
    (total : Read (List X)) (room : length text < n)
    (so_far : onto (λ xs. front ++ xs) (members_from read close n text) ≡ total) where
  -- what follows the member that is read
  behind : ℕ → X → List ℕ → Read (List X)
  behind m x after = more_members (members_from read close m) after (after_end close after)

  turned : (r : (m : ℕ) × (n ≡ suc m)) → onto (λ xs. front ++ xs)
      (read text >>= λ x. behind r.0 x.0 x.1 >>= λ xs. Ok (x.0 ∷ xs.0, xs.1)) ≡ total
  unfolding behind members_from
  turned r = sym (ap (λ k. onto (λ xs. front ++ xs) (members_from read close k text)) r.1) ∙ so_far

  pub member_fails : (e : Error) → Fails e (read text) → Fails e total
  member_fails e h =
      let r = room_left n (length text) room in
      onto_fails e (λ xs. front ++ xs) _ total
      (Fails-bind e (read text) (λ x. behind r.0 x.0 x.1 >>= λ xs. Ok (x.0 ∷ xs.0, xs.1)) h) (turned r)

  one_read : (r : (m : ℕ) × (n ≡ suc m)) (x : X) (after : List ℕ) → read text ≡ Ok (x, after)
      → onto (λ xs. (front ++ x ∷ []) ++ xs) (behind r.0 x after) ≡ total
  one_read r x after e =
      sym (more_from front (front ++ x ∷ []) x (behind r.0 x after) refl)
      ∙ sym (ap (λ y. onto (λ xs. front ++ xs) (y >>= λ x. behind r.0 x.0 x.1 >>= λ xs. Ok (x.0 ∷ xs.0, xs.1))) e)
      ∙ turned r

  pub member_last : {x : X} {after end : List ℕ} → read text ≡ Ok (x, after) → after_end close after ≡ Some end
      → total ≡ Ok (front ++ x ∷ [], end)
  unfolding behind
  member_last {x} {after} {end} r e =
      let left = room_left n (length text) room in
      sym (one_read left x after r) ∙ ap (λ o. onto (λ xs. (front ++ x ∷ []) ++ xs)
      (more_members (members_from read close left.0) after o)) e
      ∙ ap (λ xs. Ok (xs, end)) (append-nil (front ++ x ∷ []))

  comma : (m : ℕ) (x : X) (after : List ℕ) → after_end close after ≡ None
      → behind m x after ≡ (or_refused (after_byte 44 after) >>= members_from read close m)
  unfolding behind
  comma m x after ended = ap (more_members (members_from read close m) after) ended

  pub no_comma : {x : X} {after : List ℕ} (e : Error) → read text ≡ Ok (x, after)
      → (after_end close after ≡ None) × (e ≡ refusal.Notation)
      × (or_refused (after_byte 44 after) ≡ Err refusal.Notation) → Fails e total
  no_comma {x} {after} e r none =
      let left = room_left n (length text) room in
      let missing = subst (λ d. Fails d (or_refused (after_byte 44 after))) (sym none.1) none.2 in
      let failed = Fails-bind e (or_refused (after_byte 44 after)) (members_from read close left.0) missing in
      onto_fails e (λ xs. (front ++ x ∷ []) ++ xs) (behind left.0 x after) total
      (subst (λ b. Fails e b) (sym (comma left.0 x after none.0)) failed) (one_read left x after r)

  pub member_more : {x : X} {after next : List ℕ} → read text ≡ Ok (x, after) → after_end close after ≡ None
      → or_refused (after_byte 44 after) ≡ Ok next → length after ≤ length text → length next < length after
      → (m : ℕ) × (length next < m) × (onto (λ xs. (front ++ x ∷ []) ++ xs) (members_from read close m next) ≡ total)
  member_more {x} {after} {next} r ended found shorter less =
      let left = room_left n (length text) room in
      let more = comma left.0 x after ended ∙ ap (λ o. o >>= members_from read close left.0) found in
      (left.0, omega (arith, left.1), sym (ap (onto (λ xs. (front ++ x ∷ []) ++ xs)) more) ∙ one_read left x after r)
