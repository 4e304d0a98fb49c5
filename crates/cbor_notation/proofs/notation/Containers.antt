-- `read_core` reads each array and each map that the grammar has (`Opens`, `Listed`), whether its length is definite or
-- indefinite, if `read` reads the items in it (`ReadsAgain`).
use Rattle.std.proofs.Common.{◌≡◌, ℕ, List, [], ◌∷◌, ◌++◌, codes, Option, Some, None, Ok, refl, sym, ap, ◌∙◌}
use Rattle.std.proofs.lemmas.List.{append_assoc}
use Rattle.cbor_grammar.specs.declared.width.IntegerWidth.{IntegerWidth}
use Rattle.cbor_grammar.specs.Item as spec
use Rattle.cbor_grammar.specs.Item.{Item, array, Items, Pairs, no_pairs, pair}
use Rattle.cbor_grammar.specs.Item.{pairs_of}
use Rattle.cbor_grammar.specs.Reading.{Read}
use Rattle.cbor_grammar.specs.Notation.{Members, Listed, list_of, pairs_list, PairOf, Opens}
use Rattle.cbor_notation.specs.mirror.NotationReading.{after_byte, read_members, read_pair, length_of, start_of}
use Rattle.cbor_notation.specs.mirror.NotationReading.{read_core}
use Rattle.cbor_notation.proofs.notation.Ends.{Ends, begins_append, begins_ends, blank_ends, ends_after_byte}
use Rattle.cbor_notation.proofs.notation.Ends.{core_starts}
use Rattle.cbor_notation.proofs.notation.Lists.{ReadsAgain, Stripped, IsClose, follows_further, listed_again}
use Rattle.cbor_notation.proofs.notation.Pieces.{items_again}

pairs_again : (ps : Pairs) → pairs_of (pairs_list ps) ≡ ps
pairs_again no_pairs = refl
pairs_again (pair k v ps) = ap (pair k v) (pairs_again ps)

-- ---- no `_` is first after the opening of a list, but the one that says that its length is indefinite

-- what may be there
abbrev list_fronts : List ℕ
list_fronts = codes ",:]})>/ '<bh\"-[{(ftnus0123456789" ++ (9 ∷ 10 ∷ 13 ∷ [])

module _ {X : Type 0} (Member : List ℕ → X → Type 0) (read : List ℕ → Read X) (it : ReadsAgain Member read) (close : ℕ)
    (closes : IsClose close) where
  no_mark : (xs : List X) (text rest : List ℕ) → Members Member (close ∷ []) text xs
      → after_byte 95 (text ++ rest) ≡ None
  no_mark [] text rest is =
      let whole : text ++ rest ≡ is.0 ++ (is.1 ++ rest) = ap (λ (t : List ℕ). t ++ rest) is.2
      ∙ append_assoc is.0 is.1 rest in
      ap (after_byte 95) whole ∙ ends_after_byte 95 list_fronts (is.0 ++ (is.1 ++ rest)) refl
      (blank_ends (codes ",:]})>") list_fronts is.0 (is.1 ++ rest) refl refl is.3
      (follows_further Member read it close [] closes [] is.1 rest is.4))
  no_mark (x ∷ xs) text rest is =
      let s = it.stripped is.0 x is.3 in
      let tail : List ℕ = s.behind ++ (is.1 ++ rest) in
      let whole : text ++ rest ≡ s.blank ++ tail =
      ap (λ (t : List ℕ). t ++ rest) is.2 ∙ (append_assoc is.0 is.1 rest
      ∙ (ap (λ (t : List ℕ). t ++ (is.1 ++ rest)) s.parts ∙ append_assoc s.blank s.behind (is.1 ++ rest))) in
      ap (after_byte 95) whole ∙ ends_after_byte 95 list_fronts (s.blank ++ tail) refl
      (blank_ends core_starts list_fronts s.blank tail refl refl s.is_blank
      (begins_ends core_starts tail (begins_append core_starts s.behind (is.1 ++ rest) s.starts)))

  -- the members after a bracket, or after it and `_`
  pub opened_again : (xs : List X) (w : Option IntegerWidth) (bracket : ℕ) (opening text rest : List ℕ)
      → Opens (bracket ∷ []) w opening → Listed Member opening (close ∷ []) text xs
      → (behind inner : List ℕ) × (text ++ rest ≡ bracket ∷ behind)
      × (length_of behind (after_byte 95 behind) ≡ (w, inner)) × (read_members read close inner ≡ Ok (xs, rest))
  opened_again xs (Some w) bracket opening text rest opens listed =
      let l = listed_again Member read it close [] closes xs opening text rest listed in
      let none = no_mark xs listed.0 rest listed.2 in (
        listed.0 ++ rest,
        listed.0 ++ rest,
        l.0 ∙ ap (λ (t : List ℕ). t ++ (listed.0 ++ rest)) opens.1,
        rw none (ap (λ (v : IntegerWidth). (Some v, listed.0 ++ rest)) (sym opens.0)),
        l.1,
      )
  opened_again xs None bracket opening text rest opens listed =
      let l = listed_again Member read it close [] closes xs opening text rest listed in
      (95 ∷ (listed.0 ++ rest), listed.0 ++ rest, l.0 ∙ ap (λ (t : List ℕ). t ++ (listed.0 ++ rest)) opens, refl, l.1)

-- ---- pairs

module _ (Reads : List ℕ → Item → Type 0) (read : List ℕ → Read Item) (it : ReadsAgain Reads read) where
  pair_whole : (text rest : List ℕ) (p : Item × Item) (is : PairOf Reads text p)
      → text ++ rest ≡ is.0 ++ (58 ∷ (is.1 ++ rest))
  pair_whole text rest p is = ap (λ (t : List ℕ). t ++ rest) is.2 ∙ append_assoc is.0 (58 ∷ is.1) rest

  pair_again : (text rest : List ℕ) (p : Item × Item) → PairOf Reads text p → Ends (codes ",:]})>") rest
      → read_pair read (text ++ rest) ≡ Ok (p, rest)
  pair_again text rest p is follows =
      rw (
        pair_whole text rest p is,
        it.again is.0 (58 ∷ (is.1 ++ rest)) p.0 is.3 refl,
        it.again is.1 rest p.1 is.4 follows,
      ) refl

  pair_stripped : (text : List ℕ) (p : Item × Item) → PairOf Reads text p → Stripped (PairOf Reads) text p
  pair_stripped text p is =
      let s = it.stripped is.0 p.0 is.3 in
      record {
        blank = s.blank;
        behind = s.behind ++ (58 ∷ is.1);
        parts = is.2 ∙ (ap (λ (t : List ℕ). t ++ (58 ∷ is.1)) s.parts ∙ append_assoc s.blank s.behind (58 ∷ is.1));
        is_blank = s.is_blank;
        starts = begins_append core_starts s.behind (58 ∷ is.1) s.starts;
        is = (s.behind, is.1, refl, s.is, is.4);
      }

  pair_reads : ReadsAgain (PairOf Reads) (read_pair read)
  pair_reads = record {
    again = λ text rest p is follows. pair_again text rest p is follows;
    stripped =
        λ text p is. pair_stripped text p is;
  }

  pub array_again : (is : Items) (w : Option IntegerWidth) (opening text rest : List ℕ) → Opens (codes "[") w opening
      → Listed Reads opening (codes "]") text (list_of is)
      → read_core read (text ++ rest) ≡ Ok (array is w, rest)
  unfolding read_core start_of
  array_again is w opening text rest opens listed =
      let l = opened_again Reads read it 93 refl (list_of is) w 91 opening text rest opens listed in
      ap (read_core read) l.2 ∙ rw (l.3, l.4, items_again is) refl

  pub map_again : (ps : Pairs) (w : Option IntegerWidth) (opening text rest : List ℕ) → Opens (codes "{") w opening
      → Listed (PairOf Reads) opening (codes "}") text (pairs_list ps)
      → read_core read (text ++ rest) ≡ Ok (spec.map ps w, rest)
  unfolding read_core start_of
  map_again ps w opening text rest opens listed =
      let l = opened_again (PairOf Reads) (read_pair read) pair_reads 125 refl (pairs_list ps) w 123 opening text rest
      opens listed in
      ap (read_core read) l.2 ∙ rw (l.3, l.4, pairs_again ps) refl
