-- `embedded` returns an item if and only if the bytes encode this item, and `sequence` returns the longest sequence of
-- items at the front of the bytes, with the rest (`EmbedsExactly`). `read_item` returns `CutShort` for bytes that are
-- cut, the error of bytes that have a fault, and otherwise the item at their front (`RejectsExactly`).
use Rattle.std.proofs.Common.{◌≡◌, ℕ, zero, suc, ◌+◌, ◌-◌, ◌≤◌, List, [], ◌∷◌, ◌++◌, length, Some}
use Rattle.std.proofs.Common.{Ok, Err, refl, sym, ap, subst, ◌∙◌, arith}
use Rattle.std.proofs.lemmas.List.{append-nil, length-append, nil_from_length}
use Rattle.cbor_grammar.specs.declared.error.Error.{Error}
use Rattle.cbor_grammar.specs.declared.error.Error.TheVariants as refusal
use Rattle.cbor_grammar.specs.Item.{Item, Items, no_items, item}
use Rattle.cbor_grammar.specs.Bytes.{any, Spells, SpellsItems}
use Rattle.cbor_grammar.specs.Answer.{spelled, cut, fault}
use Rattle.cbor_grammar.specs.Reading.{Read, read_item}
use Rattle.cbor_grammar.specs.Embedded.{if_whole, embedded_at, before, and_then, sequence_of, EmbedsExactly}
use Rattle.cbor_grammar.specs.Embedded.{RejectsExactly}
use Rattle.cbor_grammar.proofs.bytes.Heads.{IsBytes}
use Rattle.cbor_grammar.proofs.bytes.Sizes.{one_byte}
use Rattle.cbor_grammar.proofs.bytes.Found.{item_takes}
use Rattle.cbor_grammar.proofs.bytes.FoundAgain.{item_again}
use Rattle.cbor_grammar.proofs.bytes.Refusals.{item_nothing}
use Rattle.cbor_grammar.proofs.bytes.ExactlyOne.{outcome_reads}

-- ---- what embedded items are, by the grammar

-- The bytes are an item exactly where they spell it.
if_whole_is : (read : Read Item) (e : Item) → if_whole read ≡ Some e → read ≡ Ok (e, [])
if_whole_is (Ok (i, [])) e h = let same : i ≡ e = cc in ap (λ (x : Item). Ok (x, [])) same
if_whole_is (Ok (i, x ∷ r)) e h = absurd cc
if_whole_is (Err f) e h = absurd cc

pub embedded_spells : (level left : ℕ) (b : List ℕ) (e : Item) → level + left ≡ 129 → IsBytes b
    → embedded_at left b ≡ Some e → Spells any level b e
embedded_spells level left b e levels fits h =
    let s = item_takes level left b e [] levels fits (if_whole_is (read_item left b) e h) in
    subst (λ x. Spells any level x e) (sym (s.parts ∙ append-nil s.front)) s.spells

pub spells_embedded : (level left : ℕ) (b : List ℕ) (e : Item) → level + left ≡ 129 → Spells any level b e
    → embedded_at left b ≡ Some e
spells_embedded level left b e levels s = ap if_whole
    (ap (read_item left) (sym (append-nil b)) ∙ item_again level left b e [] levels s)

-- The items of a sequence are spelled one after the other and then the rest follows, which begins with
-- no item.
pub record Sequenced (level left : ℕ) (b : List ℕ) (s : Items × List ℕ) : Type 0 where
  pub spelled_so : SpellsItems any level b s.0 s.1
  pub error : Error
  pub ends : read_item left s.1 ≡ Err error
  pub rest_bytes : IsBytes s.1

module _ (level left : ℕ) (levels : level + left ≡ 129) where
  sequence_step : (n : ℕ) (b : List ℕ) → IsBytes b
      → ((r : List ℕ) → length r ≤ n → IsBytes r → Sequenced level left r (sequence_of (read_item left) n r))
      → length b ≤ suc n
      → (read : Read Item) → read_item left b ≡ read
      → Sequenced level left b (and_then (sequence_of (read_item left) n) b read)
  sequence_step n b fits others enough (Ok (i, r)) e =
      let s = item_takes level left b i r levels fits e in
      let some = one_byte level s.front i s.spells in
      let more = others r (omega (arith, ap length s.parts, length-append s.front r)) s.rest_bytes in
      record {
        spelled_so = (s.front, r, s.parts, s.spells, more.spelled_so);
        error = more.error;
        ends =
            more.ends;
        rest_bytes = more.rest_bytes;
      }
  sequence_step n b fits others enough (Err f) e = record { spelled_so = refl; error = f; ends = e; rest_bytes = fits }

  pub sequence_spells : (n : ℕ) (b : List ℕ) → length b ≤ n → IsBytes b
      → Sequenced level left b (sequence_of (read_item left) n b)
  unfolding sequence_of
  sequence_spells zero b enough fits =
      let none : b ≡ [] = nil_from_length b (omega arith) in
      record {
        spelled_so = refl;
        error = refusal.CutShort;
        ends = ap (read_item left) none
            ∙ item_nothing left;
        rest_bytes = fits;
      }
  sequence_spells (suc n) b enough fits = sequence_step n b fits (sequence_spells n) enough (read_item left b) refl

  -- Items that are spelled in sequence, and a rest that begins with no item, are read as such a sequence.
  pub sequence_again : (n : ℕ) (is : Items) (b rest : List ℕ) (error : Error) → length b ≤ n
      → SpellsItems any level b is rest → read_item left rest ≡ Err error
      → sequence_of (read_item left) n b ≡ (is, rest)
  unfolding sequence_of
  sequence_again zero no_items b rest error enough h ends = ap (λ (r : List ℕ). (no_items, r)) h
  sequence_again (suc n) no_items b rest error enough h ends = rw h (rw ends refl)
  sequence_again zero (item i is) b rest error enough h ends =
      absurd (omega (arith, one_byte level h.0 i h.3, ap length h.2, length-append h.0 h.1))
  sequence_again (suc n) (item i is) b rest error enough h ends =
      let read : read_item left b ≡ Ok (i, h.1) = ap (read_item left) h.2
      ∙ item_again level left h.0 i h.1 levels h.3 in
      let more = sequence_again n is h.1 rest error
      (omega (arith, one_byte level h.0 i h.3, ap length h.2, length-append h.0 h.1)) h.4 ends in
      rw read (ap (before i) more)

-- no item is before the rest of a sequence
pub no_item_before : (level left : ℕ) → level + left ≡ 129
    → (b : List ℕ) {s : Items × List ℕ} (x rest : List ℕ) (e : Item) → Sequenced level left b s → s.1 ≡ x ++ rest
    → Spells any level x e → ⊥
no_item_before level left levels b x rest e sequenced parts s =
    let read = sym sequenced.ends ∙ ap (read_item left) parts ∙ item_again level left x e rest levels s in
    absurd cc

-- what `embedded` and `sequence` mean
pub embeds_exactly : EmbedsExactly
embeds_exactly level b from to fits =
    let read = sequence_spells level (129 - level) (omega arith) (length b) b (omega arith) fits in
    record {
      one = λ e. (
        embedded_spells level (129 - level) b e (omega arith) fits,
        spells_embedded level (129 - level) b e (omega arith),
      );
      items = read.spelled_so;
      longest = λ x rest e parts s. no_item_before level (129 - level) (omega arith) _ x rest e read parts s;
    }

-- what reading bytes that are not one item answers
pub rejects_exactly : RejectsExactly
rejects_exactly level b to = record {
  cut = λ here. outcome_reads level (129 - level) b cut (omega arith) here;
  fault = λ e here. outcome_reads level (129 - level) b (fault e) (omega arith) here;
  front = λ n i within s. outcome_reads level (129 - level) b (spelled i n) (omega arith) (within, s);
}
