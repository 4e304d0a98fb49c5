-- If a byte is in the outermost item, and this item is whole, each item on the way to the byte is whole and contains
-- the byte. If the place of the byte is past all bytes, and the outermost item is cut or has a fault, each item on the
-- way is cut or has that fault (`IsCarried`).
use Rattle.std.proofs.Common.{◌≡◌, ℕ, ◌+◌, ◌<◌, ◌≤◌, List, ◌++◌, length, take, drop, sym, ap, subst, ◌∙◌}
use Rattle.std.proofs.Common.{append_assoc, arith}
use Rattle.std.proofs.lemmas.List.{length-append, length-drop, take-append-drop, drop_at}
use Rattle.cbor_grammar.specs.declared.error.Error.{Error}
use Rattle.cbor_grammar.specs.Item.{Item}
use Rattle.cbor_grammar.specs.Refused.{Cut, Fault}
use Rattle.cbor_grammar.specs.Answer.{spelled, IsOutcome}
use Rattle.cbor_grammar.specs.WellFormed.{levels_left}
use Rattle.cbor_grammar.proofs.bytes.Heads.{IsBytes, IsBytes-drop}
use Rattle.cbor_grammar.proofs.bytes.ExactlyOne.{outcome_reads}
use Rattle.cbor_trace.specs.declared.part.Part.{Part}
use Rattle.cbor_trace.specs.declared.part.Spot.{Spot}
use Rattle.cbor_trace.specs.Around.{IsPartAt, IsWholeAt, outermost, spot_of}
use Rattle.cbor_trace.proofs.Insides.{Within, within, part_cut, part_fault, part_whole}

module _ (b : List ℕ) (at : ℕ) where
  -- of the item at this spot
  pub record IsCarried (s : Spot) : Type 0 where
    pub whole : (i : Item) (n : ℕ) → IsOutcome 1 b (spelled i n) → at < n → IsWholeAt b s at
    pub is_cut : length b ≤ at → Cut 1 b → Cut s.level (drop s.start b)
    pub has_fault : (e : Error) → length b ≤ at → Fault 1 b e → Fault s.level (drop s.start b) e

  pub first_carried : IsCarried outermost
  first_carried = record {
    whole = λ i n h lt. (i, n, h, omega arith, omega (arith, lt));
    is_cut = λ ends h. h;
    has_fault = λ e ends h. h;
  }

  module _ (s : Spot) (p : Part) (fits : IsBytes b) (is : IsPartAt b s at p) where
    abbrev item : List ℕ
    item = drop s.start b

    pub inside : Within s.level item is.1.rest
    inside = within (length b) s.level item p.«open» is.1.rest (IsBytes-drop s.start b fits) is.1.before

    -- the bytes from the part on
    pub there : drop p.start b ≡ is.1.rest
    there =
        let before = take s.start b in
        let parts : b ≡ (before ++ inside.front) ++ is.1.rest = sym (take-append-drop s.start b)
        ∙ ap (λ (x : List ℕ). before ++ x) inside.parts ∙ sym (append_assoc before inside.front is.1.rest) in
        let len = ap length parts in
        let start : length (before ++ inside.front) ≡ p.start =
        omega (arith, len, length-append (before ++ inside.front) is.1.rest, is.1.place) in
        ap (drop p.start) parts ∙ drop_at (before ++ inside.front) is.1.rest p.start start

    -- a part that is whole ends behind the byte
    behind : (i : Item) (n : ℕ) → IsOutcome (s.level + 1) is.1.rest (spelled i n) → at < p.start + n
    behind i n h =
        let reads = outcome_reads (s.level + 1) (levels_left (s.level + 1)) is.1.rest (spelled i n)
        (omega (arith, is.1.before.levels)) h in
        let to = is.1.to i (drop n is.1.rest) reads in
        omega (arith, to, length-drop n is.1.rest, h.0, is.1.place)

    broken : length b ≤ at → (i : Item) (n : ℕ) → ¬ (IsOutcome (s.level + 1) is.1.rest (spelled i n))
    broken ends i n h = omega (arith, behind i n h, ends, h.0, is.1.place)

    pub cut_there : length b ≤ at → Cut s.level item → Cut (s.level + 1) (drop p.start b)
    cut_there ends h = subst (Cut (s.level + 1)) (sym there)
        (part_cut s.level item is.1.rest is.1.before.levels (IsBytes-drop s.start b fits) inside (broken ends) h)

    pub fault_there : (e : Error) → length b ≤ at → Fault s.level item e → Fault (s.level + 1) (drop p.start b) e
    fault_there e ends h = subst (λ (x : List ℕ). Fault (s.level + 1) x e) (sym there)
        (part_fault s.level item is.1.rest is.1.before.levels (IsBytes-drop s.start b fits) inside e (broken ends) h)

    pub whole_there : IsWholeAt b s at → IsWholeAt b (spot_of s p) at
    whole_there w =
        let v = part_whole s.level item is.1.rest is.1.before.levels (IsBytes-drop s.start b fits) inside w.0 w.1
        w.2 in (
          v.0,
          v.1,
          subst (λ (x : List ℕ). IsOutcome (s.level + 1) x (spelled v.0 v.1)) (sym there) v.2,
          is.1.from,
          behind v.0 v.1 v.2,
        )

    pub next_carried : IsCarried s → IsCarried (spot_of s p)
    next_carried c = record {
      whole = λ i n h lt. whole_there (c.whole i n h lt);
      is_cut = λ ends h. cut_there ends (c.is_cut ends h);
      has_fault = λ e ends h. fault_there e ends (c.has_fault e ends h);
    }
