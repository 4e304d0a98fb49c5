-- At a level up to 129, bytes have exactly one `Outcome`: they begin with an item, or they are truncated, or they have
-- one fault. What `read_item` returns is this outcome. If the bytes of an item lose some at the end, they are
-- truncated.
use Rattle.std.proofs.Common.{◌≡◌, ℕ, ◌+◌, ◌≤◌, List, [], ◌++◌, length, take, drop, Ok, Err, refl, sym, ap, ◌∙◌}
use Rattle.std.proofs.Common.{append_assoc, arith}
use Rattle.std.proofs.lemmas.List.{append-nil, length-append, length-drop, nil_from_length, take_at, take-append-drop}
use Rattle.cbor_grammar.specs.declared.error.Error.{Error}
use Rattle.cbor_grammar.specs.declared.error.Error.TheVariants as refusal
use Rattle.cbor_grammar.specs.Item.{Item}
use Rattle.cbor_grammar.specs.WellFormed.{deepest}
use Rattle.cbor_grammar.specs.Bytes.{any, Spells}
use Rattle.cbor_grammar.specs.Refused.{Cut}
use Rattle.cbor_grammar.specs.Answer.{Outcome, spelled, cut, fault, IsOutcome, OneOutcome}
use Rattle.cbor_grammar.specs.Reading.{Read, read_item}
use Rattle.cbor_grammar.proofs.bytes.Heads.{IsBytes, ok_is}
use Rattle.cbor_grammar.proofs.bytes.HeadRefusals.{err_is}
use Rattle.cbor_grammar.proofs.bytes.Found.{item_takes}
use Rattle.cbor_grammar.proofs.bytes.FoundAgain.{spelled_level, item_again}
use Rattle.cbor_grammar.proofs.bytes.Refusals.{Refusal, is_cut, is_fault, refused}
use Rattle.cbor_grammar.proofs.bytes.CutShort.{fault_no_cut, cut_again}
use Rattle.cbor_grammar.proofs.bytes.Faults.{left_at, fault_refuses, fault_append}

-- ---- the outcome of reading

-- what reading gives where the outcome is this one
abbrev pub read_of : List ℕ → Outcome → Read Item
read_of b (spelled i n) = Ok (i, drop n b)
read_of b cut = Err refusal.CutShort
read_of b (fault e) = Err e

pub outcome_reads : (level left : ℕ) (b : List ℕ) (o : Outcome) → level + left ≡ 129 → IsOutcome level b o
    → read_item left b ≡ read_of b o
outcome_reads level left b (spelled i n) levels h = ap (read_item left) (sym (take-append-drop n b))
    ∙ item_again level left (take n b) i (drop n b) levels h.1
outcome_reads level left b cut levels h = cut_again level left b levels h
outcome_reads level left b (fault e) levels h = fault_refuses level left b e levels h

refusal_outcome : {level : ℕ} {b : List ℕ} {e : Error} → Refusal level b e → (o : Outcome) × IsOutcome level b o
refusal_outcome (is_cut c) = (cut, c)
refusal_outcome {e = e} (is_fault f) = (fault e, f)

read_outcome : (level left : ℕ) (b : List ℕ) → level + left ≡ 129 → IsBytes b → (read : Read Item)
    → read_item left b ≡ read → (o : Outcome) × IsOutcome level b o
read_outcome level left b levels fits (Ok x) h =
    let t = item_takes level left b x.0 x.1 levels fits h in
    let front : take (length t.front) b ≡ t.front = ap (take (length t.front)) t.parts
    ∙ take_at t.front x.1 (length t.front) refl in
    (spelled x.0 (length t.front), (omega (arith, length-append t.front x.1, ap length t.parts), rw front t.spells))
read_outcome level left b levels fits (Err e) h = refusal_outcome (refused left level b e levels fits h)

-- ---- exactly one holds

same_outcome : (level : ℕ) (b : List ℕ) (o p : Outcome) → IsOutcome level b o → IsOutcome level b p
    → read_of b o ≡ read_of b p → o ≡ p
same_outcome level b (spelled i n) (spelled j m) h k same =
    let is = ok_is (i, drop n b) (j, drop m b) same in
    let item_is : i ≡ j = ap (λ (x : Item × List ℕ). x.0) is in
    let rest_is : drop n b ≡ drop m b = ap (λ (x : Item × List ℕ). x.1) is in
    let count_is : n ≡ m = omega (arith, h.0, k.0, length-drop n b, length-drop m b, ap length rest_is) in
    cc
same_outcome level b (spelled i n) cut h k same = absurd cc
same_outcome level b (spelled i n) (fault e) h k same = absurd cc
same_outcome level b cut (spelled j m) h k same = absurd cc
same_outcome level b cut cut h k same = refl
same_outcome level b cut (fault e) h k same =
    absurd (fault_no_cut k (err_is (read_of b (fault e)) e refusal.CutShort refl (sym same)))
same_outcome level b (fault d) (spelled j m) h k same = absurd cc
same_outcome level b (fault d) cut h k same =
    absurd (fault_no_cut h (err_is (read_of b (fault d)) d refusal.CutShort refl same))
same_outcome level b (fault d) (fault e) h k same = ap fault (err_is (read_of b (fault d)) d e refl same)

pub one_outcome : (level left : ℕ) (b : List ℕ) → level + left ≡ 129 → IsBytes b → OneOutcome level b
one_outcome level left b levels fits =
    let found = read_outcome level left b levels fits (read_item left b) refl in
    record {
      outcome = found.0;
      holds = found.1;
      only = λ other h. same_outcome level b other found.0 h found.1
          (sym (outcome_reads level left b other levels h) ∙ outcome_reads level left b found.0 levels found.1);
    }

-- ---- a part of an item's bytes is cut

front_outcome : (level left : ℕ) (x y : List ℕ) (i : Item) → level + left ≡ 129 → read_item left (x ++ y) ≡ Ok (i, [])
    → (y ≡ [] → ⊥) → (o : Outcome) → IsOutcome level x o → Cut level x
front_outcome level left x y i levels whole more (spelled j n) h =
    let regrouped : x ++ y ≡ take n x ++ (drop n x ++ y) = ap (λ (b : List ℕ). b ++ y) (sym (take-append-drop n x))
    ∙ append_assoc (take n x) (drop n x) y in
    let is = ok_is (i, []) (j, drop n x ++ y)
    (sym whole ∙ ap (read_item left) regrouped ∙ item_again level left (take n x) j (drop n x ++ y) levels h.1) in
    let none : [] ≡ drop n x ++ y = ap (λ (p : Item × List ℕ). p.1) is in
    absurd (more (nil_from_length y (omega (arith, length-append (drop n x) y, ap length none))))
front_outcome level left x y i levels whole more cut h = h
front_outcome level left x y i levels whole more (fault e) h =
    let refused = fault_refuses level left (x ++ y) e levels (fault_append level x y e h) in
    absurd cc

-- every proper front of an item's bytes is cut
pub front_cut : (level : ℕ) (x y : List ℕ) (i : Item) → IsBytes x → Spells any level (x ++ y) i → (y ≡ [] → ⊥)
    → Cut level x
front_cut level x y i fits s more =
    let le : level ≤ deepest = spelled_level level (x ++ y) i s in
    let at = left_at level (omega arith) in
    let one = one_outcome level at.0 x at.1 fits in
    let whole : read_item at.0 (x ++ y) ≡ Ok (i, []) = ap (read_item at.0) (sym (append-nil (x ++ y)))
    ∙ item_again level at.0 (x ++ y) i [] at.1 s in
    front_outcome level at.0 x y i at.1 whole more one.outcome one.holds
