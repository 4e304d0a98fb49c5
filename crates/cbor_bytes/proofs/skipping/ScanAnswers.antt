-- For the clauses of `Scanner::feed`: the answer of a scanner is the `Extent` of all bytes fed to it, there is only
-- one, and an item or a fault stays if more bytes come.
use Rattle.std.proofs.Common.{◌≡◌, ◌≢◌, ℕ, ◌+◌, ◌-◌, ◌<◌, ◌≤◌, List, ◌++◌, length, get_or, take, Result, Ok, Err, inl}
use Rattle.std.proofs.Common.{inr}
use Rattle.std.proofs.Common.{refl, sym, ap, subst, ◌∙◌, arith}
use Rattle.std.specs.Prelude.{Option, Some, None, IfOk, IfErr}
use Rattle.std.proofs.lemmas.Bool.{cases_lt}
use Rattle.std.proofs.lemmas.List.{get_or_append_left, get_or-append-add, take-append-le}
use Rattle.cbor_grammar.specs.declared.error.Error.{Error}
use Rattle.cbor_bytes.specs.declared.skip.Stop.{Stop}
use Rattle.cbor_bytes.specs.declared.skip.Stop.TheVariants as stops
use Rattle.cbor_bytes.specs.declared.skip.answer.Extent.{Extent}
use Rattle.cbor_bytes.specs.declared.skip.answer.Extent.TheVariants as extent
use Rattle.cbor_bytes.specs.declared.skip.progress.Progress.{Progress}
use Rattle.cbor_grammar.specs.WellFormed.{deepest}
use Rattle.cbor_grammar.specs.Answer.{OneOutcome, cut, fault}
use Rattle.cbor_grammar.specs.Facts.{IsCut}
use Rattle.cbor_bytes.specs.Extent.{IsExtent}
use Rattle.cbor_bytes.specs.declared.skip.scanner.Scanner.{Scanner}
use Rattle.cbor_bytes.specs.Scanning.{HasScanned, IsAnswer}
use Rattle.cbor_bytes.specs.mirror.Skipping.{skip_item}
use Rattle.cbor_bytes.specs.mirror.Scanned.{EndsBefore, StopsAfter, WaitsAfter, answer_of}
use Rattle.cbor_grammar.proofs.bytes.Heads.{IsBytes, IsBytes-take}
use Rattle.cbor_grammar.proofs.bytes.ExactlyOne.{one_outcome}
use Rattle.cbor_bytes.proofs.skipping.Skips.{goes_at, no_item}
use Rattle.cbor_bytes.proofs.skipping.Extents.{item_extent, cut_extent, fault_extent, has_fault, same, every_item}
use Rattle.cbor_bytes.proofs.skipping.Extents.{cut_exactly, every_fault, item_stays, fault_stays}

pub bytes_append : (x y : List ℕ) → IsBytes x → IsBytes y → IsBytes (x ++ y)
bytes_append x y a b i =
    elim (cases_lt i (length x)) [
      | inl lt ↦ rw (get_or_append_left x y 0 i lt) (a i)
      | inr le ↦
          let same : length x + (i - length x) ≡ i = omega arith in
          subst (λ (k : ℕ). get_or (x ++ y) k 0 < 256) same
          (rw (get_or-append-add x y (i - length x) 0) (b (i - length x)))
    ]

-- an item or a fault stays
pub extent_stays : (b more : List ℕ) (x : Extent) → IsExtent b x → x ≢ extent.Cut → IsExtent (b ++ more) x
extent_stays b more (extent.Item n) h other = item_stays b (extent.Item n) h more
extent_stays b more extent.Cut h other = absurd (other refl)
extent_stays b more (extent.Fault e end) h other = (
  (fault_stays b (extent.Fault e end) h more).1,
  λ n lt.
      let within : end ≤ length b = h.0.1 in
      subst IsCut (sym (take-append-le n b more (omega arith))) (h.1 n lt),
)

-- there is one answer
ends_once : (b : List ℕ) (e : Error) (m n : ℕ) → IsBytes b → IsExtent b (extent.Fault e m)
    → IsExtent b (extent.Fault e n) → ¬ (m < n)
ends_once b e m n fits h k lt =
    let one = one_outcome 1 128 (take m b) (omega arith) (IsBytes-take m b fits) in
    absurd (let is = same (take m b) one cut (fault e) (k.1 m lt) h.0.2 in cc)

pub extent_once : (b : List ℕ) (x y : Extent) → IsBytes b → IsExtent b x → IsExtent b y → x ≡ y
extent_once b x y fits h k = by y k
  where
    one : OneOutcome 1 b
    one = one_outcome 1 128 b (omega arith) fits

    end_same : (e : Error) (m n : ℕ) → IsExtent b (extent.Fault e m) → IsExtent b (extent.Fault e n) → m ≡ n
    end_same e m n f g =
        elim (cases_lt m n) [
          | inl lt ↦ absurd (ends_once b e m n fits f g lt)
          | inr le ↦ elim (cases_lt n m) [
            | inl lt ↦ absurd (ends_once b e n m fits g f lt)
            | inr ge ↦ omega arith
          ]
        ]

    by : (y : Extent) → IsExtent b y → x ≡ y
    by (extent.Item n) k = every_item b x one h k.0 n k.1
    by extent.Cut k = (cut_exactly b x one h).1 k
    by (extent.Fault e n) k =
        let f = every_fault b x one h e (has_fault b e n k) in
        f.1 ∙ ap (λ (m : ℕ). extent.Fault e m) (end_same e f.0 n (subst (IsExtent b) f.1 h) k)

-- ---- what a scanner keeps

waits_cut : (p : Option Progress) (fed : List ℕ) → IsBytes fed → WaitsAfter p fed → IsCut fed
waits_cut None fed fits none = cut_extent fed fits (ap (skip_item deepest) none ∙ no_item deepest)
waits_cut (Some p) fed fits w = cut_extent fed fits (goes_at w.goes ∙ w.cut)

pub answer_extent : (count : ℕ) (p : Option Progress) (fed : List ℕ) (x : Extent) → IsBytes fed → IsAnswer count p fed x
    → IsExtent fed x
answer_extent count p fed (extent.Item n) fits h = h
answer_extent count p fed extent.Cut fits h = waits_cut p fed fits h.1
answer_extent count p fed (extent.Fault e end) fits h = h

pub answered_more : (count : ℕ) (p : Option Progress) (fed more : List ℕ) (x : Extent) → x ≢ extent.Cut
    → IsAnswer count p fed x → IsAnswer count p (fed ++ more) x
answered_more count p fed more (extent.Item n) other h = extent_stays fed more (extent.Item n) h other
answered_more count p fed more extent.Cut other h = absurd (other refl)
answered_more count p fed more (extent.Fault e end) other h = extent_stays fed more (extent.Fault e end) h other

pub scanned_more : (count : ℕ) (p : Option Progress) (b : List ℕ) (r : Result ℕ Stop) → IsBytes b → count ≡ length b
    → IfOk r (λ after. EndsBefore (skip_item deepest) b after)
    → IfErr r (StopsAfter p b) → IsAnswer count p b (answer_of count r)
scanned_more count p b (Ok after) fits is ends stop =
    subst (λ (n : ℕ). IsExtent b (extent.Item n)) (omega (arith, ends.2)) (item_extent b ends.0 fits ends.1)
scanned_more count p b (Err stops.Cut) fits is ends stop = (is, stop)
scanned_more count p b (Err (stops.Fault e after)) fits is ends stop =
    subst (λ (n : ℕ). IsExtent b (extent.Fault e n)) (omega arith) (fault_extent b e after fits stop)

pub scanned_extent : (s : Scanner) (fed : List ℕ) → HasScanned s fed → IsExtent fed s.answer
scanned_extent s fed h = answer_extent s.fed s.progress fed s.answer h.bytes h.answer
