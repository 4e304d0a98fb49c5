-- For `extent`: if `skip_item` succeeds, finds a cut or finds a fault, the bytes begin with an item of that length, are
-- cut, or have that fault (`IsExtent`). This answer is the only one, and an item or a fault stays if more bytes come.
-- At any level, `read_item` reads an item or fails as `skip_item` does.
use Rattle.std.proofs.Common.{◌≡◌, ℕ, ◌+◌, ◌-◌, ◌<◌, ◌≤◌, List, [], ◌∷◌, ◌++◌, length, take, drop, Ok, Err, ◌↔◌, refl}
use Rattle.std.proofs.Common.{sym}
use Rattle.std.proofs.Common.{ap, subst, ◌∙◌, append_assoc, arith}
use Rattle.std.proofs.lemmas.List.{length-append, length-take, take_at, take-append-drop, take-append-le}
use Rattle.cbor_grammar.specs.declared.error.Error.{Error}
use Rattle.cbor_grammar.specs.declared.error.Error.TheVariants as refusal
use Rattle.cbor_bytes.specs.declared.skip.Stop.{Stop}
use Rattle.cbor_bytes.specs.declared.skip.Stop.TheVariants as stops
use Rattle.cbor_bytes.specs.declared.skip.answer.Extent.{Extent}
use Rattle.cbor_bytes.specs.declared.skip.answer.Extent.TheVariants as extent
use Rattle.cbor_grammar.specs.Item.{Item}
use Rattle.cbor_grammar.specs.WellFormed.{deepest}
use Rattle.cbor_grammar.specs.Bytes.{any, Spells}
use Rattle.cbor_grammar.specs.Refused.{Cut, Fault}
use Rattle.cbor_grammar.specs.Answer.{Outcome, spelled, cut, fault, IsOutcome, OneOutcome}
use Rattle.cbor_grammar.specs.Facts.{BeginsWithItem, IsCut, HasFault}
use Rattle.cbor_grammar.specs.Reading.{Read, read_item}
use Rattle.cbor_bytes.specs.Extent.{IfItem, IfFault, FaultEnds, IsExtent}
use Rattle.cbor_bytes.specs.mirror.Skipping.{rest_of, here, Goes, FailsAt, StopsSo, skip_item}
use Rattle.cbor_grammar.proofs.bytes.Heads.{IsBytes, IsBytes-take}
use Rattle.cbor_grammar.proofs.bytes.FoundAgain.{spelled_begins, item_again}
use Rattle.cbor_grammar.proofs.bytes.CutShort.{cut_takes, cut_again, fault_no_cut}
use Rattle.cbor_grammar.proofs.bytes.Faults.{fault_takes, fault_refuses, fault_append}
use Rattle.cbor_grammar.proofs.bytes.Outcomes.{found_outcome}
use Rattle.cbor_grammar.proofs.bytes.ExactlyOne.{one_outcome}
use Rattle.cbor_bytes.proofs.skipping.Skips.{goes_at}

-- ---- from what is forgotten to what was read

rest_ok : (read : Read Item) (rest : List ℕ) → rest_of read ≡ Ok rest → (i : Item) × (read ≡ Ok (i, rest))
rest_ok (Ok x) rest e = let same : x.1 ≡ rest = cc in (x.0, ap (λ (r : List ℕ). Ok (x.0, r)) same)
rest_ok (Err d) rest e = absurd cc

rest_err : (read : Read Item) (e : Error) → rest_of read ≡ Err e → read ≡ Err e
rest_err (Ok x) e h = absurd cc
rest_err (Err d) e h = let same : d ≡ e = cc in ap (λ (x : Error). Err x) same

-- ---- an item, or a cut

at_least_one : (b : List ℕ) (i : Item) (n : ℕ) → n ≤ length b → Spells any 1 (take n b) i → BeginsWithItem b i n
at_least_one b i n le s =
    let begins = spelled_begins 1 (take n b) i s in
    (omega (arith, length-take n b, ap length begins.parts), le, s)

pub item_extent : (b rest : List ℕ) → IsBytes b → Goes (skip_item deepest) here b rest
    → IsExtent b (extent.Item (length b - length rest))
item_extent b rest fits goes =
    let read = rest_ok (read_item 128 b) rest (goes_at goes) in
    let found = found_outcome 1 128 b read.0 rest refl fits read.1 in
    (read.0, at_least_one b read.0 (length b - length rest) found.0 found.1)

pub cut_extent : (b : List ℕ) → IsBytes b → skip_item deepest b ≡ Err refusal.CutShort → IsCut b
cut_extent b fits e = cut_takes 1 128 b refl fits (rest_err (read_item 128 b) refusal.CutShort e)

-- ---- a fault

-- each front of what is cut is cut
cut_front : (x y : List ℕ) → IsBytes x → Cut 1 (x ++ y) → Cut 1 x
cut_front x y fits c =
    let one = one_outcome 1 128 x refl fits in
    is_cut one.outcome one.holds
  where
    read_cut : read_item 128 (x ++ y) ≡ Err refusal.CutShort
    read_cut = cut_again 1 128 (x ++ y) refl c

    is_cut : (o : Outcome) → IsOutcome 1 x o → Cut 1 x
    is_cut (spelled i n) h =
        let parts : x ++ y ≡ take n x ++ (drop n x ++ y) = ap (λ (z : List ℕ). z ++ y) (sym (take-append-drop n x))
        ∙ append_assoc (take n x) (drop n x) y in
        let read = sym read_cut ∙ ap (read_item 128) parts ∙ item_again 1 128 (take n x) i (drop n x ++ y) refl h.1 in
        absurd cc
    is_cut cut h = h
    is_cut (fault e) h =
        let refused = sym read_cut ∙ fault_refuses 1 128 (x ++ y) e refl (fault_append 1 x y e h) in
        let same : e ≡ refusal.CutShort = cc in
        absurd (fault_no_cut h same)

-- a front of some length, of bytes that begin so
front_is : (n : ℕ) (x y : List ℕ) → n ≡ length x → take n (x ++ y) ≡ x
front_is n x y is = take_at x y n (sym is)

pub fault_extent : (b : List ℕ) (e : Error) (after : ℕ) → IsBytes b → FailsAt (skip_item deepest) b e after
    → IsExtent b (extent.Fault e (length b - after))
fault_extent b e after fits s =
    let shown : List ℕ = s.before ++ s.last ∷ [] in
    let whole : b ≡ shown ++ s.behind = s.parts ∙ sym (append_assoc s.before (s.last ∷ []) s.behind) in
    let end : length b - after ≡ length shown = omega (arith, length-append shown s.behind, ap length whole, s.count) in
    let front : take (length b - after) b ≡ shown = ap (take (length b - after)) whole
    ∙ front_is (length b - after) shown s.behind end in
    let fits_shown : IsBytes shown = subst IsBytes front (IsBytes-take (length b - after) b fits) in
    let faulty : Fault 1 shown e = fault_takes 1 128 shown e refl fits_shown s.other
    (rest_err (read_item 128 shown) e s.fails) in
    let before : take (length s.before) b ≡ s.before = ap (take (length s.before)) s.parts
    ∙ front_is (length s.before) s.before (s.last ∷ s.behind) refl in
    let fits_before : IsBytes s.before = subst IsBytes before (IsBytes-take (length s.before) b fits) in
    let cut_before : Cut 1 s.before = cut_takes 1 128 s.before refl fits_before
    (rest_err (read_item 128 s.before) refusal.CutShort s.cut) in
    let shows : FaultEnds b e (length b - after) = (
      omega (arith, length-append s.before (s.last ∷ [])),
      omega arith,
      subst (λ (x : List ℕ). Fault 1 x e) (sym front) faulty,
    ) in (
      shows,
      λ n lt.
          let le : n ≤ length s.before = omega (arith, length-append s.before (s.last ∷ [])) in
          let same : take n b ≡ take n s.before = ap (take n) s.parts
          ∙ take-append-le n s.before (s.last ∷ s.behind) le in
          let parts : s.before ≡ take n s.before ++ drop n s.before = sym (take-append-drop n s.before) in
          subst (Cut 1) (sym same) (cut_front (take n s.before) (drop n s.before) (IsBytes-take n s.before fits_before)
          (subst (Cut 1) parts cut_before)),
    )

-- ---- at any level

pub item_there : (left : ℕ) (b rest : List ℕ) → Goes (skip_item left) here b rest
    → (i : Item) × (read_item left b ≡ Ok (i, rest))
item_there left b rest goes = rest_ok (read_item left b) rest (goes_at goes)

pub none_there : (level left : ℕ) (b : List ℕ) (stop : Stop) → level + left ≡ 129 → IsBytes b
    → StopsSo (skip_item left) b stop → (e : Error) × (read_item left b ≡ Err e)
none_there level left b stops.Cut levels fits s = (refusal.CutShort, rest_err (read_item left b) refusal.CutShort s)
none_there level left b (stops.Fault e after) levels fits s =
    let shown : List ℕ = s.before ++ s.last ∷ [] in
    let whole : b ≡ shown ++ s.behind = s.parts ∙ sym (append_assoc s.before (s.last ∷ []) s.behind) in
    let front : take (length shown) b ≡ shown = ap (take (length shown)) whole
    ∙ front_is (length shown) shown s.behind refl in
    let fits_shown : IsBytes shown = subst IsBytes front (IsBytes-take (length shown) b fits) in
    let faulty : Fault level shown e = fault_takes level left shown e levels fits_shown s.other
    (rest_err (read_item left shown) e s.fails) in (
      e,
      ap (read_item left) whole ∙ fault_refuses level left (shown ++ s.behind) e levels
          (fault_append level shown s.behind e faulty),
    )

-- ---- the clauses

pub item_is : (b : List ℕ) (x : Extent) → IsExtent b x → IfItem x (λ n. (i : Item) × BeginsWithItem b i n)
item_is b (extent.Item n) h = h
item_is b extent.Cut h = tt
item_is b (extent.Fault e end) h = tt

pub has_fault : (b : List ℕ) (e : Error) (end : ℕ) → IsExtent b (extent.Fault e end) → Fault 1 b e
has_fault b e end h = subst (λ (x : List ℕ). Fault 1 x e) (take-append-drop end b)
    (fault_append 1 (take end b) (drop end b) e h.0.2)

pub same : (b : List ℕ) → OneOutcome 1 b → (o p : Outcome) → IsOutcome 1 b o → IsOutcome 1 b p → o ≡ p
same b one o p h k = one.only o h ∙ sym (one.only p k)

pub every_item : (b : List ℕ) (x : Extent) → OneOutcome 1 b → IsExtent b x → (i : Item) (n : ℕ) → BeginsWithItem b i n
    → x ≡ extent.Item n
every_item b (extent.Item m) one h i n begins =
    let is = same b one (spelled h.0 m) (spelled i n) (h.1.1, h.1.2) (begins.1, begins.2) in
    let count : m ≡ n = cc in
    ap extent.Item count
every_item b extent.Cut one h i n begins = absurd (let is = same b one cut (spelled i n) h (begins.1, begins.2) in cc)
every_item b (extent.Fault e end) one h i n begins =
    absurd (let is = same b one (fault e) (spelled i n) (has_fault b e end h) (begins.1, begins.2) in cc)

pub cut_exactly : (b : List ℕ) (x : Extent) → OneOutcome 1 b → IsExtent b x → (x ≡ extent.Cut) ↔ IsCut b
cut_exactly b x one h = (λ is. subst (IsExtent b) is h, every_cut x h)
  where
    every_cut : (x : Extent) → IsExtent b x → Cut 1 b → x ≡ extent.Cut
    every_cut (extent.Item n) h c = absurd (let is = same b one (spelled h.0 n) cut (h.1.1, h.1.2) c in cc)
    every_cut extent.Cut h c = refl
    every_cut (extent.Fault e end) h c = absurd (let is = same b one (fault e) cut (has_fault b e end h) c in cc)

pub fault_is : (b : List ℕ) (x : Extent) → IsExtent b x → IfFault x (λ error end. HasFault b error)
fault_is b (extent.Item n) h = tt
fault_is b extent.Cut h = tt
fault_is b (extent.Fault e end) h = has_fault b e end h

pub every_fault : (b : List ℕ) (x : Extent) → OneOutcome 1 b → IsExtent b x → (e : Error) → HasFault b e
    → (end : ℕ) × (x ≡ extent.Fault e end)
every_fault b (extent.Item n) one h e f = absurd (let is = same b one (spelled h.0 n) (fault e) (h.1.1, h.1.2) f in cc)
every_fault b extent.Cut one h e f = absurd (let is = same b one cut (fault e) h f in cc)
every_fault b (extent.Fault d end) one h e f =
    let is = same b one (fault d) (fault e) (has_fault b d end h) f in
    let error : d ≡ e = cc in
    (end, ap (λ (x : Error). extent.Fault x end) error)

pub fault_shown : (b : List ℕ) (x : Extent) → IsExtent b x → IfFault x (λ error end. FaultEnds b error end)
fault_shown b (extent.Item n) h = tt
fault_shown b extent.Cut h = tt
fault_shown b (extent.Fault e end) h = h.0

pub fronts_cut : (b : List ℕ) (x : Extent) → IsExtent b x
    → IfFault x (λ error end. (n : ℕ) → n < end → IsCut (take n b))
fronts_cut b (extent.Item n) h = tt
fronts_cut b extent.Cut h = tt
fronts_cut b (extent.Fault e end) h = h.1

pub item_stays : (b : List ℕ) (x : Extent) → IsExtent b x
    → IfItem x (λ n. (more : List ℕ) → (i : Item) × BeginsWithItem (b ++ more) i n)
item_stays b (extent.Item n) h = λ more.
    let le : n ≤ length b = h.1.1 in (
      h.0,
      (
        h.1.0,
        omega (arith, length-append b more),
        subst (λ (y : List ℕ). Spells any 1 y h.0) (sym (take-append-le n b more le)) h.1.2,
      ),
    )
item_stays b extent.Cut h = tt
item_stays b (extent.Fault e end) h = tt

pub fault_stays : (b : List ℕ) (x : Extent) → IsExtent b x
    → IfFault x (λ error end. (more : List ℕ) → HasFault (b ++ more) error × FaultEnds (b ++ more) error end)
fault_stays b (extent.Item n) h = tt
fault_stays b extent.Cut h = tt
fault_stays b (extent.Fault e end) h = λ more.
    let le : end ≤ length b = h.0.1 in (
      fault_append 1 b more e (has_fault b e end h),
      (
        h.0.0,
        omega (arith, length-append b more),
        subst (λ (y : List ℕ). Fault 1 y e) (sym (take-append-le end b more le)) h.0.2,
      ),
    )
