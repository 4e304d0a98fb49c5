-- For `Stream`: if more bytes come, those that were scanned stay scanned (`IsScanned`), and items and output of the
-- bytes before stay the same. If an item is passed, the rest is a sequence if all bytes are one, and it begins with an
-- item if it is not empty. For `how_begun`: the clauses of `extent` give `IsExtent`.
use Rattle.std.proofs.Common.{◌≡◌, ℕ, ◌≤◌, Bool, true, false, List, [], ◌∷◌, ◌++◌, length, take, drop, sym}
use Rattle.std.proofs.Common.{subst, arith}
use Rattle.std.proofs.Common.{Result, Ok, Err, OnOk, if◌then◌else◌, length-append}
use Rattle.std.proofs.lemmas.List.{take-append-le}
use Rattle.std.specs.declared.alloc.AllocError.{AllocError}
use Rattle.cbor_bytes.specs.declared.skip.scanner.Scanner.{Scanner}
use Rattle.cbor_bytes.specs.declared.skip.answer.Extent.{Extent}
use Rattle.cbor_bytes.specs.declared.skip.answer.Extent.TheVariants as extent
use Rattle.cbor_bytes.specs.Extent.{IsExtent}
use Rattle.cbor_grammar.specs.Item.{Item}
use Rattle.cbor_bytes.specs.Scanning.{HasScanned}
use Rattle.cbor_grammar.specs.Facts.{BeginsWithItem, IsCut}
use Rattle.cbor_bytes.specs.Extent.{IfItem, IfFault, FaultEnds}
use Rattle.std.specs.Prelude.{◌↔◌}
use Rattle.std.proofs.Common.{◌<◌, refl}
use Rattle.cbor_paths.specs.Sequence.{ItemsThen, IsSequence, IsShownOfFirst}
use Rattle.cbor_paths.proofs.Fronts.{front_of}
use Rattle.cbor_paths.proofs.Sequences.{item_then, items_then, shown_later, came_later}

-- the first bytes of those that are kept were scanned
abbrev pub IsScanned : Scanner → ℕ → List ℕ → Type 0
IsScanned scanner n rest = (n ≤ length rest) × HasScanned scanner (take n rest)

-- they still are after more bytes came, if any did
pub still_scanned : (scanner : Scanner) (n start : ℕ) (kept bytes new : List ℕ) (came : Bool) → start ≡ 0
    → IsScanned scanner n (drop start kept) → new ≡ (if came then kept ++ bytes else kept)
    → IsScanned scanner n (drop start new)
still_scanned scanner n start kept bytes new true none before is =
    let P : ℕ → Type 0 = λ s. IsScanned scanner n (drop s kept) → IsScanned scanner n (drop s new) in
    let at_start : P 0 = λ h.
    let within : n ≤ length kept = h.0 in
    let same : take n (kept ++ bytes) ≡ take n kept = take-append-le n kept bytes within in
    rw is (omega (arith, length-append kept bytes, within), rw same h.1) in
    subst P (sym none) at_start before
still_scanned scanner n start kept bytes new false none before is = rw is before

-- what was written of the bytes before is what was written of these and those that come later, if any do
pub shown_if_came : (r : Result (Unit {0}) AllocError) (Shows : Item → List ℕ → Type 0)
    (came written old bytes new : List ℕ) → OnOk r (new ≡ old ++ bytes)
    → OnOk r (IsShownOfFirst Shows came written old → IsShownOfFirst Shows (came ++ bytes) written new)
shown_if_came (Ok u) Shows came written old bytes new is = λ h.
    subst (λ (x : List ℕ). IsShownOfFirst Shows (came ++ bytes) written x) (sym is)
    (shown_later Shows came bytes written old h)
shown_if_came (Err e) Shows came written old bytes new is = tt

-- so it is with items that were passed
pub passed_if_came : (r : Result (Unit {0}) AllocError) (came : List ℕ) (items : List Item) (old bytes new : List ℕ)
    → OnOk r (new ≡ old ++ bytes) → OnOk r (ItemsThen came items old → ItemsThen (came ++ bytes) items new)
passed_if_came (Ok u) came items old bytes new is = λ h.
    subst (λ (x : List ℕ). ItemsThen (came ++ bytes) items x) (sym is) (came_later came bytes items old h)
passed_if_came (Err e) came items old bytes new is = tt

-- one more item is passed
pub one_passed : (b rest new : List ℕ) (n : ℕ) → (items : List Item) × ItemsThen b items rest
    → (i : Item) × BeginsWithItem rest i n → new ≡ drop n rest → (items : List Item) × ItemsThen b items new
one_passed b rest new n before found is =
    let next = item_then rest n found.0 found.1.2 in (
      before.0 ++ found.0 ∷ [],
      subst (λ (x : List ℕ). ItemsThen b (before.0 ++ found.0 ∷ []) x) (sym is)
          (items_then b before.0 (found.0 ∷ []) rest (drop n rest) before.1 next),
    )

-- if all bytes are items, so are those after one of them
pub later_passed : (b rest new : List ℕ) (n : ℕ) → (IsSequence b → IsSequence rest) → (rest ≡ [] → ⊥)
    → ((answer : Extent) → IsExtent rest answer → ◌≡◌ {A = Extent} (extent.Item n) answer) → new ≡ drop n rest
    → IsSequence b → IsSequence new
later_passed b rest new n so_far some only is whole =
    let later = so_far whole in
    let front = front_of rest later.0 some later.1 in
    let same : n ≡ front.length = cc (only (extent.Item front.length) (front.item, front.begins)) in
    subst IsSequence (sym is) (subst (λ (k : ℕ). IsSequence (drop k rest)) (sym same) front.later)

-- and they begin with one
pub begins_so : (b rest : List ℕ) → (IsSequence b → IsSequence rest) → (rest ≡ [] → ⊥) → IsSequence b
    → (n : ℕ) × IsExtent rest (extent.Item n)
begins_so b rest so_far some whole =
    let later = so_far whole in
    let front = front_of rest later.0 some later.1 in
    (front.length, (front.item, front.begins))

-- what `extent` reports of bytes is how they begin
pub found : (b : List ℕ) (x : Extent) → IfItem x (λ n. (i : Item) × BeginsWithItem b i n) → ((x ≡ extent.Cut) ↔ IsCut b)
    → IfFault x (λ error end. FaultEnds b error end) → IfFault x (λ error end. (n : ℕ) → n < end → IsCut (take n b))
    → IsExtent b x
found b (extent.Item n) item cut shown fronts = item
found b extent.Cut item cut shown fronts = cut.0 refl
found b (extent.Fault error end) item cut shown fronts = (shown, fronts)
