-- If the first `end` bytes show an error and fewer are truncated, a place before `end` is a place of the error
-- (`IsFaultPlace`). For an error other than `Utf8` it has to be the last one.
use Rattle.std.proofs.Common.{◌≡◌, ◌≢◌, ◌+◌, ◌-◌, ◌<◌, ◌≤◌, ℕ, List, take, subst, sym, arith}
use Rattle.cbor_grammar.specs.declared.error.Error.{Error}
use Rattle.cbor_grammar.specs.declared.error.Error.TheVariants as refusal
use Rattle.cbor_grammar.specs.Facts.{IsCut}
use Rattle.cbor_grammar.proofs.bytes.Outcomes.{fault_kind}
use Rattle.cbor_bytes.specs.Extent.{FaultEnds}
use Rattle.cbor_places.specs.Fault.{ShowsFirst, IsFaultPlace}

-- the last of these bytes is the first with which the error shows
pub last_shows : (b : List ℕ) (e : Error) (end place : ℕ) → ShowsFirst b e end → place ≡ end - 1
    → ShowsFirst b e (place + 1)
last_shows b e end place shows at =
    let some : 1 ≤ end = shows.0.0 in
    let same : place + 1 ≡ end = omega (arith, at) in
    subst (λ (k : ℕ). ShowsFirst b e k) (sym same) shows

pub fault_placed : (b : List ℕ) (e : Error) (end place : ℕ) → FaultEnds b e end
    → ((n : ℕ) → n < end → IsCut (take n b)) → (e ≢ refusal.Utf8 → place ≡ end - 1) → (1 ≤ end → place < end)
    → IsFaultPlace b e place
fault_placed b refusal.Head end place shown cuts last within =
    last_shows b refusal.Head end place (shown, cuts) (last (λ is. absurd cc))
fault_placed b refusal.TooDeep end place shown cuts last within =
    last_shows b refusal.TooDeep end place (shown, cuts) (last (λ is. absurd cc))
fault_placed b refusal.Utf8 end place shown cuts last within = (end, (shown, cuts), within shown.0)
-- no other error is a fault
fault_placed b e end place shown cuts last within = absurd (fault_kind shown.2)
