-- The kept answers of a `Work` (whether an item fits a type): they stay right (`Holds`) if a right one is put in or
-- empty slots are added; one that is taken out is right, also for a question on the same value with more levels.
use Rattle.std.proofs.Common.{◌≡◌, ℕ, ◌<◌, ◌≤◌, [], ◌++◌, length, get_or, take, replicate, Bool, Option, Some, None}
use Rattle.std.proofs.Common.{sym, subst}
use Rattle.std.specs.List.{All}
use Rattle.std.proofs.Math.ListN.{set}
use Rattle.std.proofs.lemmas.List.Elements.{All-nil, All-get_or, All-set, All-replicate, All-append, All-take}
use Rattle.cbor_fits.specs.Rules.{Rules}
use Rattle.cbor_fits.specs.Value.{Value}
use Rattle.cbor_fits.specs.View.{view}
use Rattle.cbor_fits.specs.Fits.{matcher}
use Rattle.cbor_fits.specs.Kept.{IsRight, IsRightIfAny, Holds}
use Rattle.cbor_fits.proofs.MoreLevels.{fits_on}
use Rattle.cbor_fits.specs.declared.work.Question.{Question}
use Rattle.cbor_fits.specs.declared.work.Known.{Known}
use Rattle.cbor_fits.specs.declared.work.Work.{Work}

pub holds_none : (r : Rules) (w : Work) → w.known.items ≡ [] → Holds r w
unfolding Holds
holds_none r w none = subst (All (IsRightIfAny r)) (sym none) (All-nil (IsRightIfAny r))

pub holds_same : (r : Rules) (v w : Work) → v.known.items ≡ w.known.items → Holds r v → Holds r w
unfolding Holds
holds_same r v w same h = subst (All (IsRightIfAny r)) same h

-- the answer of a slot is right
pub holds_at : (r : Rules) (w : Work) (i : ℕ) (o : Option Known) (k : Known) → i < length w.known.items
    → o ≡ get_or w.known.items i o → o ≡ Some k → Holds r w → IsRight r k.question k.fits
unfolding Holds
holds_at r w i o k here is some h =
    subst (IsRightIfAny r) some (subst (IsRightIfAny r) (sym is) (All-get_or (IsRightIfAny r) w.known.items i o here h))

-- a right answer takes the place of another one
pub holds_set : (r : Rules) (v w : Work) (i : ℕ) (k : Known) → w.known.items ≡ set v.known.items i (Some k)
    → Holds r v → IsRight r k.question k.fits → Holds r w
unfolding Holds
holds_set r v w i k is h right =
    subst (All (IsRightIfAny r)) (sym is) (All-set (IsRightIfAny r) v.known.items i (Some k) right h)

-- slots without an answer are added
pub holds_more : (r : Rules) (v w : Work) (n m : ℕ) → w.known.items ≡ take n v.known.items ++ replicate m None
    → Holds r v → Holds r w
unfolding Holds
holds_more r v w n m is h =
    subst (All (IsRightIfAny r)) (sym is) (All-append (IsRightIfAny r) (take n v.known.items) (replicate m None)
    (All-take (IsRightIfAny r) n v.known.items h) (All-replicate (IsRightIfAny r) m None tt))

-- an answer on the same item, within more levels
pub right_for : (r : Rules) (p q : Question) (b : Bool) → p.index ≡ q.index → p.depth ≤ q.depth
    → view p.datum.now ≡ view q.datum.now → IsRight r p b → IsRight r q b
right_for r p q b index more datum right =
    subst (λ (x : Value). (matcher r q.depth).fits q.index x ≡ Some b) datum
    (subst (λ (n : ℕ). (matcher r q.depth).fits n (view p.datum.now) ≡ Some b) index
    (fits_on r p.index (view p.datum.now) b p.depth q.depth more right))
