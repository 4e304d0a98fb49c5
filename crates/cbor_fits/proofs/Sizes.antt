-- For `.size` of a number. A number is below 256 ^ k from the k on that `bytes_needed` returns, so the sizes from that
-- one on decide (`from_needed`). Whether a range has one of these (`from_within`), and that of a choice of types one
-- type has one (`from_either`).
use Rattle.std.proofs.Common.{◌≡◌, ℕ, ℤ, zero, suc, ◌<◌, ◌≤◌, ◌+◌, ◌-◌, ◌*◌, ◌/◌, ◌^◌, Bool, true, false, Option, Some}
use Rattle.std.proofs.Common.{None, List, ◌∷◌, length, drop, get_or, if◌then◌else◌, ◌&&◌, ◌||◌, nat_lt, nat_le, int_le}
use Rattle.std.proofs.Common.{pos, refl, ap, sym, ◌∙◌, arith, mul_comm}
use mir.Syntax.{Width}
use mir.Val.{SFits, to_z, of_z}
use Rattle.std.proofs.Math.Nat.{pow-suc}
use Rattle.std.proofs.lemmas.Bool.Decides.{nat_tests}
use Rattle.std.proofs.lemmas.Int.{ints, to_z-of_z}
use Rattle.std.proofs.lemmas.List.{at_drop_more, at_drop_all}
use Rattle.cbor_cddl.specs.declared.schema.Node.{Node}
use Rattle.cbor_fits.specs.Value.{integer}
use Rattle.cbor_fits.specs.Rules.{Rules}
use Rattle.cbor_fits.specs.Leaf.{is_integer_within}
use Rattle.cbor_fits.specs.Fits.{◌>>=◌, any_of, any_from, matcher, fits_node}
use Rattle.cbor_fits.proofs.Levels.{fits_at}
use Rattle.cbor_fits.proofs.Inside.{any_from_next, from_next}

-- functions that answer alike from a number on
pub from_same : (f g : ℕ → Option Bool) (n k : ℕ) → ((j : ℕ) → k ≤ j → f j ≡ g j) → any_from f n k ≡ any_from g n k
unfolding any_from
from_same f g zero k alike = refl
from_same f g (suc n) k alike =
    ap (λ o. o >>= (λ b. if b then Some true else any_from f n (k + 1))) (alike k (omega arith))
    ∙ ap (λ rest. g k >>= (λ b. if b then Some true else rest)) (from_same f g n (k + 1) (λ j h. alike j (omega arith)))

-- numbers that are none do not count
pub from_skip : (f : ℕ → Option Bool) (m n k : ℕ) → ((j : ℕ) → k ≤ j → j < k + m → f j ≡ Some false)
    → any_from f (m + n) k ≡ any_from f n (k + m)
from_skip f zero n k none =
    let all : 0 + n ≡ n = omega arith in
    let here : k ≡ k + 0 = omega arith in
    ap (λ c. any_from f c k) all ∙ ap (any_from f n) here
from_skip f (suc m) n k none =
    let there : k + 1 + m ≡ k + suc m = omega arith in
    sym (from_next f (suc m + n) k (m + n) (k + 1) _ refl (omega arith) (none k (omega arith) (omega arith)) (omega arith)
    (omega arith))
    ∙ (from_skip f m n (k + 1) (λ j h less. none j (omega arith) (omega arith)) ∙ ap (any_from f n) there)

-- none of them
pub from_none : (n k : ℕ) → any_from (λ j. Some false) n k ≡ Some false
unfolding any_from
from_none zero k = refl
from_none (suc n) k = from_none n (k + 1)

-- one of two functions
either_step : (o p u v w : Option Bool) (a b : Bool) → (o >>= (λ c. if c then Some true else u)) ≡ Some a
    → (p >>= (λ c. if c then Some true else v)) ≡ Some b → (u ≡ Some a → v ≡ Some b → w ≡ Some (a || b))
    → ((o >>= (λ c. if c then Some true else p)) >>= (λ c. if c then Some true else w)) ≡ Some (a || b)
either_step (Some true) p u v w true b x y more = refl
either_step (Some true) p u v w false b x y more = absurd (cc)
either_step (Some false) (Some true) u v w true true x y more = refl
either_step (Some false) (Some true) u v w false true x y more = refl
either_step (Some false) (Some true) u v w a false x y more = absurd (cc)
either_step (Some false) (Some false) u v w a b x y more = more x y
either_step (Some false) None u v w a b x y more = absurd (cc)
either_step None p u v w a b x y more = absurd (cc)

pub from_either : (f g : ℕ → Option Bool) (n k : ℕ) (a b : Bool) → any_from f n k ≡ Some a → any_from g n k ≡ Some b
    → any_from (λ j. f j >>= (λ c. if c then Some true else g j)) n k ≡ Some (a || b)
unfolding any_from
from_either f g zero k true b x y = absurd (cc)
from_either f g zero k false true x y = absurd (cc)
from_either f g zero k false false x y = refl
from_either f g (suc n) k a b x y =
    either_step (f k) (g k) (any_from f n (k + 1)) (any_from g n (k + 1)) _ a b x y
    (λ u v. from_either f g n (k + 1) a b u v)

-- a number of a range
within_step : (above below some more : Bool) (rest : Option Bool) → rest ≡ Some (some && more)
    → (above ≡ true → below ≡ true → some ≡ true) → (below ≡ false → more ≡ false)
    → (above ≡ false → some ≡ true → more ≡ true)
    → (if above && below then Some true else rest) ≡ Some (some && below)
within_step true true some more rest e here end before = ap (λ b. Some (b && true)) (sym (here refl refl))
within_step true false some more rest e here end before = e ∙ ap (λ b. Some (some && b)) (end refl)
within_step false false some more rest e here end before = e ∙ ap (λ b. Some (some && b)) (end refl)
within_step false true true more rest e here end before = e ∙ ap Some (before refl refl)
within_step false true false more rest e here end before = e

and_false : (a b : Bool) → b ≡ false → Some false ≡ Some (a && b)
and_false true b e = ap Some (sym e)
and_false false b e = refl

pub from_within : (least most : ℤ) (n k : ℕ) → int_le (pos (k + n)) most ≡ false
    → any_from (λ j. Some (is_integer_within least most (integer (pos j)))) n k ≡ Some (int_le least most && int_le (pos k) most)
unfolding any_from
from_within least most zero k h =
    let none : int_le (pos k) most ≡ false = grind (arith, ints) in
    and_false (int_le least most) (int_le (pos k) most) none
from_within least most (suc n) k h =
    within_step (int_le least (pos k)) (int_le (pos k) most) (int_le least most) (int_le (pos (k + 1)) most) _
    (from_within least most n (k + 1) (grind (arith, ints))) (λ a b. grind (arith, ints)) (λ a. grind (arith, ints))
    (λ a b. grind (arith, ints))

-- the number of bytes decides whether a power of 256 is above a number
pub needs_more : (n less : ℕ) → ((k : ℕ) → nat_lt (n / 256) (256 ^ k) ≡ nat_le less k) → 0 < n → (r : ℕ) → r ≡ less + 1 → (k : ℕ)
    → nat_lt n (256 ^ k) ≡ nat_le r k
needs_more n less h some r e zero = grind (arith, nat_tests)
needs_more n less h some r e (suc k) =
    let p : 256 ^ suc k ≡ 256 * 256 ^ k = pow-suc 256 k ∙ mul_comm (256 ^ k) 256 in
    let one : nat_lt n (256 ^ suc k) ≡ nat_lt (n / 256) (256 ^ k) = grind (arith, nat_tests) in
    let other : nat_le less k ≡ nat_le r (suc k) = grind (arith, nat_tests) in
    one ∙ (h k ∙ other)

pub power_some : (k : ℕ) → 0 < 256 ^ k
power_some zero = omega arith
power_some (suc k) = let p = pow-suc 256 k in omega (arith, p, power_some k)

pub needs_none : (k : ℕ) → nat_lt 0 (256 ^ k) ≡ nat_le 0 k
needs_none k = let p = power_some k in grind (arith, nat_tests)

-- a number is below a power of 256 for a size from the bytes that it needs on
pub from_needed : (f : ℕ → Option Bool) (n first count : ℕ) → ((k : ℕ) → nat_lt n (256 ^ k) ≡ nat_le first k)
    → first ≤ count
    → any_from (λ k. if nat_lt n (256 ^ k) then f k else Some false) count 0 ≡ any_from f (count - first) first
from_needed f n first count needed few =
    let g = λ (k : ℕ). if nat_lt n (256 ^ k) then f k else Some false in
    let parts : count ≡ first + (count - first) = omega arith in
    let begin : 0 + first ≡ first = omega arith in
    let under = λ (j : ℕ) (h : 0 ≤ j) (less : j < 0 + first).
    let no : nat_le first j ≡ false = grind (arith, nat_tests) in
    ap (λ b. if b then f j else Some false) (needed j ∙ no) in
    let after = λ (j : ℕ) (h : 0 + first ≤ j).
    let yes : nat_le first j ≡ true = grind (arith, nat_tests) in
    ap (λ b. if b then f j else Some false) (needed j ∙ yes) in
    ap (λ c. any_from g c 0) parts ∙ (from_skip g first (count - first) 0 under
    ∙ (from_same g f (count - first) (0 + first) after ∙ ap (any_from f (count - first)) begin))

-- the same answer for all numbers
pub from_all : (b : Bool) (n k : ℕ) → 0 < n → any_from (λ j. Some b) n k ≡ Some b
from_all true n k some = any_from_next (λ j. Some true) n k some
from_all false n k some = from_none n k

-- the sizes of the type at an index, by its node
pub sizes_at : (r : Rules) (d sizes n k : ℕ) (here there : Node) → 0 < d → here ≡ r.node sizes → here ≡ there
    → any_from (λ j. (matcher r d).fits sizes (integer (pos j))) n k
    ≡ any_from (λ j. fits_node r (matcher r (d - 1)) sizes there (integer (pos j))) n k
sizes_at r d sizes n k here there h says is =
    from_same _ _ n k (λ j more. fits_at r d sizes (integer (pos j)) h
    ∙ ap (λ t. fits_node r (matcher r (d - 1)) sizes t (integer (pos j))) (sym says ∙ is))

or_assoc : (a b c : Bool) → (a || (b || c)) ≡ ((a || b) || c)
or_assoc true b c = refl
or_assoc false b c = refl

-- one more type of a choice is asked
pub from_next_type : (f : ℕ → ℕ → Option Bool) (ts : List ℕ) (i t n k : ℕ) (whole : Option Bool) (found here : Bool)
    → ((b : Bool) → any_from (λ j. any_of (λ u. f u j) (drop i ts)) n k ≡ Some b → whole ≡ Some (found || b))
    → i < length ts → t ≡ get_or ts i t → any_from (f t) n k ≡ Some here
    → (b : Bool) → any_from (λ j. any_of (λ u. f u j) (drop (i + 1) ts)) n k ≡ Some b
    → whole ≡ Some ((found || here) || b)
from_next_type f ts i t n k whole found here inv less is asked b rest =
    inv (here || b)
    (at_drop_more (λ us. any_from (λ j. any_of (λ u. f u j) us) n k) ts i t less
    ∙ (ap (λ v. any_from (λ j. any_of (λ u. f u j) (v ∷ drop (i + 1) ts)) n k) (sym is)
    ∙ from_either (f t) (λ j. any_of (λ u. f u j) (drop (i + 1) ts)) n k here b asked rest))
    ∙ ap Some (or_assoc found here b)

or_false : (a : Bool) → (a || false) ≡ a
or_false true = refl
or_false false = refl

-- no type of a choice is left
pub from_no_type : (f : ℕ → ℕ → Option Bool) (ts : List ℕ) (i n k : ℕ) (whole : Option Bool) (found : Bool)
    → ((b : Bool) → any_from (λ j. any_of (λ u. f u j) (drop i ts)) n k ≡ Some b → whole ≡ Some (found || b))
    → length ts ≤ i → whole ≡ Some found
from_no_type f ts i n k whole found inv end =
    inv false (at_drop_all (λ us. any_from (λ j. any_of (λ u. f u j) us) n k) ts i end ∙ from_none n k)
    ∙ ap Some (or_false found)

-- the bounds of a range, as a call is given them
pub from_bounds : (w : Width) (least most : ℤ) (k : ℕ) (b : Bool) → SFits w least → SFits w most
    → b ≡ (int_le (to_z w (of_z w least)) (to_z w (of_z w most)) && int_le (pos k) (to_z w (of_z w most)))
    → (int_le least most && int_le (pos k) most) ≡ b
from_bounds w least most k b low high says =
    sym (says
    ∙ (ap (λ z. int_le z (to_z w (of_z w most)) && int_le (pos k) (to_z w (of_z w most))) (to_z-of_z w least low)
    ∙ ap (λ z. int_le least z && int_le (pos k) z) (to_z-of_z w most high)))
