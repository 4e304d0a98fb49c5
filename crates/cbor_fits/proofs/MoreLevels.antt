-- If `matcher` has an answer with some number of levels, it gives the same answer with more levels (`fits_on`,
-- `takes_on`). So all numbers of levels that give an answer agree, and a value that fits (`Fits`) is never refused.
use Rattle.std.proofs.Common.{◌≡◌, ℕ, zero, suc, ◌+◌, ◌≤◌, ◌==◌, Bool, true, false, Some, pos, arith}
use Rattle.cbor_cddl.specs.declared.schema.Node.{Node}
use Rattle.cbor_cddl.specs.declared.schema.Node.TheVariants as node
use Rattle.cbor_fits.specs.Value.{Value, integer}
use Rattle.cbor_fits.specs.Rules.{Rules}
use Rattle.cbor_fits.specs.Fits.{Matcher, Rest, Outcome, refuses, target, fits_itself, fits_node, takes_node}
use Rattle.cbor_fits.specs.Fits.{step, matcher, Fits}
use Rattle.cbor_fits.proofs.Stays.{Stays, same, none_stays, if_stays, both_stays, any_of_stays, in_turn_stays}
use Rattle.cbor_fits.proofs.Stays.{first_of_stays, occurs_stays, one_member_stays, occurs_under_stays, in_array_stays}
use Rattle.cbor_fits.proofs.Stays.{in_map_stays, in_tag_stays, in_simple_stays, number_fits_stays, fits_target_stays}
use Rattle.cbor_fits.proofs.Stays.{has_size_stays, has_bits_stays, has_inside_stays, fails_stays}

-- each answer of the first one is the answer of the second one
record Extends (m more : Matcher) : Type 0 where
  fits : (n : ℕ) (x : Value) → Stays (m.fits n x) (more.fits n x)
  takes : (n : ℕ) (rest : Rest) → Stays (m.takes n rest) (more.takes n rest)

-- ---- one level

module _ (r : Rules) (m more : Matcher) (e : Extends m more) (n : ℕ) where
  itself_stays : (t : Node) (x : Value) → Stays (fits_itself r m n t x) (fits_itself r more n t x)
  itself_stays (node.Rule i) x = e.fits (r.body i) x
  itself_stays (node.Choice l) x = any_of_stays (λ t. e.fits t x) (r.list l)
  itself_stays (node.Array g) x = in_array_stays (e.takes g) x
  itself_stays (node.Map g) x = in_map_stays (e.takes g) x
  itself_stays (node.Tag number t) x = in_tag_stays (λ k. same (Some (number == k))) (e.fits t) x
  itself_stays (node.AnyTag numbers t) x = in_tag_stays (number_fits_stays e.fits numbers) (e.fits t) x
  itself_stays (node.Simples t) x = in_simple_stays (λ k. e.fits t (integer (pos k))) x
  itself_stays (node.Both t u) x = e.fits u x
  itself_stays (node.Unequal t u) x = fails_stays (e.fits u x)
  itself_stays (node.Size t s) x = has_size_stays (λ k. e.fits s (integer (pos k))) x
  itself_stays (node.Bits t s) x = has_bits_stays (λ k. e.fits s (integer (pos k))) x
  itself_stays (node.Encoded t u) x = has_inside_stays r.decoded (e.fits u) x
  itself_stays (node.EncodedSequence t u) x = has_inside_stays r.decoded_sequence (e.fits u) x
  itself_stays leaf x = same _

  node_stays : (t : Node) (x : Value) → Stays (fits_node r m n t x) (fits_node r more n t x)
  node_stays t x = both_stays (fits_target_stays e.fits (target t) x) (itself_stays t x)

  taken_stays : (t : Node) (rest : Rest) → Stays (takes_node r m n t rest) (takes_node r more n t rest)
  taken_stays (node.Sequence l) rest = in_turn_stays e.takes (r.list l) rest
  taken_stays (node.GroupChoice l) rest = first_of_stays (λ g. e.takes g rest) (r.list l) refuses
  taken_stays (node.Repeated g o) rest = occurs_stays (e.takes g) o rest
  taken_stays (node.Entry k cut t o) rest = occurs_under_stays (e.fits k) (e.fits t) (e.takes t) cut o rest
  taken_stays (node.Rule i) rest =
      if_stays (r.is_group (node.Rule i)) (e.takes (r.body i) rest) (one_member_stays (e.fits n) rest)
  taken_stays other rest = one_member_stays (e.fits n) rest

step_extends : (r : Rules) (m more : Matcher) → Extends m more → Extends (step r m) (step r more)
step_extends r m more e = record {
  fits = λ n x. node_stays r m more e n (r.node n) x;
  takes = λ n rest. taken_stays r m more e n (r.node n) rest;
}

-- ---- all levels

levels_extend : (r : Rules) (l k : ℕ) → l ≤ k → Extends (matcher r l) (matcher r k)
unfolding matcher
levels_extend r zero k h = record { fits = λ n x. none_stays _; takes = λ n rest. none_stays _ }
levels_extend r (suc l) zero h = absurd (omega arith)
levels_extend r (suc l) (suc k) h = step_extends r (matcher r l) (matcher r k) (levels_extend r l k (omega arith))

pub fits_on : (r : Rules) (n : ℕ) (x : Value) (b : Bool) (l k : ℕ) → l ≤ k → (matcher r l).fits n x ≡ Some b
    → (matcher r k).fits n x ≡ Some b
fits_on r n x b l k h is = ((levels_extend r l k h).fits n x).stays b is

pub takes_on : (r : Rules) (n : ℕ) (rest : Rest) (o : Outcome) (l k : ℕ) → l ≤ k → (matcher r l).takes n rest ≡ Some o
    → (matcher r k).takes n rest ≡ Some o
takes_on r n rest o l k h is = ((levels_extend r l k h).takes n rest).stays o is

-- ---- one answer

-- numbers of levels that answer give one answer
pub one_fits : (r : Rules) (n : ℕ) (x : Value) (l k : ℕ) (a b : Bool) → (matcher r l).fits n x ≡ Some a
    → (matcher r k).fits n x ≡ Some b → a ≡ b
one_fits r n x l k a b p q =
    let here = fits_on r n x a l (l + k) (omega arith) p in
    let there = fits_on r n x b k (l + k) (omega arith) q in
    cc

pub one_takes : (r : Rules) (n : ℕ) (rest : Rest) (l k : ℕ) (o p : Outcome) → (matcher r l).takes n rest ≡ Some o
    → (matcher r k).takes n rest ≡ Some p → o ≡ p
one_takes r n rest l k o p h g =
    let here = takes_on r n rest o l (l + k) (omega arith) h in
    let there = takes_on r n rest p k (l + k) (omega arith) g in
    cc

pub never_both : (r : Rules) (n : ℕ) (x : Value) (l : ℕ) → Fits r n x → (matcher r l).fits n x ≡ Some false → ⊥
never_both r n x l fits fails =
    let one = one_fits r n x fits.0 l true false fits.1 fails in
    cc
