-- A container that was read up to one of its parts (`IsBefore`) is, by the grammar, a head, whole parts, and the rest
-- (`Within`). If the container is whole, so is the part. If the container is cut or has a fault, and no whole item is
-- in the place of the part, the part is cut or has that fault.
use Rattle.std.proofs.Common.{◌≡◌, ℕ, zero, suc, ◌+◌, ◌-◌, ◌*◌, ◌≤◌, List, [], ◌∷◌, ◌++◌, refl, sym, ap, subst}
use Rattle.std.proofs.Common.{Ok, ◌∙◌, append_assoc, append-nil, arith}
use Rattle.cbor_grammar.specs.declared.argument.Argument.TheVariants.{Number, Indefinite}
use Rattle.cbor_grammar.specs.declared.error.Error.{Error}
use Rattle.cbor_grammar.specs.Item.{Item}
use Rattle.cbor_grammar.specs.Head.{head, opening}
use Rattle.cbor_grammar.specs.Bytes.{any, Spells}
use Rattle.cbor_grammar.specs.Refused.{SpelledParts, Next, part, part_or_break, Inside, in_tag, in_array, in_map}
use Rattle.cbor_grammar.specs.Refused.{in_open_array, at_open_key, at_open_value, Cut, in_part, NoBreakAt, Fault}
use Rattle.cbor_grammar.specs.Refused.{bad_part}
use Rattle.cbor_grammar.specs.Answer.{Outcome, spelled, cut, fault, IsOutcome, OneOutcome}
use Rattle.cbor_grammar.specs.WellFormed.{deepest, levels_left}
use Rattle.cbor_grammar.proofs.bytes.Heads.{IsBytes, head_takes}
use Rattle.cbor_grammar.specs.Reading.{Read, read_item}
use Rattle.cbor_grammar.proofs.bytes.Found.{item_takes}
use Rattle.cbor_grammar.proofs.bytes.FoundAgain.{item_again}
use Rattle.cbor_grammar.proofs.bytes.Refusals.{no_break_from}
use Rattle.cbor_grammar.proofs.bytes.ExactlyOne.{one_outcome}
use Rattle.cbor_trace.specs.declared.open.Open.{Open}
use Rattle.cbor_trace.specs.declared.open.Open.TheVariants.{Array, Key, Value, Tag}
use Rattle.cbor_trace.specs.Around.{head_of, After, AfterItems, IsBefore}

-- ---- whole parts

-- with one part more
parts_snoc : (level n : ℕ) (b y : List ℕ) (i : Item) → SpelledParts level n b → Spells any level y i
    → SpelledParts level (suc n) (b ++ y)
parts_snoc level zero b y i h s = (y, [], i, ap (λ (x : List ℕ). x ++ y) h ∙ sym (append-nil y), s, refl)
parts_snoc level (suc n) b y i h s =
    let parts = ap (λ (x : List ℕ). x ++ y) h.3 ∙ append_assoc h.0 h.1 y in
    (h.0, h.1 ++ y, h.2, parts, h.4, parts_snoc level n h.1 y i h.5 s)

-- whole parts before a rest
pub record Whole (level k : ℕ) (b rest : List ℕ) : Type 0 where
  pub front : List ℕ
  pub parts : b ≡ front ++ rest
  pub spells : SpelledParts level k front
  pub rest_bytes : IsBytes rest

-- items that are read are whole parts
pub whole_parts : (level left k : ℕ) (b rest : List ℕ) → level + left ≡ 129 → IsBytes b → AfterItems left k b rest
    → Whole level k b rest
whole_parts level left zero b rest sum fits h =
    record { front = []; parts = h; spells = refl; rest_bytes = subst IsBytes h fits }
whole_parts level left (suc k) b rest sum fits h =
    let w = whole_parts level left k b h.0 sum fits h.2 in
    let s = item_takes level left h.0 h.1 rest sum w.rest_bytes h.3 in
    record {
      front = w.front ++ s.front;
      parts = w.parts ∙ ap (λ (x : List ℕ). w.front ++ x) s.parts ∙ sym (append_assoc w.front s.front rest);
      spells = parts_snoc level k w.front s.front h.1 w.spells s.spells;
      rest_bytes = s.rest_bytes;
    }

-- one value more in front
pub one_before : {X : Type 0} (read : List ℕ → Read X) (k : ℕ) (b mid rest : List ℕ) (x : X) → read b ≡ Ok (x, mid)
    → After read k mid rest → After read (suc k) b rest
one_before read zero b mid rest x e h = (b, x, refl, e ∙ ap (λ (r : List ℕ). Ok (x, r)) h)
one_before read (suc k) b mid rest x e h = (h.0, h.1, one_before read k b mid h.0 x e h.2, h.3)

-- and whole parts are read
pub parts_again : (level left k : ℕ) (front rest : List ℕ) → level + left ≡ 129 → SpelledParts level k front
    → AfterItems left k (front ++ rest) rest
parts_again level left zero front rest sum h = ap (λ (x : List ℕ). x ++ rest) h
parts_again level left (suc k) front rest sum h =
    let regrouped : front ++ rest ≡ h.0 ++ (h.1 ++ rest) =
    ap (λ (x : List ℕ). x ++ rest) h.3 ∙ append_assoc h.0 h.1 rest in
    one_before (read_item left) k (front ++ rest) (h.1 ++ rest) rest h.2
    (ap (read_item left) regrouped ∙ item_again level left h.0 h.2 (h.1 ++ rest) sum h.4)
    (parts_again level left k h.1 rest sum h.5)

-- ---- containers

-- the rest is in the place of the next part
pub record Within (level : ℕ) (b rest : List ℕ) : Type 0 where
  pub next : Next
  pub inside : Inside level b rest next
  pub no_break : NoBreakAt next rest
  pub front : List ℕ
  pub parts : b ≡ front ++ rest
  pub rest_bytes : IsBytes rest

behind : (h x r rest : List ℕ) (b : List ℕ) → b ≡ h ++ r → r ≡ x ++ rest → b ≡ (h ++ x) ++ rest
behind h x r rest b e f = e ∙ ap (λ (y : List ℕ). h ++ y) f ∙ sym (append_assoc h x rest)

pub within : (total level : ℕ) (b : List ℕ) (o : Open) (rest : List ℕ) → IsBytes b → IsBefore total level b o rest
    → Within level b rest
within total level b (Array (Number n w) i) rest fits h =
    let is = head_takes b h.inner (head_of (Array (Number n w) i)) fits h.head in
    let p = whole_parts (level + 1) (levels_left (level + 1)) i h.inner rest (omega (arith, h.levels)) is.1 h.whole in
    record {
      next = part;
      inside = in_array n i w p.front (is.0.0, is.0.1, is.0.2, is.0.3 ∙ p.parts) p.spells h.goes_on;
      no_break = tt;
      front = head 4 n w ++ p.front;
      parts = behind (head 4 n w) p.front is.0.1 rest b is.0.2 (is.0.3 ∙ p.parts);
      rest_bytes = p.rest_bytes;
    }
within total level b (Array Indefinite i) rest fits h =
    let is = head_takes b h.inner (head_of (Array Indefinite i)) fits h.head in
    let p = whole_parts (level + 1) (levels_left (level + 1)) i h.inner rest (omega (arith, h.levels)) is.1 h.whole in
    let parts : b ≡ opening 4 ∷ (p.front ++ rest) = is.0 ∙ ap (λ (x : List ℕ). opening 4 ∷ x) p.parts in
    record {
      next = part_or_break;
      inside = in_open_array i p.front parts p.spells;
      no_break = no_break_from rest h.goes_on;
      front = opening 4 ∷ p.front;
      parts = parts;
      rest_bytes = p.rest_bytes;
    }
within total level b (Key (Number n w) i) rest fits h =
    let is = head_takes b h.inner (head_of (Key (Number n w) i)) fits h.head in
    let p = whole_parts (level + 1) (levels_left (level + 1)) (2 * i) h.inner rest (omega (arith, h.levels)) is.1
    h.whole in
    record {
      next = part;
      inside = in_map n (2 * i) w p.front (is.0.0, is.0.1, is.0.2, is.0.3 ∙ p.parts) p.spells
          (omega (arith, h.goes_on));
      no_break = tt;
      front = head 5 n w ++ p.front;
      parts = behind (head 5 n w) p.front is.0.1 rest b is.0.2 (is.0.3 ∙ p.parts);
      rest_bytes = p.rest_bytes;
    }
within total level b (Key Indefinite i) rest fits h =
    let is = head_takes b h.inner (head_of (Key Indefinite i)) fits h.head in
    let p = whole_parts (level + 1) (levels_left (level + 1)) (2 * i) h.inner rest (omega (arith, h.levels)) is.1
    h.whole in
    let parts : b ≡ opening 5 ∷ (p.front ++ rest) = is.0 ∙ ap (λ (x : List ℕ). opening 5 ∷ x) p.parts in
    record {
      next = part_or_break;
      inside = at_open_key i p.front parts p.spells;
      no_break = no_break_from rest h.goes_on;
      front = opening 5 ∷ p.front;
      parts = parts;
      rest_bytes = p.rest_bytes;
    }
within total level b (Value (Number n w) i key) rest fits h =
    let is = head_takes b h.inner (head_of (Value (Number n w) i key)) fits h.head in
    let p = whole_parts (level + 1) (levels_left (level + 1)) (2 * i + 1) h.inner rest (omega (arith, h.levels)) is.1
    h.whole in
    record {
      next = part;
      inside = in_map n (2 * i + 1) w p.front (is.0.0, is.0.1, is.0.2, is.0.3 ∙ p.parts) p.spells
          (omega (arith, h.goes_on));
      no_break = tt;
      front = head 5 n w ++ p.front;
      parts = behind (head 5 n w) p.front is.0.1 rest b is.0.2 (is.0.3 ∙ p.parts);
      rest_bytes = p.rest_bytes;
    }
within total level b (Value Indefinite i key) rest fits h =
    let is = head_takes b h.inner (head_of (Value Indefinite i key)) fits h.head in
    let p = whole_parts (level + 1) (levels_left (level + 1)) (2 * i + 1) h.inner rest (omega (arith, h.levels)) is.1
    h.whole in
    let parts : b ≡ opening 5 ∷ (p.front ++ rest) = is.0 ∙ ap (λ (x : List ℕ). opening 5 ∷ x) p.parts in
    record {
      next = part;
      inside = at_open_value i p.front parts p.spells;
      no_break = tt;
      front = opening 5 ∷ p.front;
      parts = parts;
      rest_bytes = p.rest_bytes;
    }
within total level b (Tag n w) rest fits h =
    let is = head_takes b h.inner (head_of (Tag n w)) fits h.head in
    let at = is.0.3 ∙ h.whole in
    record {
      next = part;
      inside = in_tag n w (is.0.0, is.0.1, is.0.2, at);
      no_break = tt;
      front = head 6 n w;
      parts = is.0.2 ∙ ap (λ (x : List ℕ). head 6 n w ++ x) at;
      rest_bytes = subst IsBytes h.whole is.1;
    }

-- ---- the outcome of a part is that of its container, if the part is not whole

module _ (level : ℕ) (b rest : List ℕ) (levels : level ≤ deepest) (fits : IsBytes b) (w : Within level b rest) where
  outer : OneOutcome level b
  outer = one_outcome level (129 - level) b (omega (arith, levels)) fits

  inner : OneOutcome (level + 1) rest
  inner = one_outcome (level + 1) (128 - level) rest (omega (arith, levels)) w.rest_bytes

  two : {A : Type 0} (o p : Outcome) → IsOutcome level b o → IsOutcome level b p → (o ≡ p → ⊥) → A
  two o p h k differ = absurd (differ (outer.only o h ∙ sym (outer.only p k)))

  pub part_cut : ((i : Item) (n : ℕ) → ¬ (IsOutcome (level + 1) rest (spelled i n))) → Cut level b
      → Cut (level + 1) rest
  part_cut broken c = go inner.outcome inner.holds
    where
      go : (o : Outcome) → IsOutcome (level + 1) rest o → Cut (level + 1) rest
      go (spelled i n) h = absurd (broken i n h)
      go cut h = h
      go (fault e) h = two cut (fault e) c (bad_part w.next rest levels w.inside w.no_break h) (λ s. cc)

  pub part_fault : (e : Error) → ((i : Item) (n : ℕ) → ¬ (IsOutcome (level + 1) rest (spelled i n))) → Fault level b e
      → Fault (level + 1) rest e
  part_fault e broken f = go inner.outcome inner.holds
    where
      go : (o : Outcome) → IsOutcome (level + 1) rest o → Fault (level + 1) rest e
      go (spelled i n) h = absurd (broken i n h)
      go cut h = two cut (fault e) (in_part w.next rest levels w.inside h) f (λ s. cc)
      go (fault d) h =
          let same : fault d ≡ fault e =
          outer.only (fault d) (bad_part w.next rest levels w.inside w.no_break h) ∙ sym (outer.only (fault e) f) in
          let is : d ≡ e = cc in
          subst (Fault (level + 1) rest) is h

  pub part_whole : (i : Item) (n : ℕ) → IsOutcome level b (spelled i n)
      → (j : Item) × (m : ℕ) × IsOutcome (level + 1) rest (spelled j m)
  part_whole i n s = go inner.outcome inner.holds
    where
      go : (o : Outcome) → IsOutcome (level + 1) rest o
          → (j : Item) × (m : ℕ) × IsOutcome (level + 1) rest (spelled j m)
      go (spelled j m) h = (j, m, h)
      go cut h = two cut (spelled i n) (in_part w.next rest levels w.inside h) s (λ e. cc)
      go (fault d) h =
          two (fault d) (spelled i n) (bad_part w.next rest levels w.inside w.no_break h) s (λ e. cc)
