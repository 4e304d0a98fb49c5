-- For `Tables`: the inside of a value decides whether an array, a map or a byte string with an item fits (`in_array`,
-- `in_map`, `has_inside`). One turn of `any_from`, `repeated` or `all_bits` gives the answer of the loop, or leaves it
-- to the next turn.
use Rattle.std.proofs.Common.{◌≡◌, ◌≢◌, ℕ, zero, suc, ◌<◌, ◌+◌, ◌-◌, ◌/◌, ◌%◌, inl, inr, Bool, true, false, Option}
use Rattle.std.proofs.Common.{Some, List}
use Rattle.std.proofs.Common.{option_map, if◌then◌else◌, ◌==◌, ap, sym, ◌∙◌, arith}
use Rattle.std.proofs.lemmas.Bool.{ne_eqb}
use Rattle.std.proofs.lemmas.Bool.Decides.{eqb_tells}
use Rattle.cbor_fits.specs.declared.value.Datum.{Datum}
use Rattle.cbor_fits.specs.Value as value
use Rattle.cbor_fits.specs.Value.{Value, values_of, pairs_of, list_of, list_of_pairs}
use Rattle.cbor_fits.specs.View.{view}
use Rattle.cbor_fits.specs.Fits.{◌>>=◌, Rest, Outcome, members, pairs, takes, size, is_whole, in_array, in_map}
use Rattle.cbor_fits.specs.Fits.{has_inside, is_fit, any_from, repeated, after_turn, all_bits, both}
use Rattle.cbor_fits.proofs.Views.{list_of-values_of, list_of_pairs-pairs_of}

pub array_takes : (f : Rest → Option Outcome) (x : Value) (xs ys : List Value) (o : Outcome) (b : Bool)
    → x ≡ value.array (values_of xs) → ys ≡ xs → f (members ys) ≡ Some o → b ≡ is_whole o → in_array f x ≡ Some b
array_takes f x xs ys o b seen same taken whole =
    ap (in_array f) seen ∙ (ap (λ zs. f (members zs) >>= (λ p. Some (is_whole p))) (list_of-values_of xs ∙ sym same)
    ∙ (ap (λ p. p >>= (λ q. Some (is_whole q))) taken ∙ ap (λ c. Some c) (sym whole)))

pub map_takes : (f : Rest → Option Outcome) (x : Value) (ps qs : List (Value × Value)) (o : Outcome) (b : Bool)
    → x ≡ value.map (pairs_of ps) → qs ≡ ps → f (pairs qs) ≡ Some o → b ≡ is_whole o → in_map f x ≡ Some b
map_takes f x ps qs o b seen same taken whole =
    ap (in_map f) seen ∙ (ap (λ zs. f (pairs zs) >>= (λ p. Some (is_whole p))) (list_of_pairs-pairs_of ps ∙ sym same)
    ∙ (ap (λ p. p >>= (λ q. Some (is_whole q))) taken ∙ ap (λ c. Some c) (sym whole)))

pub inside_fits : (decode : List ℕ → Option Value) (f : Value → Option Bool) (x : Value) (b c : List ℕ)
    (o : Option Datum) (d : Datum) → x ≡ value.bytes b → c ≡ b → option_map view o ≡ decode c → o ≡ Some d
    → has_inside decode f x ≡ f (view d)
inside_fits decode f x b c o d seen same read some =
    ap (has_inside decode f) seen ∙ (ap (λ z. is_fit f (decode z)) (sym same)
    ∙ (ap (is_fit f) (sym read) ∙ ap (λ p. is_fit f (option_map view p)) some))

pub any_from_next : (f : ℕ → Option Bool) (n k : ℕ) → 0 < n
    → any_from f n k ≡ (f k >>= (λ b. if b then Some true else any_from f (n - 1) (k + 1)))
unfolding any_from
any_from_next f zero k h = absurd (omega arith)
any_from_next f (suc n) k h =
    let e : n ≡ suc n - 1 = omega arith in
    ap (λ m. f k >>= (λ b. if b then Some true else any_from f m (k + 1))) e

pub from_here : (f : ℕ → Option Bool) (n k : ℕ) (whole : Option Bool) → any_from f n k ≡ whole → 0 < n
    → f k ≡ Some true → whole ≡ Some true
from_here f n k whole inv h fits =
    sym inv ∙ (any_from_next f n k h
    ∙ ap (λ p. p >>= (λ b. if b then Some true else any_from f (n - 1) (k + 1))) fits)

pub from_next : (f : ℕ → Option Bool) (n k m j : ℕ) (whole : Option Bool) → any_from f n k ≡ whole → 0 < n
    → f k ≡ Some false → m ≡ n - 1 → j ≡ k + 1 → any_from f m j ≡ whole
from_next f n k m j whole inv h fails fewer next =
    ap (λ c. any_from f c j) fewer ∙ (ap (any_from f (n - 1)) next
    ∙ (sym (any_from_next f n k h
    ∙ ap (λ p. p >>= (λ b. if b then Some true else any_from f (n - 1) (k + 1))) fails) ∙ inv))

pub repeated_next : (f : Rest → Option Outcome) (n least most : ℕ) (rest : Rest) → 0 < n
    → repeated f n least most rest ≡ (if most == 0 then Some (takes rest)
    else (f rest >>= (λ o. after_turn o rest least (repeated f (n - 1) (least - 1) (most - 1)))))
repeated_next f zero least most rest h = absurd (omega arith)
repeated_next f (suc n) least most rest h =
    let e : n ≡ suc n - 1 = omega arith in
    ap (λ m. if most == 0 then Some (takes rest)
    else (f rest >>= (λ o. after_turn o rest least (repeated f m (least - 1) (most - 1))))) e

module _ (f : Rest → Option Outcome) (n least most : ℕ) (rest next : Rest) (whole : Option Outcome)
    (inv : repeated f n least most rest ≡ whole) (h : 0 < n) (more : most ≢ 0) (taken : f rest ≡ Some (takes next))
    (some : size next ≢ size rest) where
  -- a turn that takes something
  turned : repeated f n least most rest ≡ repeated f (n - 1) (least - 1) (most - 1) next
  turned =
      repeated_next f n least most rest h
      ∙ (ap (λ b. if b then Some (takes rest)
      else (f rest >>= (λ o. after_turn o rest least (repeated f (n - 1) (least - 1) (most - 1))))) (ne_eqb most 0 more)
      ∙ (ap (λ p. p >>= (λ o. after_turn o rest least (repeated f (n - 1) (least - 1) (most - 1)))) taken
      ∙ ap (λ b. if b then Some (takes rest) else repeated f (n - 1) (least - 1) (most - 1) next)
      (ne_eqb (size next) (size rest) some)))

  pub turn_on : (m l k : ℕ) → m ≡ n - 1 → l ≡ least - 1 → k ≡ most - 1 → repeated f m l k next ≡ whole
  turn_on m l k em el ek =
      ap (λ c. repeated f c l k next) em ∙ (ap (λ c. repeated f (n - 1) c k next) el
      ∙ (ap (λ c. repeated f (n - 1) (least - 1) c next) ek ∙ (sym turned ∙ inv)))

pub all_bits_next : (f : ℕ → Option Bool) (n k number : ℕ) → 0 < n
    → all_bits f n k number ≡ (if number % 2 == 1 then both (f k) (all_bits f (n - 1) (k + 1) (number / 2))
    else all_bits f (n - 1) (k + 1) (number / 2))
all_bits_next f zero k number h = absurd (omega arith)
all_bits_next f (suc n) k number h =
    let e : n ≡ suc n - 1 = omega arith in
    ap (λ m. if number % 2 == 1 then both (f k) (all_bits f m (k + 1) (number / 2))
    else all_bits f m (k + 1) (number / 2)) e

pub bits_on : (f : ℕ → Option Bool) (n k number : ℕ) (whole : Option Bool) → all_bits f n k number ≡ whole → 0 < n
    → (number % 2 ≡ 1 → f k ≡ Some true) → (m j half : ℕ) → m ≡ n - 1 → j ≡ k + 1 → half ≡ number / 2
    → all_bits f m j half ≡ whole
bits_on f n k number whole inv h here m j half em ej eh =
    let rest = all_bits f (n - 1) (k + 1) (number / 2) in
    let turned : all_bits f n k number ≡ rest = all_bits_next f n k number h
    ∙ (elim (eqb_tells (number % 2) 1) [
      | inl p ↦ ap (λ b. if b then both (f k) rest else rest) p.0 ∙ ap (λ o. both o rest) (here p.1)
      | inr q ↦ ap (λ b. if b then both (f k) rest else rest) q.0
    ]) in
    ap (λ c. all_bits f c j half) em ∙ (ap (λ c. all_bits f (n - 1) c half) ej
    ∙ (ap (λ c. all_bits f (n - 1) (k + 1) c) eh ∙ (sym turned ∙ inv)))
