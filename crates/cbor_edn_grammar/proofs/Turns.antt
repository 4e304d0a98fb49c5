-- In the definitions of EDN, reading with `repeated`, one turn at a time: after each turn that goes on, the values read
-- so far, followed by those of the turns still to come, are the whole result. If a turn fails, the whole fails; a last
-- turn ends with the values read so far and its own.
use Rattle.std.proofs.Common.{◌≡◌, ℕ, zero, suc, ◌<◌, List, [], ◌++◌, length, Option, Some, None, Bool, true}
use Rattle.std.proofs.Common.{false}
use Rattle.std.proofs.Common.{refl, sym, ap, subst, ◌∙◌, append_assoc, arith}
use Rattle.cbor_edn_grammar.specs.declared.error.Stop.{Stop}
use Rattle.cbor_edn_grammar.specs.declared.error.Stop.TheVariants as stop
use Rattle.cbor_edn_grammar.specs.Reading.{Read, ◌>>=◌, with_later, turns, repeated, Refuses}

-- what was read before, joined to what is read after it
abbrev pub onto : {X : Type 0} → List X → Read (List X) → Read (List X)
onto front read = read >>= λ more. Some (front ++ more.0, more.1)

onto_nothing : {X : Type 0} (read : Read (List X)) → onto [] read ≡ read
onto_nothing None = refl
onto_nothing (Some r) = refl

-- where a step has nothing to read, the whole has nothing
pub refused_step : {A B : Type 0} (e : Stop) (read : Option A) (then : A → Option B) → Refuses e read
    → Refuses e (read >>= then)
refused_step stop.Memory read then h = tt
refused_step (stop.At expected) read then h = ap (λ r. r >>= then) h

-- before the first turn
pub turns_begin : {X : Type 0} (turn : List ℕ → Option (List X × Bool × List ℕ)) (text : List ℕ) (front : List X)
    → front ≡ []
    → (n : ℕ) × (length text < n) × (onto front (turns turn n text) ≡ repeated turn text)
turns_begin turn text front none =
    (suc (length text), omega arith, ap (λ f. onto f (repeated turn text)) none ∙ onto_nothing (repeated turn text))

more_from : {X : Type 0} (front found : List X) (read : Read (List X))
    → onto front (read >>= λ more. Some (found ++ more.0, more.1)) ≡ onto (front ++ found) read
more_from front found None = refl
more_from front found (Some r) = ap (λ xs. Some (xs, r.1)) (sym (append_assoc front found r.0))

-- there is room for one more
room_left : (n k : ℕ) → k < n → (m : ℕ) × (n ≡ suc m)
room_left zero k lt = absurd (omega arith)
room_left (suc m) k lt = (m, refl)

module _ {X : Type 0} (turn : List ℕ → Option (List X × Bool × List ℕ)) (front : List X) (n : ℕ) (text : List ℕ)
    (total : Read (List X)) (room : length text < n) (so_far : onto front (turns turn n text) ≡ total) where
  turned : (r : (m : ℕ) × (n ≡ suc m)) → onto front (turn text >>= with_later (turns turn r.0)) ≡ total
  unfolding turns
  turned r = sym (ap (λ k. onto front (turns turn k text)) r.1) ∙ so_far

  pub turn_fails : (e : Stop) → Refuses e (turn text) → Refuses e total
  turn_fails e h =
      let r = room_left n (length text) room in
      subst (λ x. Refuses e x) (turned r)
      (refused_step e (turn text >>= with_later (turns turn r.0)) (λ more. Some (front ++ more.0, more.1))
      (refused_step e (turn text) (with_later (turns turn r.0)) h))

  pub turn_last : {found : List X} {rest : List ℕ} → turn text ≡ Some (found, false, rest)
      → total ≡ Some (front ++ found, rest)
  turn_last e =
      let r = room_left n (length text) room in
      sym (turned r) ∙ ap (λ t. onto front (t >>= with_later (turns turn r.0))) e

  pub turn_more : {found : List X} {rest : List ℕ} → turn text ≡ Some (found, true, rest) → length rest < length text
      → (m : ℕ) × (length rest < m) × (onto (front ++ found) (turns turn m rest) ≡ total)
  turn_more {found} {rest} e shorter =
      let r = room_left n (length text) room in (
        r.0,
        omega (arith, r.1),
        sym (more_from front found (turns turn r.0 rest))
            ∙ sym (ap (λ t. onto front (t >>= with_later (turns turn r.0))) e) ∙ turned r,
      )
