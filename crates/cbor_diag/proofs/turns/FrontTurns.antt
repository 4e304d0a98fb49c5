-- Reading bytes into a `DataItem`: if the result and the count of turns are those of `counted_item`, the result without
-- the count is that of `read_item`, and the count is right (`FrontTurns`). The count rises by exactly the turns of the
-- item, the truncated input or the fault at the front, and by no more than those if memory runs out.
use Rattle.std.proofs.Common.{◌≡◌, ◌≢◌, ℕ, ◌+◌, ◌≤◌, List, take, drop, Some, None, Ok, Err}
use Rattle.std.proofs.Common.{refl, sym, ap, ◌∙◌, arith}
use Rattle.std.proofs.lemmas.List.{length-take, take-append-drop}
use Rattle.cbor_grammar.specs.declared.error.Error.{Error}
use Rattle.cbor_grammar.specs.declared.error.Error.TheVariants as refusal
use Rattle.cbor_diag.specs.declared.syntax.DataItem.{DataItem}
use Rattle.cbor_grammar.specs.Item.{Item}
use Rattle.cbor_diag.specs.View.{view}
use Rattle.cbor_grammar.specs.Bytes.{any, Spells}
use Rattle.cbor_grammar.specs.Refused.{Cut, Fault}
use Rattle.cbor_grammar.specs.Turns.{item_turns, cut_spent, fault_spent}
use Rattle.cbor_grammar.specs.Answer.{spelled, IsOutcome}
use Rattle.cbor_grammar.specs.Reading.{Fails, Counted, later, counted_item, read_item}
use Rattle.cbor_grammar.specs.mirror.Counting.{FailsIn}
use Rattle.cbor_diag.specs.mirror.BytesAnswer.{FrontTurns}
use Rattle.cbor_grammar.proofs.bytes.FoundAgain.{counted_again}
use Rattle.cbor_grammar.proofs.bytes.RefusedAgain.{cut_turns, fault_turns}
use Rattle.cbor_grammar.proofs.turns.ItemTurns.{turns_few}

-- what reading gives
pub first_ok : (old new : ℕ) (b rest : List ℕ) (i : Item) → later old (counted_item 128 b) ≡ (new, Ok (i, rest))
    → read_item 128 b ≡ Ok (i, rest)
first_ok old new b rest i h = ap (λ (c : Counted Item). c.1) h

pub first_fails : (old new : ℕ) (b : List ℕ) (e : Error) → FailsIn e new (later old (counted_item 128 b))
    → Fails e (read_item 128 b)
first_fails old new b refusal.Memory h = tt
first_fails old new b e h = ap (λ (c : Counted Item). c.1) h

module _ (old new : ℕ) (b : List ℕ) where
  -- ---- no more turns than reading takes, also where memory ran out

  abbrev Within : Type 0
  Within = new ≤ old + (counted_item 128 b).0

  within_item : Within → (i : Item) (n : ℕ) → Spells any 1 (take n b) i → new ≤ old + item_turns i
  within_item h i n s =
      let is = ap (counted_item 128) (sym (take-append-drop n b))
      ∙ counted_again 1 128 (take n b) i (drop n b) (omega arith) s in
      omega (arith, h, ap (λ (c : Counted Item). c.0) is)

  within_cut : Within → (c : Cut 1 b) → new ≤ old + (cut_spent c + 1)
  within_cut h c = omega (arith, h, ap (λ (x : Counted Item). x.0) (cut_turns 1 128 b (omega arith) c))

  within_fault : Within → (e : Error) (f : Fault 1 b e) → new ≤ old + (fault_spent f + 1)
  within_fault h e f = omega (arith, h, ap (λ (x : Counted Item). x.0) (fault_turns 1 128 b e (omega arith) f))

  -- ---- the turns of what the front is

  pub item_takes : (x : DataItem) (rest : List ℕ) (n : ℕ) → IsOutcome 1 b (spelled (view x) n)
      → later old (counted_item 128 b) ≡ (new, Ok (view x, rest)) → FrontTurns b old new (Ok (Some (x, n)))
  item_takes x rest n begins h =
      let counted = ap (counted_item 128) (sym (take-append-drop n b))
      ∙ counted_again 1 128 (take n b) (view x) (drop n b) (omega arith) begins.1 in
      let within : Within = omega (arith, ap (λ (c : Counted Item). c.0) h) in
      record {
        turns_of_item = sym (ap (λ (c : Counted Item). c.0) h) ∙ ap (λ (c : Counted Item). old + c.0) counted;
        twice_its_bytes = omega (arith, turns_few 1 (take n b) (view x) begins.1, length-take n b);
        turns_of_cut = λ is. absurd cc;
        turns_of_fault = tt;
        within_item = λ i n begins. within_item within i n begins.2;
        within_cut = within_cut within;
        within_fault = within_fault within;
      }

  pub cut_takes : FailsIn refusal.CutShort new (later old (counted_item 128 b)) → FrontTurns b old new (Ok None)
  cut_takes h =
      let within : Within = omega (arith, ap (λ (c : Counted Item). c.0) h) in
      record {
        turns_of_item = tt;
        twice_its_bytes = tt;
        turns_of_cut = λ is c. sym (ap (λ (x : Counted Item). x.0) h)
            ∙ ap (λ (x : Counted Item). old + x.0) (cut_turns 1 128 b (omega arith) c);
        turns_of_fault = tt;
        within_item = λ i n begins. within_item within i n begins.2;
        within_cut = within_cut within;
        within_fault = within_fault within;
      }

  fails_within : (e : Error) → FailsIn e new (later old (counted_item 128 b)) → Within
  fails_within refusal.Memory h = h
  fails_within e h = omega (arith, ap (λ (c : Counted Item). c.0) h)

  fault_turned : (e : Error) → FailsIn e new (later old (counted_item 128 b)) → e ≢ refusal.Memory → (f : Fault 1 b e)
      → new ≡ old + (fault_spent f + 1)
  fault_turned refusal.Memory h no_memory f = absurd (no_memory refl)
  fault_turned e h no_memory f = sym (ap (λ (x : Counted Item). x.0) h)
      ∙ ap (λ (x : Counted Item). old + x.0) (fault_turns 1 128 b e (omega arith) f)

  pub fault_takes : (e : Error) → FailsIn e new (later old (counted_item 128 b)) → FrontTurns b old new (Err e)
  fault_takes e h =
      let within = fails_within e h in
      record {
        turns_of_item = tt;
        twice_its_bytes = tt;
        turns_of_cut = λ is. absurd cc;
        turns_of_fault = fault_turned e h;
        within_item = λ i n begins. within_item within i n begins.2;
        within_cut = within_cut within;
        within_fault = within_fault within;
      }
