-- For `read_front` and `read_whole`: if the front of an input is an item, is truncated or is malformed, the result that
-- says this satisfies `FrontAnswer`. If the whole input is an item or is refused, the result that says this satisfies
-- `WholeAnswer`. The error for running out of memory satisfies both.
use Rattle.std.proofs.Common.{◌≡◌, ◌≢◌, ℕ, ◌≤◌, List, [], length, take, drop, Some, None, Ok, Err}
use Rattle.std.proofs.Common.{sym, ap, ◌∙◌, arith, inl, inr}
use Rattle.std.proofs.lemmas.List.{length-append, length-take, length-drop, take-append-drop, take-append-le}
use Rattle.cbor_grammar.specs.declared.error.Error.{Error}
use Rattle.cbor_grammar.specs.declared.error.Error.TheVariants as refusal
use Rattle.cbor_diag.specs.declared.syntax.DataItem.{DataItem}
use Rattle.cbor_grammar.specs.Item.{Item}
use Rattle.cbor_diag.specs.View.{view}
use Rattle.cbor_grammar.specs.Bytes.{any, Spells}
use Rattle.cbor_grammar.specs.Refused.{Cut, Fault}
use Rattle.cbor_grammar.specs.Answer.{Outcome, spelled, cut, fault, IsOutcome, OneOutcome, IsRefused, UnlessMemory}
use Rattle.cbor_grammar.specs.Answer.{GaveRefusal}
use Rattle.cbor_diag.specs.ItemAnswer.{Gave, GaveItem}
use Rattle.cbor_diag.specs.mirror.BytesAnswer.{WholeAnswer, FrontAnswer}
use Rattle.cbor_grammar.proofs.bytes.Heads.{IsBytes, IsBytes-take}
use Rattle.cbor_grammar.proofs.bytes.FoundAgain.{spelled_begins}
use Rattle.cbor_grammar.proofs.bytes.Faults.{fault_append}
use Rattle.cbor_grammar.proofs.bytes.Strict.{strict_only}
use Rattle.cbor_grammar.proofs.bytes.Resolved.{spells_well, encoded_strict}
use Rattle.cbor_grammar.proofs.bytes.Sizes.{items_bound}
use Rattle.cbor_grammar.proofs.bytes.ExactlyOne.{front_cut, one_outcome}
use Rattle.cbor_grammar.proofs.bytes.Outcomes.{same, whole_outcome, no_refused_item, one_refusal, memory_or}
use Rattle.cbor_grammar.proofs.bytes.Outcomes.{unless_memory}

module _ (b : List ℕ) (fits : IsBytes b) where
  one : OneOutcome 1 b
  one = one_outcome 1 128 b (omega arith) fits

  -- ---- the front of an input

  pub front_is : (x : DataItem) (n : ℕ) → IsOutcome 1 b (spelled (view x) n) → FrontAnswer b (Ok (Some (x, n)))
  front_is x n h =
      let within : n ≤ length b = h.0 in
      let begins = spelled_begins 1 (take n b) (view x) h.1 in
      record {
        found = (omega (arith, length-take n b, ap length begins.parts), h.0, h.1);
        cut = λ is. absurd cc;
        fault = tt;
        exact = λ o k. same b (spelled (view x) n) o one h k;
        one_of_three = one;
        found_stays = λ more. (omega (arith, h.0, length-append b more), rw take-append-le h.1);
        fault_stays = tt;
        well_formed = spells_well 1 (take n b) (view x) (IsBytes-take n b fits) h.1;
      }

  pub cut_is : Cut 1 b → FrontAnswer b (Ok None)
  cut_is h = record {
    found = tt;
    cut = λ is. h;
    fault = tt;
    exact = λ o k. same b cut o one h k;
    one_of_three = one;
    found_stays = tt;
    fault_stays = tt;
    well_formed = tt;
  }

  gave_fault : (e : Error) → UnlessMemory (Fault 1 b) e → (o : Outcome) → IsOutcome 1 b o → Gave (Err e) o
  gave_fault refusal.Memory h o k = tt
  gave_fault e h o k = same b (fault e) o one h k

  pub fault_is : (e : Error) → UnlessMemory (Fault 1 b) e → FrontAnswer b (Err e)
  fault_is e h =
      let is = unless_memory (Fault 1 b) e h in
      record {
        found = tt;
        cut = λ is. absurd cc;
        fault = is;
        exact = gave_fault e h;
        one_of_three = one;
        found_stays = tt;
        fault_stays = λ no_memory more. fault_append 1 b more e (is no_memory);
        well_formed = tt;
      }

  -- ---- the whole of an input

  pub whole_is : (x : DataItem) → Spells any 1 b (view x) → WholeAnswer b (Ok x)
  whole_is x h = record {
    ok = h;
    every_item = λ i s.
        let is : spelled (view x) (length b) ≡ spelled i (length b) = one.only _ (whole_outcome 1 b (view x) h)
        ∙ sym (one.only _ (whole_outcome 1 b i s)) in
        cc;
    refused = tt;
    every_refusal = λ e k. no_refused_item 1 b (view x) e one h k;
    well_formed = spells_well 1 b (view x) fits h;
    written_again = (encoded_strict 1 b (view x) fits h, λ s. sym (strict_only 1 b (view x) s));
    items_bounded = items_bound 1 b (view x) h;
    fronts_cut = λ n lt.
        let some : drop n b ≢ [] = λ e. omega (arith, length-drop n b, ap length e) in
        front_cut 1 (take n b) (drop n b) (view x) (IsBytes-take n b fits) (rw take-append-drop h) some;
  }

  no_item : (e : Error) → UnlessMemory (IsRefused 1 b) e → (i : Item) → Spells any 1 b i → GaveItem (Err e) i
  no_item e h i s =
      elim (memory_or e) [
        | inl m ↦ m
        | inr no_memory ↦ absurd (no_refused_item 1 b i e one s (unless_memory (IsRefused 1 b) e h no_memory))
      ]

  gave_refused : (f : Error) → UnlessMemory (IsRefused 1 b) f → (e : Error) → IsRefused 1 b e
      → GaveRefusal {X = DataItem} (Err f) e
  gave_refused f h e k =
      elim (memory_or f) [
        | inl m ↦ inr m
        | inr no_memory ↦ inl (one_refusal 1 b f e one (unless_memory (IsRefused 1 b) f h no_memory) k)
      ]

  pub refusal_is : (e : Error) → UnlessMemory (IsRefused 1 b) e → WholeAnswer b (Err e)
  refusal_is e h = record {
    ok = tt;
    every_item = no_item e h;
    refused = unless_memory (IsRefused 1 b) e h;
    every_refusal = gave_refused e h;
    well_formed = tt;
    written_again = tt;
    items_bounded = tt;
    fronts_cut = tt;
  }
