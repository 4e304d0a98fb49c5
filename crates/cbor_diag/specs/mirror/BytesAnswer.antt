-- For `parse/binary.rt`: the clauses on the results of the readers of bytes, as records (`WholeAnswer`, `FrontAnswer`,
-- `FrontTurns`). Each field is the clause of that name of `parse_bytes`, `parse_bytes_partial` or
-- `parse_bytes_counted`. The functions that these call ensure all fields at once.
use Rattle.std.specs.Prelude.{◌≡◌, ℕ, ◌+◌, ◌*◌, ◌<◌, ◌≤◌, List, ◌++◌, length, take, Option, None, Result, Ok}
use Rattle.std.specs.Prelude.{◌↔◌, IfOk, IfSome, OnOk}
use Rattle.cbor_grammar.specs.declared.error.Error.{Error}
use Rattle.cbor_diag.specs.declared.syntax.DataItem.{DataItem}
use Rattle.cbor_grammar.specs.Item.{Item}
use Rattle.cbor_grammar.specs.Written.{encoded}
use Rattle.cbor_grammar.specs.Turns.{item_turns, cut_spent, fault_spent}
use Rattle.cbor_grammar.specs.Answer.{Outcome, spelled, GaveRefusal, RefusedSo, size}
use Rattle.cbor_grammar.specs.Facts.{IsItem, IsStrictItem, BeginsWithItem, IsCut, HasFault, IsNoItem, BeginsSo}
use Rattle.cbor_grammar.specs.Facts.{BeginsInOneWay, IsWellFormed}
use Rattle.cbor_diag.specs.View.{view}
use Rattle.cbor_diag.specs.ItemAnswer.{Gave, GaveItem}

abbrev pub FrontResult : Type 0
FrontResult = Result (Option (DataItem × ℕ)) Error

-- a reader of the whole of the bytes
pub record WholeAnswer (b : List ℕ) (r : Result DataItem Error) : Type 0 where
  pub ok : IfOk r (λ i. IsItem b (view i))
  pub every_item : (i : Item) → IsItem b i → GaveItem r i
  pub refused : RefusedSo r (IsNoItem b)
  pub every_refusal : (e : Error) → IsNoItem b e → GaveRefusal r e
  pub well_formed : IfOk r (λ i. IsWellFormed (view i))
  pub written_again : IfOk r (λ i. (encoded (view i) ≡ b) ↔ IsStrictItem b (view i))
  pub items_bounded : IfOk r (λ i. size (view i) ≤ length b)
  pub fronts_cut : OnOk r ((n : ℕ) → n < length b → IsCut (take n b))

-- a reader of their front
pub record FrontAnswer (b : List ℕ) (r : FrontResult) : Type 0 where
  pub found : IfOk r (λ o. IfSome o (λ x. BeginsWithItem b (view x.0) x.1))
  pub cut : r ≡ Ok None → IsCut b
  pub fault : RefusedSo r (HasFault b)
  pub exact : (o : Outcome) → BeginsSo b o → Gave r o
  pub one_of_three : BeginsInOneWay b
  pub found_stays : IfOk r (λ o. IfSome o (λ x. (more : List ℕ) → BeginsSo (b ++ more) (spelled (view x.0) x.1)))
  pub fault_stays : RefusedSo r (λ e. (more : List ℕ) → HasFault (b ++ more) e)
  pub well_formed : IfOk r (λ o. IfSome o (λ x. IsWellFormed (view x.0)))

-- its turns, where a count of them rose so
pub record FrontTurns (b : List ℕ) (old new : ℕ) (r : FrontResult) : Type 0 where
  pub turns_of_item : IfOk r (λ o. IfSome o (λ x. new ≡ old + item_turns (view x.0)))
  pub twice_its_bytes : IfOk r (λ o. IfSome o (λ x. item_turns (view x.0) ≤ 2 * x.1))
  pub turns_of_cut : r ≡ Ok None → (c : IsCut b) → new ≡ old + (cut_spent c + 1)
  pub turns_of_fault : RefusedSo r (λ e. (f : HasFault b e) → new ≡ old + (fault_spent f + 1))
  pub within_item : (i : Item) → (n : ℕ) → BeginsWithItem b i n → new ≤ old + item_turns i
  pub within_cut : (c : IsCut b) → new ≤ old + (cut_spent c + 1)
  pub within_fault : (e : Error) → (f : HasFault b e) → new ≤ old + (fault_spent f + 1)
