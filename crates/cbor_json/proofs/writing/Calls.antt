-- For `push_bytes_to_json_partial`: if `read_item` returned an item, the only outcome of the bytes is that item with
-- its number of bytes. If `read_item` returned an error other than `CutShort`, the result with this error fulfils
-- `GaveJson`.
use Rattle.std.proofs.Common.{◌≡◌, ◌≢◌, ℕ, ◌-◌, List, length, Ok, Err, refl}
use Rattle.cbor_grammar.specs.declared.error.Error.{Error}
use Rattle.cbor_grammar.specs.declared.error.Error.TheVariants as refusal
use Rattle.cbor_grammar.specs.Item.{Item}
use Rattle.cbor_grammar.specs.Answer.{Outcome, spelled, fault, IsOutcome, OneOutcome}
use Rattle.cbor_grammar.specs.Reading.{Fails, read_item}
use Rattle.cbor_grammar.proofs.bytes.Heads.{IsBytes}
use Rattle.cbor_grammar.proofs.bytes.Outcomes.{found_outcome, same}
use Rattle.cbor_grammar.proofs.straight.PublicCalls.{front_fault}
use Rattle.cbor_json.specs.declared.error.JsonError.TheVariants.{Cbor}
use Rattle.cbor_json.specs.declared.style.JsonStyle.{JsonStyle}
use Rattle.cbor_json.specs.Written.{GaveJson}

-- the outcome is the item that was read
pub outcome_is : (b rest : List ℕ) (i : Item) (o : Outcome) → IsBytes b → OneOutcome 1 b
    → read_item 128 b ≡ Ok (i, rest) → IsOutcome 1 b o → o ≡ spelled i (length b - length rest)
outcome_is b rest i o fits one e h =
    same b (spelled i (length b - length rest)) o one (found_outcome 1 128 b i rest refl fits e) h

pub gave_fault : (style : JsonStyle) (b : List ℕ) (e : Error) (old new : List ℕ) (o : Outcome) → IsBytes b
    → OneOutcome 1 b → e ≢ refusal.CutShort → Fails e (read_item 128 b) → IsOutcome 1 b o
    → GaveJson style (Err (Cbor e)) old new o
gave_fault style b refusal.Memory old new o fits one no_cut h is = tt
gave_fault style b e old new o fits one no_cut h is =
    same b (fault e) o one (front_fault b e fits no_cut h (λ x. absurd cc)) is
