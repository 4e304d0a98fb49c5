-- For `push_bytes_to_edn_noted_partial`: if `read_item` returned an item whose text was appended, or an error other
-- than `CutShort`, the result fulfils `GaveNoted`. The reason is that bytes have only one outcome (`OneOutcome`).
use Rattle.std.proofs.Common.{◌≡◌, ◌≢◌, ℕ, ◌-◌, List, length, Some, Ok, Err, refl}
use Rattle.cbor_grammar.specs.declared.error.Error.{Error}
use Rattle.cbor_grammar.specs.declared.error.Error.TheVariants as refusal
use Rattle.cbor_grammar.specs.Item.{Item}
use Rattle.cbor_grammar.specs.Answer.{Outcome, spelled, fault, IsOutcome, OneOutcome}
use Rattle.cbor_grammar.specs.Reading.{Fails, read_item}
use Rattle.cbor_grammar.proofs.bytes.Heads.{IsBytes}
use Rattle.cbor_grammar.proofs.bytes.Outcomes.{found_outcome, same}
use Rattle.cbor_grammar.proofs.straight.PublicCalls.{front_fault}
use Rattle.cbor_edn_writer.specs.declared.style.EdnStyle.{EdnStyle}
use Rattle.cbor_edn_writer.specs.Written.{AppendsNoted, GaveNoted}
use Rattle.cbor_notes.specs.declared.note.Note.{Note}

pub gave_edn : (style : EdnStyle) (notes : List Note) (b rest : List ℕ) (i : Item) (old new : List ℕ) (o : Outcome)
    → IsBytes b → OneOutcome 1 b → read_item 128 b ≡ Ok (i, rest) → AppendsNoted b style notes i old new
    → IsOutcome 1 b o → GaveNoted b style notes (Ok (Some (length b - length rest))) old new o
gave_edn style notes b rest i old new o fits one e written h =
    (i, same b (spelled i (length b - length rest)) o one (found_outcome 1 128 b i rest refl fits e) h, written)

pub gave_fault : (style : EdnStyle) (notes : List Note) (b : List ℕ) (e : Error) (old new : List ℕ) (o : Outcome)
    → IsBytes b → OneOutcome 1 b → e ≢ refusal.CutShort → Fails e (read_item 128 b) → IsOutcome 1 b o
    → GaveNoted b style notes (Err e) old new o
gave_fault style notes b refusal.Memory old new o fits one no_cut h is = tt
gave_fault style notes b e old new o fits one no_cut h is =
    same b (fault e) o one (front_fault b e fits no_cut h (λ x. absurd cc)) is
