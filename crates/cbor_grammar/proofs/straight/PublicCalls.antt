-- For the contracts of calls that print straight from bytes, such as `push_bytes_to_json_partial`. If `read_item` reads
-- an item, the bytes begin with this item, and its text is the right answer; if `read_item` returns an error other than
-- out of memory, the bytes are cut or have this fault. Bytes have only one outcome, so the answer of a call is right
-- for every item that they spell and every error that they have.
use Rattle.std.proofs.Common.{◌≡◌, ◌≢◌, ℕ, ◌-◌, List, ◌++◌, length, Some, Result}
use Rattle.std.proofs.Common.{Ok, Err, IfOk, refl, sym, subst, ◌∙◌, arith, inl, inr}
use Rattle.std.specs.Prelude.{MatchResult}
use Rattle.cbor_grammar.specs.declared.error.Error.{Error}
use Rattle.cbor_grammar.specs.declared.error.Error.TheVariants as refusal
use Rattle.cbor_grammar.specs.Item.{Item}
use Rattle.cbor_grammar.specs.Bytes.{any, Spells}
use Rattle.cbor_grammar.specs.Refused.{Cut, Fault}
use Rattle.cbor_grammar.specs.Answer.{Outcome, spelled, fault, IsOutcome, OneOutcome, IsRefused, RefusedSo}
use Rattle.cbor_grammar.specs.Answer.{GaveText, GaveRefusal}
use Rattle.cbor_grammar.specs.Facts.{BeginsWithItem}
use Rattle.cbor_grammar.specs.Reading.{Fails, read_item}
use Rattle.cbor_grammar.proofs.bytes.Heads.{IsBytes}
use Rattle.cbor_grammar.proofs.bytes.CutShort.{cut_takes}
use Rattle.cbor_grammar.proofs.bytes.Outcomes.{found_outcome, refusal_outcome}
use Rattle.cbor_grammar.proofs.bytes.Outcomes.{whole_outcome, no_refused_item, one_refusal, memory_or}
use Rattle.cbor_grammar.proofs.bytes.Outcomes.{unless_memory, same}
use Rattle.cbor_grammar.proofs.bytes.Shorter.{item_shorter}

-- ---- what reading says of the bytes

pub begins_so : (b : List ℕ) (i : Item) (rest : List ℕ) → IsBytes b → read_item 128 b ≡ Ok (i, rest)
    → BeginsWithItem b i (length b - length rest)
begins_so b i rest fits e =
    let o = found_outcome 1 128 b i rest refl fits e in
    let shorter = item_shorter 128 b i rest e in
    (omega arith, o.0, o.1)

pub front_fault : (b : List ℕ) (e : Error) → IsBytes b → e ≢ refusal.CutShort → Fails e (read_item 128 b)
    → e ≢ refusal.Memory → Fault 1 b e
front_fault b e fits no_cut h = unless_memory (Fault 1 b) e (refusal_outcome 1 128 b e refl fits no_cut h)

pub front_cut_so : (b : List ℕ) → IsBytes b → Fails refusal.CutShort (read_item 128 b) → Cut 1 b
front_cut_so b fits h = cut_takes 1 128 b refl fits h

-- ---- the one text and the one error

pub one_item : (b : List ℕ) (i j : Item) → OneOutcome 1 b → Spells any 1 b i → Spells any 1 b j → i ≡ j
one_item b i j one s t =
    let is : spelled i (length b) ≡ spelled j (length b) = one.only _ (whole_outcome 1 b i s)
    ∙ sym (one.only _ (whole_outcome 1 b j t)) in
    cc

pub every_shown : {T : Type 0} (b : List ℕ) (r : Result T Error) (Shows : T → Item → Type 0) → OneOutcome 1 b
    → IfOk r (λ x. (i : Item) × Spells any 1 b i × Shows x i) → RefusedSo r (IsRefused 1 b)
    → (i : Item) → Spells any 1 b i → MatchResult r (λ x. Shows x i) (λ e. e ≡ refusal.Memory)
every_shown b (Ok x) Shows one ok refused i s = subst (λ j. Shows x j) (one_item b ok.0 i one ok.1 s) ok.2
every_shown b (Err e) Shows one ok refused i s =
    elim (memory_or e) [
      | inl m ↦ m
      | inr no_memory ↦ absurd (no_refused_item 1 b i e one s (refused no_memory))
    ]

pub every_refusal : {T : Type 0} (b : List ℕ) (r : Result T Error) (P : T → Item → Type 0) → OneOutcome 1 b
    → IfOk r (λ x. (i : Item) × Spells any 1 b i × P x i) → RefusedSo r (IsRefused 1 b)
    → (e : Error) → IsRefused 1 b e → GaveRefusal r e
every_refusal b (Ok x) P one ok refused e h = no_refused_item 1 b ok.0 e one ok.1 h
every_refusal b (Err f) P one ok refused e h =
    elim (memory_or f) [
      | inl m ↦ inr m
      | inr no_memory ↦ inl (one_refusal 1 b f e one (refused no_memory) h)
    ]

-- ---- the front

pub gave_text : (text : Item → List ℕ) (b rest : List ℕ) (i : Item) (old new : List ℕ) (o : Outcome) → IsBytes b
    → OneOutcome 1 b → read_item 128 b ≡ Ok (i, rest) → new ≡ old ++ text i → IsOutcome 1 b o
    → GaveText text (Ok (Some (length b - length rest))) old new o
gave_text text b rest i old new o fits one e written h =
    (i, same b (spelled i (length b - length rest)) o one (found_outcome 1 128 b i rest refl fits e) h, written)

pub gave_fault : (text : Item → List ℕ) (b : List ℕ) (e : Error) (old new : List ℕ) (o : Outcome) → IsBytes b
    → OneOutcome 1 b → e ≢ refusal.CutShort → Fails e (read_item 128 b) → IsOutcome 1 b o
    → GaveText text (Err e) old new o
gave_fault text b refusal.Memory old new o fits one no_cut h is = tt
gave_fault text b e old new o fits one no_cut h is =
    same b (fault e) o one (front_fault b e fits no_cut h (λ x. absurd cc)) is
