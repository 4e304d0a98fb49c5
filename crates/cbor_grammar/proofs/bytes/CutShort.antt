-- The reader `read_item` returns the error `CutShort` if and only if the bytes are truncated (`Cut`). No `Fault` has
-- this error.
use Rattle.std.proofs.Common.{◌≡◌, ℕ, ◌+◌, List, Err, refl, ap}
use Rattle.cbor_grammar.specs.declared.error.Error.{Error}
use Rattle.cbor_grammar.specs.declared.error.Error.TheVariants as refusal
use Rattle.cbor_grammar.specs.Item.{Item}
use Rattle.cbor_grammar.specs.Refused.{Cut, Fault, too_deep, bad_head, bad_text, bad_chunk_head, bad_chunk_text}
use Rattle.cbor_grammar.specs.Refused.{bad_part}
use Rattle.cbor_grammar.specs.Reading.{Counted, read_item}
use Rattle.cbor_grammar.proofs.bytes.Heads.{IsBytes}
use Rattle.cbor_grammar.proofs.bytes.Refusals.{Refusal, is_cut, is_fault, refused}
use Rattle.cbor_grammar.proofs.bytes.RefusedAgain.{cut_turns}

-- no fault is a cut
pub fault_no_cut : {level : ℕ} {b : List ℕ} {e : Error} → Fault level b e → e ≡ refusal.CutShort → ⊥
fault_no_cut (too_deep deep) is = cc
fault_no_cut (bad_head le h) is = cc
fault_no_cut (bad_text le h) is = cc
fault_no_cut (bad_chunk_head kind rest le inside h) is = cc
fault_no_cut (bad_chunk_text rest le inside h) is = cc
fault_no_cut (bad_part next rest le inside no_break f) is = fault_no_cut f is

cut_from : {level : ℕ} {b : List ℕ} {e : Error} → Refusal level b e → e ≡ refusal.CutShort → Cut level b
cut_from (is_cut c) is = c
cut_from (is_fault f) is = absurd (fault_no_cut f is)

pub cut_takes : (level left : ℕ) (b : List ℕ) → level + left ≡ 129 → IsBytes b → read_item left b ≡ Err refusal.CutShort
    → Cut level b
cut_takes level left b levels fits h = cut_from (refused left level b refusal.CutShort levels fits h) refl

pub cut_again : (level left : ℕ) (b : List ℕ) → level + left ≡ 129 → Cut level b
    → read_item left b ≡ Err refusal.CutShort
cut_again level left b levels c = ap (λ (x : Counted Item). x.1) (cut_turns level left b levels c)
