-- The reader `read_item` returns an error other than `CutShort` if and only if the bytes have a `Fault` with this
-- error. A fault stays if more bytes follow. The level of a fault is at most 129.
use Rattle.std.proofs.Common.{◌≡◌, ℕ, ◌+◌, ◌≢◌, List, [], ◌∷◌, ◌++◌, Err, refl, ap, ◌-◌, ◌≤◌, ◌∙◌, append_assoc, arith}
use Rattle.cbor_grammar.specs.declared.error.Error.{Error}
use Rattle.cbor_grammar.specs.declared.error.Error.TheVariants as refusal
use Rattle.cbor_grammar.specs.Head.{opening, break_byte}
use Rattle.cbor_grammar.specs.declared.strings.StringKind.{StringKind}
use Rattle.cbor_grammar.specs.declared.strings.StringKind.TheVariants.{Text}
use Rattle.cbor_grammar.specs.Refused.{BadHead, no_info, no_length, BadText, Next, part, part_or_break, Inside, in_tag}
use Rattle.cbor_grammar.specs.Refused.{in_array, in_map, in_open_array, at_open_key, at_open_value, InsideString}
use Rattle.cbor_grammar.specs.Refused.{NoChunk}
use Rattle.cbor_grammar.specs.Refused.{no_chunk, NoBreakAt, Fault, too_deep, bad_head, bad_text, bad_chunk_head}
use Rattle.cbor_grammar.specs.Refused.{bad_chunk_text, bad_part}
use Rattle.cbor_grammar.specs.Item.{Item}
use Rattle.cbor_grammar.specs.Reading.{Counted, read_item}
use Rattle.cbor_grammar.proofs.bytes.Heads.{IsBytes, cons_is, head_append}
use Rattle.cbor_grammar.proofs.bytes.Chunks.{chunks_append}
use Rattle.cbor_grammar.proofs.bytes.HeadRefusals.{err_is}
use Rattle.cbor_grammar.proofs.bytes.CutShort.{fault_no_cut}
use Rattle.cbor_grammar.proofs.bytes.Refusals.{Refusal, is_cut, is_fault, refused, item_nothing}
use Rattle.cbor_grammar.proofs.bytes.RefusedAgain.{fault_turns}

-- ---- a fault that reading found

fault_from : {level : ℕ} {b : List ℕ} {e : Error} → Refusal level b e → e ≢ refusal.CutShort → Fault level b e
fault_from (is_cut c) other = absurd (other refl)
fault_from (is_fault f) other = f

pub fault_takes : (level left : ℕ) (b : List ℕ) (e : Error) → level + left ≡ 129 → IsBytes b → e ≢ refusal.CutShort
    → read_item left b ≡ Err e → Fault level b e
fault_takes level left b e levels fits other h = fault_from (refused left level b e levels fits h) other

-- ---- a fault is found

pub fault_refuses : (level left : ℕ) (b : List ℕ) (e : Error) → level + left ≡ 129 → Fault level b e
    → read_item left b ≡ Err e
fault_refuses level left b e levels f = ap (λ (x : Counted Item). x.1) (fault_turns level left b e levels f)

-- ---- bytes that follow

-- the level of a fault, and how many levels are left there
pub fault_level : {level : ℕ} {b : List ℕ} {e : Error} → Fault level b e → level ≤ 129
fault_level (too_deep deep) = omega arith
fault_level (bad_head le h) = omega arith
fault_level (bad_text le h) = omega arith
fault_level (bad_chunk_head kind rest le inside h) = omega arith
fault_level (bad_chunk_text rest le inside h) = omega arith
fault_level (bad_part next rest le inside no_break f) = omega arith

pub left_at : (level : ℕ) → level ≤ 129 → (left : ℕ) × (level + left ≡ 129)
left_at level le = (129 - level, omega arith)

-- what follows some bytes, with more after it
behind : (r x rest c : List ℕ) → r ≡ x ++ rest → r ++ c ≡ x ++ (rest ++ c)
behind r x rest c is = ap (λ (y : List ℕ). y ++ c) is ∙ append_assoc x rest c

string_append : (kind : StringKind) (b rest c : List ℕ) → InsideString kind b rest
    → InsideString kind (b ++ c) (rest ++ c)
string_append kind b rest c inside = (
  inside.0,
  inside.1 ++ c,
  ap (λ (x : List ℕ). x ++ c) inside.2,
  chunks_append kind inside.0 inside.1 rest c inside.3,
)

bad_head_append : {b : List ℕ} (c : List ℕ) → BadHead b → BadHead (b ++ c)
bad_head_append c (no_info least most) = no_info least most
bad_head_append c (no_length is major) = no_length is major

bad_text_append : (b c : List ℕ) → BadText b → BadText (b ++ c)
bad_text_append b c h = (
  h.0,
  h.1,
  head_append 3 h.0 h.1 b c _ _ h.2
      (λ r t. (t.0, t.1 ++ c, behind r t.0 t.1 c t.2, t.3, t.4)),
)

no_chunk_append : {kind : StringKind} {b : List ℕ} (c : List ℕ) → NoChunk kind b → NoChunk kind (b ++ c)
no_chunk_append c (no_chunk no_break other) = no_chunk no_break other

inside_append : {next : Next} {level : ℕ} {b rest : List ℕ} (c : List ℕ) → Inside level b rest next
    → Inside level (b ++ c) (rest ++ c) next
inside_append {b = b} {rest = rest} c (in_tag t w h) =
    in_tag t w (head_append 6 t w b c (λ r. r ≡ rest) (λ r. r ≡ rest ++ c) h (λ r is. ap (λ (x : List ℕ). x ++ c) is))
inside_append {b = b} {rest = rest} c (in_array n k w whole h parts few) =
    in_array n k w whole (head_append 4 n w b c (λ r. r ≡ whole ++ rest) (λ r. r ≡ whole ++ (rest ++ c)) h
    (λ r is. behind r whole rest c is)) parts few
inside_append {b = b} {rest = rest} c (in_map n k w whole h parts few) =
    in_map n k w whole (head_append 5 n w b c (λ r. r ≡ whole ++ rest) (λ r. r ≡ whole ++ (rest ++ c)) h
    (λ r is. behind r whole rest c is)) parts few
inside_append {b = b} {rest = rest} c (in_open_array k whole opens parts) =
    in_open_array k whole (behind b (opening 4 ∷ whole) rest c opens) parts
inside_append {b = b} {rest = rest} c (at_open_key k whole opens parts) =
    at_open_key k whole (behind b (opening 5 ∷ whole) rest c opens) parts
inside_append {b = b} {rest = rest} c (at_open_value k whole opens parts) =
    at_open_value k whole (behind b (opening 5 ∷ whole) rest c opens) parts

-- what has a fault is not empty: empty bytes read as truncated
fault_not_empty : (level : ℕ) (e : Error) → Fault level [] e → ⊥
fault_not_empty level e f =
    let at = left_at level (fault_level f) in
    fault_no_cut f (err_is (read_item at.0 []) e refusal.CutShort (fault_refuses level at.0 [] e at.1 f)
    (item_nothing at.0))

no_break_append : (next : Next) (level : ℕ) (b c : List ℕ) (e : Error) → NoBreakAt next b → Fault level b e
    → NoBreakAt next (b ++ c)
no_break_append part level b c e no_break f = tt
no_break_append part_or_break level [] c e no_break f = absurd (fault_not_empty level e f)
no_break_append part_or_break level (first ∷ b) c e no_break f =
    λ starts. no_break (b, ap (λ (x : ℕ). x ∷ b) (cons_is first break_byte (b ++ c) starts.0 starts.1).0)

pub fault_append : (level : ℕ) (b c : List ℕ) (e : Error) → Fault level b e → Fault level (b ++ c) e
fault_append level b c e (too_deep deep) = too_deep deep
fault_append level b c e (bad_head le h) = bad_head le (bad_head_append c h)
fault_append level b c e (bad_text le h) = bad_text le (bad_text_append b c h)
fault_append level b c e (bad_chunk_head kind rest le inside h) =
    bad_chunk_head kind (rest ++ c) le (string_append kind b rest c inside) (no_chunk_append c h)
fault_append level b c e (bad_chunk_text rest le inside h) =
    bad_chunk_text (rest ++ c) le (string_append Text b rest c inside) (bad_text_append rest c h)
fault_append level b c e (bad_part next rest le inside no_break f) =
    bad_part next (rest ++ c) le (inside_append c inside) (no_break_append next (level + 1) rest c e no_break f)
    (fault_append (level + 1) rest c e f)
