-- The dump of a well-formed item has the laws that `bytes_to_hex` and `DataItem::to_hex` state: no comment has a line
-- feed, all comments are in one column, the digits are the encoding, and the dump is read back as the item with its
-- widths resolved. A text that is the dump of the item that some bytes encode (`IsDumpOf`) has them, too.
use Rattle.std.proofs.Common.{◌≡◌, ℕ, ◌+◌, List, Result, ap, sym}
use Rattle.std.proofs.Common.{subst, ◌∙◌, arith}
use Rattle.std.specs.List.{AllByRecursion}
use Rattle.std.specs.Prelude.{IfOk}
use Rattle.std.proofs.lemmas.Result.{IfOk-weaker}
use Rattle.hex.specs.Hex.{decode_of, encode_lower}
use Rattle.hex.proofs.HexLemmas.{decode_of-encode_lower}
use Rattle.cbor_notes.specs.Columns.{IsColumn, IsPlain}
use Rattle.cbor_tokens.specs.Uncommented.{Lacks, uncommented}
use Rattle.cbor_notes.specs.Layout.{width_of}
use Rattle.cbor_notes.proofs.columns.OneColumn.{digits_left, one_column}
use Rattle.cbor_grammar.specs.declared.error.Error.{Error}
use Rattle.cbor_dump.specs.Dump.{dump, lines, top}
use Rattle.cbor_grammar.specs.Facts.{IsItem, IsWellFormed}
use Rattle.cbor_grammar.specs.HexText.{IsHexOf}
use Rattle.cbor_grammar.specs.Item.{Item}
use Rattle.cbor_grammar.specs.Written.{encoded, resolve}
use Rattle.cbor_grammar.proofs.bytes.Heads.{IsBytes}
use Rattle.cbor_grammar.proofs.bytes.Laws.{bytes_at, item_bytes}
use Rattle.cbor_grammar.proofs.bytes.Resolved.{resolved, spells_well}
use Rattle.cbor_grammar.proofs.bytes.Strict.{strict_any, strict_encoded}
use Rattle.cbor_dump.proofs.dump.AllDigits.{item_are}
use Rattle.cbor_dump.proofs.dump.Fits.{one_line_of}
use Rattle.cbor_dump.proofs.dump.WholeDumps.{plain}

-- ---- the laws of a dump

module _ (i : Item) (well : IsWellFormed i) where
  all_plain : AllByRecursion IsPlain (lines i)
  all_plain = plain 1 i (omega arith) well

  -- no comment has a line feed, whatever is answered
  pub dump_one_line : AllByRecursion (λ line. Lacks 10 line.comment) (lines i)
  dump_one_line = one_line_of (lines i) all_plain

  pub dump_one_column : IsColumn (width_of (lines i) + 1) (dump i)
  dump_one_column = one_column (width_of (lines i)) (lines i) all_plain (omega arith)

  pub dump_digits : uncommented (dump i) ≡ encode_lower (encoded i)
  dump_digits = digits_left (width_of (lines i)) (lines i) all_plain ∙ item_are 128 1 top 0 i (omega arith) well

  pub dump_read_back : IsHexOf (dump i) (resolve i)
  dump_read_back = (
    encoded i,
    ap decode_of dump_digits ∙ decode_of-encode_lower (encoded i) (bytes_at (encoded i) (item_bytes 1 i well)),
    strict_any 1 (encoded i) (resolve i) (strict_encoded 1 i well),
  )

-- ---- the same of the item that bytes are

-- the text is the dump of the item that the bytes encode
abbrev pub IsDumpOf : List ℕ → List ℕ → Type 0
IsDumpOf b text = (i : Item) × IsItem b i × (text ≡ dump i)

module _ {T : Type 0} (text_of : T → List ℕ) (b : List ℕ) (fits : IsBytes b) (r : Result T Error)
    (ok : IfOk r (λ s. IsDumpOf b (text_of s))) where
  pub digits_shown : IfOk r (λ s. (i : Item) × IsItem b i × (uncommented (text_of s) ≡ encode_lower (encoded i)))
  digits_shown = IfOk-weaker r (λ s. IsDumpOf b (text_of s)) _
      (λ s h. (h.0, h.1, ap uncommented h.2 ∙ dump_digits h.0 (spells_well 1 b h.0 fits h.1))) ok

  pub reads_back : IfOk r (λ s. (i : Item) × IsItem b i × IsHexOf (text_of s) i)
  reads_back = IfOk-weaker r (λ s. IsDumpOf b (text_of s)) _
      (λ s h. (
        h.0,
        h.1,
        subst (λ x. IsHexOf x h.0) (sym h.2) (subst (IsHexOf (dump h.0)) (resolved 1 b h.0 h.1)
            (dump_read_back h.0 (spells_well 1 b h.0 fits h.1))),
      )) ok

  pub column_shown : IfOk r (λ s. (i : Item) × IsItem b i × IsColumn (width_of (lines i) + 1) (text_of s))
  column_shown = IfOk-weaker r (λ s. IsDumpOf b (text_of s)) _
      (λ s h. (
        h.0,
        h.1,
        subst (IsColumn (width_of (lines h.0) + 1)) (sym h.2)
            (dump_one_column h.0 (spells_well 1 b h.0 fits h.1)),
      )) ok

pub lines_shown : (b : List ℕ) → IsBytes b → (i : Item) → IsItem b i
    → AllByRecursion (λ line. Lacks 10 line.comment) (lines i)
lines_shown b fits i is = dump_one_line i (spells_well 1 b i fits is)
