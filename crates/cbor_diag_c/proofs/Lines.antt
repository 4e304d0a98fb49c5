-- Results for C: an item that was read has all its widths stated, so its EDN, its JSON and its lines of HTML are those
-- of the item with widths resolved (`resolve`).
use Rattle.std.proofs.Common.{ℕ, List, Result, Ok, Err, IfOk, subst, sym}
use Rattle.cbor_grammar.specs.declared.error.Error.{Error}
use Rattle.cbor_grammar.specs.Item.{Item}
use Rattle.cbor_grammar.specs.Written.{resolve}
use Rattle.cbor_grammar.specs.Facts.{IsItem}
use Rattle.cbor_grammar.proofs.bytes.Resolved.{resolved}
use Rattle.cbor_edn_writer.specs.declared.style.EdnStyle.{EdnStyle}
use Rattle.cbor_edn_writer.specs.Written.{IsEdnText}
use Rattle.cbor_json.specs.declared.style.JsonStyle.{JsonStyle}
use Rattle.cbor_json.specs.Written.{IsJsonText}
use Rattle.cbor_diag_c.specs.Forms.{IsHtmlLines}

-- all widths of an item that was read are stated
pub edn_as_read : (style : EdnStyle) (b : List ℕ) (i : Item) (text : List ℕ) → IsItem b i → IsEdnText style i text
    → IsEdnText style (resolve i) text
edn_as_read style b i text is written = subst (λ (j : Item). IsEdnText style j text) (sym (resolved 1 b i is)) written

pub json_as_read : (style : JsonStyle) (b : List ℕ) (i : Item) (text : List ℕ) → IsItem b i
    → IsJsonText style i text → IsJsonText style (resolve i) text
json_as_read style b i text is written =
    subst (λ (j : Item). IsJsonText style j text) (sym (resolved 1 b i is)) written

html_as_read : (b : List ℕ) (i : Item) (lines : List ℕ) → IsItem b i → IsHtmlLines i lines
    → IsHtmlLines (resolve i) lines
html_as_read b i lines is written = subst (λ (j : Item). IsHtmlLines j lines) (sym (resolved 1 b i is)) written

pub resolved_lines : {T : Type 0} (b : List ℕ) (r : Result T Error) (text : T → List ℕ)
    → IfOk r (λ x. (i : Item) × IsItem b i × IsHtmlLines i (text x))
    → IfOk r (λ x. (i : Item) × IsItem b i × IsHtmlLines (resolve i) (text x))
resolved_lines b (Ok x) text h = (h.0, h.1, html_as_read b h.0 (text x) h.1 h.2)
resolved_lines b (Err e) text h = tt
