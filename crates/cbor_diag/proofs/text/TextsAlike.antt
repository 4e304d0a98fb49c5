-- The compact texts (`diag_of`) of two well-formed items are equal if and only if their normal forms (`normal_of`) are.
use Rattle.std.proofs.Common.{◌≡◌, ◌↔◌, List, ℕ, None, refl, sym, ap, subst, ◌∙◌, arith}
use Rattle.cbor_grammar.specs.declared.encoding.Encoding.TheVariants.{Base16}
use Rattle.cbor_grammar.specs.declared.layout.Layout.TheVariants.{Compact}
use Rattle.cbor_grammar.specs.Item.{Item}
use Rattle.cbor_grammar.specs.Facts.{IsWellFormed, diag_of, normal_of}
use Rattle.cbor_grammar.specs.Notation.{Reads}
use Rattle.cbor_grammar.specs.NotationText.{in_encoding}
use Rattle.cbor_notation_writer.proofs.normal.Text.{normal_text}
use Rattle.cbor_notation_writer.proofs.normal.ReadBack.{reads_back}
use Rattle.cbor_notation.proofs.notation.OneReading.{one_reading}

text_read : (i : Item) → IsWellFormed i → Reads 128 (diag_of i) (normal_of i)
text_read i well = reads_back 1 128 (omega arith) (in_encoding Compact Base16) None i refl well

text_of_normal : (i : Item) → IsWellFormed i → diag_of (normal_of i) ≡ diag_of i
text_of_normal i well = normal_text 1 128 (omega arith) Base16 None i well

pub texts_alike : (i j : Item) → IsWellFormed i → IsWellFormed j → (diag_of i ≡ diag_of j) ↔ (normal_of i ≡ normal_of j)
texts_alike i j well other = (
  λ same. one_reading 128 128 (diag_of j) (normal_of i) (normal_of j)
      (subst (λ (t : List ℕ). Reads 128 t (normal_of i)) same (text_read i well)) (text_read j other),
  λ same. sym (text_of_normal i well) ∙ ap diag_of same ∙ text_of_normal j other,
)
