-- The text is read back as the normal form, and embedded items are exactly what the bytes spell.
use Rattle.std.proofs.Common.{◌++◌, None, refl, ap, sym, subst, ◌∙◌, arith}
use Rattle.cbor_grammar.specs.declared.encoding.Encoding.TheVariants.{Base16}
use Rattle.cbor_grammar.specs.declared.layout.Layout.TheVariants.{Pretty}
use Rattle.cbor_diag.specs.View.{view}
use Rattle.cbor_grammar.specs.Facts.{pretty_of}
use Rattle.cbor_grammar.specs.Notation.{Reads}
use Rattle.cbor_grammar.specs.NotationText.{in_encoding}
use Rattle.cbor_grammar.specs.Normal.{normal_at}
use Rattle.cbor_notation_writer.proofs.normal.ReadBack.{reads_back}
use Rattle.cbor_grammar.proofs.shared.EmbeddedItems.{embeds_exactly}
use Rattle.cbor_diag.proofs.syntax.DataItem.to_diag_pretty.Goals as goal

pub returns-clause-read_back : goal.returns-clause-read_back
returns-clause-read_back c =
    let i = view c.args.self.now in
    let written = c.in_ok-push_diag_pretty.ensures.text ∙ ap (λ x. x ++ pretty_of i) c.new-out.ensures.bytes in
    subst (λ x. Reads 128 x (normal_at 128 None i)) (sym written)
    (reads_back 1 128 (omega arith) (in_encoding (Pretty 0) Base16) None i refl c.requires)

pub returns-in_err-push_diag_pretty-clause-embedded : goal.returns-in_err-push_diag_pretty-clause-embedded
returns-in_err-push_diag_pretty-clause-embedded c = embeds_exactly

pub returns-clause-embedded : goal.returns-clause-embedded
returns-clause-embedded c = embeds_exactly
