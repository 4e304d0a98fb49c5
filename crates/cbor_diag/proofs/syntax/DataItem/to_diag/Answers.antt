-- What is promised of the text: it is read back, is that of the normal form, and tells normal forms apart.
use Rattle.std.proofs.Common.{◌++◌, None, refl, ap, sym, subst, ◌∙◌, arith}
use Rattle.cbor_grammar.specs.declared.encoding.Encoding.TheVariants.{Base16}
use Rattle.cbor_diag.specs.View.{view}
use Rattle.cbor_grammar.specs.declared.layout.Layout.TheVariants.{Compact}
use Rattle.cbor_grammar.specs.Facts.{diag_of}
use Rattle.cbor_grammar.specs.Notation.{Reads}
use Rattle.cbor_grammar.specs.NotationText.{in_encoding}
use Rattle.cbor_grammar.specs.Normal.{normal_at}
use Rattle.cbor_notation_writer.proofs.normal.ReadBack.{reads_back}
use Rattle.cbor_notation_writer.proofs.normal.Text.{normal_text, normal_twice}
use Rattle.cbor_diag.proofs.text.TextsAlike.{texts_alike}
use Rattle.cbor_grammar.proofs.shared.EmbeddedItems.{embeds_exactly}
use Rattle.cbor_diag.proofs.syntax.DataItem.to_diag.Goals as goal

pub returns-in_err-push_diag-clause-of_normal : goal.returns-in_err-push_diag-clause-of_normal
returns-in_err-push_diag-clause-of_normal c =
    normal_text 1 128 (omega arith) Base16 None (view c.args.self.now) c.requires

pub returns-in_err-push_diag-clause-normal_once : goal.returns-in_err-push_diag-clause-normal_once
returns-in_err-push_diag-clause-normal_once c = normal_twice 1 128 (omega arith) None (view c.args.self.now) c.requires

pub returns-clause-of_normal : goal.returns-clause-of_normal
returns-clause-of_normal c = normal_text 1 128 (omega arith) Base16 None (view c.args.self.now) c.requires

pub returns-clause-normal_once : goal.returns-clause-normal_once
returns-clause-normal_once c = normal_twice 1 128 (omega arith) None (view c.args.self.now) c.requires

pub returns-clause-read_back : goal.returns-clause-read_back
returns-clause-read_back c =
    let i = view c.args.self.now in
    let written = c.in_ok-push_diag.ensures.text ∙ ap (λ x. x ++ diag_of i) c.new-out.ensures.bytes in
    subst (λ x. Reads 128 x (normal_at 128 None i)) (sym written)
    (reads_back 1 128 (omega arith) (in_encoding Compact Base16) None i refl c.requires)

pub returns-in_err-push_diag-clause-alike : goal.returns-in_err-push_diag-clause-alike
returns-in_err-push_diag-clause-alike c = λ other well. texts_alike (view c.args.self.now) other c.requires well

pub returns-clause-alike : goal.returns-clause-alike
returns-clause-alike c = λ other well. texts_alike (view c.args.self.now) other c.requires well

pub returns-in_err-push_diag-clause-embedded : goal.returns-in_err-push_diag-clause-embedded
returns-in_err-push_diag-clause-embedded c = embeds_exactly

pub returns-clause-embedded : goal.returns-clause-embedded
returns-clause-embedded c = embeds_exactly
