-- The text of the bytes is read back as the normal form of their item.
use Rattle.std.proofs.Common.{◌++◌, None, refl, ap, sym, subst, ◌∙◌, arith}
use Rattle.cbor_grammar.specs.declared.encoding.Encoding.TheVariants.{Base16}
use Rattle.cbor_grammar.specs.Normal.{normal_at}
use Rattle.cbor_grammar.specs.Notation.{Reads}
use Rattle.cbor_grammar.specs.NotationText.{in_encoding}
use Rattle.cbor_notation_writer.specs.mirror.Straight.{text_in}
use Rattle.cbor_grammar.proofs.bytes.Resolved.{spells_well}
use Rattle.cbor_notation_writer.proofs.normal.ReadBack.{reads_back}
use Rattle.cbor_notation_writer.proofs.outermost.whole_text.Goals as goal

pub returns-clause-read_back : goal.returns-clause-read_back
returns-clause-read_back c =
    let ok = c.in_ok-push_whole.ensures.ok in
    let i = ok.0 in
    let written = ok.2 ∙ ap (λ x. x ++ text_in c.args.layout i) c.in_ok-out.ensures.bytes in (
      i,
      ok.1,
      subst (λ x. Reads 128 x (normal_at 128 None i)) (sym written)
          (reads_back 1 128 (omega arith) (in_encoding c.args.layout Base16) None i refl
          (spells_well 1 c.args.bytes.now i (λ n. omega (arith, c.type_inv.bytes n)) ok.1)),
    )
