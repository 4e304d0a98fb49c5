use Rattle.std.proofs.Common.{◌∙◌, sym}
use Rattle.std.specs.String.{string_bytes}
use Rattle.cbor_notes.proofs.texts.ElementLemmas.{none_is, some_is}
use Rattle.cbor_notes.specs.Element.{element_text}
use Rattle.cbor_notes.proofs.element.element_text.Goals as goal

pub returns-then-branch : goal.returns-then-branch
returns-then-branch c =
    let appended = rw c.in_ok-text.ensures.bytes at c.in_ok-push_element_text.ensures.text in
    let some = sym c.if-branch.true ∙ c.in_ok-push_element_text.ensures.some in
    record {
      text = some_is (element_text c.args.tag c.args.bytes.now) (string_bytes c.push_element_text.new.text) some
          appended;
    }

pub returns-else-branch : goal.returns-else-branch
returns-else-branch c =
    record {
      text = none_is (element_text c.args.tag c.args.bytes.now)
          (sym c.if-branch.false ∙ c.in_ok-push_element_text.ensures.some);
    }
