use Rattle.std.proofs.Common.{sym, append-nil, ◌≡◌, ◌==◌, ℕ, length, false, true, refl, ap, ◌∙◌, arith}
use Rattle.std.proofs.lemmas.Bool.Decides.{nat_tests}
use Rattle.std.specs.String.{string_bytes}
use Rattle.cbor_notes.specs.Element.{element_text, size}
use Rattle.cbor_notes.proofs.texts.ElementLemmas.{length_either, size_small}
use Rattle.cbor_tokens.proofs.texts.Fronts.{cut_point}
use Rattle.cbor_notes.proofs.element.push_element_text.Goals as goal

pub returns-in_default : goal.returns-in_default
unfolding element_text
returns-in_default c = record {
  some = rw c.in_default.ensures.none refl;
  text =
      rw c.in_default.ensures.none (sym (append-nil (string_bytes c.args.text.now)));
  unchanged = tt;
}

pub returns-then-bytes-element : goal.returns-then-bytes-element
unfolding element_text
returns-then-bytes-element c =
    let is = c.in-Some.ensures.found in
    let other : (length c.args.bytes.now == size c.args.tag) ≡ false = grind (arith, nat_tests) in
    record {
      some = rw (is.0, other) refl;
      text =
          rw (is.0, other) (sym (append-nil (string_bytes c.args.text.now)));
      unchanged = tt;
    }

pub ordered-ordered-requires : goal.ordered-ordered-requires
ordered-ordered-requires c =
    let is = c.in-Some.ensures.found in
    let small = size_small c.args.tag in
    omega arith

pub write_value_text-answer-requires : goal.write_value_text-answer-requires
write_value_text-answer-requires c =
    let is = c.in-Some.ensures.found in
    let small = size_small c.args.tag in
    let long = ap (length {A = ℕ}) c.ordered-ordered.ensures
    ∙ length_either c.in-Some.element.little_endian c.args.bytes.now in
    (omega arith, omega arith)

pub cut_after_error-requires : goal.cut_after_error-requires
cut_after_error-requires c =
    let written = c.write_value_text-answer in
    cut_point c.args.text.now written.new.text _ written.result c.len-len.result c.len-len.ensures written.ensures

pub returns : goal.returns
unfolding element_text
returns c =
    let is = c.in-Some.ensures.found in
    let tag = c.args.tag in
    let bytes = c.args.bytes.now in
    let same : (length bytes == size tag) ≡ true = grind (arith, nat_tests) in
    let ordered = rw is.2 at c.ordered-ordered.ensures in
    let written = c.write_value_text-answer in
    let ok = sym c.in_ok-cut_after_error.ensures.answer in
    let kept = rw ok at c.in_ok-cut_after_error.ensures.kept in
    let appended = rw (ok, is.1, ordered) at written.ensures in
    record { some = rw (is.0, same) refl; text = rw (is.0, same) (kept ∙ appended); unchanged = tt }
