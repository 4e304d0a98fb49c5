-- The width is after the number where each float has it, or where a shorter width has the number.
use Rattle.std.proofs.Common.{◌≡◌, sym, ◌∙◌, subst, inl, inr, true≢false}
use Rattle.std.specs.String.{string_bytes}
use Rattle.cbor_floats.specs.Value.{value_of, IsEncodingOf, IsShortest}
use Rattle.cbor_floats.specs.declared.float.EncodedFloat.{EncodedFloat}
use Rattle.cbor_edn_writer.specs.EdnLeaves.{HasIndicator, encoded_float}
use Rattle.cbor_edn_writer.proofs.writing.Appended.{width_wrote}
use Rattle.cbor_edn_writer.proofs.print.numbers.push_float.Goals as goal
use Rattle.cbor_edn_writer.proofs.print.numbers.push_float.Goals.{then-all-via-then-all}
use Rattle.cbor_edn_writer.proofs.print.numbers.push_float.Goals.{then-all-via-else-all+then-not-is_shortest}

pub returns-then-all : goal.returns-then-all
returns-then-all c =
    let f : EncodedFloat = encoded_float c.args.bits c.args.width in
    let same : c.encoded_float-float.result ≡ f = c.encoded_float-float.ensures in
    let usual : IsEncodingOf f (value_of f) = subst (λ (x : EncodedFloat). IsEncodingOf x (value_of x)) same
    (c.is_usual.ensures.0 c.if-not-is_usual.false) in
    let marked : HasIndicator c.args.all f = elim c.then-all.branch [
      | then-all-via-then-all w ↦ inl w.if-all.true
      | then-all-via-else-all+then-not-is_shortest w ↦ inr (λ (s : IsShortest f (value_of f)).
          absurd (true≢false (sym (w.is_shortest.ensures.1
          (subst (λ (x : EncodedFloat). IsShortest x (value_of x)) (sym same) s)) ∙ w.if-not-is_shortest.true)))
    ] in
    let value : c.value.result ≡ value_of f = rw same at c.value.ensures in
    let t = c.in_ok-push_number.ensures in
    width_wrote c.push_float_indicator.result c.args.all c.args.bits c.args.width c.value.result
    (string_bytes c.args.out.now) (string_bytes c.push_number.new.out) (string_bytes c.push_float_indicator.new.out)
    t.0 usual marked value t.1 t.2 c.push_float_indicator.ensures
