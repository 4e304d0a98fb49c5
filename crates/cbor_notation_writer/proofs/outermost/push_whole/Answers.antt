-- What is appended is the text of each item that the bytes encode, and each error that they have is returned.
use Rattle.std.proofs.Common.{◌≡◌, ◌++◌, refl, arith}
use Rattle.std.specs.String.{string_bytes}
use Rattle.cbor_notation_writer.specs.mirror.Straight.{text_in}
use Rattle.cbor_grammar.proofs.bytes.ExactlyOne.{one_outcome}
use Rattle.cbor_grammar.proofs.straight.PublicCalls.{every_shown, every_refusal}
use Rattle.cbor_notation_writer.proofs.outermost.push_whole.Goals as goal

pub returns-clause-every_item : goal.returns-clause-every_item
returns-clause-every_item c =
    every_shown c.args.bytes.now c.push_only.result
    (λ _ i. string_bytes c.push_only.new.out ≡ string_bytes c.args.out.now ++ text_in c.args.layout i)
    (one_outcome 1 128 c.args.bytes.now refl (λ i. omega (arith, c.type_inv.bytes i))) c.push_only.ensures.ok
    c.push_only.ensures.refused

pub returns-clause-every_refusal : goal.returns-clause-every_refusal
returns-clause-every_refusal c =
    every_refusal c.args.bytes.now c.push_only.result
    (λ _ i. string_bytes c.push_only.new.out ≡ string_bytes c.args.out.now ++ text_in c.args.layout i)
    (one_outcome 1 128 c.args.bytes.now refl (λ i. omega (arith, c.type_inv.bytes i))) c.push_only.ensures.ok
    c.push_only.ensures.refused
