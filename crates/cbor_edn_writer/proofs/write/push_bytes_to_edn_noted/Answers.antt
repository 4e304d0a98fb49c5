-- What is appended is a text of each item that the bytes encode, and each error that they have is returned.
use Rattle.std.proofs.Common.{refl, arith}
use Rattle.std.specs.String.{string_bytes}
use Rattle.cbor_grammar.proofs.bytes.ExactlyOne.{one_outcome}
use Rattle.cbor_grammar.proofs.straight.PublicCalls.{every_shown, every_refusal}
use Rattle.cbor_edn_writer.specs.Written.{AppendsNoted}
use Rattle.cbor_edn_writer.proofs.write.push_bytes_to_edn_noted.Goals as goal

pub returns-clause-every_item : goal.returns-clause-every_item
returns-clause-every_item c =
    every_shown c.args.bytes.now c.push_only.result
    (λ _ i. AppendsNoted c.args.bytes.now c.args.noted.style c.args.noted.notes.now i
    (string_bytes c.args.out.now) (string_bytes c.push_only.new.out))
    (one_outcome 1 128 c.args.bytes.now refl (λ i. omega (arith, c.type_inv.bytes i))) c.push_only.ensures.ok
    c.push_only.ensures.refused

pub returns-clause-every_refusal : goal.returns-clause-every_refusal
returns-clause-every_refusal c =
    every_refusal c.args.bytes.now c.push_only.result
    (λ _ i. AppendsNoted c.args.bytes.now c.args.noted.style c.args.noted.notes.now i
    (string_bytes c.args.out.now) (string_bytes c.push_only.new.out))
    (one_outcome 1 128 c.args.bytes.now refl (λ i. omega (arith, c.type_inv.bytes i))) c.push_only.ensures.ok
    c.push_only.ensures.refused
