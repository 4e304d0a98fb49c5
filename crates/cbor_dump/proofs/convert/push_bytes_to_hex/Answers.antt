-- What is appended is the dump of each item that the bytes encode, and each error that they have is returned.
use Rattle.std.proofs.Common.{◌≡◌, ◌++◌, refl, arith}
use Rattle.std.specs.String.{string_bytes}
use Rattle.cbor_dump.specs.Dump.{dump}
use Rattle.cbor_grammar.proofs.bytes.ExactlyOne.{one_outcome}
use Rattle.cbor_grammar.proofs.straight.PublicCalls.{every_shown, every_refusal}
use Rattle.cbor_dump.proofs.convert.push_bytes_to_hex.Goals as goal

pub returns-clause-every_item : goal.returns-clause-every_item
returns-clause-every_item c =
    every_shown c.args.bytes.now c.push_whole.result
    (λ _ i. string_bytes c.push_whole.new.out ≡ string_bytes c.args.out.now ++ dump i)
    (one_outcome 1 128 c.args.bytes.now refl (λ i. omega (arith, c.type_inv.bytes i))) c.push_whole.ensures.ok
    c.push_whole.ensures.refused

pub returns-clause-every_refusal : goal.returns-clause-every_refusal
returns-clause-every_refusal c =
    every_refusal c.args.bytes.now c.push_whole.result
    (λ _ i. string_bytes c.push_whole.new.out ≡ string_bytes c.args.out.now ++ dump i)
    (one_outcome 1 128 c.args.bytes.now refl (λ i. omega (arith, c.type_inv.bytes i))) c.push_whole.ensures.ok
    c.push_whole.ensures.refused
