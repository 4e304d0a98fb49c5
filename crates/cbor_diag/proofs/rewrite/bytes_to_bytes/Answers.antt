-- The encoding of each item that the bytes encode, and each error that they have, is returned.
use Rattle.std.proofs.Common.{◌≡◌, refl}
use Rattle.cbor_grammar.specs.Written.{encoded}
use Rattle.cbor_grammar.proofs.bytes.ExactlyOne.{one_outcome}
use Rattle.cbor_grammar.proofs.straight.PublicCalls.{every_shown, every_refusal}
use Rattle.cbor_diag.proofs.rewrite.bytes_to_bytes.Goals as goal

pub returns-clause-every_item : goal.returns-clause-every_item
returns-clause-every_item c =
    every_shown c.args.bytes.items c.encoding_of.result (λ out i. out.items ≡ encoded i)
    (one_outcome 1 128 c.args.bytes.items refl c.encoding_of.ensures.bytes) c.encoding_of.ensures.ok
    c.encoding_of.ensures.refused

pub returns-clause-every_refusal : goal.returns-clause-every_refusal
returns-clause-every_refusal c =
    every_refusal c.args.bytes.items c.encoding_of.result (λ out i. out.items ≡ encoded i)
    (one_outcome 1 128 c.args.bytes.items refl c.encoding_of.ensures.bytes) c.encoding_of.ensures.ok
    c.encoding_of.ensures.refused
