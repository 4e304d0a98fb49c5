-- What is promised of the dump of all bytes: each item and each error, its digits, its column and its notes.
use Rattle.std.proofs.Common.{◌≡◌, refl, arith}
use Rattle.std.specs.String.{string_bytes}
use Rattle.cbor_dump.specs.Dump.{dump}
use Rattle.cbor_grammar.proofs.bytes.ExactlyOne.{one_outcome}
use Rattle.cbor_dump.proofs.dump.PublicDumps.{digits_shown, reads_back, column_shown, lines_shown}
use Rattle.cbor_grammar.proofs.shared.EmbeddedItems.{embeds_exactly, rejects_exactly}
use Rattle.cbor_grammar.proofs.straight.PublicCalls.{every_shown, every_refusal}
use Rattle.cbor_dump.proofs.convert.bytes_to_hex.Goals as goal

pub returns-clause-every_item : goal.returns-clause-every_item
returns-clause-every_item c =
    every_shown c.args.bytes.now c.dump_whole.result (λ s i. string_bytes s ≡ dump i)
    (one_outcome 1 128 c.args.bytes.now refl (λ i. omega (arith, c.type_inv.bytes i))) c.dump_whole.ensures.ok
    c.dump_whole.ensures.refused

pub returns-clause-every_refusal : goal.returns-clause-every_refusal
returns-clause-every_refusal c =
    every_refusal c.args.bytes.now c.dump_whole.result (λ s i. string_bytes s ≡ dump i)
    (one_outcome 1 128 c.args.bytes.now refl (λ i. omega (arith, c.type_inv.bytes i))) c.dump_whole.ensures.ok
    c.dump_whole.ensures.refused

pub returns-clause-digits : goal.returns-clause-digits
returns-clause-digits c =
    digits_shown string_bytes c.args.bytes.now (λ i. omega (arith, c.type_inv.bytes i)) c.dump_whole.result
    c.dump_whole.ensures.ok

pub returns-clause-read_back : goal.returns-clause-read_back
returns-clause-read_back c =
    reads_back string_bytes c.args.bytes.now (λ i. omega (arith, c.type_inv.bytes i)) c.dump_whole.result
    c.dump_whole.ensures.ok

pub returns-clause-one_line : goal.returns-clause-one_line
returns-clause-one_line c = lines_shown c.args.bytes.now (λ i. omega (arith, c.type_inv.bytes i))

pub returns-clause-one_column : goal.returns-clause-one_column
returns-clause-one_column c =
    column_shown string_bytes c.args.bytes.now (λ i. omega (arith, c.type_inv.bytes i)) c.dump_whole.result
    c.dump_whole.ensures.ok

pub returns-clause-embedded : goal.returns-clause-embedded
returns-clause-embedded c = embeds_exactly

pub returns-clause-not_embedded : goal.returns-clause-not_embedded
returns-clause-not_embedded c = rejects_exactly
