use Rattle.std.proofs.Common.{[]}
use Rattle.cbor_dump.specs.declared.notes.value.Atom.TheVariants as code_atom
use Rattle.cbor_grammar.specs.declared.error.Error.TheVariants as refusal
use Rattle.cbor_dump.proofs.dump.NotedValues.{string_seen, string_cut, sees_chunks, not_number}
use Rattle.cbor_dump.proofs.notes.value.Atom.string.Goals as goal

pub returns-in_default : goal.returns-in_default
returns-in_default c = λ levels i rest e. sees_chunks c.args.kind c.args.bytes.now [] rest levels i
    (rw (not_number c.args.length c.in_default.not-Number) at e)

pub returns-in-Ok : goal.returns-in-Ok
returns-in-Ok c = λ levels i rest e.
    let w = c.in-Number.field-1 in
    string_seen c.with_content.result c.args.kind c.in-Number.count w c.args.bytes.now
    c.in-Ok.content.now c.in-Ok.rest.now rest levels i c.in-Ok.ensures.gives (c.with_content.ensures w)
    (rw c.in-Number.is at e)

pub returns-in-Err : goal.returns-in-Err
returns-in-Err c = λ levels i rest e.
    string_cut code_atom.Other c.args.kind c.in-Number.count c.in-Number.field-1 c.args.bytes.now
    [] rest levels i refusal.CutShort (rw c.in-Err.ensures.refused at c.in-Err.ensures.gives)
    (rw c.in-Number.is at e)
