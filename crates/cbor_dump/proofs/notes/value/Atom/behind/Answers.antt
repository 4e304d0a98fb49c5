use Rattle.std.proofs.Common.{[]}
use Rattle.cbor_dump.proofs.dump.NotedValues.{opens_one, sees_opened}
use Rattle.cbor_dump.proofs.notes.value.Atom.behind.Goals as goal

pub returns-in_default : goal.returns-in_default
returns-in_default c = λ levels i rest e.
    let no = c.in_default in
    sees_opened c.args.head c.args.bytes.now [] rest levels i
    (opens_one c.args.head no.not-Integer no.not-Negative no.not-Float no.not-Simple no.not-String) e

pub returns-in-String : goal.returns-in-String
returns-in-String c = λ levels i rest e. c.string.ensures levels i rest (rw c.in-String.is at e)
