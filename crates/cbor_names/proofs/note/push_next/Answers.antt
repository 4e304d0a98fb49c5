-- The note is behind the last one.
use Rattle.std.proofs.Common.{◌+◌, ◌≤◌, List, arith, subst, sym}
use Rattle.cbor_notes.specs.declared.note.Note.{Note}
use Rattle.cbor_names.specs.Order.{RiseTo}
use Rattle.cbor_names.proofs.Rising.{one_more}
use Rattle.cbor_names.proofs.note.push_next.Goals as goal

pub returns : goal.returns
returns c = λ len first within h.
    let P : List Note → Type 0 = λ ns. RiseTo len first ns (c.args.note.start + 1) in
    let behind : c.args.from ≤ c.args.note.start = omega (arith, c.if-note-from.false) in
    subst P (sym c.in_ok-push.ensures.items)
    (one_more len first c.args.list.now.items c.args.from c.args.note h behind within)
