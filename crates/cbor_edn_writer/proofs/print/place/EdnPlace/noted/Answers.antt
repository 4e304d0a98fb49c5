-- Only the note and what is known of the line change, and the item begins where the bytes end less what remains.
use Rattle.std.proofs.Common.{ap, subst}
use Rattle.cbor_edn_writer.specs.declared.print.place.EdnPlace.{EdnPlace}
use Rattle.cbor_edn_writer.specs.EdnLeaves.{FoundAt}
use Rattle.cbor_edn_writer.proofs.print.place.EdnPlace.noted.Goals as goal

pub returns : goal.returns
returns c =
    let line = c.in_ok-line.line in
    let found = c.with_note-place.ensures in
    let moved = ap (λ (x : EdnPlace). record x { line = line }) found.3 in
    let p = record c.args.self.now { line = line } in
    let q = record c.with_note-place.result { line = line } in
    (line, subst (λ s. FoundAt p s q) c.saturating_sub-start.ensures (found.0, found.1, found.2, moved))
