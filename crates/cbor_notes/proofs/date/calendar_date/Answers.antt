use Rattle.std.proofs.Common.{◌∙◌, w8, w16, arith}
use Rattle.std.proofs.lemmas.Int.{to_z_pos}
use Rattle.cbor_notes.proofs.dates.DateTexts.{IfSome-result_ok}
use Rattle.cbor_notes.proofs.date.calendar_date.Goals as goal

pub returns-clause-found : goal.returns-clause-found
returns-clause-found c =
    let y = to_z_pos w16 c.args.year (omega arith) in
    let m = to_z_pos w8 c.args.month (omega arith) in
    let d = to_z_pos w8 c.args.day (omega arith) in
    rw c.ok.ensures.value (IfSome-result_ok c.new.result _ (rw (y, m, d) at c.new.ensures.value))

pub returns-clause-some : goal.returns-clause-some
returns-clause-some c =
    let y = to_z_pos w16 c.args.year (omega arith) in
    let m = to_z_pos w8 c.args.month (omega arith) in
    let d = to_z_pos w8 c.args.day (omega arith) in
    λ is. c.ok.ensures.variant ∙ (rw (y, m, d) at c.new.ensures.succeeds).1 is
