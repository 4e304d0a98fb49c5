-- The new slots have no answer.
use Rattle.std.proofs.Common.{◌-◌, vec_len, sym}
use Rattle.cbor_fits.proofs.Kept.{holds_same, holds_more}
use Rattle.cbor_fits.proofs.work.Work.make_slots.Goals as goal

pub returns-in_err-resize : goal.returns-in_err-resize
returns-in_err-resize c = λ r h. holds_same r c.args.self.now _ (sym c.in_err-resize.ensures.items) h

pub returns-in_ok-resize : goal.returns-in_ok-resize
returns-in_ok-resize c = λ r h. holds_more r c.args.self.now _ 4096
    (4096 - vec_len c.args.self.now.known) c.in_ok-resize.ensures.items h
