-- The new answer is right.
use Rattle.std.proofs.Common.{refl}
use Rattle.cbor_fits.proofs.Kept.{holds_set}
use Rattle.cbor_fits.proofs.work.Work.keep.Goals as goal

pub returns-then-slot-len : goal.returns-then-slot-len
returns-then-slot-len c = λ r h right.
    holds_set r c.make_slots.new.self _ c.args.slot c.args.known refl (c.make_slots.ensures r h) right
