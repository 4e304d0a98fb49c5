-- Only the steps change.
use Rattle.std.proofs.Common.{refl}
use Rattle.cbor_fits.proofs.Kept.{holds_same}
use Rattle.cbor_fits.proofs.work.Work.go_on_after.Goals as goal

pub returns : goal.returns
returns c = λ r h. holds_same r _ _ refl h
