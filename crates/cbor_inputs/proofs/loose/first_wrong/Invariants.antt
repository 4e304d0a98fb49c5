use Rattle.std.proofs.Common.{◌-◌, length}
use Rattle.cbor_inputs.proofs.loose.first_wrong.Given as goal

abbrev pub decreases-digits : goal.decreases-digits
decreases-digits l = length l.digits - l.at
