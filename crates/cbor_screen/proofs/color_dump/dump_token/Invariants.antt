use Rattle.std.proofs.Common.{◌-◌, ◌<◌, ◌≤◌, length}
use Rattle.cbor_screen.proofs.color_dump.dump_token.Given as goal

abbrev pub invariant-digits : goal.invariant-digits
invariant-digits l = (0 < l.end) × (l.end ≤ length l.line)

abbrev pub decreases-digits : goal.decreases-digits
decreases-digits l = length l.line - l.end
