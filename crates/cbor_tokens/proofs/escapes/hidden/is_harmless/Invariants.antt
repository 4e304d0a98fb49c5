use Rattle.std.proofs.Common.{◌-◌, IsTrue}
use Rattle.cbor_tokens.specs.Hidden.{HidesNone}
use Rattle.cbor_tokens.proofs.escapes.hidden.is_harmless.Given as goal

-- no character that is not shown begins with one of the bytes before
abbrev pub invariant-bytes : goal.invariant-bytes
invariant-bytes l = IsTrue l.harmless → HidesNone l.lines l.text l.from l.at

abbrev pub decreases-bytes : goal.decreases-bytes
decreases-bytes l = l.to - l.at
