-- A number needs a byte more than what is left of it without its lowest byte.
use Rattle.std.proofs.Common.{◌^◌, nat_lt, ap, ◌∙◌, arith, refl}
use Rattle.cbor_fits.proofs.Sizes.{needs_none, needs_more}
use Rattle.cbor_fits.proofs.controls.+bytes_needed.Goals as goal

pub returns-then-number-eq0-clause-needed : goal.returns-then-number-eq0-clause-needed
returns-then-number-eq0-clause-needed t c k = ap (λ n. nat_lt n (256 ^ k)) c.if-number-eq0.true ∙ needs_none k

pub returns-clause-needed : goal.returns-clause-needed
returns-clause-needed t c =
    needs_more c.args.number c.bytes_needed.result c.bytes_needed.ensures.needed (omega arith) _ refl
