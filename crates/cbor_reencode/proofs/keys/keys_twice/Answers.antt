-- Where there is a core deterministic encoding, no two keys of a map are one.
use Rattle.cbor_reencode.proofs.Once.{core_once}
use Rattle.cbor_reencode.proofs.keys.keys_twice.Goals as goal

pub returns-in-Ok-clause-none : goal.returns-in-Ok-clause-none
returns-in-Ok-clause-none c = λ none. core_once c.args.bytes.now c.in-Ok.field-0.items c.in-Ok.ensures.is
