use Rattle.std.proofs.Common.{refl}
use Rattle.cbor_grammar.specs.Item.{atom, float}
use Rattle.cbor_edn_reader.proofs.scalars.read_float.Goals as goal

pub returns-in-Ok-clause-reads : goal.returns-in-Ok-clause-reads
returns-in-Ok-clause-reads c = (
  atom (float c.in-Ok.bits c.in-Ok.width),
  rw (c.in_ok-bytes.ensures.gives, rw c.deref.ensures.value at c.in-Ok.ensures.gives) refl,
  c.in_ok-push_float-in-Ok.ensures,
  refl,
)
