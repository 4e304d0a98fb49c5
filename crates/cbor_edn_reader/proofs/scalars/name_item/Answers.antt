use Rattle.std.proofs.Common.{refl}
use Rattle.cbor_grammar.specs.Item.{atom, simple, float}
use Rattle.cbor_edn_reader.proofs.scalars.name_item.Goals as goal

pub returns-in_ok-push_simple-in-Some-clause-adds : goal.returns-in_ok-push_simple-in-Some-clause-adds
returns-in_ok-push_simple-in-Some-clause-adds c = (
  atom (simple c.in-Some.simple.0),
  rw (← c.in-Some.ensures.gives) refl,
  c.in_ok-push_simple-in-Some.ensures,
  refl,
)

pub returns-in_ok-push_float-in-None-clause-adds : goal.returns-in_ok-push_float-in-None-clause-adds
returns-in_ok-push_float-in-None-clause-adds c = (
  atom (float c.in_ok-bits-in-None.bits c.in_ok-bits-in-None.width),
  rw (← c.in-None.ensures.gives, c.in_ok-bits-in-None.ensures.gives) refl,
  c.in_ok-push_float-in-None.ensures,
  refl,
)
