use Rattle.std.proofs.Common.{sym, ◌∙◌, refl}
use Rattle.cbor_grammar.specs.Item.{atom, float}
use Rattle.cbor_edn_reader.proofs.scalars.number_item.Goals as goal

pub returns-then-is_float-clause-adds : goal.returns-then-is_float-clause-adds
returns-then-is_float-clause-adds c = (
  atom (float c.in_ok-bits.bits c.in_ok-bits.width),
  rw (sym c.is_float.ensures.is ∙ c.if-is_float.true, c.in_ok-bits.ensures.gives) refl,
  c.in_ok-push_float.ensures,
  refl,
)
