use Rattle.std.proofs.Common.{refl}
use Rattle.cbor_grammar.specs.Item.{atom, simple}
use Rattle.cbor_edn_reader.proofs.scalars.read_simple.Goals as goal

pub returns-clause-reads : goal.returns-clause-reads
returns-clause-reads c = (
  atom (simple c.in_ok-number.number),
  rw (
    ← c.word.ensures.word,
    c.in-Ok.ensures.gives,
    c.in_ok-number.ensures,
    ← c.skip_word.ensures.rest,
    ← c.skip_blank.ensures.rest,
    c.in_ok-expect_byte.ensures.gives,
  ) refl,
  c.in_ok-push_simple.ensures,
  refl,
)
