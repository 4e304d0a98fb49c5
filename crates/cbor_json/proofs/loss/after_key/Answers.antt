-- A key is a text by its head.
use Rattle.std.proofs.Common.{refl, sym, ◌∙◌}
use Rattle.cbor_grammar.specs.WellFormed.{levels_left}
use Rattle.cbor_bytes.proofs.reading.Readings.{no_item}
use Rattle.cbor_json.proofs.losing.Kept.{key_text, key_other}
use Rattle.cbor_json.proofs.loss.after_key.Goals as goal

pub returns-in_default-clause-stops : goal.returns-in_default-clause-stops
returns-in_default-clause-stops c =
    λ i rest e. no_item (levels_left c.args.level) c.args.bytes.now c.in_default.field-0 (i, rest)
    c.in_default.ensures.gives e

pub returns-then-is_text_head-clause-key : goal.returns-then-is_text_head-clause-key
returns-then-is_text_head-clause-key c =
    let i = c.in-Some.ensures.some in (
      i.0,
      i.1,
      key_text (levels_left c.args.level) c.args.bytes.now c.in-Ok.head _ c.in-Ok.ensures.gives (i.0, _) i.1
          (sym c.is_text_head.ensures ∙ c.if-is_text_head.true),
    )

pub returns-else-is_text_head-clause-stops : goal.returns-else-is_text_head-clause-stops
returns-else-is_text_head-clause-stops c = (
  refl,
  refl,
  record {
    head = c.in-Ok.head;
    rest = _;
    read = c.in-Ok.ensures.gives;
    other = sym c.is_text_head.ensures ∙ c.if-is_text_head.false;
    none = λ i rest e. key_other (levels_left c.args.level) c.args.bytes.now c.in-Ok.head _ c.in-Ok.ensures.gives
        (i, rest) e (sym c.is_text_head.ensures ∙ c.if-is_text_head.false);
  },
)
