use Rattle.cbor_tokens.proofs.escaping.HiddenLemmas.{all_shown}
use Rattle.cbor_tokens.proofs.escapes.hidden.is_shown.Goals as goal

pub parts-preserved : goal.parts-preserved
parts-preserved c =
    all_shown c.args.lines c.args.text.now c.parts.at c.min-end.result c.parts.invariant
    (c.is_shown_between.ensures.0 c.if-not-is_shown_between.false)
