-- A string that is only skipped takes what its estimate is, by its length alone.
use Rattle.std.proofs.Common.{length, ap, subst}
use Rattle.cbor_grammar.specs.declared.error.Error.TheVariants as refusal
use Rattle.cbor_grammar.specs.Estimate.{estimated_string}
use Rattle.cbor_notation_writer.specs.mirror.Ahead.{Leaves}
use Rattle.cbor_notation_writer.proofs.straight.StringsAhead.{content_split, no_content}
use Rattle.cbor_notation_writer.proofs.ahead.content_ahead.Goals as goal

pub returns-in_default-clause-leaves : goal.returns-in_default-clause-leaves
returns-in_default-clause-leaves c w string rest e =
    absurd (no_content c.args.kind c.args.count w c.args.bytes.now refusal.CutShort (string, rest)
    (rw c.in_default.ensures.refused at c.in_default.ensures.gives) e)

pub returns-clause-leaves : goal.returns-clause-leaves
returns-clause-leaves c w string rest e =
    let kind = c.args.kind in
    let s = content_split kind c.args.count w c.args.bytes.now c.in-Ok.content.now c.in-Ok.rest.now string rest
    c.in-Ok.ensures.gives e in
    subst (λ z. Leaves c.new.result c.args.budget (estimated_string kind string) z) s.1
    (c.new.ensures.leaves c.args.budget (estimated_string kind string)
    (c.left_after_content.ensures.leaves string (ap length s.0)))
