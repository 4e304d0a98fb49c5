-- The pattern of the node says whether the text matches.
use Rattle.std.proofs.Common.{is_some, sym, ap, ◌∙◌, arith}
use Rattle.regex.specs.Patterns.{find_str}
use Rattle.cbor_fits.proofs.Matches.{match_here}
use Rattle.cbor_fits.proofs.tables.Tables.is_match.Goals as goal

pub returns-then-pattern-node : goal.returns-then-pattern-node
returns-then-pattern-node c =
    let found = c.is_match.ensures.found
    ∙ ap (λ p. is_some (find_str p c.args.text.now 0)) c.in_ok-matcher.ensures.pattern in
    let here = match_here c.args.node c.args.self.now.patterns.now c.patterns.pattern-index c.args.text.now
    c.pattern-item.result (omega arith) c.pattern-item.is c.if-pattern-node.true in
    found ∙ (sym here ∙ c.patterns.invariant)
