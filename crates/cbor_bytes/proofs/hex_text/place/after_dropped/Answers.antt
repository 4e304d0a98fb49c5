-- A space, a line end or a comment keeps nothing, and any other byte keeps itself.
use Rattle.std.proofs.Common.{arith}
use Rattle.std.proofs.lemmas.Option.{IfSome_then}
use Rattle.cbor_grammar.proofs.hex.Kept.{space_here, feed_here, return_here, comment_here, kept_here}
use Rattle.cbor_bytes.proofs.hex_text.place.after_dropped.Goals as goal

pub returns-in-32-clause-over : goal.returns-in-32-clause-over
returns-in-32-clause-over c = space_here c.args.text.now c.in-len1-up.len_at_least c.in-32.is

pub returns-in-10-clause-over : goal.returns-in-10-clause-over
returns-in-10-clause-over c = feed_here c.args.text.now c.in-len1-up.len_at_least c.in-10.is

pub returns-in-35-clause-over : goal.returns-in-35-clause-over
returns-in-35-clause-over c = comment_here c.args.text.now c.after_line.result.now c.in-len1-up.len_at_least c.in-35.is
    c.after_line.ensures

pub returns-in-13-clause-over : goal.returns-in-13-clause-over
returns-in-13-clause-over c = IfSome_then c.after_feed.result c.after_feed.ensures.some (λ rest is.
    return_here c.args.text.now rest.now c.in-len1-up.len_at_least c.in-13.is is)

pub returns-in-13-clause-kept : goal.returns-in-13-clause-kept
returns-in-13-clause-kept c = λ none some.
    kept_here c.args.text.now some (λ is. omega arith) (λ is. omega arith) (λ is. omega arith)
    (λ is feed. c.after_feed.ensures.none none feed)

pub returns-in_default-first-clause-kept : goal.returns-in_default-first-clause-kept
returns-in_default-first-clause-kept c = λ e some.
    kept_here c.args.text.now some (λ is. omega arith) (λ is. omega arith) (λ is. omega arith)
    (λ is. omega arith)
