use Rattle.std.proofs.Common.{inr}
use Rattle.cbor_bytes.proofs.bytes.NoLongSimple.{found_none, found_after}
use Rattle.cbor_bytes.proofs.strict.holds_long_simple.Goals as goal

pub places-preserved : goal.places-preserved
places-preserved c = λ none. c.places.invariant
    (found_after c.places.rest.now c.in-Some.at c.split_at.result.1.now c.split_at-in-Some.result.1.now
    c.in-Some.ensures c.split_at.ensures.back c.split_at-in-Some.ensures.back
    (λ long. absurd (let wrong = c.if-is_long_simple.ensures.1 long in cc)) none)

pub returns : goal.returns
returns c = inr (c.places.invariant (found_none c.places.rest.now c.in_default.ensures))
