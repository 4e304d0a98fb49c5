-- Skipping chunks goes on after each of them, and stops where its head or its content stops it.
use Rattle.std.proofs.Common.{arith}
use Rattle.std.proofs.lemmas.Result.{err_from_is_err_and}
use Rattle.cbor_grammar.specs.Reading.{◌>>=◌}
use Rattle.cbor_bytes.specs.mirror.Skipping.{skip_content, skip_chunks}
use Rattle.cbor_bytes.proofs.skipping.Skips.{goes_then, goes_within, stops_then, stops_within, more_keeps}
use Rattle.cbor_bytes.proofs.skip.after_chunks.Goals as goal

pub returns-in_err-len-clause-stops : goal.returns-in_err-len-clause-stops
returns-in_err-len-clause-stops c =
    let p = err_from_is_err_and c.from_residual.result c.from_residual.ensures.1 in
    rw (p.1, p.2) (stops_then c.in_err-len.field-0.0 c.chunks.invariant.goes c.in_err-len.ensures.stops)

pub returns-in_default-clause-goes : goal.returns-in_default-clause-goes
returns-in_default-clause-goes c = goes_then c.chunks.invariant.goes (rw c.in_default.is at c.in_ok-len.ensures.goes)

pub returns-in_err-rest-clause-stops : goal.returns-in_err-rest-clause-stops
returns-in_err-rest-clause-stops c =
    let kind = c.args.kind in
    let head = rw c.in-Some.is at c.in_ok-len.ensures.goes in
    let p = err_from_is_err_and c.from_residual-in_err-rest.result c.from_residual-in_err-rest.ensures.1 in
    let stop = c.in_err-rest.field-0.0 in
    let w = c.in-Some.field-0-1 in
    rw (p.1, p.2) (stops_then stop (goes_then c.chunks.invariant.goes head)
    (stops_within (skip_content kind c.in-Some.count w) c.in_ok-len.after.now stop (λ r. r >>= skip_chunks kind)
    (more_keeps kind) (c.in_err-rest.ensures.stops w)))

pub chunks-preserved : goal.chunks-preserved
chunks-preserved c =
    let kind = c.args.kind in
    let head = rw c.in-Some.is at c.in_ok-len.ensures.goes in
    let content = goes_within (λ r. r >>= skip_chunks kind) (c.in_ok-rest.ensures.goes c.in-Some.field-0-1) in
    record {
      goes = goes_then c.chunks.invariant.goes (goes_then head content);
      shorter = omega (arith, c.in_ok-rest.ensures.shorter, c.in_ok-len.ensures.shorter);
    }
