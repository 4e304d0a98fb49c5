-- Reading goes on after each chunk, and stops where one of them does.
use Rattle.std.proofs.Common.{suc, length, arith}
use Rattle.cbor_rules.specs.FirstViolation.{kept_chunk, kept_chunks}
use Rattle.cbor_rules.proofs.Stops.{stops}
use Rattle.cbor_rules.proofs.Turns.{chunks_stop, chunks_end, chunks_go}
use Rattle.cbor_rules.proofs.check.Check.after_chunks.Goals as goal

pub returns-in-Break-clause-gives : goal.returns-in-Break-clause-gives
returns-in-Break-clause-gives c =
    let i = c.chunks.invariant.1 in
    let b = c.args.bytes.now in
    let rules = c.args.self.now.rules in
    let total = c.args.self.now.len in
    chunks_end rules total c.args.kind c.chunks.rest.now (kept_chunks (suc (length b)) rules total c.args.kind b) i.0
    c.in_ok-chunk.after.now i.1 i.2 (rw c.in-Break.is at c.in_ok-chunk.ensures.gives)

pub chunks-preserved : goal.chunks-preserved
chunks-preserved c =
    let i = c.chunks.invariant.1 in
    let b = c.args.bytes.now in
    let rules = c.args.self.now.rules in
    let total = c.args.self.now.len in (
      omega (arith, c.in_ok-chunk.ensures.shorter),
      chunks_go rules total c.args.kind c.chunks.rest.now
          (kept_chunks (suc (length b)) rules total c.args.kind b) i.0 c.in_ok-chunk.after.now i.1
          i.2 (rw c.in-Content.is at c.in_ok-chunk.ensures.gives) c.in_ok-chunk.ensures.shorter,
    )

pub returns-in_err-chunk-clause-gives : goal.returns-in_err-chunk-clause-gives
returns-in_err-chunk-clause-gives c =
    let i = c.chunks.invariant.1 in
    let b = c.args.bytes.now in
    let rest = c.chunks.rest.now in
    let rules = c.args.self.now.rules in
    let total = c.args.self.now.len in
    let kind = c.args.kind in
    let whole = kept_chunks (suc (length b)) rules total kind b in
    rw c.from_residual.ensures (stops (kept_chunk rules total kind rest) whole c.read_chunk.new.stop
    (λ d e. chunks_stop rules total kind rest whole i.0 d i.1 i.2 e) c.in_err-chunk.ensures.gives)
