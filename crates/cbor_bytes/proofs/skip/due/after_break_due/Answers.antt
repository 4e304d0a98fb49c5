-- Scanning goes on from chunk to chunk up to the break, and pauses where a chunk does.
use Rattle.std.proofs.Common.{ℕ, List, Some, ap, arith}
use Rattle.std.proofs.lemmas.Result.{err_from_is_err_and}
use Rattle.cbor_bytes.specs.mirror.Scanning.{skip_due}
use Rattle.cbor_grammar.specs.declared.strings.StringKind.{StringKind}
use Rattle.cbor_grammar.specs.declared.width.IntegerWidth.{IntegerWidth}
use Rattle.cbor_grammar.specs.declared.width.IntegerWidth.TheVariants.{Zero}
use Rattle.cbor_grammar.specs.Reading.{◌>>=◌}
use Rattle.cbor_bytes.specs.mirror.Skipping.{Goes, skip_content, skip_chunks, after_chunk_length}
use Rattle.cbor_bytes.proofs.skipping.Skips.{goes_then, goes_within, shows_then}
use Rattle.cbor_bytes.proofs.skipping.Scans.{content_width, goes_to, pauses_then}
use Rattle.cbor_bytes.proofs.skip.due.after_break_due.Goals as goal

-- the head of a chunk, whose width makes no difference
chunk_goes : (kind : StringKind) (n : ℕ) (w : IntegerWidth) (b rest : List ℕ)
    → Goes (skip_chunks kind) (after_chunk_length kind (Some (n, w))) b rest
    → Goes (skip_chunks kind) (λ r. skip_content kind n Zero r >>= skip_chunks kind) b rest
chunk_goes kind n w b rest goes = goes_to goes (λ r. ap (λ q. q >>= skip_chunks kind) (content_width kind n w Zero r))

pub returns-in_err-rest-in-Ok-clause-pauses : goal.returns-in_err-rest-in-Ok-clause-pauses
returns-in_err-rest-in-Ok-clause-pauses c =
    let k = c.args.kind in
    let head = chunk_goes k c.in-Some.count c.in-Some.field-0-1 _ _ (rw c.in-Some.is at c.in-Ok.ensures.goes) in
    let p = err_from_is_err_and c.from_residual.result c.from_residual.ensures.1 in
    rw (p.1, p.2) (pauses_then skip_due (skip_chunks k) (λ r. skip_content k c.in-Some.count Zero r >>= skip_chunks k)
    c.args.bytes.now c.in-Ok.after.now c.in_err-rest-in-Ok.field-0.0 (goes_then c.chunks.invariant.goes head)
    c.in_err-rest-in-Ok.ensures.pauses)

pub chunks-preserved : goal.chunks-preserved
chunks-preserved c =
    let k = c.args.kind in
    let head = chunk_goes k c.in-Some.count c.in-Some.field-0-1 _ _ (rw c.in-Some.is at c.in-Ok.ensures.goes) in
    let next = c.in_ok-rest-in-Ok.ensures in
    record {
      goes = goes_then c.chunks.invariant.goes (goes_then head (goes_within (λ r. r >>= skip_chunks k) next.goes));
      shorter = omega (arith, next.shorter, c.in-Ok.ensures.shorter);
    }

pub returns-in-Err-Fault-clause-pauses : goal.returns-in-Err-Fault-clause-pauses
returns-in-Err-Fault-clause-pauses c =
    let i = c.in-Err-Fault in
    shows_then c.chunks.invariant.goes (rw i.field-0-is at i.ensures.stops)
