-- After the content of a chunk the chunks that follow are due, and after another content nothing.
use Rattle.std.proofs.lemmas.Result.{IfOk-weaker, IfErr-weaker}
use Rattle.cbor_bytes.specs.mirror.Scanning.{skip_due}
use Rattle.cbor_grammar.specs.declared.width.IntegerWidth.TheVariants.{Zero}
use Rattle.cbor_grammar.specs.Reading.{◌>>=◌}
use Rattle.cbor_bytes.specs.mirror.Skipping.{skip_content, skip_chunks}
use Rattle.cbor_bytes.proofs.skipping.Skips.{goes_then, goes_within}
use Rattle.cbor_bytes.proofs.skipping.Scans.{pauses_then}
use Rattle.cbor_bytes.proofs.skip.due.after_content_due.Goals as goal

pub returns-then-chunked-clause-goes : goal.returns-then-chunked-clause-goes
returns-then-chunked-clause-goes c =
    let k = c.args.kind in
    rw c.if-chunked.true (IfOk-weaker c.after_break_due.result _ _ (λ rest goes.
    goes_then (goes_within (λ r. r >>= skip_chunks k) c.in_ok-rest.ensures.goes) goes) c.after_break_due.ensures.goes)

pub returns-then-chunked-clause-pauses : goal.returns-then-chunked-clause-pauses
returns-then-chunked-clause-pauses c =
    let k = c.args.kind in
    rw c.if-chunked.true (IfErr-weaker c.after_break_due.result _ _ (λ pause pauses.
    pauses_then skip_due (λ r. skip_content k c.args.left Zero r >>= skip_chunks k) (skip_chunks k) c.args.bytes.now
    c.in_ok-rest.rest.now pause (goes_within (λ r. r >>= skip_chunks k) c.in_ok-rest.ensures.goes) pauses)
    c.after_break_due.ensures.pauses)
