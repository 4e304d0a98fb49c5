-- A string of definite length is skipped as its content is, and skipping stops where that does.
use Rattle.std.proofs.lemmas.Result.{IfOk-weaker, IfErr-weaker}
use Rattle.cbor_bytes.specs.mirror.Skipping.{skip_content}
use Rattle.cbor_bytes.proofs.skipping.Skips.{goes_from, stops_from}
use Rattle.cbor_bytes.proofs.skipping.SkippedParts.{string_same}
use Rattle.cbor_bytes.proofs.skip.after_string.Goals as goal

pub returns-in-Number-clause-goes : goal.returns-in-Number-clause-goes
returns-in-Number-clause-goes c = λ left.
    let n = c.in-Number.count in
    let w = c.in-Number.field-1 in
    let kind = c.args.kind in
    rw c.in-Number.is (IfOk-weaker c.after_content.result _ _
    (λ rest goes. goes_from (string_same left n w kind) goes) (c.after_content.ensures.goes w))

pub returns-in-Number-clause-stops : goal.returns-in-Number-clause-stops
returns-in-Number-clause-stops c = λ left.
    let n = c.in-Number.count in
    let w = c.in-Number.field-1 in
    let kind = c.args.kind in
    rw c.in-Number.is (IfErr-weaker c.after_content.result _ _ (λ stop stops.
    stops_from _ (skip_content kind n w) c.args.bytes.now stop (string_same left n w kind) stops)
    (c.after_content.ensures.stops w))
