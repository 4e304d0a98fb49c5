-- What is due of a string of definite length is its content.
use Rattle.std.proofs.Common.{◌∙◌}
use Rattle.std.proofs.lemmas.Result.{IfOk-weaker, IfErr-weaker}
use Rattle.cbor_bytes.specs.mirror.Scanning.{skip_due}
use Rattle.cbor_grammar.specs.declared.width.IntegerWidth.TheVariants.{Zero}
use Rattle.cbor_bytes.specs.mirror.Skipping.{skip_content, skip_chunks}
use Rattle.cbor_bytes.proofs.skipping.Skips.{goes_from, goes_here}
use Rattle.cbor_bytes.proofs.skipping.SkippedParts.{string_same, chunks_same}
use Rattle.cbor_bytes.proofs.skipping.Scans.{content_width, pauses_then}
use Rattle.cbor_bytes.proofs.skip.due.after_string_due.Goals as goal

pub returns-in-Number-clause-goes : goal.returns-in-Number-clause-goes
returns-in-Number-clause-goes c = λ left.
    let n = c.in-Number.count in
    let w = c.in-Number.field-1 in
    let kind = c.args.kind in
    rw c.in-Number.is (IfOk-weaker c.after_rest.result _ _
    (λ rest goes. goes_from (λ r. string_same left n w kind r ∙ content_width kind n w Zero r) goes)
    c.after_rest.ensures.goes)

pub returns-in-Number-clause-pauses : goal.returns-in-Number-clause-pauses
returns-in-Number-clause-pauses c = λ left.
    let n = c.in-Number.count in
    let w = c.in-Number.field-1 in
    let kind = c.args.kind in
    rw c.in-Number.is (IfErr-weaker c.after_rest.result _ _ (λ pause pauses.
    pauses_then skip_due _ (skip_content kind n Zero) c.args.bytes.now c.args.bytes.now pause
    (goes_here c.args.bytes.now (λ r. string_same left n w kind r ∙ content_width kind n w Zero r)) pauses)
    c.after_rest.ensures.pauses)

pub returns-in-Indefinite-clause-pauses : goal.returns-in-Indefinite-clause-pauses
returns-in-Indefinite-clause-pauses c = λ left.
    rw c.in-Indefinite.is (IfErr-weaker c.after_break_due.result _ _ (λ pause pauses.
    pauses_then skip_due _ (skip_chunks c.args.kind) c.args.bytes.now c.args.bytes.now pause
    (goes_here c.args.bytes.now (chunks_same left c.args.kind)) pauses) c.after_break_due.ensures.pauses)
