-- The slot has an answer to the same question.
use Rattle.std.proofs.Common.{◌<◌, length, refl, arith}
use Rattle.cbor_fits.proofs.Kept.{holds_at, holds_same, right_for}
use Rattle.cbor_fits.proofs.work.Work.answer.Goals as goal

pub returns-then-same-clause-right : goal.returns-then-same-clause-right
returns-then-same-clause-right c = λ r h.
    let w = c.args.self.now in
    let k = c.in-Some.known in
    let here : c.args.slot < length w.known.items = let e = w.known.ok in omega arith in
    right_for r k.question c.args.question k.fits c.if-other-question.true c.if-other-question-2.true
    (c.if-same.ensures refl) (holds_at r w c.args.slot c.index.result.now k here c.index.ensures c.in-Some.is h)

pub returns-then-same-clause-kept : goal.returns-then-same-clause-kept
returns-then-same-clause-kept c = λ r h. holds_same r c.args.self.now _ refl h
