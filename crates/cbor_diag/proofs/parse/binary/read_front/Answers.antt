use Rattle.std.proofs.Common.{◌-◌, length, subst, arith}
use Rattle.cbor_diag.specs.View.{view}
use Rattle.cbor_grammar.specs.Reading.{Fails, later, counted_item, read_item}
use Rattle.cbor_grammar.specs.mirror.Counting.{FailsIn}
use Rattle.cbor_grammar.proofs.bytes.Shorter.{item_shorter}
use Rattle.cbor_grammar.proofs.bytes.CutShort as cut
use Rattle.cbor_grammar.proofs.bytes.Outcomes.{found_outcome, refusal_outcome}
use Rattle.cbor_diag.proofs.bytes.PublicReaders.{front_is, cut_is, fault_is}
use Rattle.cbor_diag.proofs.turns.FrontTurns.{first_ok, first_fails, item_takes, cut_takes, fault_takes}
use Rattle.cbor_diag.proofs.parse.binary.read_front.Goals as goal

pub returns-in-Ok-clause-answer : goal.returns-in-Ok-clause-answer
returns-in-Ok-clause-answer c =
    let b = c.args.bytes.now in
    let i = c.in-Ok in
    front_is b (λ k. omega (arith, c.type_inv.bytes k)) i.item (length b - length i.rest.now)
    (found_outcome 1 128 b (view i.item) i.rest.now (omega arith) (λ k. omega (arith, c.type_inv.bytes k))
    (first_ok _ _ b _ _ i.ensures.gives))

pub returns-in-Ok-clause-turns : goal.returns-in-Ok-clause-turns
returns-in-Ok-clause-turns c =
    let b = c.args.bytes.now in
    let i = c.in-Ok in
    item_takes _ _ b i.item i.rest.now (length b - length i.rest.now)
    (found_outcome 1 128 b (view i.item) i.rest.now (omega arith) (λ k. omega (arith, c.type_inv.bytes k))
    (first_ok _ _ b _ _ i.ensures.gives)) i.ensures.gives

pub returns-in-CutShort-clause-answer : goal.returns-in-CutShort-clause-answer
returns-in-CutShort-clause-answer c =
    let b = c.args.bytes.now in
    let fails = first_fails _ _ b c.in-Err.error c.in-Err.ensures.gives in
    cut_is b (λ i. omega (arith, c.type_inv.bytes i)) (cut.cut_takes 1 128 b (omega arith)
    (λ i. omega (arith, c.type_inv.bytes i)) (subst (λ e. Fails e (read_item 128 b)) c.in-CutShort.is fails))

pub returns-in-CutShort-clause-turns : goal.returns-in-CutShort-clause-turns
returns-in-CutShort-clause-turns c =
    let b = c.args.bytes.now in
    cut_takes _ _ b (subst (λ e. FailsIn e c.read_item.new.turns (later c.args.turns.now (counted_item 128 b)))
    c.in-CutShort.is c.in-Err.ensures.gives)

pub returns-in_default-clause-answer : goal.returns-in_default-clause-answer
returns-in_default-clause-answer c =
    let b = c.args.bytes.now in
    let e = c.in-Err.error in
    fault_is b (λ i. omega (arith, c.type_inv.bytes i)) e (refusal_outcome 1 128 b e (omega arith)
    (λ i. omega (arith, c.type_inv.bytes i)) c.in_default.not-CutShort (first_fails _ _ b e c.in-Err.ensures.gives))

pub returns-in_default-clause-turns : goal.returns-in_default-clause-turns
returns-in_default-clause-turns c = fault_takes _ _ c.args.bytes.now c.in-Err.error c.in-Err.ensures.gives

pub returns-in_default-clause-memory : goal.returns-in_default-clause-memory
returns-in_default-clause-memory c = λ e. c.in-Err.ensures.memory cc

pub overflow_sub-result : goal.overflow_sub-result
overflow_sub-result c =
    let b = c.args.bytes.now in
    let shorter = item_shorter 128 b (view c.in-Ok.item) c.in-Ok.rest.now (first_ok _ _ b _ _ c.in-Ok.ensures.gives) in
    omega arith
