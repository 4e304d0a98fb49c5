use Rattle.std.proofs.Common.{Err, ◌-◌, refl, length, ap, sym, subst, ◌∙◌, arith}
use Rattle.std.specs.Prelude.{option_map}
use Rattle.std.proofs.lemmas.List.{length-map}
use Rattle.std.proofs.lemmas.Result.{err_from_is_err_and}
use Rattle.cbor_diag.specs.View.{view}
use Rattle.cbor_grammar.specs.Reading.{later, read_atom}
use Rattle.cbor_grammar.specs.mirror.Counting.{FailsIn}
use Rattle.cbor_diag.specs.mirror.Stack.{frame, frames}
use Rattle.cbor_grammar.specs.declared.error.Error.TheVariants as refusal
use Rattle.cbor_grammar.proofs.bytes.HeadRefusals.{err_is}
use Rattle.cbor_grammar.proofs.turns.Turning.{closes, turn_wants, wanted_stops, wanted_opens, opened_holds, some_holds}
use Rattle.cbor_grammar.proofs.turns.Turning.{head_opens, opens, atom_stops, atom_whole}
use Rattle.cbor_grammar.proofs.bytes.Steps.{later_later}
use Rattle.cbor_bytes.proofs.reading.Readings.{fails_is}
use Rattle.cbor_diag.proofs.parse.binary.turn.Goals as goal

pub returns-in-Some-clause-gives : goal.returns-in-Some-clause-gives
returns-in-Some-clause-gives c =
    let is = closes (129 - c.args.level) (frames c.args.stack.now) (frames c.close.new.self) c.args.bytes.now
    c.in-Some.rest.now (view c.in_ok-close.field-0) c.in-Some.ensures c.in_ok-close.ensures.item
    c.close.ensures.outer in
    rw c.rise.ensures (ap (later c.args.turns.now) is ∙ later_later c.args.turns.now 1 _)

pub returns-in_err-close-clause-stops : goal.returns-in_err-close-clause-stops
returns-in_err-close-clause-stops c =
    let p = err_from_is_err_and c.from_residual.result c.from_residual.ensures.1 in
    rw (p.1, p.2, c.in_err-close.ensures.memory, c.rise.ensures)
    (turn_wants (129 - c.args.level) c.args.turns.now (frames c.args.stack.now) c.args.bytes.now)

pub returns-in_err-container-clause-stops : goal.returns-in_err-container-clause-stops
returns-in_err-container-clause-stops c =
    let p = err_from_is_err_and c.from_residual-in_err-container.result c.from_residual-in_err-container.ensures.1 in
    rw (p.1, p.2, c.in_err-container.ensures.memory.0, c.rise.ensures)
    (turn_wants (129 - c.args.level) c.args.turns.now (frames c.args.stack.now) c.args.bytes.now)

pub returns-in_err-open-in-Some-2-clause-stops : goal.returns-in_err-open-in-Some-2-clause-stops
returns-in_err-open-in-Some-2-clause-stops c =
    let residual = c.from_residual-in_err-open-in-Some-2 in
    let p = err_from_is_err_and residual.result residual.ensures.1 in
    rw (p.1, p.2, c.in_err-open-in-Some-2.ensures.memory, c.rise.ensures)
    (turn_wants (129 - c.args.level) c.args.turns.now (frames c.args.stack.now) c.args.bytes.now)

pub returns-in_err-head-clause-stops : goal.returns-in_err-head-clause-stops
returns-in_err-head-clause-stops c =
    let p = err_from_is_err_and c.from_residual-in_err-head.result c.from_residual-in_err-head.ensures.1 in
    let e = c.in_err-head.field-0.0 in
    rw (p.1, p.2, c.rise.ensures) (wanted_stops e (129 - c.args.level) c.args.turns.now _
    (frames c.args.stack.now) c.args.bytes.now (omega (arith, length-map c.args.stack.now frame)) c.in_default.ensures
    (fails_is e e _ refl c.in_err-head.ensures.gives))

pub returns-in_err-container-clause-memory : goal.returns-in_err-container-clause-memory
returns-in_err-container-clause-memory c = λ e none.
    wanted_opens _ c.args.bytes.now c.in_ok-head.head c.in_ok-head.rest.now (λ i. omega (arith, c.type_inv.bytes i))
    c.in_ok-head.ensures.gives (some_holds c.in_ok-head.head c.in_err-container.ensures.memory.1)

pub returns-in_err-open-in-Some-2-clause-memory : goal.returns-in_err-open-in-Some-2-clause-memory
returns-in_err-open-in-Some-2-clause-memory c = λ e none.
    let is = sym c.in_ok-container.ensures.opens ∙ ap (option_map frame) c.in-Some-2.is in
    wanted_opens _ c.args.bytes.now c.in_ok-head.head c.in_ok-head.rest.now (λ i. omega (arith, c.type_inv.bytes i))
    c.in_ok-head.ensures.gives (opened_holds c.in_ok-head.head (frame c.in-Some-2.container) is)

pub returns-in_err-item-in-None-clause-stops : goal.returns-in_err-item-in-None-clause-stops
returns-in_err-item-in-None-clause-stops c =
    let p = err_from_is_err_and c.from_residual-in_err-item-in-None.result
    c.from_residual-in_err-item-in-None.ensures.1 in
    let is = sym c.in_ok-container.ensures.opens ∙ ap (option_map frame) c.in-None.is in
    let stops = subst (λ t. FailsIn c.in_err-item-in-None.field-0.0 c.read_atom.new.turns
    (later t (read_atom c.in_ok-head.head c.in_ok-head.rest.now))) c.rise.ensures c.in_err-item-in-None.ensures.gives in
    rw (p.1, p.2) (atom_stops c.in_err-item-in-None.field-0.0 (129 - c.args.level) c.args.turns.now _
    c.read_atom.new.turns (frames c.args.stack.now) c.args.bytes.now c.in_ok-head.head c.in_ok-head.rest.now
    (omega (arith, length-map c.args.stack.now frame)) c.in_default.ensures c.in_ok-head.ensures.gives is stops)

pub returns-in_err-item-in-None-clause-memory : goal.returns-in_err-item-in-None-clause-memory
returns-in_err-item-in-None-clause-memory c = λ e none.
    let p = err_from_is_err_and c.from_residual-in_err-item-in-None.result
    c.from_residual-in_err-item-in-None.ensures.1 in
    let wants = sym p.2 ∙ err_is c.from_residual-in_err-item-in-None.result p.0 refusal.Memory p.1 e in
    wanted_opens _ c.args.bytes.now c.in_ok-head.head c.in_ok-head.rest.now (λ i. omega (arith, c.type_inv.bytes i))
    c.in_ok-head.ensures.gives (c.in_err-item-in-None.ensures.memory (ap Err wants))

pub returns-in_ok-open-in-Some-2-clause-gives : goal.returns-in_ok-open-in-Some-2-clause-gives
returns-in_ok-open-in-Some-2-clause-gives c =
    let is = sym c.in_ok-container.ensures.opens ∙ ap (option_map frame) c.in-Some-2.is in
    rw (c.rise.ensures, c.in_ok-open-in-Some-2.ensures.opened)
    (opens (129 - c.args.level) c.args.turns.now _ (frames c.args.stack.now) c.args.bytes.now c.in_ok-head.head
    (frame c.in-Some-2.container) c.in_ok-head.rest.now (omega (arith, length-map c.args.stack.now frame))
    c.in_default.ensures c.in_ok-head.ensures.gives is)

pub returns-in_ok-open-in-Some-2-clause-level : goal.returns-in_ok-open-in-Some-2-clause-level
returns-in_ok-open-in-Some-2-clause-level c =
    let o = head_opens _ c.args.bytes.now c.in_ok-head.head c.in_ok-head.rest.now
    c.in_ok-head.ensures.gives in
    omega (arith, o.1, ap length c.in_ok-open-in-Some-2.ensures.opened)

pub returns-in_ok-open-in-Some-2-clause-opens : goal.returns-in_ok-open-in-Some-2-clause-opens
returns-in_ok-open-in-Some-2-clause-opens c = λ e none.
    let is = sym c.in_ok-container.ensures.opens ∙ ap (option_map frame) c.in-Some-2.is in
    wanted_opens _ c.args.bytes.now c.in_ok-head.head c.in_ok-head.rest.now (λ i. omega (arith, c.type_inv.bytes i))
    c.in_ok-head.ensures.gives (opened_holds c.in_ok-head.head (frame c.in-Some-2.container) is)

pub returns-in_ok-item-in-None-clause-gives : goal.returns-in_ok-item-in-None-clause-gives
returns-in_ok-item-in-None-clause-gives c =
    let is = sym c.in_ok-container.ensures.opens ∙ ap (option_map frame) c.in-None.is in
    let whole = ap (λ t. later t (read_atom c.in_ok-head.head c.in_ok-head.rest.now)) (sym c.rise.ensures)
    ∙ c.in_ok-item-in-None.ensures.gives in
    atom_whole (129 - c.args.level) c.args.turns.now _ c.read_atom.new.turns (frames c.args.stack.now) c.args.bytes.now
    c.in_ok-head.head c.in_ok-head.rest.now (view c.in_ok-item-in-None.item) c.in_ok-item-in-None.rest.now
    (omega (arith, length-map c.args.stack.now frame)) c.in_default.ensures c.in_ok-head.ensures.gives is whole

pub returns-in_ok-open-in-Some-2-clause-falls : goal.returns-in_ok-open-in-Some-2-clause-falls
returns-in_ok-open-in-Some-2-clause-falls c =
    omega (arith, c.in_ok-head.ensures.shorter, ap length c.in_ok-open-in-Some-2.ensures.opened)
