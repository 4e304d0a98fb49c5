use Rattle.std.proofs.Common.{◌≡◌, ◌-◌, ◌<◌, inl, inr, length, sym, subst, ap, ◌∙◌, arith}
use Rattle.std.proofs.lemmas.List.{length-map}
use Rattle.cbor_grammar.specs.Answer.{MayWantMemory}
use Rattle.cbor_grammar.specs.Reading.{later}
use Rattle.cbor_diag.specs.View.{view}
use Rattle.cbor_diag.specs.mirror.Stack.{frame, frames}
use Rattle.cbor_grammar.proofs.turns.Turning.{put_part, put_whole, put_len}
use Rattle.cbor_diag.proofs.parse.binary.read_item.Goals as goal

pub returns-in_err-outermost-clause-memory : goal.returns-in_err-outermost-clause-memory
returns-in_err-outermost-clause-memory c = λ e.
    elim c.turns.invariant.opened [
      | inl none ↦ subst MayWantMemory none.1 (c.in_ok-whole.ensures.opens c.in_err-outermost.ensures.memory.1 none.0)
      | inr some ↦ some.1
    ]

pub turns-preserved : goal.turns-preserved
turns-preserved c =
    let i = c.turns.invariant in
    let g = rw c.in_default.is at c.in_ok-whole.ensures.gives in
    let held = c.in_ok-whole.ensures.held c.in_default.is in
    record {
      so_far = sym g ∙ i.so_far;
      level = c.in_ok-whole.ensures.level;
      falls = omega (arith, c.in_ok-whole.ensures.falls);
      rises = omega (arith, c.in_ok-whole.ensures.rises);
      opened = inr (
        held,
        elim i.opened [
          | inl none ↦ subst MayWantMemory none.1 (c.in_ok-whole.ensures.opens held none.0)
          | inr some ↦ some.1
        ],
      );
    }

pub returns-in-Some-2-clause-gives : goal.returns-in-Some-2-clause-gives
returns-in-Some-2-clause-gives c =
    let gives = rw c.in-Some.is at c.in_ok-whole.ensures.gives in
    let put = rw c.in-Some-2.is at c.in_ok-outermost.ensures.put in
    let whole = put_whole (129 - c.args.level) c.turn.new.turns (frames c.turn.new.stack) (frames c.put.new.self)
    (view c.in-Some.item) (view c.in-Some-2.outermost) c.in_ok-whole.after.now put in
    sym c.turns.invariant.so_far ∙ gives ∙ whole

pub turns-preserved-in_default-2 : goal.turns-preserved-in_default-2
turns-preserved-in_default-2 c =
    let i = c.turns.invariant in
    let gives = rw c.in-Some.is at c.in_ok-whole.ensures.gives in
    let put = rw c.in_default-2.is at c.in_ok-outermost.ensures.put in
    let fs = frames c.turn.new.stack in
    let gs = frames c.put.new.self in
    let part = put_part (129 - c.args.level) fs gs (view c.in-Some.item) c.in_ok-whole.after.now put in
    let len = put_len fs gs (view c.in-Some.item) put in
    let open_len : length c.put.new.self ≡ length c.turn.new.stack =
    omega (arith, len.0, length-map c.turn.new.stack frame, length-map c.put.new.self frame) in
    let held : 0 < length c.turn.new.stack = omega (arith, len.1, length-map c.turn.new.stack frame) in
    record {
      so_far = ap (later c.turn.new.turns) (sym part) ∙ sym gives ∙ i.so_far;
      level = omega (arith, c.in_ok-whole.ensures.level);
      falls = omega (arith, c.in_ok-whole.ensures.falls);
      rises = omega (arith, c.in_ok-whole.ensures.rises);
      opened = inr (
        omega arith,
        elim i.opened [
          | inl none ↦ subst MayWantMemory none.1 (c.in_ok-whole.ensures.opens held none.0)
          | inr some ↦ some.1
        ],
      );
    }
