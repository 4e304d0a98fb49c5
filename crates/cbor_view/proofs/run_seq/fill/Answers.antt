use Rattle.std.proofs.Common.{ℕ, ◌+◌, List, drop, arith, inl, sym, subst}
use Rattle.std.proofs.lemmas.List.{take_rest, drop-drop, length-drop}
use Rattle.cbor_view.specs.Sequence.{IsOutputOfFirst}
use Rattle.cbor_view.proofs.Sequences.{more_written}
use Rattle.cbor_view.proofs.run_seq.fill.Goals as goal

pub items-preserved : goal.items-preserved
items-preserved c =
    let bytes = c.args.bytes.now in
    let used = c.items.used in
    let next = rw (take_rest bytes used) at c.in-Ok.ensures.output in
    let within = rw (take_rest bytes used) at c.in-Ok.ensures.used in
    let whole = rw (drop-drop c.in-Ok.count used bytes) at
    (more_written c.args.to bytes c.items.block.items (drop used bytes) next.0
    (drop c.in-Ok.count (drop used bytes)) c.items.invariant.output next.1) in
    record {
      within = omega (arith, length-drop used bytes, within.1);
      output = subst (λ (x : List ℕ). IsOutputOfFirst c.args.to bytes x (drop (used + c.in-Ok.count) bytes))
          (sym next.2) whole;
      started = inl (omega (arith, within.0));
    }
