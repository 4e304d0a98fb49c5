use Rattle.std.proofs.Common.{◌≡◌, ℕ, ◌+◌, List, ◌++◌, take, drop, arith, append_assoc, vec_items}
use Rattle.std.proofs.Math.Seq.{take-add}
use Rattle.std.proofs.lemmas.List.{take_rest, drop-drop, length-drop}
use Rattle.cbor_inspect.specs.Shows.{Shows}
use Rattle.cbor_paths.proofs.Sequences.{more_shown}
use Rattle.cbor_inspect.proofs.items.show_items.Goals as goal

pub returns-then-show-clause-written : goal.returns-then-show-clause-written
returns-then-show-clause-written c =
    let bytes = c.args.bytes.now in
    let used = c.items.used in
    let before = c.items.invariant.output in
    let next = rw (take_rest bytes used) at c.in-Ok.ensures.written in
    let whole = rw (drop-drop c.in-Ok.count used bytes) at
    (more_shown (Shows c.args.show.now) bytes before.0 (drop used bytes) next.0
    (drop c.in-Ok.count (drop used bytes)) before.2 next.2) in
    (before.0 ++ next.0, cc (next.1, before.1, append_assoc (vec_items c.args.out.now) before.0 next.0), whole)

-- as bytes, all that was written are the bytes up to the next item
own_more : (old out new bytes : List ℕ) (used n : ℕ) → out ≡ old ++ take used bytes
    → new ≡ out ++ take n (drop used bytes) → new ≡ old ++ take (used + n) bytes
own_more old out new bytes used n before next =
    cc (before, next, append_assoc old (take used bytes) (take n (drop used bytes)), take-add used n bytes)

pub returns-then-show-clause-own : goal.returns-then-show-clause-own
returns-then-show-clause-own c = λ form none.
    let bytes = c.args.bytes.now in
    let used = c.items.used in
    let next = rw (take_rest bytes used) at c.in-Ok.ensures.own form none in
    own_more (vec_items c.args.out.now) _ _ bytes used c.in-Ok.count (c.items.invariant.own form none) next

pub items-preserved : goal.items-preserved
items-preserved c =
    let bytes = c.args.bytes.now in
    let used = c.items.used in
    let before = c.items.invariant.output in
    let next = rw (take_rest bytes used) at c.in-Ok.ensures.written in
    let item = rw (take_rest bytes used) at c.in-Ok.ensures.item in
    let whole = rw (drop-drop c.in-Ok.count used bytes) at
    (more_shown (Shows c.args.show.now) bytes before.0 (drop used bytes) next.0
    (drop c.in-Ok.count (drop used bytes)) before.2 next.2) in
    record {
      within = omega (arith, length-drop used bytes, item.1.1);
      output = (
        before.0 ++ next.0,
        cc (next.1, before.1, append_assoc (vec_items c.args.out.now) before.0 next.0),
        whole,
      );
      own = λ form none.
          let mine = rw (take_rest bytes used) at c.in-Ok.ensures.own form none in
          own_more (vec_items c.args.out.now) _ _ bytes used c.in-Ok.count (c.items.invariant.own form none) mine;
      first = λ one. let bad : ⊥ = cc in absurd bad;
    }
