use Rattle.std.proofs.Common.{◌<◌, length, arith}
use Rattle.std.proofs.lemmas.List.{take_rest, length-drop, drop-drop}
use Rattle.cbor_paths.proofs.EndLemmas.{none_if_first, one_if_first}
use Rattle.cbor_paths.proofs.Fronts.{one_more, later_too, some_front}
use Rattle.cbor_paths.proofs.skip.skip_items.Goals as goal

pub returns-in-Cut-clause-clean : goal.returns-in-Cut-clause-clean
returns-in-Cut-clause-clean c =
    let bytes = c.args.bytes.now in
    let used = c.items.used in
    let every = rw (take_rest bytes used) at c.in-Cut.ensures.every_item in
    let within : used < length bytes = omega arith in
    λ one. (
      λ e. let bad : ⊥ = cc e in absurd bad,
      λ whole.
          let front = some_front bytes used within c.items.invariant.later whole in
          let bad : ⊥ = cc (every front.0 front.1 front.2) in absurd bad,
    )

pub returns-in-Fault-clause-clean : goal.returns-in-Fault-clause-clean
returns-in-Fault-clause-clean c =
    let bytes = c.args.bytes.now in
    let used = c.items.used in
    let every = rw (take_rest bytes used) at c.in-Fault.ensures.every_item in
    let within : used < length bytes = omega arith in
    λ one. (
      λ e. let bad : ⊥ = cc e in absurd bad,
      λ whole.
          let front = some_front bytes used within c.items.invariant.later whole in
          let bad : ⊥ = cc (every front.0 front.1 front.2) in absurd bad,
    )

pub returns-in-Cut-clause-one : goal.returns-in-Cut-clause-one
returns-in-Cut-clause-one c = λ one. none_if_first c.args.bytes.now c.items.used (c.items.invariant.first one)

pub returns-in-Fault-clause-one : goal.returns-in-Fault-clause-one
returns-in-Fault-clause-one c = λ one. none_if_first c.args.bytes.now c.items.used (c.items.invariant.first one)

pub returns-clause-one : goal.returns-clause-one
returns-clause-one c = λ one. none_if_first c.args.bytes.now c.items.used (c.items.invariant.first one)

pub returns-then-one-clause-one : goal.returns-then-one-clause-one
returns-then-one-clause-one c = λ one.
    let bytes = c.args.bytes.now in
    let used = c.items.used in
    let found = rw (take_rest bytes used) at c.in-Item.ensures.item in
    rw (drop-drop c.in-Item.count used bytes) at
    (one_if_first bytes used c.in-Item.count (c.items.invariant.first one) found)

pub returns-then-one-clause-items : goal.returns-then-one-clause-items
returns-then-one-clause-items c =
    let bytes = c.args.bytes.now in
    let used = c.items.used in
    one_more bytes used c.in-Item.count c.items.invariant.items (rw (take_rest bytes used) at c.in-Item.ensures.item)

pub items-preserved : goal.items-preserved
items-preserved c =
    let bytes = c.args.bytes.now in
    let used = c.items.used in
    let found = rw (take_rest bytes used) at c.in-Item.ensures.item in
    let every = rw (take_rest bytes used) at c.in-Item.ensures.every_item in
    let before : used < length bytes = omega arith in
    record {
      within = omega (arith, length-drop used bytes, found.1.1);
      items = one_more bytes used c.in-Item.count c.items.invariant.items found;
      later = later_too bytes used c.in-Item.count before c.items.invariant.later every;
      first = λ one. let bad : ⊥ = cc in absurd bad;
    }
