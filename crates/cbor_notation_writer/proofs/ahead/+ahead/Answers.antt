-- What a look at bytes leaves of the budget is what the estimate of their item leaves.
use Rattle.std.proofs.Common.{refl, ap, arith}
use Rattle.cbor_grammar.specs.Estimate.{digit_count}
use Rattle.cbor_grammar.specs.Item.{atom, integer, negative, float, simple}
use Rattle.cbor_grammar.specs.declared.head.ItemHead.TheVariants as item_head
use Rattle.cbor_bytes.proofs.reading.Readings.{no_item}
use Rattle.cbor_notation_writer.proofs.straight.Ahead.{headed, atom_found, container_found, tag_found}
use Rattle.cbor_notation_writer.proofs.straight.Ahead.{no_items_yet, one_item_more, item_takes_all, items_found}
use Rattle.cbor_notation_writer.proofs.straight.Ahead.{no_pairs_yet, one_pair_more, key_takes_all, value_takes_all}
use Rattle.cbor_notation_writer.proofs.straight.Ahead.{pairs_found}
use Rattle.cbor_notation_writer.proofs.ahead.+ahead.Goals as goal

-- ---- an item

pub item_ahead-returns-in_default-clause-leaves : goal.item_ahead-returns-in_default-clause-leaves
item_ahead-returns-in_default-clause-leaves t c levels i rest e =
    absurd (no_item levels c.args.bytes.now c.in_default.field-0 (i, rest) c.in_default.ensures.gives e)

pub item_ahead-returns-in-Integer-clause-leaves : goal.item_ahead-returns-in-Integer-clause-leaves
item_ahead-returns-in-Integer-clause-leaves t c =
    let h = item_head.Integer c.in-Integer.value c.in-Integer.field-1 in
    headed c.new.result c.args.budget c.args.bytes.now h c.in-Ok.rest.now
    (rw c.in-Integer.is at c.in-Ok.ensures.gives)
    (atom_found c.new.result c.args.budget h (atom (integer c.in-Integer.value c.in-Integer.field-1))
    c.in-Ok.rest.now (λ n. refl)
    (c.new.ensures.leaves _ _ (omega arith)))

pub item_ahead-returns-in-Negative-clause-leaves : goal.item_ahead-returns-in-Negative-clause-leaves
item_ahead-returns-in-Negative-clause-leaves t c =
    let h = item_head.Negative c.in-Negative.value c.in-Negative.field-1 in
    headed c.new-in-Negative.result c.args.budget c.args.bytes.now h c.in-Ok.rest.now
    (rw c.in-Negative.is at c.in-Ok.ensures.gives)
    (atom_found c.new-in-Negative.result c.args.budget h (atom (negative c.in-Negative.value c.in-Negative.field-1))
    c.in-Ok.rest.now (λ n. refl)
    (c.new-in-Negative.ensures.leaves _ _ (omega arith)))

pub item_ahead-returns-in-String-clause-leaves : goal.item_ahead-returns-in-String-clause-leaves
item_ahead-returns-in-String-clause-leaves t c =
    let h = item_head.String c.in-String.kind c.in-String.len in
    headed c.string_ahead.result c.args.budget c.args.bytes.now h c.in-Ok.rest.now
    (rw c.in-String.is at c.in-Ok.ensures.gives) c.string_ahead.ensures.leaves

pub item_ahead-returns-in-Array-clause-leaves : goal.item_ahead-returns-in-Array-clause-leaves
item_ahead-returns-in-Array-clause-leaves t c =
    let h = item_head.Array c.in-Array.count in
    headed c.items_ahead.result c.args.budget c.args.bytes.now h c.in-Ok.rest.now
    (rw c.in-Array.is at c.in-Ok.ensures.gives)
    (container_found c.items_ahead.result c.args.budget c.saturating_sub-in-Array.result h c.in-Ok.rest.now
    (omega arith) c.items_ahead.ensures.takes c.items_ahead.ensures.leaves)

pub item_ahead-returns-in-Map-clause-leaves : goal.item_ahead-returns-in-Map-clause-leaves
item_ahead-returns-in-Map-clause-leaves t c =
    let h = item_head.Map c.in-Map.count in
    headed c.pairs_ahead.result c.args.budget c.args.bytes.now h c.in-Ok.rest.now
    (rw c.in-Map.is at c.in-Ok.ensures.gives)
    (container_found c.pairs_ahead.result c.args.budget c.saturating_sub-in-Map.result h c.in-Ok.rest.now
    (omega arith) c.pairs_ahead.ensures.takes c.pairs_ahead.ensures.leaves)

pub item_ahead-returns-in-Tag-clause-leaves : goal.item_ahead-returns-in-Tag-clause-leaves
item_ahead-returns-in-Tag-clause-leaves t c =
    headed c.item_ahead.result c.args.budget c.args.bytes.now (item_head.Tag c.in-Tag.tag c.in-Tag.field-1)
    c.in-Ok.rest.now (rw c.in-Tag.is at c.in-Ok.ensures.gives)
    (tag_found c.item_ahead.result c.args.budget c.saturating_sub-in-Tag.result c.in-Tag.tag c.in-Tag.field-1
    c.in-Ok.rest.now (omega arith) c.item_ahead.ensures.leaves)

pub item_ahead-returns-in-Float-clause-leaves : goal.item_ahead-returns-in-Float-clause-leaves
item_ahead-returns-in-Float-clause-leaves t c =
    let h = item_head.Float c.in-Float.field-0 c.in-Float.width in
    headed c.new-in-Float.result c.args.budget c.args.bytes.now h c.in-Ok.rest.now
    (rw c.in-Float.is at c.in-Ok.ensures.gives)
    (atom_found c.new-in-Float.result c.args.budget h (atom (float c.in-Float.field-0 c.in-Float.width))
    c.in-Ok.rest.now (λ n. refl)
    (c.new-in-Float.ensures.leaves _ _ (omega arith)))

pub item_ahead-returns-in-Simple-clause-leaves : goal.item_ahead-returns-in-Simple-clause-leaves
item_ahead-returns-in-Simple-clause-leaves t c =
    let h = item_head.Simple c.in-Simple.value in
    headed c.new-in-Simple.result c.args.budget c.args.bytes.now h c.in-Ok.rest.now
    (rw c.in-Simple.is at c.in-Ok.ensures.gives)
    (atom_found c.new-in-Simple.result c.args.budget h (atom (simple c.in-Simple.value)) c.in-Ok.rest.now (λ n. refl)
    (c.new-in-Simple.ensures.leaves _ _ (omega (arith, ap digit_count c.from.ensures))))

-- ---- the items of an array

pub items_ahead-items-init : goal.items_ahead-items-init
items_ahead-items-init t c = record {
  so_far = no_items_yet c.args.budget c.args.count c.args.bytes.now;
  room = omega arith;
}

pub items_ahead-returns-in-Some-clause-leaves : goal.items_ahead-returns-in-Some-clause-leaves
items_ahead-returns-in-Some-clause-leaves t c =
    items_found c.new.result c.args.budget c.args.count c.args.bytes.now c.items.held c.items.left c.items.rest.now
    c.in-Some.after.now c.items.invariant.so_far c.in-Some.ensures c.new.ensures.leaves

pub items_ahead-returns-in_err-item-clause-leaves : goal.items_ahead-returns-in_err-item-clause-leaves
items_ahead-returns-in_err-item-clause-leaves t c =
    rw c.from_residual.ensures (item_takes_all c.args.budget c.args.count c.args.bytes.now
    c.items.held c.items.left c.items.rest.now
    c.items.invariant.so_far c.in_default.ensures c.in_err-item.ensures.leaves)

pub items_ahead-items-preserved : goal.items_ahead-items-preserved
items_ahead-items-preserved t c = record {
  so_far = rw c.saturating_sub-left.ensures (one_item_more c.args.budget c.args.count c.args.bytes.now
      c.items.held c.items.left c.items.rest.now
      c.in_ok-item.item c.items.invariant.so_far c.in_default.ensures c.in_ok-item.ensures.leaves);
  room = omega (arith, c.items.invariant.room, c.in_ok-item.ensures.takes.0, c.in_ok-item.ensures.takes.1);
}

-- ---- the pairs of a map

pub pairs_ahead-pairs-init : goal.pairs_ahead-pairs-init
pairs_ahead-pairs-init t c = record {
  so_far = no_pairs_yet c.args.budget c.args.count c.args.bytes.now;
  room = omega arith;
}

pub pairs_ahead-returns-in-Some-clause-leaves : goal.pairs_ahead-returns-in-Some-clause-leaves
pairs_ahead-returns-in-Some-clause-leaves t c =
    pairs_found c.new.result c.args.budget c.args.count c.args.bytes.now c.pairs.held c.pairs.left c.pairs.rest.now
    c.in-Some.after.now c.pairs.invariant.so_far c.in-Some.ensures c.new.ensures.leaves

pub pairs_ahead-returns-in_err-key-clause-leaves : goal.pairs_ahead-returns-in_err-key-clause-leaves
pairs_ahead-returns-in_err-key-clause-leaves t c =
    rw c.from_residual.ensures (key_takes_all c.args.budget c.args.count c.args.bytes.now
    c.pairs.held c.pairs.left c.pairs.rest.now
    c.pairs.invariant.so_far c.in_default.ensures c.in_err-key.ensures.leaves)

pub pairs_ahead-returns-in_err-value-clause-leaves : goal.pairs_ahead-returns-in_err-value-clause-leaves
pairs_ahead-returns-in_err-value-clause-leaves t c =
    rw c.from_residual-in_err-value.ensures (value_takes_all c.args.budget c.args.count c.args.bytes.now
    c.pairs.held c.pairs.left c.pairs.rest.now
    c.in_ok-key.key c.pairs.invariant.so_far c.in_default.ensures c.in_ok-key.ensures.leaves
    c.in_err-value.ensures.leaves)

pub pairs_ahead-pairs-preserved : goal.pairs_ahead-pairs-preserved
pairs_ahead-pairs-preserved t c = record {
  so_far = rw c.saturating_sub-left.ensures (one_pair_more c.args.budget c.args.count c.args.bytes.now
      c.pairs.held c.pairs.left c.pairs.rest.now
      c.in_ok-key.key c.in_ok-value.value c.pairs.invariant.so_far c.in_default.ensures c.in_ok-key.ensures.leaves
      c.in_ok-value.ensures.leaves);
  room = omega (
    arith,
    c.pairs.invariant.room,
    c.in_ok-key.ensures.takes.1,
    c.in_ok-value.ensures.takes.0,
    c.in_ok-value.ensures.takes.1,
  );
}
