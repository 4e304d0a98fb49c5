-- How far digits reach is the width of the lines of the item that reading the bytes gives.
use Rattle.std.proofs.Common.{◌+◌, Some, max, ap, sym, subst, ◌∙◌, arith}
use Rattle.std.proofs.lemmas.Result.{err_from_is_err_and, IfOk-weaker, IfErr-weaker}
use Rattle.cbor_grammar.specs.Item as spec
use Rattle.cbor_grammar.specs.Item.{atom, integer, negative, float, simple, array, tagged, no_items, item, no_pairs}
use Rattle.cbor_grammar.specs.Item.{pair}
use Rattle.cbor_grammar.specs.Reading.{Fails, items_in, pairs_in, joined, joined_pairs, count_width}
use Rattle.cbor_grammar.specs.Reading.{read_head, no_level_left}
use Rattle.cbor_grammar.specs.WellFormed.{levels_left}
use Rattle.cbor_grammar.specs.mirror.Lengths.{left_of}
use Rattle.cbor_grammar.specs.mirror.AtLevel.{read_at}
use Rattle.cbor_dump.specs.mirror.Widths.{head_reach, width_there}
use Rattle.cbor_grammar.proofs.bytes.Shorter.{item_shorter}
use Rattle.cbor_bytes.proofs.reading.Levels.{behind_fails, head_fails, too_deep}
use Rattle.cbor_dump.proofs.dump.FrontWidths.{head_low, front_measured}
use Rattle.cbor_dump.proofs.dump.FrontWidths.{alone_measured, tag_measured, tag_behind_fails, item_counted}
use Rattle.cbor_dump.proofs.dump.FrontWidths.{pair_counted}
use Rattle.cbor_dump.proofs.dump.FrontWidths.{array_measured, map_measured, none_yet, held_width, level_read}
use Rattle.cbor_dump.proofs.dump.FrontWidths.{level_fails}
use Rattle.cbor_bytes.proofs.reading.Readings.{fails_is, parts_read, part_fails, parts_ended, none_held}
use Rattle.cbor_bytes.proofs.reading.Readings.{member_read}
use Rattle.cbor_bytes.proofs.reading.Readings.{pair_read, value_fails}
use Rattle.cbor_dump.proofs.width.Reach.+reach.Goals as goal

-- ---- an item

pub front-returns-then-place-gt-DEEPEST-clause-refused : goal.front-returns-then-place-gt-DEEPEST-clause-refused
front-returns-then-place-gt-DEEPEST-clause-refused t c =
    fails_is c.no_level_left.result (no_level_left c.args.bytes.now) (read_at c.args.place.level c.args.bytes.now)
    c.no_level_left.ensures.gives
    (too_deep c.args.place.level c.args.bytes.now (omega (arith, c.if-place-gt-DEEPEST.true)))

pub front-returns-in_err-head-clause-refused : goal.front-returns-in_err-head-clause-refused
front-returns-in_err-head-clause-refused t c =
    let p = err_from_is_err_and c.from_residual.result c.from_residual.ensures.1 in
    rw p.1 (head_fails c.args.place.level c.args.bytes.now p.0 (omega (arith, c.if-place-gt-DEEPEST.false))
    (fails_is p.0 _ (read_head c.args.bytes.now) p.2 c.in_err-head.ensures.gives))

pub front-head-requires-clause-len : goal.front-head-requires-clause-len
front-head-requires-clause-len t c =
    let low = head_low c.args.bytes.now c.in_ok-head.rest.now c.in_ok-head.head
    (λ i. omega (arith, c.type_inv.bytes i)) c.in_ok-head.ensures.gives in
    rw c.shown_length.ensures low

pub front-returns-in-String-clause-measured : goal.front-returns-in-String-clause-measured
front-returns-in-String-clause-measured t c =
    let is = rw c.in-String.is at c.in_ok-head.ensures.gives in
    let shown = rw c.in-String.is at c.shown_length.ensures in
    let counted = c.head.ensures ∙ ap (λ n. max c.args.self.now.widest (head_reach c.args.place.depth n)) shown in
    IfOk-weaker c.string.result _ _
    (λ rest. front_measured c.args.place c.args.bytes.now c.in_ok-head.rest.now rest.now _ c.args.self.now.widest
    c.head.new.self.widest c.string.new.self.widest (λ i. omega (arith, c.type_inv.bytes i))
    (omega (arith, c.if-place-gt-DEEPEST.false)) is counted) c.string.ensures.measured

pub front-returns-in-String-clause-refused : goal.front-returns-in-String-clause-refused
front-returns-in-String-clause-refused t c =
    let is = rw c.in-String.is at c.in_ok-head.ensures.gives in
    IfErr-weaker c.string.result _ _
    (λ e. behind_fails c.args.place.level c.args.bytes.now _ c.in_ok-head.rest.now e
    (omega (arith, c.if-place-gt-DEEPEST.false)) is) c.string.ensures.refused

pub front-returns-in-Array-clause-measured : goal.front-returns-in-Array-clause-measured
front-returns-in-Array-clause-measured t c =
    let is = rw c.in-Array.is at c.in_ok-head.ensures.gives in
    let shown = rw c.in-Array.is at c.shown_length.ensures in
    let counted = c.head.ensures ∙ ap (λ n. max c.args.self.now.widest (head_reach c.args.place.depth n)) shown in
    IfOk-weaker c.items.result _ _
    (λ rest. front_measured c.args.place c.args.bytes.now c.in_ok-head.rest.now rest.now _ c.args.self.now.widest
    c.head.new.self.widest c.items.new.self.widest (λ i. omega (arith, c.type_inv.bytes i))
    (omega (arith, c.if-place-gt-DEEPEST.false)) is counted) c.items.ensures.measured

pub front-returns-in-Array-clause-refused : goal.front-returns-in-Array-clause-refused
front-returns-in-Array-clause-refused t c =
    let is = rw c.in-Array.is at c.in_ok-head.ensures.gives in
    IfErr-weaker c.items.result _ _
    (λ e. behind_fails c.args.place.level c.args.bytes.now _ c.in_ok-head.rest.now e
    (omega (arith, c.if-place-gt-DEEPEST.false)) is) c.items.ensures.refused

pub front-returns-in-Map-clause-measured : goal.front-returns-in-Map-clause-measured
front-returns-in-Map-clause-measured t c =
    let is = rw c.in-Map.is at c.in_ok-head.ensures.gives in
    let shown = rw c.in-Map.is at c.shown_length.ensures in
    let counted = c.head.ensures ∙ ap (λ n. max c.args.self.now.widest (head_reach c.args.place.depth n)) shown in
    IfOk-weaker c.pairs.result _ _
    (λ rest. front_measured c.args.place c.args.bytes.now c.in_ok-head.rest.now rest.now _ c.args.self.now.widest
    c.head.new.self.widest c.pairs.new.self.widest (λ i. omega (arith, c.type_inv.bytes i))
    (omega (arith, c.if-place-gt-DEEPEST.false)) is counted) c.pairs.ensures.measured

pub front-returns-in-Map-clause-refused : goal.front-returns-in-Map-clause-refused
front-returns-in-Map-clause-refused t c =
    let is = rw c.in-Map.is at c.in_ok-head.ensures.gives in
    IfErr-weaker c.pairs.result _ _
    (λ e. behind_fails c.args.place.level c.args.bytes.now _ c.in_ok-head.rest.now e
    (omega (arith, c.if-place-gt-DEEPEST.false)) is) c.pairs.ensures.refused

pub front-returns-in-Tag-clause-measured : goal.front-returns-in-Tag-clause-measured
front-returns-in-Tag-clause-measured t c =
    let p = c.args.place in
    let is = rw c.in-Tag.is at c.in_ok-head.ensures.gives in
    let shown = rw c.in-Tag.is at c.shown_length.ensures in
    let counted = c.head.ensures ∙ ap (λ n. max c.args.self.now.widest (head_reach c.args.place.depth n)) shown in
    IfOk-weaker c.front.result _ _
    (λ rest m. front_measured p c.args.bytes.now c.in_ok-head.rest.now rest.now _ c.args.self.now.widest
    c.head.new.self.widest c.front.new.self.widest (λ i. omega (arith, c.type_inv.bytes i))
    (omega (arith, c.if-place-gt-DEEPEST.false)) is counted
    (tag_measured p c.below.result c.in-Tag.tag c.in-Tag.field-1 c.in_ok-head.rest.now rest.now
    c.head.new.self.widest c.front.new.self.widest c.below.ensures.level c.below.ensures.depth c.below.ensures.tag m))
    c.front.ensures.measured

pub front-returns-in-Tag-clause-refused : goal.front-returns-in-Tag-clause-refused
front-returns-in-Tag-clause-refused t c =
    let is = rw c.in-Tag.is at c.in_ok-head.ensures.gives in
    IfErr-weaker c.front.result _ _
    (λ e h. behind_fails c.args.place.level c.args.bytes.now _ c.in_ok-head.rest.now e
    (omega (arith, c.if-place-gt-DEEPEST.false)) is
    (tag_behind_fails c.args.place.level c.below.result.level c.in-Tag.tag c.in-Tag.field-1 c.in_ok-head.rest.now e
    c.below.ensures.level h)) c.front.ensures.refused

pub front-returns-in_default-clause-measured : goal.front-returns-in_default-clause-measured
front-returns-in_default-clause-measured t c =
    let d = c.in_default in
    let old = c.args.self.now.widest in
    let rest = c.in_ok-head.rest.now in
    front_measured c.args.place c.args.bytes.now rest rest c.in_ok-head.head old c.head.new.self.widest
    c.head.new.self.widest (λ i. omega (arith, c.type_inv.bytes i)) (omega (arith, c.if-place-gt-DEEPEST.false))
    c.in_ok-head.ensures.gives
    (c.head.ensures ∙ ap (λ n. max old (head_reach c.args.place.depth n)) c.shown_length.ensures)
    (alone_measured c.args.place c.in_ok-head.head rest c.head.new.self.widest d.not-String d.not-Array d.not-Map
    d.not-Tag)

-- ---- an array

pub items-items-init : goal.items-items-init
items-items-init t c = record {
  members = no_items;
  so_far = ap (λ a. parts_read (levels_left (c.args.place.level + 1)) (items_in no_items a) c.args.bytes.now)
      (none_held c.args.count);
  reach = none_yet c.args.self.now.widest;
  room = omega arith;
}

pub items-returns-in-Some-clause-measured : goal.items-returns-in-Some-clause-measured
items-returns-in-Some-clause-measured t c =
    let i = c.items.invariant in
    let a = c.args.count in
    let w = count_width a in
    let f = items_in i.members (left_of c.args.count c.items.held) in
    array_measured c.args.place c.inside-inner.result c.inside-inner.ensures.level c.inside-inner.ensures.depth
    c.inside-inner.ensures.tag a c.args.bytes.now c.in-Some.after.now i.members c.args.self.now.widest
    c.items.self.widest c.end.new.self.widest
    (sym i.so_far ∙ parts_ended (levels_left (c.args.place.level + 1)) f c.items.rest.now c.in-Some.after.now
    (array i.members w) (ap (λ x. Some (array i.members x)) (held_width c.args.count c.items.held))
    (sym c.in-Some.ensures)) i.reach c.end.ensures

pub items-returns-in_err-rest-clause-refused : goal.items-returns-in_err-rest-clause-refused
items-returns-in_err-rest-clause-refused t c =
    let p = err_from_is_err_and c.from_residual.result c.from_residual.ensures.1 in
    let i = c.items.invariant in
    let e = c.in_err-rest.field-0.0 in
    let left = levels_left (c.args.place.level + 1) in
    rw (p.1, p.2) (subst (Fails e) i.so_far (part_fails e left
    (items_in i.members (left_of c.args.count c.items.held)) c.items.rest.now (sym c.in_default.ensures)
    (level_fails e c.inside-inner.result.level (c.args.place.level + 1) c.items.rest.now c.inside-inner.ensures.level
    c.in_err-rest.ensures.refused)))

pub items-items-smaller : goal.items-items-smaller
items-items-smaller t c =
    let m = c.in_ok-rest.ensures.measured in
    item_shorter (levels_left c.inside-inner.result.level) c.items.rest.now m.0 c.in_ok-rest.rest.now m.1

pub items-items-preserved : goal.items-items-preserved
items-items-preserved t c =
    let i = c.items.invariant in
    let m = c.in_ok-rest.ensures.measured in
    let left = levels_left (c.args.place.level + 1) in
    let read = level_read c.inside-inner.result.level (c.args.place.level + 1) c.items.rest.now m.0
    c.in_ok-rest.rest.now c.inside-inner.ensures.level m.1 in
    let shorter = item_shorter left c.items.rest.now m.0 c.in_ok-rest.rest.now read in
    record {
      members = joined i.members (item m.0 no_items);
      so_far = sym (member_read left i.members c.args.count c.items.held c.items.rest.now c.in_ok-rest.rest.now m.0
          (sym c.in_default.ensures) read) ∙ i.so_far;
      reach = item_counted (width_there c.inside-inner.result) i.members m.0 c.args.self.now.widest
          c.items.self.widest c.front.new.self.widest i.reach m.2;
      room = omega (arith, i.room, shorter);
    }

-- ---- a map

pub pairs-pairs-init : goal.pairs-pairs-init
pairs-pairs-init t c = record {
  members = no_pairs;
  so_far = ap (λ a. parts_read (levels_left (c.args.place.level + 1)) (pairs_in no_pairs a) c.args.bytes.now)
      (none_held c.args.count);
  reach = none_yet c.args.self.now.widest;
  room = omega arith;
}

pub pairs-returns-in-Some-clause-measured : goal.pairs-returns-in-Some-clause-measured
pairs-returns-in-Some-clause-measured t c =
    let i = c.pairs.invariant in
    let a = c.args.count in
    let w = count_width a in
    let f = pairs_in i.members (left_of c.args.count c.pairs.held) in
    map_measured c.args.place c.inside-inner.result c.inside-inner.ensures.level c.inside-inner.ensures.depth
    c.inside-inner.ensures.tag a c.args.bytes.now c.in-Some.after.now i.members c.args.self.now.widest
    c.pairs.self.widest c.end.new.self.widest
    (sym i.so_far ∙ parts_ended (levels_left (c.args.place.level + 1)) f c.pairs.rest.now c.in-Some.after.now
    (spec.map i.members w) (ap (λ x. Some (spec.map i.members x)) (held_width c.args.count c.pairs.held))
    (sym c.in-Some.ensures)) i.reach c.end.ensures

pub pairs-returns-in_err-value-clause-refused : goal.pairs-returns-in_err-value-clause-refused
pairs-returns-in_err-value-clause-refused t c =
    let p = err_from_is_err_and c.from_residual.result c.from_residual.ensures.1 in
    let i = c.pairs.invariant in
    let e = c.in_err-value.field-0.0 in
    let left = levels_left (c.args.place.level + 1) in
    rw (p.1, p.2) (subst (Fails e) i.so_far (part_fails e left
    (pairs_in i.members (left_of c.args.count c.pairs.held)) c.pairs.rest.now (sym c.in_default.ensures)
    (level_fails e c.inside-inner.result.level (c.args.place.level + 1) c.pairs.rest.now c.inside-inner.ensures.level
    c.in_err-value.ensures.refused)))

pub pairs-returns-in_err-rest-clause-refused : goal.pairs-returns-in_err-rest-clause-refused
pairs-returns-in_err-rest-clause-refused t c =
    let p = err_from_is_err_and c.from_residual-in_err-rest.result c.from_residual-in_err-rest.ensures.1 in
    let i = c.pairs.invariant in
    let e = c.in_err-rest.field-0.0 in
    let inner = c.inside-inner.result.level in
    let level = c.args.place.level + 1 in
    let left = levels_left level in
    let k = c.in_ok-value.ensures.measured in
    let key = level_read inner level c.pairs.rest.now k.0 c.in_ok-value.value.now c.inside-inner.ensures.level k.1 in
    rw (p.1, p.2) (subst (Fails e) i.so_far (value_fails e left i.members c.args.count c.pairs.held c.pairs.rest.now
    c.in_ok-value.value.now k.0 (sym c.in_default.ensures) key
    (level_fails e inner level c.in_ok-value.value.now c.inside-inner.ensures.level c.in_err-rest.ensures.refused)))

pub pairs-pairs-smaller : goal.pairs-pairs-smaller
pairs-pairs-smaller t c =
    let k = c.in_ok-value.ensures.measured in
    let v = c.in_ok-rest.ensures.measured in
    let left = levels_left c.inside-inner.result.level in
    omega (
      arith,
      item_shorter left c.pairs.rest.now k.0 c.in_ok-value.value.now k.1,
      item_shorter left c.in_ok-value.value.now v.0 c.in_ok-rest.rest.now v.1,
    )

pub pairs-pairs-preserved : goal.pairs-pairs-preserved
pairs-pairs-preserved t c =
    let i = c.pairs.invariant in
    let k = c.in_ok-value.ensures.measured in
    let v = c.in_ok-rest.ensures.measured in
    let inner = c.inside-inner.result.level in
    let level = c.args.place.level + 1 in
    let left = levels_left level in
    let key = level_read inner level c.pairs.rest.now k.0 c.in_ok-value.value.now c.inside-inner.ensures.level k.1 in
    let value = level_read inner level c.in_ok-value.value.now v.0 c.in_ok-rest.rest.now c.inside-inner.ensures.level
    v.1 in
    let first = item_shorter left c.pairs.rest.now k.0 c.in_ok-value.value.now key in
    let second = item_shorter left c.in_ok-value.value.now v.0 c.in_ok-rest.rest.now value in
    record {
      members = joined_pairs i.members (pair k.0 v.0 no_pairs);
      so_far = sym (pair_read left i.members c.args.count c.pairs.held c.pairs.rest.now c.in_ok-value.value.now
          c.in_ok-rest.rest.now k.0 v.0 (sym c.in_default.ensures) key value) ∙ i.so_far;
      reach = pair_counted (width_there c.inside-inner.result) i.members k.0 v.0 c.args.self.now.widest
          c.pairs.self.widest c.front.new.self.widest c.front-in-pairs.new.self.widest i.reach k.2 v.2;
      room = omega (arith, i.room, first, second);
    }
