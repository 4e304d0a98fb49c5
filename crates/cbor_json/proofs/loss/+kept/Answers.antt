-- What was passed is kept, or reading stops where JSON does not keep what is there.
use Rattle.std.proofs.Common.{Some, refl, ap, sym, ◌∙◌, ◌+◌, arith}
use Rattle.std.proofs.lemmas.Result.{err_from_is_err_and}
use Rattle.cbor_grammar.specs.declared.head.ItemHead.TheVariants as head
use Rattle.cbor_grammar.specs.Item as spec
use Rattle.cbor_grammar.specs.Item.{array, no_items, item, no_pairs, pair}
use Rattle.cbor_grammar.specs.Reading.{items_in, pairs_in, joined, joined_pairs, count_width}
use Rattle.cbor_grammar.specs.WellFormed.{levels_left}
use Rattle.cbor_grammar.specs.mirror.Lengths.{left_of}
use Rattle.cbor_grammar.proofs.bytes.Frames.{count_more, pair_count_more}
use Rattle.cbor_grammar.proofs.bytes.Shorter.{item_shorter}
use Rattle.cbor_bytes.proofs.reading.Readings.{parts_read, parts_ended, none_held, member_read, pair_read, no_item}
use Rattle.cbor_json.proofs.losing.Kept.{kept_joined, kept_joined_pairs, reads_more, reads_pair, member_stops}
use Rattle.cbor_json.proofs.losing.Kept.{key_stops, value_stops, stops_here, kept_so, stops_so, atom_so}
use Rattle.cbor_json.proofs.losing.Kept.{opens_none, head_fits, deep_stops, width_is}
use Rattle.cbor_json.proofs.loss.+kept.Goals as goal

-- ---- an item

pub kept_front-returns-then-level-gt-DEEPEST-clause-stops : goal.kept_front-returns-then-level-gt-DEEPEST-clause-stops
kept_front-returns-then-level-gt-DEEPEST-clause-stops t c =
    deep_stops c.args.level c.args.bytes.now (omega (arith, c.if-level-gt-DEEPEST.true))

pub kept_front-returns-in_default-clause-stops : goal.kept_front-returns-in_default-clause-stops
kept_front-returns-in_default-clause-stops t c =
    λ i rest e. no_item (levels_left c.args.level) c.args.bytes.now c.in_default.field-0 (i, rest)
    c.in_default.ensures.gives e

pub kept_front-head_loss-requires : goal.kept_front-head_loss-requires
kept_front-head_loss-requires t c =
    head_fits c.in-Ok.head c.args.bytes.now c.in-Ok.rest.now (λ i. omega (arith, c.type_inv.bytes i))
    c.in-Ok.ensures.gives

pub kept_front-returns-in-Some-clause-stops : goal.kept_front-returns-in-Some-clause-stops
kept_front-returns-in-Some-clause-stops t c =
    stops_here c.args.level c.args.bytes.now c.in-Ok.rest.now c.in-Ok.head c.in-Some.kind
    (omega (arith, c.if-level-gt-DEEPEST.false)) c.in-Ok.ensures.gives (sym c.in-Some.ensures)

pub kept_front-returns-in-Array-clause-kept : goal.kept_front-returns-in-Array-clause-kept
kept_front-returns-in-Array-clause-kept t c =
    kept_so c.args.level c.args.bytes.now c.in-Ok.rest.now (head.Array c.in-Array.count)
    (omega (arith, c.if-level-gt-DEEPEST.false)) (rw c.in-Array.is at c.in-Ok.ensures.gives) c.kept_items.result
    (λ rest. rest.now) c.kept_items.ensures.kept

pub kept_front-returns-in-Array-clause-stops : goal.kept_front-returns-in-Array-clause-stops
kept_front-returns-in-Array-clause-stops t c =
    stops_so c.args.level c.args.bytes.now c.in-Ok.rest.now (head.Array c.in-Array.count)
    (omega (arith, c.if-level-gt-DEEPEST.false)) (rw c.in-Array.is at c.in-Ok.ensures.gives) c.kept_items.result
    (omega (arith, c.in-Ok.ensures.shorter)) c.kept_items.ensures.stops

pub kept_front-returns-in-Map-clause-kept : goal.kept_front-returns-in-Map-clause-kept
kept_front-returns-in-Map-clause-kept t c =
    kept_so c.args.level c.args.bytes.now c.in-Ok.rest.now (head.Map c.in-Map.count)
    (omega (arith, c.if-level-gt-DEEPEST.false)) (rw c.in-Map.is at c.in-Ok.ensures.gives) c.kept_pairs.result
    (λ rest. rest.now) c.kept_pairs.ensures.kept

pub kept_front-returns-in-Map-clause-stops : goal.kept_front-returns-in-Map-clause-stops
kept_front-returns-in-Map-clause-stops t c =
    stops_so c.args.level c.args.bytes.now c.in-Ok.rest.now (head.Map c.in-Map.count)
    (omega (arith, c.if-level-gt-DEEPEST.false)) (rw c.in-Map.is at c.in-Ok.ensures.gives) c.kept_pairs.result
    (omega (arith, c.in-Ok.ensures.shorter)) c.kept_pairs.ensures.stops

pub kept_front-returns-in_default-head : goal.kept_front-returns-in_default-head
kept_front-returns-in_default-head t c =
    let none = sym c.in_default-head_loss.ensures in
    record {
      kept = atom_so c.args.level c.args.bytes.now c.in-Ok.rest.now c.in-Ok.head
          (omega (arith, c.if-level-gt-DEEPEST.false)) c.in-Ok.ensures.gives c.after_item.result (λ rest. rest.now) none
          (opens_none c.in-Ok.head none c.in_default-head.not-Array c.in_default-head.not-Map)
          c.after_item.ensures.read;
      stops = c.after_item.ensures.stops;
    }

-- ---- an array

pub kept_items-items-init : goal.kept_items-items-init
kept_items-items-init t c = record {
  found = no_items;
  so_far = ap (λ a. parts_read (levels_left (c.args.level + 1)) (items_in no_items a) c.args.bytes.now)
      (none_held c.args.count);
  reads = refl;
  kept = tt;
  count = refl;
  room = omega arith;
}

pub kept_items-returns-in-Some-clause-kept : goal.kept_items-returns-in-Some-clause-kept
kept_items-returns-in-Some-clause-kept t c =
    let i = c.items.invariant in
    let whole = array i.found (count_width c.args.count) in (
      whole,
      sym i.so_far ∙ parts_ended (levels_left (c.args.level + 1)) (items_in i.found (left_of c.args.count c.items.held))
          c.items.rest.now c.in-Some.after.now whole
          (ap (λ x. Some (array i.found x)) (width_is c.args.count c.items.held)) (sym c.in-Some.ensures),
      i.kept,
    )

pub kept_items-returns-in_err-rest-clause-stops : goal.kept_items-returns-in_err-rest-clause-stops
kept_items-returns-in_err-rest-clause-stops t c =
    let p = err_from_is_err_and c.from_residual.result c.from_residual.ensures.1 in
    let i = c.items.invariant in
    rw (p.1, p.2) (member_stops c.args.level c.args.count c.args.bytes.now c.items.rest.now c.items.held
    (omega (arith, c.requires.to)) (omega (arith, i.room)) (sym c.in_default.ensures) i.found c.in_err-rest.field-0.0
    i.so_far i.reads i.kept i.count c.in_err-rest.ensures.stops)

pub kept_items-items-smaller : goal.kept_items-items-smaller
kept_items-items-smaller t c =
    let p = c.in_ok-rest.ensures.kept in
    item_shorter (levels_left (c.args.level + 1)) c.items.rest.now p.0 c.in_ok-rest.rest.now p.1

pub kept_items-items-preserved : goal.kept_items-items-preserved
kept_items-items-preserved t c =
    let i = c.items.invariant in
    let p = c.in_ok-rest.ensures.kept in
    let left = levels_left (c.args.level + 1) in
    let rest = c.items.rest.now in
    let after = c.in_ok-rest.rest.now in
    let shorter = item_shorter left rest p.0 after p.1 in
    record {
      found = joined i.found (item p.0 no_items);
      so_far = sym (member_read left i.found c.args.count c.items.held rest after p.0 (sym c.in_default.ensures) p.1)
          ∙ i.so_far;
      reads = reads_more left c.args.bytes.now rest after i.found p.0 i.reads p.1;
      kept = kept_joined i.found (item p.0 no_items) i.kept (p.2, tt);
      count = omega (arith, i.count, count_more i.found p.0);
      room = omega (arith, i.room, shorter);
    }

-- ---- a map

pub kept_pairs-pairs-init : goal.kept_pairs-pairs-init
kept_pairs-pairs-init t c = record {
  found = no_pairs;
  so_far = ap (λ a. parts_read (levels_left (c.args.level + 1)) (pairs_in no_pairs a) c.args.bytes.now)
      (none_held c.args.count);
  reads = refl;
  kept = tt;
  count = refl;
  room = omega arith;
}

pub kept_pairs-returns-in-Some-clause-kept : goal.kept_pairs-returns-in-Some-clause-kept
kept_pairs-returns-in-Some-clause-kept t c =
    let i = c.pairs.invariant in
    let whole = spec.map i.found (count_width c.args.count) in (
      whole,
      sym i.so_far ∙ parts_ended (levels_left (c.args.level + 1)) (pairs_in i.found (left_of c.args.count c.pairs.held))
          c.pairs.rest.now c.in-Some.after.now whole
          (ap (λ x. Some (spec.map i.found x)) (width_is c.args.count c.pairs.held)) (sym c.in-Some.ensures),
      i.kept,
    )

pub kept_pairs-returns-in_err-value-clause-stops : goal.kept_pairs-returns-in_err-value-clause-stops
kept_pairs-returns-in_err-value-clause-stops t c =
    let p = err_from_is_err_and c.from_residual.result c.from_residual.ensures.1 in
    let i = c.pairs.invariant in
    rw (p.1, p.2) (key_stops c.args.level c.args.count c.args.bytes.now c.pairs.rest.now c.pairs.held
    (omega (arith, c.requires.to)) (omega (arith, i.room)) (sym c.in_default.ensures) i.found i.so_far i.reads i.kept
    i.count c.in_err-value.field-0.0 c.in_err-value.ensures.stops)

pub kept_pairs-returns-in_err-rest-clause-stops : goal.kept_pairs-returns-in_err-rest-clause-stops
kept_pairs-returns-in_err-rest-clause-stops t c =
    let p = err_from_is_err_and c.from_residual-in_err-rest.result c.from_residual-in_err-rest.ensures.1 in
    let i = c.pairs.invariant in
    let k = c.in_ok-value.ensures.key in
    rw (p.1, p.2) (value_stops c.args.level c.args.count c.args.bytes.now c.pairs.rest.now c.pairs.held
    (omega (arith, c.requires.to)) (omega (arith, i.room)) (sym c.in_default.ensures) i.found i.so_far i.reads i.kept
    i.count c.in_ok-value.value.now k.0 c.in_err-rest.field-0.0 k.1 k.2 c.in_err-rest.ensures.stops)

pub kept_pairs-pairs-smaller : goal.kept_pairs-pairs-smaller
kept_pairs-pairs-smaller t c =
    let left = levels_left (c.args.level + 1) in
    let k = c.in_ok-value.ensures.key in
    let v = c.in_ok-rest.ensures.kept in
    let mid = c.in_ok-value.value.now in
    omega (
      arith,
      item_shorter left c.pairs.rest.now k.0 mid k.1,
      item_shorter left mid v.0 c.in_ok-rest.rest.now v.1,
    )

pub kept_pairs-pairs-preserved : goal.kept_pairs-pairs-preserved
kept_pairs-pairs-preserved t c =
    let i = c.pairs.invariant in
    let k = c.in_ok-value.ensures.key in
    let v = c.in_ok-rest.ensures.kept in
    let left = levels_left (c.args.level + 1) in
    let rest = c.pairs.rest.now in
    let mid = c.in_ok-value.value.now in
    let after = c.in_ok-rest.rest.now in
    let first = item_shorter left rest k.0 mid k.1 in
    let second = item_shorter left mid v.0 after v.1 in
    record {
      found = joined_pairs i.found (pair k.0 v.0 no_pairs);
      so_far = sym (pair_read left i.found c.args.count c.pairs.held rest mid after k.0 v.0
          (sym c.in_default.ensures) k.1
          v.1) ∙ i.so_far;
      reads = reads_pair left c.args.bytes.now rest mid after i.found k.0 v.0 i.reads k.1 v.1;
      kept = kept_joined_pairs i.found (pair k.0 v.0 no_pairs) i.kept (k.2, v.2, tt);
      count = omega (arith, i.count, pair_count_more i.found k.0 v.0);
      room = omega (arith, i.room, first, second);
    }
