-- What is appended from bytes is a text of the item that reading them gives, or reading fails the same.
use Rattle.std.proofs.Common.{◌≡◌, ◌+◌, ◌++◌, Some, refl, ap, sym, ◌∙◌, arith, length}
use Rattle.std.proofs.lemmas.Bool.{eqb-true, eqb-false}
use Rattle.std.specs.String.{string_bytes}
use Rattle.cbor_grammar.specs.Item as spec
use Rattle.cbor_grammar.specs.Item.{atom, string, array, no_items, item, no_pairs, pair}
use Rattle.cbor_grammar.specs.Embedded.{sequence_at}
use Rattle.cbor_grammar.specs.NotationText.{members_layout}
use Rattle.cbor_grammar.specs.Reading.{items_in, pairs_in, tag_of, joined, joined_pairs, count_width, read_head}
use Rattle.cbor_grammar.specs.Reading.{no_level_left}
use Rattle.cbor_grammar.specs.WellFormed.{levels_left}
use Rattle.cbor_grammar.specs.mirror.AtLevel.{read_at}
use Rattle.cbor_grammar.specs.mirror.Lengths.{left_of}
use Rattle.cbor_grammar.specs.mirror.StringView.{kind_of, borrowed_chunk}
use Rattle.cbor_grammar.proofs.bytes.Shorter.{item_shorter}
use Rattle.cbor_tokens.proofs.texts.Appending.{cut_back, begins_through, begins_still, begins_two}
use Rattle.cbor_tokens.proofs.texts.Appending.{begins_after_member}
use Rattle.cbor_notation_writer.specs.declared.parts.Container.TheVariants.{Array, Map}
use Rattle.cbor_notation_writer.specs.Dialect.{embedding, located, with_bytes}
use Rattle.cbor_notation_writer.specs.mirror.Straight.{TextsBelow, chunk, ContentThere}
use Rattle.cbor_grammar.specs.declared.layout.Content.TheVariants as shown
use Rattle.cbor_bytes.proofs.reading.Levels.{head_fails, too_deep, same_read, same_fails}
use Rattle.cbor_bytes.proofs.reading.Readings.{fails_is, float_fits, parts_read, parts_ended, none_held}
use Rattle.cbor_bytes.proofs.reading.Readings.{member_read, pair_read, tag_read, content_read}
use Rattle.cbor_notation_writer.proofs.straight.Fronts.{front_so, passed, part_refused, value_refused}
use Rattle.cbor_notation_writer.proofs.straight.Sequences.{sequence_begun, sequence_more, sequence_style, sequence_ends}
use Rattle.cbor_notation_writer.proofs.straight.Sequences.{begun_member, sequence_written, whole_item, nothing_written}
use Rattle.cbor_notation_writer.proofs.straight.Sequences.{embedded_written}
use Rattle.cbor_notation_writer.proofs.straight.Located.{known_there, next_there, value_there, embedded_there}
use Rattle.cbor_notation_writer.proofs.straight.Located.{string_moved}
use Rattle.cbor_notation_writer.proofs.straight.Texts.{texts_below, reached_none, reached_more}
use Rattle.cbor_notation_writer.proofs.straight.Texts.{no_items_written, one_item_written, array_closed}
use Rattle.cbor_notation_writer.proofs.straight.Texts.{no_pairs_written, pair_text, one_pair_written, map_closed}
use Rattle.cbor_notation_writer.proofs.straight.Texts.{string_written, tag_written, width_left}
use Rattle.cbor_notation_writer.proofs.straight.Wrote.{wrote_begins, wrote_last}
use Rattle.cbor_notation_writer.proofs.from_bytes.+straight.Goals as goal

-- ---- an item

pub push_front-returns-then-level-gt-DEEPEST-clause-refused
    : goal.push_front-returns-then-level-gt-DEEPEST-clause-refused
push_front-returns-then-level-gt-DEEPEST-clause-refused g t c =
    let level = g.D.Dialect.leaves.level c.args.place.now in
    fails_is c.no_level_left.result (no_level_left c.args.bytes.now) (read_at level c.args.bytes.now)
    c.no_level_left.ensures.gives
    (too_deep level c.args.bytes.now (omega (arith, c.level.ensures, c.if-level-gt-DEEPEST.true)))

pub push_front-returns-in_err-front-clause-refused : goal.push_front-returns-in_err-front-clause-refused
push_front-returns-in_err-front-clause-refused g t c =
    let e = c.in_err-front.field-0.0 in
    passed c.from_residual.result e _ c.from_residual.ensures.1
    (head_fails (g.D.Dialect.leaves.level c.args.place.now) c.args.bytes.now e
    (omega (arith, c.level.ensures, c.if-level-gt-DEEPEST.false))
    (fails_is e _ (read_head c.args.bytes.now) refl c.in_err-front.ensures.gives))

pub push_front-returns-then-moves : goal.push_front-returns-then-moves
push_front-returns-then-moves g t c = record {
  printed = c.push_moved.ensures.printed;
  refused = c.push_moved.ensures.refused;
  begun = c.push_moved.ensures.begun;
}

pub push_front-returns : goal.push_front-returns
push_front-returns g t c =
    let d = g.D.Dialect.leaves in
    let place = c.args.place.now in
    let bytes = c.args.bytes.now in
    let stays = c.moves.ensures.stays c.if-moves.false (length bytes) in
    let known = known_there d g.D.Dialect.becomes place place bytes _ _ stays c.in_ok-front.ensures.gives in
    let so = front_so (located d g.D.Dialect.becomes) (place, bytes) bytes c.level.ensures
    c.if-level-gt-DEEPEST.false refl known refl c.in_ok-front.ensures.gives
    c.push_here.result (λ rest. rest.now) _ _ c.push_here.ensures.printed c.push_here.ensures.refused in
    record { printed = so.0; refused = so.1; begun = c.push_here.ensures.begun }

pub push_moved-returns : goal.push_moved-returns
push_moved-returns g t c =
    let d = g.D.Dialect.leaves in
    let place = c.args.place.now in
    let bytes = c.args.bytes.now in
    let known = known_there d g.D.Dialect.becomes place _ bytes _ _ c.in_ok-here.ensures.place c.requires.head in
    let so = front_so (located d g.D.Dialect.becomes) (place, bytes) bytes refl c.requires.level refl known
    c.in_ok-here.ensures.level c.requires.head c.push_here.result (λ rest. rest.now) _ _
    c.push_here.ensures.printed c.push_here.ensures.refused in
    record { printed = so.0; refused = so.1; begun = c.push_here.ensures.begun }

pub push_here-leaf-requires-in-Float : goal.push_here-leaf-requires-in-Float
push_here-leaf-requires-in-Float g t c =
    float_fits c.args.bytes.now c.args.front.1.now c.in-Float.bits c.in-Float.width
    (λ i. omega (arith, c.type_inv.bytes i)) (rw c.in-Float.is at c.requires.head)

pub push_here-returns-in_ok-leaf-in-Integer-clause-printed
    : goal.push_here-returns-in_ok-leaf-in-Integer-clause-printed
push_here-returns-in_ok-leaf-in-Integer-clause-printed g t c =
    let w = c.in_ok-leaf-in-Integer.ensures in rw c.in-Integer.is (_, refl, w.0, w.1, w.2)

pub push_here-returns-in_ok-leaf-in-Negative-clause-printed
    : goal.push_here-returns-in_ok-leaf-in-Negative-clause-printed
push_here-returns-in_ok-leaf-in-Negative-clause-printed g t c =
    let w = c.in_ok-leaf-in-Negative.ensures in rw c.in-Negative.is (_, refl, w.0, w.1, w.2)

pub push_here-returns-in_ok-leaf-in-Float-clause-printed : goal.push_here-returns-in_ok-leaf-in-Float-clause-printed
push_here-returns-in_ok-leaf-in-Float-clause-printed g t c =
    let w = c.in_ok-leaf-in-Float.ensures in rw c.in-Float.is (_, refl, w.0, w.1, w.2)

pub push_here-returns-in_ok-leaf-in-Simple-clause-printed : goal.push_here-returns-in_ok-leaf-in-Simple-clause-printed
push_here-returns-in_ok-leaf-in-Simple-clause-printed g t c =
    let w = c.in_ok-leaf-in-Simple.ensures in rw c.in-Simple.is (_, refl, w.0, w.1, w.2)

-- ---- an array

pub push_array_front-items-init : goal.push_array_front-items-init
push_array_front-items-init g t c =
    let d = g.D.Dialect.leaves in
    let there = located d g.D.Dialect.becomes in
    let place = c.args.place.now in
    let x = with_bytes place c.args.bytes.now in
    let count = c.args.count in
    let inside = c.inside-inner.ensures.place ∙ ap (λ x. d.inside (Array count) x place) c.members_layout.ensures in
    record {
      found = no_items;
      so_far = ap (λ a. parts_read (levels_left (d.level place + 1)) (items_in no_items a) c.args.bytes.now)
          (none_held count);
      written = no_items_written there (TextsBelow there x) x _ (c.inside-inner.result, c.args.bytes.now) (Array count)
          _ _ _ (ap (λ p. (p, c.args.bytes.now)) inside) c.in_ok-opening.ensures;
      reached = reached_none count;
      level = c.inside-inner.ensures.level;
      layout = c.inside-inner.ensures.layout ∙ c.members_layout.ensures;
      begun = wrote_begins _ _ _ c.in_ok-opening.ensures;
      room = omega arith;
    }

pub push_array_front-returns-in-Some-clause-printed : goal.push_array_front-returns-in-Some-clause-printed
push_array_front-returns-in-Some-clause-printed g t c =
    let d = g.D.Dialect.leaves in
    let place = c.args.place.now in
    let i = c.items.invariant in
    let count = c.args.count in
    let width = count_width count in
    let held = c.items.held in
    let left = levels_left (d.level place + 1) in
    let after = c.in-Some.after.now in
    let read = sym i.so_far ∙ parts_ended left (items_in i.found (left_of count held)) c.items.rest.now after _
    (ap (λ x. Some (array i.found x)) (width_left count held)) (sym c.in-Some.ensures) in
    let same = c.array_style-style.ensures.style left i.found width after read in
    let text = array_closed (located d g.D.Dialect.becomes) (place, c.args.bytes.now)
    (c.items.inner, c.items.rest.now) _ count i.found held _ _ _ c.items.rest.now after same i.written
    i.reached c.in-Some.ensures c.in_ok-closing.ensures in
    (array i.found width, read, text.0, text.1, text.2)

pub push_array_front-returns-in_err-rest-clause-refused : goal.push_array_front-returns-in_err-rest-clause-refused
push_array_front-returns-in_err-rest-clause-refused g t c =
    let i = c.items.invariant in
    let e = c.in_err-rest.field-0.0 in
    passed c.from_residual-in_err-rest.result e _ c.from_residual-in_err-rest.ensures.1
    (part_refused g.D.Dialect.leaves c.args.place.now c.items.inner e i.level
    (items_in i.found (left_of c.args.count c.items.held)) c.items.rest.now i.so_far c.in_default.ensures
    c.in_err-rest.ensures.refused)

pub push_array_front-items-smaller : goal.push_array_front-items-smaller
push_array_front-items-smaller g t c =
    let p = c.in_ok-rest.ensures.printed in
    item_shorter (levels_left (g.D.Dialect.leaves.level c.items.inner)) c.items.rest.now p.0 c.in_ok-rest.rest.now p.1

pub push_array_front-items-preserved : goal.push_array_front-items-preserved
push_array_front-items-preserved g t c =
    let d = g.D.Dialect.leaves in
    let there = located d g.D.Dialect.becomes in
    let place = c.args.place.now in
    let x = with_bytes place c.args.bytes.now in
    let now = c.items.inner in
    let i = c.items.invariant in
    let p = c.in_ok-rest.ensures.printed in
    let count = c.args.count in
    let held = c.items.held in
    let level = d.level place + 1 in
    let left = levels_left level in
    let rest = c.items.rest.now in
    let after = c.in_ok-rest.rest.now in
    let read = same_read (d.level c.items.inner) level rest after p.0 i.level p.1 in
    let shorter = item_shorter left rest p.0 after read in
    record {
      found = joined i.found (item p.0 no_items);
      so_far = sym (member_read left i.found count held rest after p.0 (sym c.in_default.ensures) read) ∙ i.so_far;
      written = one_item_written there (TextsBelow there x) x _ (now, rest) (c.pass.new.place, after) (Array count)
          _ _ _ _ _ _ i.found p.0 held p.2 i.written c.in_ok-start.ensures
          (texts_below there (now, rest) level p.0 p.2 i.level p.3) p.4 c.in_ok-end.ensures
          (next_there d g.D.Dialect.becomes now c.pass.new.place rest after p.0 c.pass.ensures.place p.1);
      reached = reached_more count held rest c.in_default.ensures;
      level = c.pass.ensures.level ∙ i.level;
      layout = c.pass.ensures.layout ∙ i.layout;
      begun = begins_after_member _ _ _ _ _ _ p.2 _ i.begun c.in_ok-start.ensures p.4 c.in_ok-end.ensures;
      room = omega (arith, i.room, shorter);
    }

-- ---- a map

pub push_map_front-pairs-init : goal.push_map_front-pairs-init
push_map_front-pairs-init g t c =
    let d = g.D.Dialect.leaves in
    let there = located d g.D.Dialect.becomes in
    let place = c.args.place.now in
    let x = with_bytes place c.args.bytes.now in
    let count = c.args.count in
    let inside = c.inside-inner.ensures.place ∙ ap (λ x. d.inside (Map count) x place) c.members_layout.ensures in
    record {
      found = no_pairs;
      so_far = ap (λ a. parts_read (levels_left (d.level place + 1)) (pairs_in no_pairs a) c.args.bytes.now)
          (none_held count);
      written = no_pairs_written there (TextsBelow there x) x _ (c.inside-inner.result, c.args.bytes.now) (Map count)
          _ _ _ (ap (λ p. (p, c.args.bytes.now)) inside) c.in_ok-opening.ensures;
      reached = reached_none count;
      level = c.inside-inner.ensures.level;
      layout = c.inside-inner.ensures.layout ∙ c.members_layout.ensures;
      begun = wrote_begins _ _ _ c.in_ok-opening.ensures;
      room = omega arith;
    }

pub push_map_front-returns-in-Some-clause-printed : goal.push_map_front-returns-in-Some-clause-printed
push_map_front-returns-in-Some-clause-printed g t c =
    let d = g.D.Dialect.leaves in
    let place = c.args.place.now in
    let i = c.pairs.invariant in
    let count = c.args.count in
    let width = count_width count in
    let held = c.pairs.held in
    let left = levels_left (d.level place + 1) in
    let after = c.in-Some.after.now in
    let read = sym i.so_far ∙ parts_ended left (pairs_in i.found (left_of count held)) c.pairs.rest.now after _
    (ap (λ x. Some (spec.map i.found x)) (width_left count held)) (sym c.in-Some.ensures) in
    let same = c.map_style-style.ensures.style left i.found width after read in
    let text = map_closed (located d g.D.Dialect.becomes) (place, c.args.bytes.now)
    (c.pairs.inner, c.pairs.rest.now) _ count i.found held _ _ _ c.pairs.rest.now after same i.written
    i.reached c.in-Some.ensures c.in_ok-closing.ensures in
    (spec.map i.found width, read, text.0, text.1, text.2)

pub push_map_front-returns-in_err-value-clause-refused : goal.push_map_front-returns-in_err-value-clause-refused
push_map_front-returns-in_err-value-clause-refused g t c =
    let i = c.pairs.invariant in
    let e = c.in_err-value.field-0.0 in
    passed c.from_residual-in_err-value.result e _ c.from_residual-in_err-value.ensures.1
    (part_refused g.D.Dialect.leaves c.args.place.now c.pairs.inner e i.level
    (pairs_in i.found (left_of c.args.count c.pairs.held)) c.pairs.rest.now i.so_far c.in_default.ensures
    c.in_err-value.ensures.refused)

pub push_map_front-returns-in_err-rest-clause-refused : goal.push_map_front-returns-in_err-rest-clause-refused
push_map_front-returns-in_err-rest-clause-refused g t c =
    let i = c.pairs.invariant in
    let k = c.in_ok-value.ensures.printed in
    let e = c.in_err-rest.field-0.0 in
    passed c.from_residual-in_err-rest.result e _ c.from_residual-in_err-rest.ensures.1
    (value_refused g.D.Dialect.leaves c.args.place.now c.pairs.inner e i.level
    c.pass_key.new.place i.found c.args.count c.pairs.held c.pairs.rest.now c.in_ok-value.value.now k.0 i.so_far
    c.in_default.ensures k.1 c.pass_key.ensures.level c.in_err-rest.ensures.refused)

pub push_map_front-pairs-smaller : goal.push_map_front-pairs-smaller
push_map_front-pairs-smaller g t c =
    let d = g.D.Dialect.leaves in
    let k = c.in_ok-value.ensures.printed in
    let v = c.in_ok-rest.ensures.printed in
    let mid = c.in_ok-value.value.now in
    omega (
      arith,
      item_shorter (levels_left (d.level c.pairs.inner)) c.pairs.rest.now k.0 mid k.1,
      item_shorter (levels_left (d.level c.pass_key.new.place)) mid v.0 c.in_ok-rest.rest.now v.1,
    )

pub push_map_front-pairs-preserved : goal.push_map_front-pairs-preserved
push_map_front-pairs-preserved g t c =
    let d = g.D.Dialect.leaves in
    let becomes = g.D.Dialect.becomes in
    let there = located d becomes in
    let place = c.args.place.now in
    let x = with_bytes place c.args.bytes.now in
    let i = c.pairs.invariant in
    let k = c.in_ok-value.ensures.printed in
    let v = c.in_ok-rest.ensures.printed in
    let l = c.map_style-style.result in
    let count = c.args.count in
    let held = c.pairs.held in
    let level = d.level place + 1 in
    let left = levels_left level in
    let now = c.pairs.inner in
    let beside = c.pass_key.new.place in
    let rest = c.pairs.rest.now in
    let mid = c.in_ok-value.value.now in
    let after = c.in_ok-rest.rest.now in
    let deep = c.pass_key.ensures.level ∙ i.level in
    let key = same_read (d.level now) level rest mid k.0 i.level k.1 in
    let value = same_read (d.level beside) level mid after v.0 deep v.1 in
    let first = item_shorter left rest k.0 mid key in
    let second = item_shorter left mid v.0 after value in
    let passed = c.pass_key.ensures.place (levels_left (d.level now)) k.0 k.1 in
    let to_value = value_there d becomes now beside rest mid k.0 passed k.1 in
    let to_next = next_there d becomes beside c.pass.new.place mid after v.0 c.pass.ensures.place v.1 in
    let one = pair_text there (TextsBelow there x) l (now, rest) (beside, mid) k.0 v.0 k.2 v.2 _ _ _ _
    (texts_below there (now, rest) level k.0 k.2 i.level k.3) k.4 to_value c.in_ok-colon.ensures
    (texts_below there (beside, mid) level v.0 v.2 deep v.3) v.4 in
    record {
      found = joined_pairs i.found (pair k.0 v.0 no_pairs);
      so_far = sym (pair_read left i.found count held rest mid after k.0 v.0 (sym c.in_default.ensures) key value)
          ∙ i.so_far;
      written = one_pair_written there (TextsBelow there x) x _ (now, rest) (beside, mid) (c.pass.new.place, after)
          (Map count) l _ _ _ _ _ i.found k.0 v.0 held i.written c.in_ok-start.ensures one c.in_ok-end.ensures to_value
          to_next;
      reached = reached_more count held rest c.in_default.ensures;
      level = c.pass.ensures.level ∙ deep;
      layout = c.pass.ensures.layout ∙ (c.pass_key.ensures.layout ∙ i.layout);
      begun = begins_still _ _ _ _ (begins_after_member _ _ _ _ _ k.2 _ v.2
          (begins_still _ _ _ _ i.begun c.in_ok-start.ensures) k.4 c.in_ok-colon.ensures v.4) c.in_ok-end.ensures;
      room = omega (arith, i.room, first, second);
    }

-- ---- a tag

pub push_tag_front-returns-in_err-rest-clause-refused : goal.push_tag_front-returns-in_err-rest-clause-refused
push_tag_front-returns-in_err-rest-clause-refused g t c =
    let e = c.in_err-rest.field-0.0 in
    passed c.from_residual-in_err-rest.result e _ c.from_residual-in_err-rest.ensures.1
    (part_refused g.D.Dialect.leaves c.args.place.now c.below.result e c.below.ensures.level
    (tag_of c.args.head.0 c.args.head.1) c.args.bytes.now refl refl c.in_err-rest.ensures.refused)

pub push_tag_front-returns-clause-printed : goal.push_tag_front-returns-clause-printed
push_tag_front-returns-clause-printed g t c =
    let d = g.D.Dialect.leaves in
    let place = c.args.place.now in
    let p = c.in_ok-rest.ensures.printed in
    let tag = c.args.head.0 in
    let width = c.args.head.1 in
    let level = d.level place + 1 in
    let bytes = c.args.bytes.now in
    let text = tag_written (located d g.D.Dialect.becomes) (place, bytes) (c.below.result, bytes) tag width p.0 p.2
    _ _ _ _ c.in_ok-tag.ensures (ap (λ x. (x, bytes)) c.below.ensures.place)
    c.below.ensures.level p.3 p.4 c.in_ok-tag_end.ensures in (
      spec.tagged tag width p.0,
      tag_read (levels_left level) tag width c.args.bytes.now c.in_ok-rest.rest.now p.0
          (same_read (d.level c.below.result) level c.args.bytes.now _ p.0 c.below.ensures.level p.1),
      text.0,
      text.1,
      text.2,
    )

-- ---- a string

pub push_string_front-returns-in_ok-push_definite-in-Number-clause-printed
    : goal.push_string_front-returns-in_ok-push_definite-in-Number-clause-printed
push_string_front-returns-in_ok-push_definite-in-Number-clause-printed g t c =
    let w = c.in-Number.width in
    let content = c.in_ok-content-in-Number.content in
    let read = content_read c.in-Number.count w content c.args.bytes.now c.in_ok-content-in-Number.rest.now _
    c.in_ok-content-in-Number.ensures.kind (c.in_ok-content-in-Number.ensures.gives w) in
    let d = g.D.Dialect.leaves in
    let place = c.args.place.now in
    let bytes = c.args.bytes.now in
    let h = c.in_ok-push_definite-in-Number.ensures in
    let moved = string_moved d g.D.Dialect.becomes place _ _ w content bytes _ h.0
    (λ i. omega (arith, c.type_inv.bytes i)) (c.in_ok-content-in-Number.ensures.gives w) h.1 in
    let text = string_written (located d g.D.Dialect.becomes) (place, bytes) w content _ _ (h.0, moved, h.2) in
    rw c.in-Number.is (atom (string (kind_of content) (borrowed_chunk w content)), read, text.0, text.1, text.2)

-- ---- an embedded item

pub push_embedded-returns-then-is_empty : goal.push_embedded-returns-then-is_empty
push_embedded-returns-then-is_empty g t c =
    nothing_written c.closing.result (located g.D.Dialect.leaves g.D.Dialect.becomes)
    (c.args.place.now, c.args.bytes.now) (chunk c.args.width c.args.bytes.now) _ _ _
    (eqb-true (length c.args.bytes.now) 0 (sym c.is_empty.ensures ∙ c.if-is_empty.true)) c.in_ok-opening.ensures
    c.closing.ensures

pub push_embedded-returns-then-is_empty-2 : goal.push_embedded-returns-then-is_empty-2
push_embedded-returns-then-is_empty-2 g t c =
    let d = g.D.Dialect.leaves in
    let place = c.args.place.now in
    let p = c.in-Ok.ensures.printed in
    let level = d.level place + 1 in
    let bytes = c.args.bytes.now in
    let rest = c.in-Ok.rest.now in
    let b = chunk c.args.width bytes in
    let some = eqb-false (length bytes) 0 (sym c.is_empty.ensures ∙ c.if-is_empty.false) in
    let none = eqb-true (length rest) 0 (sym c.is_empty-in-Ok.ensures ∙ c.if-is_empty-2.true) in
    let read = same_read (d.level c.inside.result) level bytes rest p.0 c.inside.ensures.level p.1 in
    let becomes = g.D.Dialect.becomes in
    let there = located d becomes in
    let inside = c.inside.ensures.place ∙ ap (λ x. d.inside (embedding b) x place) c.layout.ensures in
    let first = embedded_there d becomes place c.inside.result c.args.width bytes (d.layout place) inside in
    embedded_written c.closing-then-is_empty-2.result there (place, bytes) (c.inside.result, bytes) b p.0 p.2 _ _ _ _
    (omega (arith, some)) (whole_item (levels_left level) bytes rest p.0 read none) c.in_ok-opening-2.ensures first
    (texts_below there (c.inside.result, bytes) level p.0 p.2 c.inside.ensures.level p.3) p.4
    c.closing-then-is_empty-2.ensures

pub push_embedded-truncate-requires : goal.push_embedded-truncate-requires
push_embedded-truncate-requires g t c =
    let p = c.in-Ok.ensures.printed in
    let old = string_bytes c.args.out.now in
    let o = c.in_ok-opening-2.ensures in
    λ _. (cut_back c.args.out.now c.push_front.new.out c.len-start.result c.len-start.ensures
    (begins_two old (string_bytes c.opening-2.new.out) o.0 p.2 (string_bytes c.push_front.new.out) o.2 p.4)).0

pub push_embedded-truncate-requires-in_default : goal.push_embedded-truncate-requires-in_default
push_embedded-truncate-requires-in_default g t c =
    let old = string_bytes c.args.out.now in
    let mid = string_bytes c.opening-2.new.out in
    λ _. (cut_back c.args.out.now c.push_front.new.out c.len-start.result c.len-start.ensures
    (begins_through old mid (string_bytes c.push_front.new.out) c.in-Err.ensures.begun
    (wrote_begins old mid _ c.in_ok-opening-2.ensures))).0

-- ---- a sequence

pub push_sequence-items-init : goal.push_sequence-items-init
push_sequence-items-init g t c =
    let d = g.D.Dialect.leaves in
    let there = located d g.D.Dialect.becomes in
    let place = c.args.place.now in
    let bytes = c.args.bytes.now in
    let b = chunk c.args.width bytes in
    let inside = c.inside-inner.ensures.place ∙ ap (λ x. d.inside (embedding b) x place) c.members_layout.ensures in
    record {
      found = no_items;
      so_far = sequence_begun (levels_left (d.level place + 1)) c.args.bytes.now;
      written = no_items_written there (TextsBelow there (place, bytes)) (place, bytes) _
          (c.inside-inner.result, bytes) (embedding b) _ _ _
          (embedded_there d g.D.Dialect.becomes place c.inside-inner.result c.args.width bytes _ inside)
          c.in_ok-opening.ensures;
      level = c.inside-inner.ensures.level;
      layout = c.inside-inner.ensures.layout ∙ c.members_layout.ensures;
      begun = wrote_begins _ _ _ c.in_ok-opening.ensures;
      room = omega arith;
    }

pub push_sequence-items-smaller : goal.push_sequence-items-smaller
push_sequence-items-smaller g t c =
    let p = c.in-Ok.ensures.printed in
    item_shorter (levels_left (g.D.Dialect.leaves.level c.items.inner)) c.items.rest.now p.0 c.in-Ok.after.now p.1

pub push_sequence-items-preserved : goal.push_sequence-items-preserved
push_sequence-items-preserved g t c =
    let d = g.D.Dialect.leaves in
    let there = located d g.D.Dialect.becomes in
    let place = c.args.place.now in
    let x = with_bytes place c.args.bytes.now in
    let now = c.items.inner in
    let i = c.items.invariant in
    let p = c.in-Ok.ensures.printed in
    let level = d.level place + 1 in
    let left = levels_left level in
    let rest = c.items.rest.now in
    let after = c.in-Ok.after.now in
    let read = same_read (d.level c.items.inner) level rest after p.0 i.level p.1 in
    let shorter = item_shorter left rest p.0 after read in
    record {
      found = joined i.found (item p.0 no_items);
      so_far = sequence_more left i.found p.0 rest after _ read i.so_far;
      written = one_item_written there (TextsBelow there x) x _ (now, rest) (c.pass.new.place, after) _ _ _ _ _ _ _
          i.found p.0 c.items.held p.2 i.written c.in_ok-start.ensures
          (texts_below there (now, rest) level p.0 p.2 i.level p.3) p.4 c.in_ok-end-in-Ok.ensures
          (next_there d g.D.Dialect.becomes now c.pass.new.place rest after p.0 c.pass.ensures.place p.1);
      level = c.pass.ensures.level ∙ i.level;
      layout = c.pass.ensures.layout ∙ i.layout;
      begun = begins_after_member _ _ _ _ _ _ p.2 _ i.begun c.in_ok-start.ensures p.4 c.in_ok-end-in-Ok.ensures;
      room = omega (arith, i.room, shorter);
    }

pub push_sequence-truncate-requires : goal.push_sequence-truncate-requires
push_sequence-truncate-requires g t c =
    λ _. (cut_back c.items.out c.push_front.new.out c.len-start.result c.len-start.ensures
    (begun_member (string_bytes c.items.out) (string_bytes c.start.new.out) (string_bytes c.push_front.new.out) _
    c.in_ok-start.ensures c.in-Err.ensures.begun)).0

pub push_sequence-returns-in_default : goal.push_sequence-returns-in_default
push_sequence-returns-in_default g t c =
    let d = g.D.Dialect.leaves in
    let place = c.args.place.now in
    let old = string_bytes c.args.out.now in
    let b = chunk c.args.width c.args.bytes.now in
    let l = c.sequence_style-style.result in
    let there = located d g.D.Dialect.becomes in
    let x = with_bytes place c.args.bytes.now in
    let first = there.inside (embedding b) (members_layout l) x in
    let i = c.items.invariant in
    let level = d.level place + 1 in
    let left = levels_left level in
    let bytes = c.args.bytes.now in
    let rest = c.items.rest.now in
    let out = string_bytes c.items.out in
    let mid = string_bytes c.closing.new.out in
    let new = string_bytes c.rest.new.out in
    let whole = sequence_ends left i.found rest c.in-Err.error (sequence_at left bytes) c.in_default.not-Memory
    (same_fails c.in-Err.error (d.level c.items.inner) level rest i.level c.in-Err.ensures.refused) i.so_far in
    let same = sequence_style d place l bytes i.found rest c.sequence_style-style.ensures.style whole in
    let back = c.truncate.ensures.bytes ∙ (cut_back c.items.out c.push_front.new.out c.len-start.result
    c.len-start.ensures (begun_member (string_bytes c.items.out) (string_bytes c.start.new.out)
    (string_bytes c.push_front.new.out) _
    c.in_ok-start.ensures c.in-Err.ensures.begun)).1 in
    let e = c.in_ok-closing-in_default.ensures in
    let ended : mid ≡ out ++ e.0 = e.2 ∙ ap (λ x. x ++ e.0) back in
    wrote_last c.rest.result old mid new (d.rest place (embedding b) rest) (ContentThere there shown.Sequence x b)
    (begins_still old out e.0 mid i.begun ended)
    (λ r is last. sequence_written there x first (c.items.inner, rest) l b i.found rest old out mid new c.items.held
    same whole i.written refl (e.0, e.1, ended) (r, is, last))
    c.rest.ensures
