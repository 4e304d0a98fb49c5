-- The lines that a walk over bytes writes are the dump of the item that reading them gives.
use Rattle.std.proofs.Common.{◌≡◌, ◌+◌, ◌≤◌, ℕ, List, Ok, OnOk, length, option_copied, refl, ap, sym, subst, ◌∙◌}
use Rattle.std.proofs.Common.{arith, rules}
use Rattle.std.proofs.lemmas.Bool.{eqb-true}
use Rattle.std.proofs.lemmas.List.{nil_from_length}
use Rattle.std.proofs.lemmas.Result.{err_from_is_err_and, IfErr-weaker, on_ok_weaker}
use Rattle.cbor_notes.specs.Layout.{width_of}
use Rattle.cbor_dump.specs.declared.writer.Writer.{Writer}
use Rattle.cbor_dump.specs.Dump.{Context, embedded_note, note_lines}
use Rattle.cbor_grammar.specs.Item.{Item, no_items, item, no_pairs, pair}
use Rattle.cbor_grammar.specs.Reading.{Fails, items_in, pairs_in, tag_of, joined, joined_pairs, read_head}
use Rattle.cbor_grammar.specs.Reading.{no_level_left}
use Rattle.cbor_grammar.specs.WellFormed.{levels_left}
use Rattle.cbor_grammar.specs.mirror.AtLevel.{read_at}
use Rattle.cbor_dump.specs.mirror.Dumped.{embedded_lines, Wrote}
use Rattle.cbor_grammar.specs.mirror.Lengths.{left_of}
use Rattle.cbor_grammar.proofs.bytes.Frames.{count_more, pair_count_more}
use Rattle.cbor_grammar.proofs.bytes.Heads.{ok_is}
use Rattle.cbor_grammar.proofs.bytes.Shorter.{item_shorter}
use Rattle.cbor_dump.proofs.dump.EmbeddedDumps.{sequence_more, sequence_empty, sequence_failed}
use Rattle.cbor_dump.proofs.dump.EmbeddedDumps.{whole_dumped, whole_failed}
use Rattle.cbor_dump.proofs.dump.Fronts.{dumped_front, embedded_dump, real_error, item_note, no_item_note}
use Rattle.cbor_dump.proofs.dump.Fronts.{sequence_note}
use Rattle.cbor_dump.proofs.dump.Fronts.{no_sequence_note}
use Rattle.cbor_dump.proofs.dump.Fronts.{front_ok, alone_dumped, items_dumped, pairs_dumped, tag_dumped}
use Rattle.cbor_dump.proofs.dump.HeadLines.{head_shown}
use Rattle.cbor_dump.proofs.dump.Members.{none_announced, more_announced, item_done, item_shares, pair_done}
use Rattle.cbor_dump.proofs.dump.Members.{pair_shares}
use Rattle.cbor_dump.proofs.dump.Pieces.{none_left, some_left}
use Rattle.cbor_dump.proofs.dump.Walks.{wrote_none}
use Rattle.cbor_bytes.proofs.reading.Levels.{behind_fails, head_fails, too_deep, level_read, same_read, same_fails}
use Rattle.cbor_bytes.proofs.reading.Readings.{fails_is, parts_read, part_fails, none_held, member_read, pair_read}
use Rattle.cbor_bytes.proofs.reading.Readings.{value_fails}
use Rattle.cbor_dump.proofs.walk.+walk.Goals as goal

-- ---- an item

pub dump_front-returns-then-context-gt-DEEPEST-clause-refused
    : goal.dump_front-returns-then-context-gt-DEEPEST-clause-refused
dump_front-returns-then-context-gt-DEEPEST-clause-refused t c =
    fails_is c.no_level_left.result (no_level_left c.args.bytes.now) (read_at c.args.context.now.level c.args.bytes.now)
    c.no_level_left.ensures.gives
    (too_deep c.args.context.now.level c.args.bytes.now (omega (arith, c.if-context-gt-DEEPEST.true)))

pub dump_front-returns-in_err-head-clause-refused : goal.dump_front-returns-in_err-head-clause-refused
dump_front-returns-in_err-head-clause-refused t c =
    let p = err_from_is_err_and c.from_residual.result c.from_residual.ensures.1 in
    rw p.1 (head_fails c.args.context.now.level c.args.bytes.now p.0 (omega (arith, c.if-context-gt-DEEPEST.false))
    (fails_is p.0 _ (read_head c.args.bytes.now) p.2 c.in_err-head.ensures.gives))

pub dump_front-head_line-requires-clause-bytes : goal.dump_front-head_line-requires-clause-bytes
dump_front-head_line-requires-clause-bytes t c =
    head_shown c.in_ok-head.head c.args.bytes.now c.in_ok-head.rest.now _
    (λ i. omega (arith, c.type_inv.bytes i)) c.in_ok-head.ensures.gives refl

pub dump_front-returns-in-String-clause-dumped : goal.dump_front-returns-in-String-clause-dumped
dump_front-returns-in-String-clause-dumped t c =
    let is = rw c.in-String.is at c.in_ok-head.ensures.gives in
    let line = rw c.in-String.is at c.in_ok-head_line.ensures in
    front_ok c.dump_string.result (λ rest. rest.now) c.args.context.now c.args.bytes.now c.in_ok-head.rest.now _
    c.args.walk.now _ c.dump_string.new.walk (omega (arith, c.if-context-gt-DEEPEST.false)) is refl line
    c.dump_string.ensures.dumped

pub dump_front-returns-in-String-clause-refused : goal.dump_front-returns-in-String-clause-refused
dump_front-returns-in-String-clause-refused t c =
    let is = rw c.in-String.is at c.in_ok-head.ensures.gives in
    IfErr-weaker c.dump_string.result _ _
    (λ e. behind_fails c.args.context.now.level c.args.bytes.now _ c.in_ok-head.rest.now e
    (omega (arith, c.if-context-gt-DEEPEST.false)) is) c.dump_string.ensures.refused

pub dump_front-returns-in-Array-clause-dumped : goal.dump_front-returns-in-Array-clause-dumped
dump_front-returns-in-Array-clause-dumped t c =
    let is = rw c.in-Array.is at c.in_ok-head.ensures.gives in
    let line = rw c.in-Array.is at c.in_ok-head_line.ensures in
    front_ok c.dump_items.result (λ rest. rest.now) c.args.context.now c.args.bytes.now c.in_ok-head.rest.now _
    c.args.walk.now _ c.dump_items.new.walk (omega (arith, c.if-context-gt-DEEPEST.false)) is refl line
    c.dump_items.ensures.dumped

pub dump_front-returns-in-Array-clause-refused : goal.dump_front-returns-in-Array-clause-refused
dump_front-returns-in-Array-clause-refused t c =
    let is = rw c.in-Array.is at c.in_ok-head.ensures.gives in
    IfErr-weaker c.dump_items.result _ _
    (λ e. behind_fails c.args.context.now.level c.args.bytes.now _ c.in_ok-head.rest.now e
    (omega (arith, c.if-context-gt-DEEPEST.false)) is) c.dump_items.ensures.refused

pub dump_front-returns-in-Map-clause-dumped : goal.dump_front-returns-in-Map-clause-dumped
dump_front-returns-in-Map-clause-dumped t c =
    let is = rw c.in-Map.is at c.in_ok-head.ensures.gives in
    let line = rw c.in-Map.is at c.in_ok-head_line.ensures in
    front_ok c.dump_pairs.result (λ rest. rest.now) c.args.context.now c.args.bytes.now c.in_ok-head.rest.now _
    c.args.walk.now _ c.dump_pairs.new.walk (omega (arith, c.if-context-gt-DEEPEST.false)) is refl line
    c.dump_pairs.ensures.dumped

pub dump_front-returns-in-Map-clause-refused : goal.dump_front-returns-in-Map-clause-refused
dump_front-returns-in-Map-clause-refused t c =
    let is = rw c.in-Map.is at c.in_ok-head.ensures.gives in
    IfErr-weaker c.dump_pairs.result _ _
    (λ e. behind_fails c.args.context.now.level c.args.bytes.now _ c.in_ok-head.rest.now e
    (omega (arith, c.if-context-gt-DEEPEST.false)) is) c.dump_pairs.ensures.refused

pub dump_front-returns-in-Tag-clause-dumped : goal.dump_front-returns-in-Tag-clause-dumped
dump_front-returns-in-Tag-clause-dumped t c =
    let is = rw c.in-Tag.is at c.in_ok-head.ensures.gives in
    let line = rw c.in-Tag.is at c.in_ok-head_line.ensures in
    front_ok c.dump_tagged.result (λ rest. rest.now) c.args.context.now c.args.bytes.now c.in_ok-head.rest.now _
    c.args.walk.now _ c.dump_tagged.new.walk (omega (arith, c.if-context-gt-DEEPEST.false)) is refl line
    (c.dump_tagged.ensures.dumped c.in-Tag.field-1)

pub dump_front-returns-in-Tag-clause-refused : goal.dump_front-returns-in-Tag-clause-refused
dump_front-returns-in-Tag-clause-refused t c =
    let is = rw c.in-Tag.is at c.in_ok-head.ensures.gives in
    IfErr-weaker c.dump_tagged.result _ _
    (λ e. behind_fails c.args.context.now.level c.args.bytes.now _ c.in_ok-head.rest.now e
    (omega (arith, c.if-context-gt-DEEPEST.false)) is) (c.dump_tagged.ensures.refused c.in-Tag.field-1)

pub dump_front-returns-in_default-clause-dumped : goal.dump_front-returns-in_default-clause-dumped
dump_front-returns-in_default-clause-dumped t c =
    let d = c.in_default in
    let rest = c.in_ok-head.rest.now in
    dumped_front c.args.context.now c.args.bytes.now rest rest c.in_ok-head.head c.args.walk.now _ _
    (omega (arith, c.if-context-gt-DEEPEST.false)) c.in_ok-head.ensures.gives refl c.in_ok-head_line.ensures
    (alone_dumped c.args.context.now c.in_ok-head.head rest _ d.not-String d.not-Array d.not-Map d.not-Tag)

-- ---- an array

pub dump_items-items-init : goal.dump_items-items-init
dump_items-items-init t c = record {
  members = no_items;
  so_far = ap (λ a. parts_read (levels_left (c.args.context.now.level + 1)) (items_in no_items a) c.args.bytes.now)
      (none_held c.args.count);
  count = refl;
  announced = none_announced c.args.count;
  wrote = wrote_none c.args.walk.now.writer;
  shared = omega arith;
  room = omega arith;
}

pub dump_items-returns-in-Some-clause-dumped : goal.dump_items-returns-in-Some-clause-dumped
dump_items-returns-in-Some-clause-dumped t c =
    let i = c.items.invariant in
    let inner = c.inside-inner.ensures in
    items_dumped c.args.context.now c.inside-inner.result inner.level inner.depth inner.context c.args.count
    c.items.held
    c.args.bytes.now c.items.rest.now c.in-Some.after.now c.args.walk.now c.items.walk _ i.announced
    (sym c.in-Some.ensures) c.in_ok-close.ensures i.members i.so_far i.count i.wrote i.shared

pub dump_items-returns-in_err-rest-clause-refused : goal.dump_items-returns-in_err-rest-clause-refused
dump_items-returns-in_err-rest-clause-refused t c =
    let p = err_from_is_err_and c.from_residual-in_err-rest.result c.from_residual-in_err-rest.ensures.1 in
    let i = c.items.invariant in
    let e = c.in_err-rest.field-0.0 in
    rw (p.1, p.2) (subst (Fails e) i.so_far (part_fails e (levels_left (c.args.context.now.level + 1))
    (items_in i.members (left_of c.args.count c.items.held)) c.items.rest.now (sym c.in_default.ensures)
    (same_fails e c.inside-inner.result.level (c.args.context.now.level + 1) c.items.rest.now
    c.inside-inner.ensures.level c.in_err-rest.ensures.refused)))

pub dump_items-items-smaller : goal.dump_items-items-smaller
dump_items-items-smaller t c =
    let d = c.in_ok-rest.ensures.dumped in
    item_shorter (levels_left c.inside-inner.result.level) c.items.rest.now d.item c.in_ok-rest.rest.now d.reads

pub dump_items-items-preserved : goal.dump_items-items-preserved
dump_items-items-preserved t c =
    let i = c.items.invariant in
    let d = c.in_ok-rest.ensures.dumped in
    let inner = c.inside-inner.result in
    let level = c.args.context.now.level + 1 in
    let left = levels_left level in
    let rest = c.items.rest.now in
    let after = c.in_ok-rest.rest.now in
    let read = same_read inner.level level rest after d.item c.inside-inner.ensures.level d.reads in
    let low = level_read inner.level rest after d.item d.reads in
    let none = ap (λ (p : Context). p.tag) c.inside-inner.ensures.context in
    let shorter = item_shorter left rest d.item after read in
    record {
      members = joined i.members (item d.item no_items);
      so_far = sym (member_read left i.members c.args.count c.items.held rest after d.item
          (sym c.in_default.ensures) read) ∙ i.so_far;
      count = omega (arith, count_more i.members d.item, i.count);
      announced = more_announced c.args.count c.items.held rest (sym c.in_default.ensures) i.announced;
      wrote = item_done inner none low c.args.walk.now c.items.walk c.dump_front.new.walk i.members d.item i.wrote
          i.shared d.wrote d.shared;
      shared = item_shares inner none low c.args.walk.now c.items.walk c.dump_front.new.walk i.members d.item i.wrote
          i.shared d.wrote d.shared;
      room = omega (arith, i.room, shorter);
    }

-- ---- a map

pub dump_pairs-pairs-init : goal.dump_pairs-pairs-init
dump_pairs-pairs-init t c = record {
  members = no_pairs;
  so_far = ap (λ a. parts_read (levels_left (c.args.context.now.level + 1)) (pairs_in no_pairs a) c.args.bytes.now)
      (none_held c.args.count);
  count = refl;
  announced = none_announced c.args.count;
  wrote = wrote_none c.args.walk.now.writer;
  shared = omega arith;
  room = omega arith;
}

pub dump_pairs-returns-in-Some-clause-dumped : goal.dump_pairs-returns-in-Some-clause-dumped
dump_pairs-returns-in-Some-clause-dumped t c =
    let i = c.pairs.invariant in
    let inner = c.inside-inner.ensures in
    pairs_dumped c.args.context.now c.inside-inner.result inner.level inner.depth inner.context c.args.count
    c.pairs.held
    c.args.bytes.now c.pairs.rest.now c.in-Some.after.now c.args.walk.now c.pairs.walk _ i.announced
    (sym c.in-Some.ensures) c.in_ok-close.ensures i.members i.so_far i.count i.wrote i.shared

pub dump_pairs-returns-in_err-value-clause-refused : goal.dump_pairs-returns-in_err-value-clause-refused
dump_pairs-returns-in_err-value-clause-refused t c =
    let p = err_from_is_err_and c.from_residual-in_err-value.result c.from_residual-in_err-value.ensures.1 in
    let i = c.pairs.invariant in
    let e = c.in_err-value.field-0.0 in
    rw (p.1, p.2) (subst (Fails e) i.so_far (part_fails e (levels_left (c.args.context.now.level + 1))
    (pairs_in i.members (left_of c.args.count c.pairs.held)) c.pairs.rest.now (sym c.in_default.ensures)
    (same_fails e c.inside-inner.result.level (c.args.context.now.level + 1) c.pairs.rest.now
    c.inside-inner.ensures.level c.in_err-value.ensures.refused)))

pub dump_pairs-returns-in_err-rest-clause-refused : goal.dump_pairs-returns-in_err-rest-clause-refused
dump_pairs-returns-in_err-rest-clause-refused t c =
    let p = err_from_is_err_and c.from_residual-in_err-rest.result c.from_residual-in_err-rest.ensures.1 in
    let i = c.pairs.invariant in
    let e = c.in_err-rest.field-0.0 in
    let inner = c.inside-inner.result.level in
    let level = c.args.context.now.level + 1 in
    let k = c.in_ok-value.ensures.dumped in
    let value = c.in_ok-value.value.now in
    let key = same_read inner level c.pairs.rest.now value k.item c.inside-inner.ensures.level k.reads in
    rw (p.1, p.2) (subst (Fails e) i.so_far (value_fails e (levels_left level) i.members c.args.count c.pairs.held
    c.pairs.rest.now value k.item (sym c.in_default.ensures) key
    (same_fails e inner level value c.inside-inner.ensures.level c.in_err-rest.ensures.refused)))

pub dump_pairs-pairs-smaller : goal.dump_pairs-pairs-smaller
dump_pairs-pairs-smaller t c =
    let k = c.in_ok-value.ensures.dumped in
    let v = c.in_ok-rest.ensures.dumped in
    let left = levels_left c.inside-inner.result.level in
    omega (
      arith,
      item_shorter left c.pairs.rest.now k.item c.in_ok-value.value.now k.reads,
      item_shorter left c.in_ok-value.value.now v.item c.in_ok-rest.rest.now v.reads,
    )

pub dump_pairs-pairs-preserved : goal.dump_pairs-pairs-preserved
dump_pairs-pairs-preserved t c =
    let i = c.pairs.invariant in
    let k = c.in_ok-value.ensures.dumped in
    let v = c.in_ok-rest.ensures.dumped in
    let inner = c.inside-inner.result in
    let level = c.args.context.now.level + 1 in
    let left = levels_left level in
    let rest = c.pairs.rest.now in
    let value = c.in_ok-value.value.now in
    let after = c.in_ok-rest.rest.now in
    let key = same_read inner.level level rest value k.item c.inside-inner.ensures.level k.reads in
    let read = same_read inner.level level value after v.item c.inside-inner.ensures.level v.reads in
    let low = level_read inner.level rest value k.item k.reads in
    let none = ap (λ (p : Context). p.tag) c.inside-inner.ensures.context in
    let first = item_shorter left rest k.item value key in
    let second = item_shorter left value v.item after read in
    record {
      members = joined_pairs i.members (pair k.item v.item no_pairs);
      so_far = sym (pair_read left i.members c.args.count c.pairs.held rest value after k.item v.item
          (sym c.in_default.ensures) key read) ∙ i.so_far;
      count = omega (arith, pair_count_more i.members k.item v.item, i.count);
      announced = more_announced c.args.count c.pairs.held rest (sym c.in_default.ensures) i.announced;
      wrote = pair_done inner none low c.args.walk.now c.pairs.walk c.dump_front.new.walk c.dump_front-in-pairs.new.walk
          i.members k.item v.item i.wrote i.shared k.wrote k.shared v.wrote v.shared;
      shared = pair_shares inner none low c.args.walk.now c.pairs.walk c.dump_front.new.walk
          c.dump_front-in-pairs.new.walk i.members k.item v.item i.wrote i.shared k.wrote k.shared v.wrote v.shared;
      room = omega (arith, i.room, first, second);
    }

-- ---- a tag

pub dump_tagged-returns-in_err-rest-clause-refused : goal.dump_tagged-returns-in_err-rest-clause-refused
dump_tagged-returns-in_err-rest-clause-refused t c = λ w.
    let p = err_from_is_err_and c.from_residual-in_err-rest.result c.from_residual-in_err-rest.ensures.1 in
    let e = c.in_err-rest.field-0.0 in
    let level = c.args.context.now.level + 1 in
    rw (p.1, p.2) (part_fails e (levels_left level) (tag_of c.args.tag.0 w) c.args.bytes.now refl
    (same_fails e c.below-inner.result.level level c.args.bytes.now c.below-inner.ensures.level
    c.in_err-rest.ensures.refused))

pub dump_tagged-dump_notes-requires : goal.dump_tagged-dump_notes-requires
dump_tagged-dump_notes-requires t c =
    let d = c.in_ok-rest.ensures.dumped in
    let inner = c.below-inner.ensures in
    let low = level_read c.below-inner.result.level c.args.bytes.now c.in_ok-rest.rest.now d.item d.reads in (
      omega (arith, c.decreases, inner.level, low),
      (
        (omega (arith, inner.depth, inner.level, c.requires.context.0), omega (arith, low)),
        low,
      ),
    )

pub dump_tagged-returns-clause-dumped : goal.dump_tagged-returns-clause-dumped
dump_tagged-returns-clause-dumped t c = λ w.
    let d = c.in_ok-rest.ensures.dumped in
    let inner = c.below-inner.ensures in
    let rest = c.in_ok-rest.rest.now in
    let low = level_read c.below-inner.result.level c.args.bytes.now rest d.item d.reads in
    tag_dumped c.args.context.now c.below-inner.result c.args.tag.0 w c.args.bytes.now rest d.item c.args.walk.now
    c.dump_front.new.walk c.dump_notes.new.walk c.in_ok-walk.field-0 c.in_ok-walk.ensures inner.level inner.context low
    d.reads d.wrote (c.in_ok-dump_notes.ensures.wrote d.item rest d.reads)
    (c.in_ok-dump_notes.ensures.shared ∙ d.shared)

-- ---- notes

pub dump_notes-returns-in-Some-clause-wrote : goal.dump_notes-returns-in-Some-clause-wrote
dump_notes-returns-in-Some-clause-wrote t c = λ i rest e.
    let is : c.args.tag.0 ≡ 24 = search rules in
    let bytes = sym (c.in_ok-content-in-ENCODED_CBOR.ensures c.args.context.now.level i rest
    (omega (arith, c.requires.level)) e) ∙ ap option_copied c.in-Some.is in
    subst (λ ls. OnOk c.embedded_item.result (Wrote c.args.walk.now.writer c.embedded_item.new.walk.writer ls))
    (item_note c.args.context.now c.args.tag.0 i c.in-Some.content.now is bytes) c.embedded_item.ensures.wrote

pub dump_notes-returns-in-None-clause-wrote : goal.dump_notes-returns-in-None-clause-wrote
dump_notes-returns-in-None-clause-wrote t c = λ i rest e.
    let is : c.args.tag.0 ≡ 24 = search rules in
    let none = sym (c.in_ok-content-in-ENCODED_CBOR.ensures c.args.context.now.level i rest
    (omega (arith, c.requires.level)) e) ∙ ap option_copied c.in-None.is in
    subst (λ ls. OnOk c.note_line.result (Wrote c.args.walk.now.writer c.note_line.new.self ls))
    (no_item_note c.args.context.now c.args.tag.0 i is none) c.note_line.ensures

pub dump_notes-returns-in-Some-2-clause-wrote : goal.dump_notes-returns-in-Some-2-clause-wrote
dump_notes-returns-in-Some-2-clause-wrote t c = λ i rest e.
    let is : c.args.tag.0 ≡ 63 = search rules in
    let bytes = sym (c.in_ok-content-in-ENCODED_CBOR_SEQ.ensures c.args.context.now.level i rest
    (omega (arith, c.requires.level)) e) ∙ ap option_copied c.in-Some-2.is in
    subst (λ ls. OnOk c.embedded_sequence.result (Wrote c.args.walk.now.writer c.embedded_sequence.new.walk.writer ls))
    (sequence_note c.args.context.now c.args.tag.0 i c.in-Some-2.content.now is bytes) c.embedded_sequence.ensures.wrote

pub dump_notes-returns-in-None-2-clause-wrote : goal.dump_notes-returns-in-None-2-clause-wrote
dump_notes-returns-in-None-2-clause-wrote t c = λ i rest e.
    let is : c.args.tag.0 ≡ 63 = search rules in
    let none = sym (c.in_ok-content-in-ENCODED_CBOR_SEQ.ensures c.args.context.now.level i rest
    (omega (arith, c.requires.level)) e) ∙ ap option_copied c.in-None-2.is in
    subst (λ ls. OnOk c.note_line-in-None-2.result (Wrote c.args.walk.now.writer c.note_line-in-None-2.new.self ls))
    (no_sequence_note c.args.context.now c.args.tag.0 i is none) c.note_line-in-None-2.ensures

-- ---- what is embedded

pub embedded_item-returns-then-is_empty-clause-wrote : goal.embedded_item-returns-then-is_empty-clause-wrote
embedded_item-returns-then-is_empty-clause-wrote t c =
    let context = c.args.context.now in
    let m = c.in-Ok.ensures.width in
    let rest = c.in-Ok.rest.now in
    let none = nil_from_length rest (eqb-true (length rest) 0 (sym c.is_empty.ensures ∙ c.if-is_empty.true)) in
    let read = m.1 ∙ ap (λ (r : List ℕ). Ok (m.0, r)) none in
    let whole = ap (note_lines context.depth)
    (sym (whole_dumped (embedded_lines context) (read_at (context.level + 1) c.args.bytes.now) m.0 read)) in
    let wide : c.in-Ok.width ≡ width_of (embedded_lines context m.0) = omega (arith, m.2) in
    subst (λ ls. OnOk c.embedded_note.result (Wrote c.args.walk.now.writer c.embedded_note.new.walk.writer ls)) whole
    (c.embedded_note.ensures.wrote m.0 rest m.1 wide)

pub embedded_item-returns-in_default : goal.embedded_item-returns-in_default
embedded_item-returns-in_default t c =
    let context = c.args.context.now in
    let read = read_at (context.level + 1) c.args.bytes.now in
    let e = c.in-Err.error in
    let failed = whole_failed (embedded_lines context) read e
    (real_error e read c.in_default.not-Memory c.in-Err.ensures.refused) in
    record {
      wrote = subst (λ n. OnOk c.failed_note-in_default.result (Wrote c.args.walk.now.writer
          c.failed_note-in_default.new.self (note_lines context.depth n))) (sym failed)
          c.failed_note-in_default.ensures;
      shared = on_ok_weaker c.failed_note-in_default.result (λ _. refl) c.failed_note-in_default.ensures;
    }

pub embedded_sequence-items-smaller : goal.embedded_sequence-items-smaller
embedded_sequence-items-smaller t c =
    let m = c.in-Ok.ensures.width in
    item_shorter (levels_left (c.args.context.now.level + 1)) c.items.rest.now m.0 c.in-Ok.after.now m.1

pub embedded_sequence-items-preserved : goal.embedded_sequence-items-preserved
embedded_sequence-items-preserved t c =
    let context = c.args.context.now in
    let level = context.level + 1 in
    let m = c.in-Ok.ensures.width in
    let i = c.items.invariant in
    let rest = c.items.rest.now in
    let after = c.in-Ok.after.now in
    let le : level ≤ 129 = omega (arith, c.requires.level) in
    let wide : c.in-Ok.width ≡ width_of (embedded_lines context m.0) = omega (arith, m.2) in
    let wrote = c.in_ok-embedded_note-in-Ok.ensures.wrote m.0 after m.1 wide in
    record {
      left = (sequence_more level context.depth le c.args.walk.now.writer c.items.walk.writer rest _ i.left m.0 after
          c.embedded_note.new.walk.writer m.1 wrote).0;
      shared = c.in_ok-embedded_note-in-Ok.ensures.shared ∙ i.shared;
    }

pub embedded_sequence-returns-in_default : goal.embedded_sequence-returns-in_default
embedded_sequence-returns-in_default t c =
    let context = c.args.context.now in
    let level = context.level + 1 in
    let i = c.items.invariant in
    let rest = c.items.rest.now in
    let e = c.in-Err.error in
    let read = real_error e (read_at level rest) c.in_default.not-Memory c.in-Err.ensures.refused in
    record {
      wrote = on_ok_weaker c.failed_note.result
          (sequence_failed level context.depth (omega (arith, c.requires.level)) c.args.walk.now.writer
          c.items.walk.writer rest _ i.left e c.failed_note.new.self (some_left (length rest)
          c.items-test.ensures) read)
          c.failed_note.ensures;
      shared = on_ok_weaker c.failed_note.result (λ _. i.shared) c.failed_note.ensures;
    }

pub embedded_sequence-returns-clause-wrote : goal.embedded_sequence-returns-clause-wrote
embedded_sequence-returns-clause-wrote t c =
    let context = c.args.context.now in
    let i = c.items.invariant in
    let rest = c.items.rest.now in
    sequence_empty (context.level + 1) context.depth (omega (arith, c.requires.level)) c.args.walk.now.writer
    c.items.walk.writer rest _ i.left (nil_from_length rest (none_left (length rest) c.items-test.ensures))

pub embedded_note-returns-clause-wrote : goal.embedded_note-returns-clause-wrote
embedded_note-returns-clause-wrote t c = λ i rest e wide.
    let context = c.args.context.now in
    let level = context.level + 1 in
    let bytes = c.args.bytes.now in
    let top = c.top-top.ensures in
    let d = c.in-Ok.ensures.dumped in
    let after = c.in-Ok.field-0.now in
    let read = same_read c.top-top.result.level level bytes after d.item top.level d.reads in
    let both = ok_is (i, rest) (d.item, after) (sym e ∙ read) in
    let same : i ≡ d.item = ap (λ (x : Item × List ℕ). x.0) both in
    let inner = c.in_ok-writer.ensures in
    let width = inner.width ∙ wide ∙ ap (λ j. width_of (embedded_lines context j)) same in
    let written : Writer = record {
      out = c.dump_front.new.walk.writer.out;
      width = c.embedded.new.self.width;
      prefix = c.embedded.new.self.prefix;
    } in
    subst (λ j. Wrote c.args.walk.now.writer written
    (note_lines context.depth (embedded_note (embedded_lines context j)))) (sym same)
    (embedded_dump c.top-top.result level context.depth d.item c.note_line.new.self c.in_ok-writer.writer
    c.dump_front.new.walk.writer c.args.walk.now.writer written 0 top.level top.context
    (level_read level bytes after d.item read) refl inner.out inner.prefix width d.wrote c.in_ok-note_line.ensures refl
    inner.same_width inner.same_prefix)
