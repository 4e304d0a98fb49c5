-- The walk appends a text of the item, and no object in it has a name twice.
use Rattle.std.proofs.Common.{◌≡◌, ◌+◌, ◌++◌, [], ◌∷◌, ℕ, List, length, Bor, Result, Ok, Some, true, refl, ap, sym}
use Rattle.std.proofs.Common.{subst, ◌∙◌, arith, append_assoc, append-nil}
use Rattle.std.specs.String.{string_bytes}
use Rattle.cbor_grammar.specs.declared.error.Error.{Error}
use Rattle.cbor_grammar.specs.declared.head.ItemHead.TheVariants as head
use Rattle.cbor_grammar.specs.declared.argument.Argument.TheVariants.{Number}
use Rattle.cbor_grammar.specs.Item as spec
use Rattle.cbor_notation_writer.proofs.straight.Fronts.{leaf_written}
use Rattle.cbor_grammar.specs.Item.{atom, array, no_items, item, no_pairs, pair}
use Rattle.cbor_grammar.specs.Reading.{items_in, pairs_in, joined, joined_pairs}
use Rattle.cbor_grammar.specs.WellFormed.{levels_left}
use Rattle.cbor_grammar.specs.mirror.AtLevel.{read_at}
use Rattle.cbor_grammar.specs.mirror.Lengths.{left_of}
use Rattle.cbor_grammar.proofs.bytes.Shorter.{item_shorter}
use Rattle.cbor_bytes.proofs.reading.Levels.{same_read}
use Rattle.cbor_bytes.proofs.reading.Readings.{parts_read, parts_ended, none_held, member_read, pair_read}
use Rattle.cbor_notation_writer.specs.declared.parts.Container.TheVariants.{Array}
use Rattle.cbor_notation_writer.specs.Dialect.{TextsOf, anywhere}
use Rattle.cbor_notation_writer.proofs.straight.Located.{written_plain}
use Rattle.cbor_notation_writer.proofs.straight.Texts.{no_items_written, one_item_written, reached_none, reached_more}
use Rattle.cbor_notation_writer.proofs.straight.Texts.{width_left}
use Rattle.cbor_json.specs.JsonLeaves.{json_leaves, is_value}
use Rattle.cbor_json.specs.Roles.{next_role, value_role}
use Rattle.cbor_json.specs.declared.print.place.JsonPlace.{JsonPlace}
use Rattle.cbor_json.specs.mirror.Walking.{UniqueTexts, UniqueAs, name_between}
use Rattle.cbor_json.proofs.json.Braces.{key_in}
use Rattle.cbor_json.proofs.walking.Named.{no_pairs_named, one_pair_named}
use Rattle.cbor_json.proofs.walking.Ordered.{are_after}
use Rattle.cbor_json.proofs.walking.Unique.{unique_front, quiet_front, quiet_of, tag_here, array_here, object_here}
use Rattle.cbor_json.proofs.walking.Unique.{inside_array, is_quiet, digits_here, same_content, shown_here, bytes_here}
use Rattle.cbor_json.proofs.walking.Unique.{written_after}
use Rattle.cbor_json.proofs.walk.+walk.Goals as goal

-- ---- an item

pub push_item-returns-in-Array-clause-written : goal.push_item-returns-in-Array-clause-written
push_item-returns-in-Array-clause-written t c =
    unique_front c.args.place.now c.args.bytes.now c.in_ok-head.inner.now (head.Array c.in-Array.count)
    c.args.place.now.level refl c.requires.level (omega (arith, c.if-place-gt-DEEPEST.false)) c.requires.value
    (λ i. omega (arith, c.type_inv.bytes i)) (rw c.in-Array.is at c.in_ok-head.ensures.gives) c.push_array.result
    (λ rest. rest.now) _ _ c.push_array.ensures.written

pub push_item-returns-in-Map-clause-written : goal.push_item-returns-in-Map-clause-written
push_item-returns-in-Map-clause-written t c =
    unique_front c.args.place.now c.args.bytes.now c.in_ok-head.inner.now (head.Map c.in-Map.count)
    c.args.place.now.level refl c.requires.level (omega (arith, c.if-place-gt-DEEPEST.false)) c.requires.value
    (λ i. omega (arith, c.type_inv.bytes i)) (rw c.in-Map.is at c.in_ok-head.ensures.gives) c.push_object.result
    (λ rest. rest.now) _ _ c.push_object.ensures.written

pub push_item-returns-in-Tag-clause-written : goal.push_item-returns-in-Tag-clause-written
push_item-returns-in-Tag-clause-written t c =
    unique_front c.args.place.now c.args.bytes.now c.in_ok-head.inner.now (head.Tag c.in-Tag.tag c.in-Tag.field-1)
    c.args.place.now.level refl c.requires.level (omega (arith, c.if-place-gt-DEEPEST.false)) c.requires.value
    (λ i. omega (arith, c.type_inv.bytes i)) (rw c.in-Tag.is at c.in_ok-head.ensures.gives) c.push_item.result
    (λ rest. rest.now) _ _
    (tag_here c.args.place.now c.below.result c.in-Tag.tag c.in-Tag.field-1 c.in_ok-head.inner.now c.push_item.result
    (λ rest. rest.now) _ _ c.requires.value c.below.ensures c.push_item.ensures.written)

pub push_item-returns-in-Some-clause-written : goal.push_item-returns-in-Some-clause-written
push_item-returns-in-Some-clause-written t c =
    let s = c.in-Some.string in
    unique_front c.args.place.now c.args.bytes.now c.in_ok-head.inner.now (head.String s.0 (Number s.1 s.2))
    c.args.place.now.level refl c.requires.level (omega (arith, c.if-place-gt-DEEPEST.false)) c.requires.value
    (λ i. omega (arith, c.type_inv.bytes i)) (rw c.in-Some.ensures.some at c.in_ok-head.ensures.gives)
    c.push_string.result (λ rest. rest.now) _ _ c.push_string.ensures.written

pub push_item-returns-in-Ok-clause-written : goal.push_item-returns-in-Ok-clause-written
push_item-returns-in-Ok-clause-written t c =
    let h = c.in_ok-head.head in
    let gave : Result (Bor (List ℕ)) Error = Ok c.in-Ok.rest in
    let quiet : is_quiet h ≡ true = quiet_of h c.in_default-head.not-Array c.in_default-head.not-Map
    c.in_default-head.not-Tag c.in_default.ensures.none in
    quiet_front c.args.place.now c.args.bytes.now c.in_ok-head.inner.now h
    c.args.place.now.level refl c.requires.level (omega (arith, c.if-place-gt-DEEPEST.false)) c.requires.value
    (λ i. omega (arith, c.type_inv.bytes i)) c.in_ok-head.ensures.gives gave (λ rest. rest.now) _ _ quiet
    (written_plain json_leaves (anywhere json_leaves) (λ p left q at. at) gave (λ rest. rest.now) c.args.place.now
    c.args.bytes.now (read_at c.args.place.now.level c.args.bytes.now) _ _ c.in-Ok.ensures.printed)

pub push_item-returns-in_ok-leaf-in-Integer-clause-written :
    goal.push_item-returns-in_ok-leaf-in-Integer-clause-written
push_item-returns-in_ok-leaf-in-Integer-clause-written t c =
    let gave : Result (Bor (List ℕ)) Error = Ok c.in_ok-head.inner in
    let n = c.in-Integer in
    quiet_front c.args.place.now c.args.bytes.now c.in_ok-head.inner.now (head.Integer n.value n.width)
    c.args.place.now.level refl c.requires.level (omega (arith, c.if-place-gt-DEEPEST.false)) c.requires.value
    (λ i. omega (arith, c.type_inv.bytes i)) (rw n.is at c.in_ok-head.ensures.gives) gave (λ rest. rest.now) _ _ refl
    (leaf_written json_leaves c.args.place.now c.args.bytes.now refl (omega (arith, c.if-place-gt-DEEPEST.false)) refl
    refl refl (rw n.is at c.in_ok-head.ensures.gives) (atom (spec.integer n.value n.width)) _ _ refl
    c.in_ok-leaf-in-Integer.ensures)

pub push_item-returns-in_ok-leaf-in-Negative-clause-written :
    goal.push_item-returns-in_ok-leaf-in-Negative-clause-written
push_item-returns-in_ok-leaf-in-Negative-clause-written t c =
    let gave : Result (Bor (List ℕ)) Error = Ok c.in_ok-head.inner in
    let n = c.in-Negative in
    quiet_front c.args.place.now c.args.bytes.now c.in_ok-head.inner.now (head.Negative n.value n.width)
    c.args.place.now.level refl c.requires.level (omega (arith, c.if-place-gt-DEEPEST.false)) c.requires.value
    (λ i. omega (arith, c.type_inv.bytes i)) (rw n.is at c.in_ok-head.ensures.gives) gave (λ rest. rest.now) _ _ refl
    (leaf_written json_leaves c.args.place.now c.args.bytes.now refl (omega (arith, c.if-place-gt-DEEPEST.false)) refl
    refl refl (rw n.is at c.in_ok-head.ensures.gives) (atom (spec.negative n.value n.width)) _ _ refl
    c.in_ok-leaf-in-Negative.ensures)

-- ---- a string

pub push_string-returns-in_ok-string-in-Text-clause-written :
    goal.push_string-returns-in_ok-string-in-Text-clause-written
push_string-returns-in_ok-string-in-Text-clause-written t c =
    let s = c.args.string.0 in
    digits_here c.args.place.now s.1 s.2 c.in_ok-content.content c.args.string.1.now c.in_ok-content.rest.now _ _ s.0
    c.in_ok-content.ensures.kind (c.in_ok-content.ensures.gives s.2)
    (λ x e. let wrong = sym c.in-Text.is ∙ e in absurd cc) c.in_ok-string-in-Text.ensures

pub push_string-returns-in_ok-string-in-Bytes-content_at-clause-written :
    goal.push_string-returns-in_ok-string-in-Bytes-content_at-clause-written
push_string-returns-in_ok-string-in-Bytes-content_at-clause-written t c =
    let s = c.args.string.0 in
    digits_here c.args.place.now s.1 s.2 c.in_ok-content.content c.args.string.1.now c.in_ok-content.rest.now _ _ s.0
    c.in_ok-content.ensures.kind (c.in_ok-content.ensures.gives s.2)
    (λ x e. same_content c.args.place.now c.in-Bytes.inner x (sym c.in-Bytes.is ∙ e)
    (sym c.content_at.ensures ∙ c.in-Bytes-content_at.is)) c.in_ok-string-in-Bytes-content_at.ensures

pub push_string-returns-in_ok-string-in-Err-clause-written : goal.push_string-returns-in_ok-string-in-Err-clause-written
push_string-returns-in_ok-string-in-Err-clause-written t c =
    let s = c.args.string.0 in
    bytes_here c.args.place.now s.1 s.2 c.in_ok-content.content c.in-Bytes.inner c.args.string.1.now
    c.in_ok-content.rest.now _ _ s.0 c.in-Bytes.is c.in_ok-content.ensures.kind (c.in_ok-content.ensures.gives s.2)
    (sym c.content_at.ensures ∙ c.in-Item.is) (c.is_item.ensures c.if-is_item.false) c.in_ok-string-in-Err.ensures

pub push_string-returns-in_ok-push_str-in-Ok-clause-written :
    goal.push_string-returns-in_ok-push_str-in-Ok-clause-written
push_string-returns-in_ok-push_str-in-Ok-clause-written t c =
    let s = c.args.string.0 in
    let old = string_bytes c.args.out.now in
    let added = c.in_ok-push_str-in-Ok.ensures.bytes ∙ ap (λ x. old ++ x) c.as_str.ensures.value in
    shown_here c.args.place.now s.1 s.2 c.in_ok-content.content c.in-Bytes.inner c.args.string.1.now
    c.in_ok-content.rest.now _ _ s.0 c.in-Bytes.is c.in_ok-content.ensures.kind (c.in_ok-content.ensures.gives s.2)
    c.requires.value c.requires.flat (sym c.content_at.ensures ∙ c.in-Item.is)
    (written_after _ _ _ _ _ (string_bytes c.in-Ok.text) c.in-Ok.ensures added)

-- ---- an array

pub push_array-items-init : goal.push_array-items-init
push_array-items-init t c =
    let place = c.args.place.now in
    let count = c.args.array.0 in
    let left = levels_left (place.level + 1) in
    let role_is = ap (λ (q : JsonPlace). q.role) c.inside-inner.ensures ∙ inside_array place.role count c.requires.value
    in record {
      found = no_items;
      so_far = ap (λ a. parts_read left (items_in no_items a) c.args.array.1.now) (none_held count);
      written = no_items_written json_leaves (UniqueTexts left) place _ c.inside-inner.result (Array count) _ _ _
          c.inside-inner.ensures c.in_ok-opening.ensures;
      reached = reached_none count;
      level = ap (λ (q : JsonPlace). q.level) c.inside-inner.ensures;
      layout = ap (λ (q : JsonPlace). q.layout) c.inside-inner.ensures;
      value = ap (λ s. is_value s) role_is;
      role = role_is;
      kept = refl;
      room = omega arith;
    }

pub push_array-returns-in-Some-clause-written : goal.push_array-returns-in-Some-clause-written
push_array-returns-in-Some-clause-written t c =
    let place = c.args.place.now in
    let count = c.args.array.0 in
    let left = levels_left (place.level + 1) in
    let i = c.items.invariant in
    let held = c.items.held in
    let rest = c.items.rest.now in
    let after = c.in-Some.after.now in
    let read = sym i.so_far ∙ parts_ended left (items_in i.found (left_of count held)) rest after _
    (ap (λ x. Some (array i.found x)) (width_left count held)) (sym c.in-Some.ensures) in
    array_here place c.items.inner count i.found held c.args.array.1.now _ _ _ rest after c.requires.flat i.written
    i.reached c.in-Some.ensures c.in_ok-closing.ensures read

pub push_array-items-smaller : goal.push_array-items-smaller
push_array-items-smaller t c =
    let p = c.in_ok-rest.ensures.written in
    item_shorter (levels_left c.items.inner.level) c.items.rest.now p.0 c.in_ok-rest.rest.now p.1

pub push_array-items-preserved : goal.push_array-items-preserved
push_array-items-preserved t c =
    let place = c.args.place.now in
    let count = c.args.array.0 in
    let level = place.level + 1 in
    let left = levels_left level in
    let i = c.items.invariant in
    let p = c.in_ok-rest.ensures.written in
    let held = c.items.held in
    let inner = c.items.inner in
    let rest = c.items.rest.now in
    let after = c.in_ok-rest.rest.now in
    let read = same_read inner.level level rest after p.0 i.level p.1 in
    let shorter = item_shorter left rest p.0 after read in
    let text = subst (λ n. UniqueTexts (levels_left n) inner p.0 p.2) i.level p.3 in
    let role_is = ap (λ (q : JsonPlace). q.role) c.pass.ensures.place ∙ ap next_role i.role in
    record {
      found = joined i.found (item p.0 no_items);
      so_far = sym (member_read left i.found count held rest after p.0 (sym c.in_default.ensures) read) ∙ i.so_far;
      written = one_item_written json_leaves (UniqueTexts left) place _ inner c.pass.new.place (Array count) _ _ _ _ _ _
          i.found p.0 held p.2 i.written c.in_ok-start.ensures text p.4 (sym (append-nil _)) c.pass.ensures.place;
      reached = reached_more count held rest c.in_default.ensures;
      level = c.pass.ensures.level ∙ i.level;
      layout = c.pass.ensures.layout ∙ i.layout;
      value = ap (λ s. is_value s) role_is;
      role = role_is;
      kept = c.in_ok-rest.ensures.names ∙ i.kept;
      room = omega (arith, i.room, shorter);
    }

-- ---- an object

pub push_object-pairs-init : goal.push_object-pairs-init
push_object-pairs-init t c =
    let place = c.args.place.now in
    let count = c.args.map.0 in
    let left = levels_left (place.level + 1) in
    record {
      found = no_pairs;
      so_far = ap (λ a. parts_read left (pairs_in no_pairs a) c.args.map.1.now) (none_held count);
      ns = [];
      own = [];
      written = no_pairs_named (UniqueTexts left) place _ c.inside-inner.result count _ _ c.inside-inner.ensures
          c.in_ok-opening.ensures;
      here = tt;
      kept = sym (append-nil _);
      reached = reached_none count;
      level = ap (λ (q : JsonPlace). q.level) c.inside-inner.ensures;
      layout = ap (λ (q : JsonPlace). q.layout) c.inside-inner.ensures;
      key = ap (λ (q : JsonPlace). q.role) c.inside-inner.ensures ∙ key_in place.role count c.requires.value;
      room = omega arith;
    }

pub push_object-pairs-smaller : goal.push_object-pairs-smaller
push_object-pairs-smaller t c =
    let k = c.in_ok-value.ensures.written in
    let v = c.in-Ok.ensures.written in
    let mid = c.in_ok-value.value.now in
    omega (
      arith,
      item_shorter (levels_left c.pairs.inner.level) c.pairs.rest.now k.0 mid k.1,
      item_shorter (levels_left c.pass_key.new.place.level) mid v.0 c.in-Ok.next.now v.1,
    )

pub push_object-returns-in-Some-clause-written : goal.push_object-returns-in-Some-clause-written
push_object-returns-in-Some-clause-written t c =
    let place = c.args.place.now in
    let count = c.args.map.0 in
    let left = levels_left (place.level + 1) in
    let i = c.pairs.invariant in
    let held = c.pairs.held in
    let rest = c.pairs.rest.now in
    let after = c.in-Some.after.now in
    let read = sym i.so_far ∙ parts_ended left (pairs_in i.found (left_of count held)) rest after _
    (ap (λ x. Some (spec.map i.found x)) (width_left count held)) (sym c.in-Some.ensures) in
    let first = sym c.args.names.now.ok.0 ∙ sym c.len-first.ensures in
    let apart = c.in_ok-close_object.ensures.distinct _ i.own i.ns i.kept first i.here in
    object_here place c.pairs.inner count i.found held i.ns c.args.map.1.now _ _ _ rest after c.requires.flat i.written
    apart i.reached c.in-Some.ensures c.in_ok-closing.ensures read

pub push_object-pairs-preserved : goal.push_object-pairs-preserved
push_object-pairs-preserved t c =
    let place = c.args.place.now in
    let count = c.args.map.0 in
    let level = place.level + 1 in
    let left = levels_left level in
    let i = c.pairs.invariant in
    let k = c.in_ok-value.ensures.written in
    let v = c.in-Ok.ensures.written in
    let held = c.pairs.held in
    let now = c.pairs.inner in
    let there = c.pass_key.new.place in
    let rest = c.pairs.rest.now in
    let mid = c.in_ok-value.value.now in
    let after = c.in-Ok.next.now in
    let deep = c.pass_key.ensures.level ∙ i.level in
    let key = same_read now.level level rest mid k.0 i.level k.1 in
    let value = same_read there.level level mid after v.0 deep v.1 in
    let first = item_shorter left rest k.0 mid key in
    let second = item_shorter left mid v.0 after value in
    let passed = c.pass_key.ensures.place (levels_left now.level) k.0 k.1 in
    let named : UniqueTexts left now k.0 k.2 = (
      subst (λ n. TextsOf json_leaves (levels_left n) now k.0 k.2) i.level k.3,
      subst (λ s. UniqueAs s k.2) (sym i.key) tt,
    ) in
    let text = subst (λ n. UniqueTexts (levels_left n) there v.0 v.2) deep v.3 in
    let own = name_between (string_bytes c.start.new.out) (string_bytes c.push_name.new.out) (length rest) in
    record {
      found = joined_pairs i.found (pair k.0 v.0 no_pairs);
      so_far = sym (pair_read left i.found count held rest mid after k.0 v.0 (sym c.in_default.ensures) key value)
          ∙ i.so_far;
      ns = i.ns ++ k.2 ∷ [];
      own = i.own ++ own ∷ [];
      written = one_pair_named (UniqueTexts left) place _ now there c.pass.new.place count _ _ _ _ _ _ i.found k.0 v.0
          held i.ns k.2 v.2 i.written c.in_ok-start.ensures named k.4 c.in_ok-colon.ensures text v.4 passed
          c.pass.ensures.place;
      here = are_after _ _ k.2 _ v.2 _ _ _ _ _ i.own i.ns i.here c.in_ok-start.ensures k.4 c.in_ok-colon.ensures v.4;
      kept = c.in-Ok.ensures.names ∙ c.in_ok-value.ensures.names ∙ ap (λ x. x ++ own ∷ []) i.kept
          ∙ append_assoc c.args.names.now.items i.own (own ∷ []);
      reached = reached_more count held rest c.in_default.ensures;
      level = c.pass.ensures.level ∙ deep;
      layout = c.pass.ensures.layout ∙ (c.pass_key.ensures.layout ∙ i.layout);
      key = ap (λ (q : JsonPlace). q.role) c.pass.ensures.place
          ∙ ap next_role (ap (λ (q : JsonPlace). q.role) passed) ∙ ap (λ s. next_role (value_role s)) i.key;
      room = omega (arith, i.room, first, second);
    }
