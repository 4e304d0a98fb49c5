-- A container is written after its members.
use Rattle.std.proofs.Common.{ℕ, ◌+◌, ◌^◌, ◌<◌, List, [], ◌∷◌, length, refl, sym, ap, subst, arith, rules}
use Rattle.std.proofs.Common.{None, Some}
use Rattle.std.proofs.lemmas.List.{length-append}
use Rattle.std.proofs.lemmas.List.Sorted.{length_permutation}
use Rattle.cbor_grammar.specs.declared.head.ItemHead.TheVariants as item_head
use Rattle.cbor_grammar.proofs.bytes.Heads.{head_takes}
use Rattle.cbor_reencode.specs.declared.pairs.Pair.{Pair}
use Rattle.cbor_reencode.specs.mirror.Rewritten.{Rewritten}
use Rattle.cbor_reencode.proofs.Around.{no_parts, head_read, array_at, array_fits, array_written, counted, map_at}
use Rattle.cbor_reencode.proofs.Around.{map_fits}
use Rattle.cbor_reencode.proofs.Around.{map_written, tag_written}
use Rattle.cbor_reencode.proofs.Containers.{atom_done, items_start, items_step, pairs_start, pairs_step}
use Rattle.cbor_reencode.proofs.encoder.Encoder.+item.Goals as goal

-- ---- arrays

pub push_array-push_members-requires : goal.push_array-push_members-requires
push_array-push_members-requires t c =
    let at = array_at c.args.level c.args.count c.args.bytes.now c.args.members.now c.requires.level
    (λ i. omega (arith, c.type_inv.bytes i)) c.requires.read in
    array_fits c.args.self.rules at c.members.number c.members.rest.now c.in-Some.after.now c.members.written.items
    c.members.invariant.more c.in-Some.ensures

pub push_array-returns-in-Some-clause-writes : goal.push_array-returns-in-Some-clause-writes
push_array-returns-in-Some-clause-writes t c =
    let at = array_at c.args.level c.args.count c.args.bytes.now c.args.members.now c.requires.level
    (λ i. omega (arith, c.type_inv.bytes i)) c.requires.read in
    let i = c.members.invariant in
    array_written c.args.self.rules at c.members.number c.members.rest.now c.in-Some.after.now c.members.written.items
    c.deref.result.now c.args.out.now.items _ c.push_members.new.out.items (omega arith) i.more c.in-Some.ensures
    c.deref.ensures.value i.untouched c.in_ok-push_members.ensures

pub push_array-members-preserved : goal.push_array-members-preserved
push_array-members-preserved t c =
    let i = c.members.invariant in
    record {
      few = omega (arith, c.in_ok-rest.ensures.shorter);
      untouched = i.untouched;
      more = items_step c.args.self.rules (c.args.level + 1) c.args.count c.members.number c.args.members.now
          c.members.rest.now c.in_ok-rest.rest.now c.members.written.items c.push_item.new.out.items i.more
          (sym c.in_default.ensures) c.in_ok-rest.ensures.writes;
    }

pub push_array-members-init : goal.push_array-members-init
push_array-members-init t c = record {
  few = omega arith;
  untouched = refl;
  more = items_start c.args.self.rules (c.args.level + 1) c.args.count c.args.members.now c.new-written.result.items
      c.new-written.ensures.items;
}

-- ---- one item

pub push_item-push_array-requires : goal.push_item-push_array-requires
push_item-push_array-requires t c = (
  search rules,
  (
    omega arith,
    head_read c.args.bytes.now c.in-Ok.read.0
        (item_head.Array c.in-Array.count) c.in-Ok.read.1.now c.in-Ok.ensures.gives c.in-Array.is,
  ),
)

pub push_item-push_map-requires : goal.push_item-push_map-requires
push_item-push_map-requires t c = (
  search rules,
  (
    omega arith,
    head_read c.args.bytes.now c.in-Ok.read.0
        (item_head.Map c.in-Map.count) c.in-Ok.read.1.now c.in-Ok.ensures.gives c.in-Map.is,
  ),
)

pub push_item-push_tagged-requires : goal.push_item-push_tagged-requires
push_item-push_tagged-requires t c = (
  search rules,
  (
    omega arith,
    head_read c.args.bytes.now c.in-Ok.read.0
        (item_head.Tag c.in-Tag.tag c.in-Tag.width) c.in-Ok.read.1.now c.in-Ok.ensures.gives c.in-Tag.is,
  ),
)

pub push_item-push_atom-requires : goal.push_item-push_atom-requires
push_item-push_atom-requires t c = record {
  read = c.in-Ok.ensures.gives;
  atom = no_parts c.in-Ok.read.0 c.in_default.not-Array c.in_default.not-Map c.in_default.not-Tag;
}

pub push_item-returns-in-Ok-push_atom : goal.push_item-returns-in-Ok-push_atom
push_item-returns-in-Ok-push_atom t c =
    let e = c.in-Ok-push_atom.ensures in
    record {
      writes = atom_done c.args.self.rules c.args.level c.args.bytes.now c.in-Ok-push_atom.after.now
          c.args.out.now.items c.push_atom.new.out.items (omega arith) e.writes;
      shorter = omega (arith, e.shorter, c.in-Ok.ensures.shorter);
    }

-- ---- maps

pub push_map-pairs-init : goal.push_map-pairs-init
push_map-pairs-init t c = record {
  few = omega (arith, ap (λ (x : List Pair). length x) c.new-pairs.ensures.items);
  untouched = refl;
  more = pairs_start c.args.self.rules (c.args.level + 1) c.args.count c.args.members.now c.new-pairs.result.items
      c.new-pairs.ensures.items;
}

pub push_map-push_sorted-requires : goal.push_map-push_sorted-requires
push_map-push_sorted-requires t c =
    let at = map_at c.args.level c.args.count c.args.bytes.now c.args.members.now c.requires.level
    (λ i. omega (arith, c.type_inv.bytes i)) c.requires.read in
    let end = counted c.args.count c.len.result c.pairs.pairs.items c.pairs.rest.now (Some c.in-Some.after.now)
    (omega (arith, c.len.ensures, c.pairs.pairs.ok.0)) c.in-Some.ensures in
    map_fits c.args.self.rules at c.pairs.pairs.items c.pairs.rest.now c.in-Some.after.now c.pairs.invariant.more end

pub push_map-returns-in-Some-clause-writes : goal.push_map-returns-in-Some-clause-writes
push_map-returns-in-Some-clause-writes t c =
    let at = map_at c.args.level c.args.count c.args.bytes.now c.args.members.now c.requires.level
    (λ i. omega (arith, c.type_inv.bytes i)) c.requires.read in
    let end = counted c.args.count c.len.result c.pairs.pairs.items c.pairs.rest.now (Some c.in-Some.after.now)
    (omega (arith, c.len.ensures, c.pairs.pairs.ok.0)) c.in-Some.ensures in
    let i = c.pairs.invariant in
    let s = c.in_ok-push_sorted.ensures in
    let few : length c.push_sorted.new.pairs.items < 2 ^ 64 =
    omega (arith, length_permutation c.pairs.pairs.items c.push_sorted.new.pairs.items s.sorts) in
    map_written c.args.self.rules at c.pairs.pairs.items c.pairs.rest.now c.in-Some.after.now c.args.out.now.items _
    c.push_sorted.new.out.items c.push_sorted.new.pairs.items few i.more end s.sorts i.untouched s.writes

pub push_map-pairs-preserved : goal.push_map-pairs-preserved
push_map-pairs-preserved t c =
    let i = c.pairs.invariant in
    let rules = c.args.self.rules in
    let level = c.args.level + 1 in
    let xs = c.pairs.pairs.items in
    let middle = c.in_ok-value_bytes.value_bytes.now in
    let none = counted c.args.count c.len.result c.pairs.pairs.items c.pairs.rest.now None
    (omega (arith, c.len.ensures, c.pairs.pairs.ok.0)) c.in_default.ensures in
    let key = subst (λ (x : List ℕ). Rewritten rules level c.pairs.rest.now middle x c.push_item.new.out.items)
    c.new-key.ensures.items c.in_ok-value_bytes.ensures.writes in
    let value = subst (λ (x : List ℕ). Rewritten rules level middle c.in_ok-rest.rest.now x
    c.push_item-in-pairs.new.out.items) c.new-value.ensures.items c.in_ok-rest.ensures.writes in
    let p : Pair = record {
      place = c.place-place.result;
      key = c.push_item.new.out;
      value = c.push_item-in-pairs.new.out;
    } in
    let more = c.in_ok-push.ensures.items in
    record {
      few = omega (
        arith,
        ap (λ (x : List Pair). length x) more,
        length-append xs (p ∷ []),
        c.in_ok-value_bytes.ensures.shorter,
        c.in_ok-rest.ensures.shorter,
      );
      untouched = i.untouched;
      more = pairs_step rules level c.args.count c.args.members.now c.pairs.rest.now middle c.in_ok-rest.rest.now p xs
          c.push.new.self.items i.more none key value more;
    }

-- ---- tags

pub push_tagged-push_tagged_item-requires : goal.push_tagged-push_tagged_item-requires
push_tagged-push_tagged_item-requires t c =
    (head_takes c.args.bytes.now c.args.content.now (item_head.Tag c.args.tag c.args.width)
    (λ i. omega (arith, c.type_inv.bytes i)) c.requires.read).0.0

pub push_tagged-returns-clause-writes : goal.push_tagged-returns-clause-writes
push_tagged-returns-clause-writes t c =
    tag_written c.args.self.rules c.args.level c.args.tag c.args.width c.args.bytes.now c.args.content.now
    c.in_ok-rest.rest.now c.new-item.result.items c.push_item.new.out.items _ c.args.out.now.items
    c.push_tagged_item.new.out.items c.requires.level (λ i. omega (arith, c.type_inv.bytes i)) c.requires.read
    c.in_ok-rest.ensures.writes c.new-item.ensures.items c.deref.ensures.value c.in_ok-push_tagged_item.ensures
