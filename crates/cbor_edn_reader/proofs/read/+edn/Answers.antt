-- The functions that read EDN append the encoding of what the definition reads.
use Rattle.std.proofs.Common.{◌≡◌, ◌+◌, ◌-◌, [], ◌∷◌, ◌++◌, length, refl, sym, ap, ◌∙◌, append_assoc, append-nil}
use Rattle.std.proofs.Common.{arith}
use Rattle.cbor_grammar.specs.Item as spec
use Rattle.cbor_grammar.specs.Item.{atom, chunked_string, array, tagged, items_of, pairs_of}
use Rattle.std.proofs.lemmas.Result.{err_from_is_err_and}
use Rattle.cbor_edn_grammar.specs.declared.close.Close.TheVariants.{Brace, Parenthesis}
use Rattle.cbor_edn_grammar.specs.Lists.{after_close}
use Rattle.cbor_edn_grammar.specs.Strings.{begins_string, piece_turn}
use Rattle.cbor_edn_grammar.specs.Items.{item_turn, pair_turn, chunk_turn, read_embedded, read_item}
use Rattle.cbor_edn_grammar.proofs.Levels.{none_left, core_string, core_other}
use Rattle.cbor_edn_grammar.proofs.Turns.{turns_begin, turn_fails, turn_last, turn_more}
use Rattle.cbor_edn_reader.specs.Adds.{items_bytes, pairs_bytes, chunks_bytes}
use Rattle.cbor_edn_reader.proofs.Adds.{items_join, pairs_join, chunks_join, member_added, counted_more}
use Rattle.cbor_edn_reader.proofs.Adds.{fits_count_of, array_read, map_read, tagged_read, array_written, map_written}
use Rattle.cbor_edn_reader.proofs.Adds.{tag_written, chunks_read, chunks_written}
use Rattle.cbor_edn_reader.proofs.Members.{members_closed, members_begin}
use Rattle.cbor_edn_reader.proofs.read.+edn.Goals as goal

pub pieces::read_pieces-returns-in_err-more-clause-reads : goal.pieces::read_pieces-returns-in_err-more-clause-reads
pieces::read_pieces-returns-in_err-more-clause-reads t c =
    let p = err_from_is_err_and c.from_residual.result c.from_residual.ensures.1 in
    let i = c.pieces.invariant in
    rw (p.1, p.2) (turn_fails _ _ _ _ _ i.enough i.so_far c.in_err-more.field-0.0 c.in_err-more.ensures.gives)

pub pieces::read_pieces-returns-then-not-more-clause-reads : goal.pieces::read_pieces-returns-then-not-more-clause-reads
pieces::read_pieces-returns-then-not-more-clause-reads t c =
    let i = c.pieces.invariant in
    let turn = rw c.if-not-more.true at c.in_ok-more.ensures.gives in (
      i.front ++ turn.0,
      turn_last _ _ _ _ _ i.enough i.so_far turn.1,
      turn.2 ∙ ap (λ b. b ++ turn.0) i.written ∙ append_assoc c.args.out.now.items i.front turn.0,
    )

pub pieces::read_pieces-pieces-init : goal.pieces::read_pieces-pieces-init
pieces::read_pieces-pieces-init t c =
    let begun = turns_begin (piece_turn (read_embedded (read_item (129 - c.args.inner)))) c.args.text.now [] refl in
    record {
      front = [];
      bound = begun.0;
      enough = begun.1;
      so_far = begun.2;
      written = sym (append-nil c.args.out.now.items);
      room = omega arith;
    }

pub pieces::read_pieces-pieces-preserved : goal.pieces::read_pieces-pieces-preserved
pieces::read_pieces-pieces-preserved t c =
    let i = c.pieces.invariant in
    let turn = rw c.if-not-more.false at c.in_ok-more.ensures.gives in
    let next = turn_more _ _ _ _ _ i.enough i.so_far turn.1 c.in_ok-more.ensures.shorter in
    record {
      front = i.front ++ turn.0;
      bound = next.0;
      enough = next.1;
      so_far = next.2;
      written = turn.2 ∙ ap (λ b. b ++ turn.0) i.written ∙ append_assoc c.args.out.now.items i.front turn.0;
      room = omega (arith, c.in_ok-more.ensures.shorter, i.room);
    }

pub read_items-returns-then-take_close-clause-reads : goal.read_items-returns-then-take_close-clause-reads
read_items-returns-then-take_close-clause-reads t c = (
  [],
  members_closed (item_turn (read_item (129 - c.args.level)) c.args.close) c.args.close
      c.args.text.now c.skip_blank.new.self [] refl c.skip_blank.ensures.rest
      (rw c.if-take_close.true at c.take_close.ensures.takes),
  sym (append-nil c.args.out.now.items),
  refl,
)

pub read_items-items-init : goal.read_items-items-init
read_items-items-init t c =
    let none = rw c.if-take_close.false at c.take_close.ensures.takes in
    let begun = members_begin (item_turn (read_item (129 - c.args.level)) c.args.close) c.args.close
    c.args.text.now c.take_close.new.text [] refl
    (none.1 ∙ c.skip_blank.ensures.rest) (ap (after_close c.args.close) none.1 ∙ none.0) in
    record {
      front = [];
      bound = begun.0;
      enough = begun.1;
      so_far = begun.2;
      written = sym (append-nil c.args.out.now.items);
      counted = refl;
      room = omega (arith, c.skip_blank.ensures.within, c.take_close.ensures.within);
    }

pub read_items-returns-in_err-more-clause-reads : goal.read_items-returns-in_err-more-clause-reads
read_items-returns-in_err-more-clause-reads t c =
    let p = err_from_is_err_and c.from_residual.result c.from_residual.ensures.1 in
    let i = c.items.invariant in
    rw (p.1, p.2) (turn_fails _ _ _ _ _ i.enough i.so_far c.in_err-more.field-0.0 c.in_err-more.ensures.adds)

pub read_items-returns-then-not-more-clause-reads : goal.read_items-returns-then-not-more-clause-reads
read_items-returns-then-not-more-clause-reads t c =
    let i = c.items.invariant in
    let turn = rw c.if-not-more.true at c.in_ok-more.ensures.adds in (
      i.front ++ turn.0 ∷ [],
      turn_last _ _ _ _ _ i.enough i.so_far turn.1,
      member_added items_bytes items_join c.args.out.now.items c.items.out.items _ i.front turn.0 i.written turn.2,
      counted_more c.items.count _ i.front turn.0 i.counted c.in_ok-count.ensures.more,
    )

pub read_items-items-preserved : goal.read_items-items-preserved
read_items-items-preserved t c =
    let i = c.items.invariant in
    let turn = rw c.if-not-more.false at c.in_ok-more.ensures.adds in
    let next = turn_more _ _ _ _ _ i.enough i.so_far turn.1 c.in_ok-more.ensures.shorter in
    record {
      front = i.front ++ turn.0 ∷ [];
      bound = next.0;
      enough = next.1;
      so_far = next.2;
      written = member_added items_bytes items_join c.args.out.now.items c.items.out.items _ i.front turn.0 i.written
          turn.2;
      counted = counted_more c.items.count _ i.front turn.0 i.counted c.in_ok-count.ensures.more;
      room = omega (arith, c.in_ok-more.ensures.shorter, i.room);
    }

pub read_pairs-returns-then-take_close-clause-reads : goal.read_pairs-returns-then-take_close-clause-reads
read_pairs-returns-then-take_close-clause-reads t c = (
  [],
  members_closed (pair_turn (read_item (129 - c.args.level))) Brace
      c.args.text.now c.skip_blank.new.self [] refl c.skip_blank.ensures.rest
      (rw c.if-take_close.true at c.take_close.ensures.takes),
  sym (append-nil c.args.out.now.items),
  refl,
)

pub read_pairs-pairs-init : goal.read_pairs-pairs-init
read_pairs-pairs-init t c =
    let none = rw c.if-take_close.false at c.take_close.ensures.takes in
    let begun = members_begin (pair_turn (read_item (129 - c.args.level))) Brace
    c.args.text.now c.take_close.new.text [] refl
    (none.1 ∙ c.skip_blank.ensures.rest) (ap (after_close Brace) none.1 ∙ none.0) in
    record {
      front = [];
      bound = begun.0;
      enough = begun.1;
      so_far = begun.2;
      written = sym (append-nil c.args.out.now.items);
      counted = refl;
      room = omega (arith, c.skip_blank.ensures.within, c.take_close.ensures.within);
    }

pub read_pairs-returns-in_err-more-clause-reads : goal.read_pairs-returns-in_err-more-clause-reads
read_pairs-returns-in_err-more-clause-reads t c =
    let p = err_from_is_err_and c.from_residual.result c.from_residual.ensures.1 in
    let i = c.pairs.invariant in
    rw (p.1, p.2) (turn_fails _ _ _ _ _ i.enough i.so_far c.in_err-more.field-0.0 c.in_err-more.ensures.adds)

pub read_pairs-returns-then-not-more-clause-reads : goal.read_pairs-returns-then-not-more-clause-reads
read_pairs-returns-then-not-more-clause-reads t c =
    let i = c.pairs.invariant in
    let turn = rw c.if-not-more.true at c.in_ok-more.ensures.adds in (
      i.front ++ turn.0 ∷ [],
      turn_last _ _ _ _ _ i.enough i.so_far turn.1,
      member_added pairs_bytes pairs_join c.args.out.now.items c.pairs.out.items _ i.front turn.0 i.written turn.2,
      counted_more c.pairs.count _ i.front turn.0 i.counted c.in_ok-count.ensures.more,
    )

pub read_pairs-pairs-preserved : goal.read_pairs-pairs-preserved
read_pairs-pairs-preserved t c =
    let i = c.pairs.invariant in
    let turn = rw c.if-not-more.false at c.in_ok-more.ensures.adds in
    let next = turn_more _ _ _ _ _ i.enough i.so_far turn.1 c.in_ok-more.ensures.shorter in
    record {
      front = i.front ++ turn.0 ∷ [];
      bound = next.0;
      enough = next.1;
      so_far = next.2;
      written = member_added pairs_bytes pairs_join c.args.out.now.items c.pairs.out.items _ i.front turn.0 i.written
          turn.2;
      counted = counted_more c.pairs.count _ i.front turn.0 i.counted c.in_ok-count.ensures.more;
      room = omega (arith, c.in_ok-more.ensures.shorter, i.room);
    }

pub read_chunk_list-returns-then-take_close-clause-reads : goal.read_chunk_list-returns-then-take_close-clause-reads
read_chunk_list-returns-then-take_close-clause-reads t c = (
  [],
  members_closed (chunk_turn (read_item (129 - c.args.inner)) c.args.kind) Parenthesis
      c.args.text.now c.skip_blank.new.self [] refl c.skip_blank.ensures.rest
      (rw c.if-take_close.true at c.take_close.ensures.takes),
  sym (append-nil c.args.out.now.items),
  refl,
)

pub read_chunk_list-chunks-init : goal.read_chunk_list-chunks-init
read_chunk_list-chunks-init t c =
    let none = rw c.if-take_close.false at c.take_close.ensures.takes in
    let begun = members_begin (chunk_turn (read_item (129 - c.args.inner)) c.args.kind) Parenthesis
    c.args.text.now c.take_close.new.text [] refl
    (none.1 ∙ c.skip_blank.ensures.rest) (ap (after_close Parenthesis) none.1 ∙ none.0) in
    record {
      front = [];
      bound = begun.0;
      enough = begun.1;
      so_far = begun.2;
      written = sym (append-nil c.args.out.now.items);
      counted = refl;
      room = omega (arith, c.skip_blank.ensures.within, c.take_close.ensures.within);
    }

pub read_chunk_list-returns-in_err-more-clause-reads : goal.read_chunk_list-returns-in_err-more-clause-reads
read_chunk_list-returns-in_err-more-clause-reads t c =
    let p = err_from_is_err_and c.from_residual.result c.from_residual.ensures.1 in
    let i = c.chunks.invariant in
    rw (p.1, p.2) (turn_fails _ _ _ _ _ i.enough i.so_far c.in_err-more.field-0.0 c.in_err-more.ensures.adds)

pub read_chunk_list-returns-then-not-more-clause-reads : goal.read_chunk_list-returns-then-not-more-clause-reads
read_chunk_list-returns-then-not-more-clause-reads t c =
    let i = c.chunks.invariant in
    let turn = rw c.if-not-more.true at c.in_ok-more.ensures.adds in (
      i.front ++ turn.0 ∷ [],
      turn_last _ _ _ _ _ i.enough i.so_far turn.1,
      member_added (chunks_bytes c.args.kind)
          (chunks_join c.args.kind) c.args.out.now.items c.chunks.out.items _ i.front turn.0 i.written turn.2,
      counted_more c.chunks.count _ i.front turn.0 i.counted c.in_ok-count.ensures.more,
    )

pub read_chunk_list-chunks-preserved : goal.read_chunk_list-chunks-preserved
read_chunk_list-chunks-preserved t c =
    let i = c.chunks.invariant in
    let turn = rw c.if-not-more.false at c.in_ok-more.ensures.adds in
    let next = turn_more _ _ _ _ _ i.enough i.so_far turn.1 c.in_ok-more.ensures.shorter in
    record {
      front = i.front ++ turn.0 ∷ [];
      bound = next.0;
      enough = next.1;
      so_far = next.2;
      written = member_added (chunks_bytes c.args.kind)
          (chunks_join c.args.kind) c.args.out.now.items c.chunks.out.items _ i.front turn.0 i.written
          turn.2;
      counted = counted_more c.chunks.count _ i.front turn.0 i.counted c.in_ok-count.ensures.more;
      room = omega (arith, c.in_ok-more.ensures.shorter, i.room);
    }

pub read_item-returns-then-level-gt-DEEPEST-clause-reads : goal.read_item-returns-then-level-gt-DEEPEST-clause-reads
read_item-returns-then-level-gt-DEEPEST-clause-reads t c = none_left (129 - c.args.level) c.args.text.now (omega arith)

pub read_item-returns-then-begins_string-clause-reads : goal.read_item-returns-then-begins_string-clause-reads
read_item-returns-then-begins_string-clause-reads t c =
    rw (core_string (129 - c.args.level) (129 - (c.args.level + 1)) c.args.text.now (omega arith)
    (ap begins_string (sym c.rest.ensures) ∙ sym c.begins_string.ensures ∙ c.if-begins_string.true))
    c.read_string.ensures.reads

pub read_item-returns-else-begins_string-clause-reads : goal.read_item-returns-else-begins_string-clause-reads
read_item-returns-else-begins_string-clause-reads t c =
    rw (core_other (129 - c.args.level) (129 - (c.args.level + 1)) c.args.text.now (omega arith)
    (ap begins_string (sym c.rest.ensures) ∙ sym c.begins_string.ensures ∙ c.if-begins_string.false))
    c.other_item.ensures.reads

pub read_array-returns-clause-reads : goal.read_array-returns-clause-reads
read_array-returns-clause-reads t c =
    let m = c.in_ok-count.ensures.reads in
    let width = c.in_ok-width.width in
    let fits = c.count_fits.ensures.0 c.if-not-count_fits.false in
    let at : c.len-place.result ≡ length c.args.out.now.items =
    omega (arith, c.len-place.ensures, c.args.out.now.ok.0) in (
      array (items_of m.0) width,
      array_read (read_item (129 - c.args.inner)) c.args.text.now _ _ width m.0 c.in_ok-width.ensures.gives m.1
          (fits_count_of width (length m.0) (rw m.3 at fits)),
      array_written c.args.out.now.items _ _ _ _ c.len-place.result c.in_ok-count.count width m.0 at
          c.in_ok-push.ensures.items m.2 m.3 c.in_ok-put_open.ensures
          c.in_ok-push_close.ensures,
      refl,
    )

pub read_map-returns-clause-reads : goal.read_map-returns-clause-reads
read_map-returns-clause-reads t c =
    let m = c.in_ok-count.ensures.reads in
    let width = c.in_ok-width.width in
    let fits = c.count_fits.ensures.0 c.if-not-count_fits.false in
    let at : c.len-place.result ≡ length c.args.out.now.items =
    omega (arith, c.len-place.ensures, c.args.out.now.ok.0) in (
      spec.map (pairs_of m.0) width,
      map_read (read_item (129 - c.args.inner)) c.args.text.now _ _ width m.0 c.in_ok-width.ensures.gives m.1
          (fits_count_of width (length m.0) (rw m.3 at fits)),
      map_written c.args.out.now.items _ _ _ _ c.len-place.result c.in_ok-count.count width m.0 at
          c.in_ok-push.ensures.items m.2 m.3 c.in_ok-put_open.ensures
          c.in_ok-push_close.ensures,
      refl,
    )

pub read_chunks-returns-clause-reads : goal.read_chunks-returns-clause-reads
read_chunks-returns-clause-reads t c =
    let kind = c.first_kind-kind.result in
    let m = c.in_ok-read_chunk_list.ensures.reads in (
      atom (chunked_string kind m.0),
      chunks_read (read_item (129 - c.args.inner)) c.args.text.now _ _ c.in_ok-take_length.field-0 kind m.0
          c.in_ok-take_length.ensures.gives (sym c.is_some.ensures ∙ c.if-is_some.false) c.first_kind-kind.ensures m.1,
      chunks_written c.args.out.now.items c.push_open.new.out.items c.read_chunk_list.new.out.items _ _ kind m.0
          c.major.ensures c.in_ok-push_open.ensures m.2 c.in_ok-push_close.ensures,
      refl,
    )

pub read_tagged-returns-clause-reads : goal.read_tagged-returns-clause-reads
read_tagged-returns-clause-reads t c =
    let d = c.in_ok-read_item.ensures.reads in (
      tagged c.args.number.0 c.args.number.1 d.0,
      tagged_read (read_item (129 - c.args.inner)) c.args.number.0 c.args.number.1 c.args.text.now _ _ _ _ d.0
          c.skip_blank.ensures.rest d.1 c.skip_blank-2.ensures.rest c.in_ok-expect_byte.ensures.gives,
      tag_written c.args.out.now.items c.push_head.new.out.items _ c.args.number.0 c.args.number.1 d.0
          c.in_ok-push_head.ensures d.2,
      refl,
    )
