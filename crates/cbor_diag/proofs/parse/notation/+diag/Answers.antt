-- The functions that read notation return what the definition reads, and well-formed items alone.
use Rattle.std.proofs.Common.{◌+◌, ◌-◌, ◌≤◌, length, map, sym, ap, ◌∙◌, arith}
use Rattle.cbor_notation.specs.mirror.NotationReading.{begins_piece, kind_from, read_chunk, read_item, read_pair}
use Rattle.cbor_diag.specs.View.{view}
use Rattle.cbor_diag.specs.mirror.ChunkList.{chunk_list}
use Rattle.cbor_diag.proofs.shared.Views.{items_push, pairs_push, view-Array, view-Map, view-Negative}
use Rattle.cbor_diag.proofs.notation.Errors.{error_given, pushed_view}
use Rattle.cbor_diag.proofs.notation.Loops.{members_closed}
use Rattle.cbor_diag.proofs.notation.SoFar.{list_begins, list_fails, list_ends, comma_fails, list_goes_on}
use Rattle.cbor_diag.proofs.notation.SoFar.{pieces_begun, pieces_ended, pieces_fail, pieces_go_on}
use Rattle.cbor_diag.proofs.notation.Cores.{core_bytes, minus_fails, minus_read, array_fails, array_read, map_fails}
use Rattle.cbor_diag.proofs.notation.Cores.{map_read, item_none, item_fails, item_read, no_content, no_string}
use Rattle.cbor_diag.proofs.notation.Cores.{string_read, no_chunks, chunks_read, chunks_well, no_key, no_colon}
use Rattle.cbor_diag.proofs.notation.Cores.{no_value, pair_read, pair_view, open_array_well, open_map_well}
use Rattle.cbor_notation.specs.declared.start.Start.TheVariants as start
use Rattle.cbor_diag.proofs.parse.notation.+diag.Goals as goal

pub read_items-returns-then-take_end-clause-gives : goal.read_items-returns-then-take_end-clause-gives
read_items-returns-then-take_end-clause-gives t c =
    members_closed (read_item (129 - c.args.level)) c.args.close c.args.text.now (ap (map view) c.new.ensures.items)
    c.skip_blank.ensures.rest (rw c.if-take_end.true at c.take_end.ensures.takes)

pub some_items-items-init : goal.some_items-items-init
some_items-items-init t c = record {
  list = list_begins _ _ _ (ap (map view) c.in_ok-items.ensures.items);
  well = rw c.in_ok-items.ensures.items tt;
}

pub some_items-returns-in_err-item-clause-gives : goal.some_items-returns-in_err-item-clause-gives
some_items-returns-in_err-item-clause-gives t c =
    error_given _ _ _ _ c.from_residual-in_err-item.ensures.1
    (list_fails c.items.invariant.list _ c.in_err-item.ensures.gives)

pub some_items-returns-then-not-more-clause-gives : goal.some_items-returns-then-not-more-clause-gives
some_items-returns-then-not-more-clause-gives t c =
    list_ends c.items.invariant.list c.in_ok-item.ensures.gives (rw c.if-not-more.true at c.in_ok-more.ensures.takes)
    (pushed_view view _ _ _ c.in_ok-push.ensures.items)

pub some_items-returns-in_err-more-clause-gives : goal.some_items-returns-in_err-more-clause-gives
some_items-returns-in_err-more-clause-gives t c =
    error_given _ _ _ _ c.from_residual-in_err-more.ensures.1
    (comma_fails c.items.invariant.list c.in_ok-item.ensures.gives _ c.in_err-more.ensures.takes)

pub some_items-items-preserved : goal.some_items-items-preserved
some_items-items-preserved t c =
    let item = c.in_ok-item.ensures in
    record {
      list = list_goes_on c.items.invariant.list item.gives
          (rw c.if-not-more.false at c.in_ok-more.ensures.takes) item.shorter c.in_ok-more.ensures.shorter
          (pushed_view view _ _ _ c.in_ok-push.ensures.items);
      well = rw c.in_ok-push.ensures.items (items_push c.args.level c.items.items.items c.in_ok-item.item
          c.items.invariant.well item.well);
    }

pub read_pairs-returns-then-take_end-clause-gives : goal.read_pairs-returns-then-take_end-clause-gives
read_pairs-returns-then-take_end-clause-gives t c =
    members_closed (read_pair (read_item (129 - c.args.level))) 125 c.args.text.now
    (ap (map pair_view) c.new.ensures.items) c.skip_blank.ensures.rest
    (rw c.if-take_end.true at c.take_end.ensures.takes)

pub some_pairs-pairs-init : goal.some_pairs-pairs-init
some_pairs-pairs-init t c = record {
  list = list_begins _ _ _ (ap (map pair_view) c.in_ok-pairs.ensures.items);
  well = rw c.in_ok-pairs.ensures.items tt;
}

pub some_pairs-returns-in_err-key-clause-gives : goal.some_pairs-returns-in_err-key-clause-gives
some_pairs-returns-in_err-key-clause-gives t c =
    error_given _ _ _ _ c.from_residual-in_err-key.ensures.1 (list_fails c.pairs.invariant.list _
    (no_key (read_item (129 - c.args.level)) _ c.in_err-key.field-0.0 c.in_err-key.ensures.gives))

pub some_pairs-returns-in_err-expect_after_item-clause-gives :
    goal.some_pairs-returns-in_err-expect_after_item-clause-gives
some_pairs-returns-in_err-expect_after_item-clause-gives t c =
    let e = c.in_err-expect_after_item in
    error_given _ _ _ _ c.from_residual-in_err-expect_after_item.ensures.1 (list_fails c.pairs.invariant.list _
    (no_colon (read_item (129 - c.args.level)) _ c.in_ok-key.ensures.gives e.field-0.0 e.ensures.gives))

pub some_pairs-returns-in_err-value-clause-gives : goal.some_pairs-returns-in_err-value-clause-gives
some_pairs-returns-in_err-value-clause-gives t c =
    error_given _ _ _ _ c.from_residual-in_err-value.ensures.1 (list_fails c.pairs.invariant.list _
    (no_value (read_item (129 - c.args.level)) _ c.in_ok-key.ensures.gives c.in_ok-expect_after_item.ensures.gives
    c.in_err-value.field-0.0 c.in_err-value.ensures.gives))

pub some_pairs-returns-then-not-more-clause-gives : goal.some_pairs-returns-then-not-more-clause-gives
some_pairs-returns-then-not-more-clause-gives t c =
    let read = pair_read (read_item (129 - c.args.level)) _ c.in_ok-key.ensures.gives
    c.in_ok-expect_after_item.ensures.gives c.in_ok-value.ensures.gives in
    list_ends c.pairs.invariant.list read (rw c.if-not-more.true at c.in_ok-more.ensures.takes)
    (pushed_view pair_view _ _ _ c.in_ok-push.ensures.items)

pub some_pairs-returns-in_err-more-clause-gives : goal.some_pairs-returns-in_err-more-clause-gives
some_pairs-returns-in_err-more-clause-gives t c =
    let read = pair_read (read_item (129 - c.args.level)) _ c.in_ok-key.ensures.gives
    c.in_ok-expect_after_item.ensures.gives c.in_ok-value.ensures.gives in
    error_given _ _ _ _ c.from_residual-in_err-more.ensures.1
    (comma_fails c.pairs.invariant.list read _ c.in_err-more.ensures.takes)

pub some_pairs-pairs-preserved : goal.some_pairs-pairs-preserved
some_pairs-pairs-preserved t c =
    let left = 129 - c.args.level in
    let k = c.in_ok-key.ensures in
    let colon = c.in_ok-expect_after_item.ensures in
    let v = c.in_ok-value.ensures in
    let read = pair_read (read_item left) _ k.gives colon.gives v.gives in
    let shorter : length c.read_item-in-pairs.new.text ≤ length c.pairs.text =
    omega (arith, k.shorter, colon.shorter, v.shorter) in
    record {
      list = list_goes_on c.pairs.invariant.list read
          (rw c.if-not-more.false at c.in_ok-more.ensures.takes) shorter c.in_ok-more.ensures.shorter
          (pushed_view pair_view _ _ _ c.in_ok-push.ensures.items);
      well = rw c.in_ok-push.ensures.items (pairs_push c.args.level c.pairs.pairs.items
          (c.in_ok-key.key, c.in_ok-value.value) c.pairs.invariant.well k.well v.well);
    }

pub strings::read_chunk_list-returns-then-take_end-clause-gives :
    goal.strings::read_chunk_list-returns-then-take_end-clause-gives
strings::read_chunk_list-returns-then-take_end-clause-gives t c =
    members_closed (read_chunk (read_item (129 - c.args.inner)) c.args.kind) 41 c.args.text.now c.new.ensures.none
    c.skip_blank.ensures.rest (rw c.if-take_end.true at c.take_end.ensures.takes)

pub strings::some_chunks-chunks-init : goal.strings::some_chunks-chunks-init
strings::some_chunks-chunks-init t c = record {
  list = list_begins _ _ _ c.new-chunks.ensures.none;
  well = rw c.new-chunks.ensures.none tt;
  kind = c.new-chunks.ensures.kind;
}

pub strings::some_chunks-returns-in_err-content-clause-gives :
    goal.strings::some_chunks-returns-in_err-content-clause-gives
strings::some_chunks-returns-in_err-content-clause-gives t c =
    error_given _ _ _ _ c.from_residual.ensures.1 (list_fails c.chunks.invariant.list _
    (no_content (read_item (129 - c.args.inner)) c.args.kind c.chunks.text c.skip_blank.ensures.rest
    c.in_err-content.field-0.0 c.in_err-content.ensures.gives))

pub strings::some_chunks-returns-in-Err-clause-gives : goal.strings::some_chunks-returns-in-Err-clause-gives
strings::some_chunks-returns-in-Err-clause-gives t c =
    list_fails c.chunks.invariant.list _ (no_string (read_item (129 - c.args.inner)) c.args.kind c.chunks.text
    c.skip_blank.ensures.rest c.in_ok-content.ensures.gives _ c.chunks.invariant.kind c.in-Err.error
    c.in-Err.ensures.gives)

pub strings::some_chunks-returns-then-not-more-clause-gives :
    goal.strings::some_chunks-returns-then-not-more-clause-gives
strings::some_chunks-returns-then-not-more-clause-gives t c =
    let added = string_read (read_item (129 - c.args.inner)) c.args.kind c.chunks.text c.skip_blank.ensures.rest
    c.in_ok-content.ensures.gives _ c.chunks.invariant.kind c.in-Ok.ensures.gives in
    list_ends c.chunks.invariant.list added.2 (rw c.if-not-more.true at c.in_ok-more.ensures.takes) added.1

pub strings::some_chunks-returns-then-not-more-clause-well :
    goal.strings::some_chunks-returns-then-not-more-clause-well
strings::some_chunks-returns-then-not-more-clause-well t c =
    (rw c.chunks.invariant.kind at c.in-Ok.ensures.well) c.chunks.invariant.well

pub strings::some_chunks-returns-in_err-more-clause-gives :
    goal.strings::some_chunks-returns-in_err-more-clause-gives
strings::some_chunks-returns-in_err-more-clause-gives t c =
    let added = string_read (read_item (129 - c.args.inner)) c.args.kind c.chunks.text c.skip_blank.ensures.rest
    c.in_ok-content.ensures.gives _ c.chunks.invariant.kind c.in-Ok.ensures.gives in
    error_given _ _ _ _ c.from_residual-in_err-more.ensures.1
    (comma_fails c.chunks.invariant.list added.2 _ c.in_err-more.ensures.takes)

pub strings::some_chunks-chunks-preserved : goal.strings::some_chunks-chunks-preserved
strings::some_chunks-chunks-preserved t c =
    let left = 129 - c.args.inner in
    let i = c.chunks.invariant in
    let added = string_read (read_item left) c.args.kind c.chunks.text c.skip_blank.ensures.rest
    c.in_ok-content.ensures.gives _ i.kind c.in-Ok.ensures.gives in
    let shorter : length c.read_content.new.text ≤ length c.chunks.text =
    omega (arith, c.in_ok-content.ensures.shorter, c.skip_blank.ensures.shorter) in
    record {
      list = list_goes_on i.list added.2
          (rw c.if-not-more.false at c.in_ok-more.ensures.takes) shorter c.in_ok-more.ensures.shorter added.1;
      well = (rw i.kind at c.in-Ok.ensures.well) i.well;
      kind = c.in-Ok.ensures.kind ∙ i.kind;
    }

pub strings::read_chunks-returns-in_err-chunks-clause-gives :
    goal.strings::read_chunks-returns-in_err-chunks-clause-gives
strings::read_chunks-returns-in_err-chunks-clause-gives t c =
    error_given _ _ _ _ c.from_residual-in_err-chunks.ensures.1 (no_chunks (read_item (129 - c.args.inner))
    c.args.text.now c.in_ok-expect_byte.ensures.gives c.skip_blank.ensures.rest
    (c.kind-kind.ensures ∙ ap kind_from c.start.ensures) c.in_err-chunks.field-0.0 c.in_err-chunks.ensures.gives)

pub strings::read_chunks-returns-clause-gives : goal.strings::read_chunks-returns-clause-gives
strings::read_chunks-returns-clause-gives t c =
    chunks_read (read_item (129 - c.args.inner)) c.args.text.now c.in_ok-expect_byte.ensures.gives
    c.skip_blank.ensures.rest (c.kind-kind.ensures ∙ ap kind_from c.start.ensures) c.in_ok-chunks.ensures.gives
    (rw c.in_ok-chunks.ensures.kind at c.into_item.ensures)

pub strings::read_chunks-returns-clause-well : goal.strings::read_chunks-returns-clause-well
strings::read_chunks-returns-clause-well t c =
    chunks_well (c.args.inner - 1) c.kind-kind.result (chunk_list c.in_ok-chunks.chunks) (view c.into_item.result)
    (omega (arith, c.requires.high)) c.in_ok-chunks.ensures.well (rw c.in_ok-chunks.ensures.kind at c.into_item.ensures)

pub read_core-returns-in_err-value-in-Minus-clause-gives : goal.read_core-returns-in_err-value-in-Minus-clause-gives
read_core-returns-in_err-value-in-Minus-clause-gives t c =
    error_given _ _ _ _ c.from_residual.ensures.1 (minus_fails (read_item (129 - c.args.inner)) c.args.text.now
    c.start.ensures c.skip_byte.ensures.rest c.in-Minus.is _ c.in_err-value-in-Minus.ensures.gives)

pub read_core-returns-in_ok-value-in-Minus-clause-gives : goal.read_core-returns-in_ok-value-in-Minus-clause-gives
read_core-returns-in_ok-value-in-Minus-clause-gives t c =
    minus_read (read_item (129 - c.args.inner)) c.args.text.now c.start.ensures c.skip_byte.ensures.rest c.in-Minus.is
    c.in_ok-value-in-Minus.ensures.gives
    (view-Negative c.in_ok-value-in-Minus.value c.in_ok-value-in-Minus.bitwidth)

pub read_core-returns-in_err-content-in-Bracket-clause-gives :
    goal.read_core-returns-in_err-content-in-Bracket-clause-gives
read_core-returns-in_err-content-in-Bracket-clause-gives t c =
    error_given _ _ _ _ c.from_residual-in_err-content-in-Bracket.ensures.1
    (array_fails (read_item (129 - c.args.inner)) c.args.text.now c.start.ensures c.skip_byte-in-Bracket.ensures.rest
    c.take_length-bitwidth.ensures.rest _ c.in-Bracket.is c.in_err-content-in-Bracket.ensures.gives)

pub read_core-returns-in_ok-content-in-Bracket-clause-gives :
    goal.read_core-returns-in_ok-content-in-Bracket-clause-gives
read_core-returns-in_ok-content-in-Bracket-clause-gives t c =
    array_read (read_item (129 - c.args.inner)) c.args.text.now c.start.ensures c.skip_byte-in-Bracket.ensures.rest
    c.take_length-bitwidth.ensures.rest c.in-Bracket.is c.take_length-bitwidth.ensures.width
    c.in_ok-content-in-Bracket.ensures.gives (view-Array c.in_ok-content-in-Bracket.content _)

pub read_core-returns-in_ok-content-in-Bracket-clause-well : goal.read_core-returns-in_ok-content-in-Bracket-clause-well
read_core-returns-in_ok-content-in-Bracket-clause-well t c =
    open_array_well c.args.inner _ (omega arith) (omega arith) c.take_length-bitwidth.ensures.unstated
    c.in_ok-content-in-Bracket.ensures.well

pub read_core-returns-in_err-content-in-Brace-clause-gives : goal.read_core-returns-in_err-content-in-Brace-clause-gives
read_core-returns-in_err-content-in-Brace-clause-gives t c =
    error_given _ _ _ _ c.from_residual-in_err-content-in-Brace.ensures.1
    (map_fails (read_item (129 - c.args.inner)) c.args.text.now c.start.ensures c.skip_byte-in-Brace.ensures.rest
    c.take_length-bitwidth-in-Brace.ensures.rest _ c.in-Brace.is c.in_err-content-in-Brace.ensures.gives)

pub read_core-returns-in_ok-content-in-Brace-clause-gives : goal.read_core-returns-in_ok-content-in-Brace-clause-gives
read_core-returns-in_ok-content-in-Brace-clause-gives t c =
    map_read (read_item (129 - c.args.inner)) c.args.text.now c.start.ensures c.skip_byte-in-Brace.ensures.rest
    c.take_length-bitwidth-in-Brace.ensures.rest c.in-Brace.is c.take_length-bitwidth-in-Brace.ensures.width
    c.in_ok-content-in-Brace.ensures.gives (view-Map c.in_ok-content-in-Brace.content _)

pub read_core-returns-in_ok-content-in-Brace-clause-well : goal.read_core-returns-in_ok-content-in-Brace-clause-well
read_core-returns-in_ok-content-in-Brace-clause-well t c =
    open_map_well c.args.inner _ (omega arith) (omega arith) c.take_length-bitwidth-in-Brace.ensures.unstated
    c.in_ok-content-in-Brace.ensures.well

pub read_core-returns-in-Apostrophe-clause-gives : goal.read_core-returns-in-Apostrophe-clause-gives
read_core-returns-in-Apostrophe-clause-gives t c =
    rw (core_bytes (read_item (129 - c.args.inner)) c.args.text.now c.in-Apostrophe.is c.start.ensures)
    c.read_byte_item.ensures.gives

pub read_item-returns-then-level-gt-DEEPEST-clause-gives : goal.read_item-returns-then-level-gt-DEEPEST-clause-gives
read_item-returns-then-level-gt-DEEPEST-clause-gives t c = item_none (129 - c.args.level) c.args.text.now (omega arith)

pub read_item-returns-in_err-item-clause-gives : goal.read_item-returns-in_err-item-clause-gives
read_item-returns-in_err-item-clause-gives t c =
    error_given _ _ _ _ c.from_residual.ensures.1 (item_fails (129 - c.args.level) (129 - (c.args.level + 1))
    c.args.text.now (omega arith) c.skip_blank.ensures.rest _ c.in_err-item.ensures.gives)

pub read_item-returns-clause-gives : goal.read_item-returns-clause-gives
read_item-returns-clause-gives t c =
    item_read (129 - c.args.level) (129 - (c.args.level + 1)) c.args.text.now (omega arith) c.skip_blank.ensures.rest
    c.in_ok-item.ensures.gives c.skip_blank-2.ensures.rest

pub strings::read_pieces-pieces-init : goal.strings::read_pieces-pieces-init
strings::read_pieces-pieces-init t c = pieces_begun _ _ _ c.new-content.ensures.items

pub strings::read_pieces-returns-in_err-piece-clause-gives : goal.strings::read_pieces-returns-in_err-piece-clause-gives
strings::read_pieces-returns-in_err-piece-clause-gives t c =
    error_given _ _ _ _ c.from_residual.ensures.1 (pieces_fail c.pieces.invariant
    (sym (c.begins_piece.ensures ∙ ap (begins_piece c.args.kind) c.start.ensures) ∙ c.pieces-test.true) _
    c.in_err-piece.ensures.gives)

pub strings::read_pieces-pieces-preserved : goal.strings::read_pieces-pieces-preserved
strings::read_pieces-pieces-preserved t c =
    pieces_go_on c.pieces.invariant
    (sym (c.begins_piece.ensures ∙ ap (begins_piece c.args.kind) c.start.ensures) ∙ c.pieces-test.true)
    c.in_ok-piece.ensures.gives c.skip_blank.ensures.rest c.in_ok-piece.ensures.shorter c.skip_blank.ensures.shorter
    c.in_ok-append.ensures

pub strings::read_pieces-returns-clause-gives : goal.strings::read_pieces-returns-clause-gives
strings::read_pieces-returns-clause-gives t c =
    pieces_ended c.pieces.invariant
    (sym (c.begins_piece.ensures ∙ ap (begins_piece c.args.kind) c.start.ensures) ∙ c.pieces-test.false)
