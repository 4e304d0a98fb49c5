-- The functions that read EDN return what the definition reads, and well-formed items alone.
use Rattle.std.proofs.Common.{◌≡◌, ◌+◌, ◌-◌, Result, Ok, Err, IfOk, map}
use Rattle.std.proofs.Common.{sym, ap, subst, ◌∙◌, arith}
use Rattle.std.proofs.lemmas.Result.{err_from_is_err_and}
use Rattle.cbor_diag.specs.View.{view}
use Rattle.cbor_edn_grammar.specs.declared.close.Close.TheVariants.{Brace, Parenthesis}
use Rattle.cbor_edn_grammar.specs.Lists.{after_close}
use Rattle.cbor_edn.specs.Chunks.{chunk_list}
use Rattle.cbor_edn_grammar.specs.Items.{item_turn, pair_turn, chunk_turn, read_item}
use Rattle.cbor_edn_grammar.proofs.Turns.{turn_fails, turn_last, turn_more}
use Rattle.cbor_edn_reader.proofs.Members.{members_closed, members_begin}
use Rattle.cbor_diag.specs.View.{items_view, pairs_view}
use Rattle.cbor_grammar.specs.Item.{item_count, pair_count}
use Rattle.cbor_grammar.specs.WellFormed.{FitsCount}
use Rattle.cbor_diag.proofs.shared.Views.{items_push, pairs_push, item_count_view, pair_count_view}
use Rattle.cbor_edn_grammar.specs.Strings.{begins_string}
use Rattle.cbor_edn_grammar.proofs.Levels.{none_left, core_string, core_other}
use Rattle.cbor_diag.proofs.shared.Levels.{array_well, map_well}
use Rattle.cbor_edn.proofs.read.+edn.Goals as goal

pub pieces::read_pieces-returns-in_err-more-clause-gives : goal.pieces::read_pieces-returns-in_err-more-clause-gives
pieces::read_pieces-returns-in_err-more-clause-gives t c =
    let p = err_from_is_err_and c.from_residual.result c.from_residual.ensures.1 in
    let i = c.pieces.invariant in
    rw (p.1, p.2) (turn_fails _ _ _ _ _ i.enough i.so_far c.in_err-more.field-0.0 c.in_err-more.ensures.gives)

pub pieces::read_pieces-returns-then-not-more-clause-gives : goal.pieces::read_pieces-returns-then-not-more-clause-gives
pieces::read_pieces-returns-then-not-more-clause-gives t c =
    let i = c.pieces.invariant in
    let turn = rw c.if-not-more.true at c.in_ok-more.ensures.gives in
    rw turn.2 (turn_last _ _ _ _ _ i.enough i.so_far turn.1)

pub pieces::read_pieces-pieces-preserved : goal.pieces::read_pieces-pieces-preserved
pieces::read_pieces-pieces-preserved t c =
    let i = c.pieces.invariant in
    let turn = rw c.if-not-more.false at c.in_ok-more.ensures.gives in
    let next = turn_more _ _ _ _ _ i.enough i.so_far turn.1 c.in_ok-more.ensures.shorter in
    record {
      bound = next.0;
      enough = next.1;
      so_far = rw turn.2 next.2;
      room = omega (arith, c.in_ok-more.ensures.shorter, i.room);
    }

pub read_items-returns-then-take_close-clause-gives : goal.read_items-returns-then-take_close-clause-gives
read_items-returns-then-take_close-clause-gives t c =
    members_closed (item_turn (read_item (129 - c.args.level)) c.args.close) c.args.close c.args.text.now
    c.skip_blank.new.self (map view c.new.result.items) (ap (map view)
    c.new.ensures.items) c.skip_blank.ensures.rest
    (rw c.if-take_close.true at c.take_close.ensures.takes)

pub read_items-items-init : goal.read_items-items-init
read_items-items-init t c =
    let none = rw c.if-take_close.false at c.take_close.ensures.takes in
    let begun = members_begin (item_turn (read_item (129 - c.args.level)) c.args.close) c.args.close c.args.text.now
    c.take_close.new.text (map view c.new-items.result.items) (ap (map view)
    c.new-items.ensures.items) (none.1 ∙ c.skip_blank.ensures.rest)
    (ap (after_close c.args.close) none.1 ∙ none.0) in
    record {
      bound = begun.0;
      enough = begun.1;
      so_far = begun.2;
      room = omega (arith, c.skip_blank.ensures.within, c.take_close.ensures.within);
      well = rw c.new-items.ensures.items tt;
    }

pub read_items-returns-in_err-more-clause-gives : goal.read_items-returns-in_err-more-clause-gives
read_items-returns-in_err-more-clause-gives t c =
    let p = err_from_is_err_and c.from_residual.result c.from_residual.ensures.1 in
    let i = c.items.invariant in
    rw (p.1, p.2) (turn_fails _ _ _ _ _ i.enough i.so_far c.in_err-more.field-0.0 c.in_err-more.ensures.gives)

pub read_items-returns-then-not-more-clause-gives : goal.read_items-returns-then-not-more-clause-gives
read_items-returns-then-not-more-clause-gives t c =
    let i = c.items.invariant in
    let turn = rw c.if-not-more.true at c.in_ok-more.ensures.gives in
    rw turn.2 (turn_last _ _ _ _ _ i.enough i.so_far turn.1)

pub read_items-items-preserved : goal.read_items-items-preserved
read_items-items-preserved t c =
    let i = c.items.invariant in
    let turn = rw c.if-not-more.false at c.in_ok-more.ensures.gives in
    let next = turn_more _ _ _ _ _ i.enough i.so_far turn.1 c.in_ok-more.ensures.shorter in
    record {
      bound = next.0;
      enough = next.1;
      so_far = rw turn.2 next.2;
      room = omega (arith, c.in_ok-more.ensures.shorter, i.room);
      well = c.in_ok-more.ensures.well i.well;
    }

pub read_pairs-returns-then-take_close-clause-gives : goal.read_pairs-returns-then-take_close-clause-gives
read_pairs-returns-then-take_close-clause-gives t c =
    members_closed (pair_turn (read_item (129 - c.args.level))) Brace c.args.text.now
    c.skip_blank.new.self (map (λ p. (view p.0, view p.1)) c.new.result.items) (ap (map (λ p. (view p.0, view p.1)))
    c.new.ensures.items) c.skip_blank.ensures.rest
    (rw c.if-take_close.true at c.take_close.ensures.takes)

pub read_pairs-pairs-init : goal.read_pairs-pairs-init
read_pairs-pairs-init t c =
    let none = rw c.if-take_close.false at c.take_close.ensures.takes in
    let begun = members_begin (pair_turn (read_item (129 - c.args.level))) Brace c.args.text.now
    c.take_close.new.text (map (λ p. (view p.0, view p.1)) c.new-pairs.result.items)
    (ap (map (λ p. (view p.0, view p.1)))
    c.new-pairs.ensures.items) (none.1 ∙ c.skip_blank.ensures.rest)
    (ap (after_close Brace) none.1 ∙ none.0) in
    record {
      bound = begun.0;
      enough = begun.1;
      so_far = begun.2;
      room = omega (arith, c.skip_blank.ensures.within, c.take_close.ensures.within);
      well = rw c.new-pairs.ensures.items tt;
    }

pub read_pairs-returns-in_err-more-clause-gives : goal.read_pairs-returns-in_err-more-clause-gives
read_pairs-returns-in_err-more-clause-gives t c =
    let p = err_from_is_err_and c.from_residual.result c.from_residual.ensures.1 in
    let i = c.pairs.invariant in
    rw (p.1, p.2) (turn_fails _ _ _ _ _ i.enough i.so_far c.in_err-more.field-0.0 c.in_err-more.ensures.gives)

pub read_pairs-returns-then-not-more-clause-gives : goal.read_pairs-returns-then-not-more-clause-gives
read_pairs-returns-then-not-more-clause-gives t c =
    let i = c.pairs.invariant in
    let turn = rw c.if-not-more.true at c.in_ok-more.ensures.gives in
    rw turn.2 (turn_last _ _ _ _ _ i.enough i.so_far turn.1)

pub read_pairs-pairs-preserved : goal.read_pairs-pairs-preserved
read_pairs-pairs-preserved t c =
    let i = c.pairs.invariant in
    let turn = rw c.if-not-more.false at c.in_ok-more.ensures.gives in
    let next = turn_more _ _ _ _ _ i.enough i.so_far turn.1 c.in_ok-more.ensures.shorter in
    record {
      bound = next.0;
      enough = next.1;
      so_far = rw turn.2 next.2;
      room = omega (arith, c.in_ok-more.ensures.shorter, i.room);
      well = c.in_ok-more.ensures.well i.well;
    }

pub read_chunk_list-returns-then-take_close-clause-gives : goal.read_chunk_list-returns-then-take_close-clause-gives
read_chunk_list-returns-then-take_close-clause-gives t c =
    members_closed (chunk_turn (read_item (129 - c.args.inner)) c.args.kind) Parenthesis c.args.text.now
    c.skip_blank.new.self (chunk_list c.new-chunks.result)
    c.new-chunks.ensures.none c.skip_blank.ensures.rest
    (rw c.if-take_close.true at c.take_close.ensures.takes)

pub read_chunk_list-chunks-init : goal.read_chunk_list-chunks-init
read_chunk_list-chunks-init t c =
    let none = rw c.if-take_close.false at c.take_close.ensures.takes in
    let begun = members_begin (chunk_turn (read_item (129 - c.args.inner)) c.args.kind) Parenthesis c.args.text.now
    c.take_close.new.text (chunk_list c.new-chunks.result)
    c.new-chunks.ensures.none (none.1 ∙ c.skip_blank.ensures.rest)
    (ap (after_close Parenthesis) none.1 ∙ none.0) in
    record {
      bound = begun.0;
      enough = begun.1;
      so_far = begun.2;
      room = omega (arith, c.skip_blank.ensures.within, c.take_close.ensures.within);
      well = rw c.new-chunks.ensures.none tt;
      kind = c.new-chunks.ensures.kind;
    }

pub read_chunk_list-returns-in_err-more-clause-gives : goal.read_chunk_list-returns-in_err-more-clause-gives
read_chunk_list-returns-in_err-more-clause-gives t c =
    let p = err_from_is_err_and c.from_residual.result c.from_residual.ensures.1 in
    let i = c.chunks.invariant in
    rw (p.1, p.2) (turn_fails _ _ _ _ _ i.enough i.so_far c.in_err-more.field-0.0
    (rw i.kind at c.in_err-more.ensures.gives))

pub read_chunk_list-returns-then-not-more-clause-gives : goal.read_chunk_list-returns-then-not-more-clause-gives
read_chunk_list-returns-then-not-more-clause-gives t c =
    let i = c.chunks.invariant in
    let turn = rw (c.if-not-more.true, i.kind) at c.in_ok-more.ensures.gives in
    rw turn.2 (turn_last _ _ _ _ _ i.enough i.so_far turn.1)

pub read_chunk_list-chunks-preserved : goal.read_chunk_list-chunks-preserved
read_chunk_list-chunks-preserved t c =
    let i = c.chunks.invariant in
    let turn = rw (c.if-not-more.false, i.kind) at c.in_ok-more.ensures.gives in
    let next = turn_more _ _ _ _ _ i.enough i.so_far turn.1 c.in_ok-more.ensures.shorter in
    record {
      bound = next.0;
      enough = next.1;
      so_far = rw turn.2 next.2;
      room = omega (arith, c.in_ok-more.ensures.shorter, i.room);
      well = (rw i.kind at c.in_ok-more.ensures.well) i.well;
      kind = c.in_ok-more.ensures.kind ∙ i.kind;
    }

-- what holds of any answer
always : {A E P : Type 0} (r : Result A E) → P → IfOk r (λ _. P)
always (Ok a) p = p
always (Err e) p = tt

pub item_turn-returns-clause-well : goal.item_turn-returns-clause-well
item_turn-returns-clause-well t c =
    always c.take_separator.result (λ held. rw c.in_ok-push.ensures.items (items_push c.args.level
    c.args.items.now.items c.in_ok-item.item held c.in_ok-item.ensures.well))

pub pair_turn-returns-clause-well : goal.pair_turn-returns-clause-well
pair_turn-returns-clause-well t c =
    always c.take_separator.result (λ held. rw c.in_ok-push.ensures.items (pairs_push c.args.level
    c.args.pairs.now.items (c.in_ok-key.key, c.in_ok-value.value) held c.in_ok-key.ensures.well
    c.in_ok-value.ensures.well))

pub read_array-returns-clause-well : goal.read_array-returns-clause-well
read_array-returns-clause-well t c =
    let v = c.in_ok-content.content in
    let counted : c.len.result ≡ item_count (items_view v.items) = omega (arith, item_count_view v.items, v.ok.0) in
    array_well c.args.inner v c.in_ok-bitwidth.bitwidth (omega arith) (omega arith)
    (subst (λ n. FitsCount c.in_ok-bitwidth.bitwidth n) counted (c.count_fits.ensures.0 c.if-not-count_fits.false))
    c.in_ok-content.ensures.well

pub read_map-returns-clause-well : goal.read_map-returns-clause-well
read_map-returns-clause-well t c =
    let v = c.in_ok-content.content in
    let counted : c.len.result ≡ pair_count (pairs_view v.items) = omega (arith, pair_count_view v.items, v.ok.0) in
    map_well c.args.inner v c.in_ok-bitwidth.bitwidth (omega arith) (omega arith)
    (subst (λ n. FitsCount c.in_ok-bitwidth.bitwidth n) counted (c.count_fits.ensures.0 c.if-not-count_fits.false))
    c.in_ok-content.ensures.well

pub read_item-returns-then-level-gt-DEEPEST-clause-gives : goal.read_item-returns-then-level-gt-DEEPEST-clause-gives
read_item-returns-then-level-gt-DEEPEST-clause-gives t c = none_left (129 - c.args.level) c.args.text.now (omega arith)

pub read_item-returns-then-begins_string-clause-gives : goal.read_item-returns-then-begins_string-clause-gives
read_item-returns-then-begins_string-clause-gives t c =
    rw (core_string (129 - c.args.level) (129 - (c.args.level + 1)) c.args.text.now (omega arith)
    (ap begins_string (sym c.rest.ensures) ∙ sym c.begins_string.ensures ∙ c.if-begins_string.true))
    c.read_string.ensures.gives

pub read_item-returns-else-begins_string-clause-gives : goal.read_item-returns-else-begins_string-clause-gives
read_item-returns-else-begins_string-clause-gives t c =
    rw (core_other (129 - c.args.level) (129 - (c.args.level + 1)) c.args.text.now (omega arith)
    (ap begins_string (sym c.rest.ensures) ∙ sym c.begins_string.ensures ∙ c.if-begins_string.false))
    c.other_item.ensures.gives
