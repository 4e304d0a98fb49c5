-- The recursion ends, and what was appended and the members that are left are the whole list.
use Rattle.std.proofs.Common.{◌≡◌, ℕ, ◌+◌, ◌-◌, ◌*◌, ◌<◌, ◌≤◌, List, ◌++◌, length}
use Rattle.cbor_grammar.specs.Item.{Item, Chunk}
use Rattle.cbor_edn_grammar.specs.declared.close.Close.TheVariants.{Brace, Parenthesis}
use Rattle.cbor_edn_grammar.specs.Reading.{turns, repeated}
use Rattle.cbor_edn_grammar.specs.Strings.{piece_turn}
use Rattle.cbor_edn_grammar.specs.Lists.{read_members}
use Rattle.cbor_edn_grammar.specs.Items.{item_turn, pair_turn, chunk_turn, read_embedded, read_item}
use Rattle.cbor_edn_grammar.proofs.Turns.{onto}
use Rattle.cbor_edn_reader.specs.Adds.{items_bytes, pairs_bytes, chunks_bytes}
use Rattle.cbor_edn_reader.proofs.read.+edn.Given as goal

-- Each level is deeper than the one before. At one level a call is for less than the one that it is made by.
abbrev pub decreases-read_item : goal.decreases-read_item
decreases-read_item l = (130 - l.level) * 12 + 0

abbrev pub decreases-item_turn : goal.decreases-item_turn
decreases-item_turn l = (130 - l.level) * 12 + 1

abbrev pub decreases-pair_turn : goal.decreases-pair_turn
decreases-pair_turn l = (130 - l.level) * 12 + 1

abbrev pub decreases-read_items : goal.decreases-read_items
decreases-read_items l = (130 - l.level) * 12 + 2

abbrev pub decreases-read_pairs : goal.decreases-read_pairs
decreases-read_pairs l = (130 - l.level) * 12 + 2

abbrev pub decreases-pieces::read_embedded : goal.decreases-pieces::read_embedded
decreases-pieces::read_embedded l = (130 - l.inner) * 12 + 3

abbrev pub decreases-pieces::read_piece : goal.decreases-pieces::read_piece
decreases-pieces::read_piece l = (130 - l.inner) * 12 + 4

abbrev pub decreases-pieces::piece_turn : goal.decreases-pieces::piece_turn
decreases-pieces::piece_turn l = (130 - l.inner) * 12 + 5

abbrev pub decreases-pieces::read_pieces : goal.decreases-pieces::read_pieces
decreases-pieces::read_pieces l = (130 - l.inner) * 12 + 6

abbrev pub decreases-pieces::read_content : goal.decreases-pieces::read_content
decreases-pieces::read_content l = (130 - l.inner) * 12 + 7

abbrev pub decreases-pieces::read_string : goal.decreases-pieces::read_string
decreases-pieces::read_string l = (130 - l.inner) * 12 + 8

abbrev pub decreases-chunk_turn : goal.decreases-chunk_turn
decreases-chunk_turn l = (130 - l.inner) * 12 + 8

abbrev pub decreases-read_chunk_list : goal.decreases-read_chunk_list
decreases-read_chunk_list l = (130 - l.inner) * 12 + 9

abbrev pub decreases-read_chunks : goal.decreases-read_chunks
decreases-read_chunks l = (130 - l.inner) * 12 + 10

abbrev pub decreases-read_array : goal.decreases-read_array
decreases-read_array l = (130 - l.inner) * 12 + 3

abbrev pub decreases-read_map : goal.decreases-read_map
decreases-read_map l = (130 - l.inner) * 12 + 3

abbrev pub decreases-read_tagged : goal.decreases-read_tagged
decreases-read_tagged l = (130 - l.inner) * 12 + 1

abbrev pub decreases-read_number : goal.decreases-read_number
decreases-read_number l = (130 - l.inner) * 12 + 2

abbrev pub decreases-other_item : goal.decreases-other_item
decreases-other_item l = (130 - l.inner) * 12 + 11

abbrev pub decreases-pieces::read_pieces-pieces : goal.decreases-pieces::read_pieces-pieces
decreases-pieces::read_pieces-pieces l = length l.text

abbrev pub invariant-pieces::read_pieces-pieces : goal.invariant-pieces::read_pieces-pieces
invariant-pieces::read_pieces-pieces l =
    let turn = piece_turn (read_embedded (read_item (129 - l.inner))) in
    record {
      front : List ℕ;
      bound : ℕ;
      enough : length l.text < bound;
      so_far : onto front (turns turn bound l.text) ≡ repeated turn l.fn.text;
      written : l.out.items ≡ l.fn.out.items ++ front;
      room : length l.text ≤ length l.fn.text;
    }

abbrev pub decreases-read_items-items : goal.decreases-read_items-items
decreases-read_items-items l = length l.text

abbrev pub invariant-read_items-items : goal.invariant-read_items-items
invariant-read_items-items l =
    let turn = item_turn (read_item (129 - l.level)) l.close in
    record {
      front : List Item;
      bound : ℕ;
      enough : length l.text < bound;
      so_far : onto front (turns turn bound l.text) ≡ read_members turn l.close l.fn.text;
      written : l.out.items ≡ l.fn.out.items ++ items_bytes front;
      counted : l.count ≡ length front;
      room : length l.text ≤ length l.fn.text;
    }

abbrev pub decreases-read_pairs-pairs : goal.decreases-read_pairs-pairs
decreases-read_pairs-pairs l = length l.text

abbrev pub invariant-read_pairs-pairs : goal.invariant-read_pairs-pairs
invariant-read_pairs-pairs l =
    let turn = pair_turn (read_item (129 - l.level)) in
    record {
      front : List (Item × Item);
      bound : ℕ;
      enough : length l.text < bound;
      so_far : onto front (turns turn bound l.text) ≡ read_members turn Brace l.fn.text;
      written : l.out.items ≡ l.fn.out.items ++ pairs_bytes front;
      counted : l.count ≡ length front;
      room : length l.text ≤ length l.fn.text;
    }

abbrev pub decreases-read_chunk_list-chunks : goal.decreases-read_chunk_list-chunks
decreases-read_chunk_list-chunks l = length l.text

abbrev pub invariant-read_chunk_list-chunks : goal.invariant-read_chunk_list-chunks
invariant-read_chunk_list-chunks l =
    let turn = chunk_turn (read_item (129 - l.inner)) l.fn.kind in
    record {
      front : List Chunk;
      bound : ℕ;
      enough : length l.text < bound;
      so_far : onto front (turns turn bound l.text) ≡ read_members turn Parenthesis l.fn.text;
      written : l.out.items ≡ l.fn.out.items ++ chunks_bytes l.fn.kind front;
      counted : l.count ≡ length front;
      room : length l.text ≤ length l.fn.text;
    }
