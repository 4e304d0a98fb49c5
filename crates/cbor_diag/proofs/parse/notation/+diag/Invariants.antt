-- The recursion ends, and what is in hand and the members that are left are the whole list.
use Rattle.std.proofs.Common.{◌≡◌, ◌+◌, ◌-◌, ◌*◌, length, map}
use Rattle.std.specs.List.{AllByRecursion}
use Rattle.cbor_diag.specs.View.{view, items_view, pairs_view}
use Rattle.cbor_grammar.specs.WellFormed.{WellFormedItems, WellFormedPairs, IsChunk}
use Rattle.cbor_notation.specs.mirror.NotationReading.{read_item, read_pair, read_chunk}
use Rattle.cbor_diag.specs.mirror.ChunkList.{chunk_list, list_kind}
use Rattle.cbor_diag.proofs.notation.SoFar.{ListSoFar, PiecesSoFar}
use Rattle.cbor_diag.proofs.parse.notation.+diag.Given as goal

-- Each level is deeper than the one before. At one level a call is for less than the one that it is made by.
abbrev pub decreases-read_item : goal.decreases-read_item
decreases-read_item l = (130 - l.level) * 11

abbrev pub decreases-read_tagged : goal.decreases-read_tagged
decreases-read_tagged l = (130 - l.inner) * 11 + 1

abbrev pub decreases-integer_or_tag : goal.decreases-integer_or_tag
decreases-integer_or_tag l = (130 - l.inner) * 11 + 2

abbrev pub decreases-some_items : goal.decreases-some_items
decreases-some_items l = (130 - l.level) * 11 + 1

abbrev pub decreases-read_items : goal.decreases-read_items
decreases-read_items l = (130 - l.level) * 11 + 2

abbrev pub decreases-some_pairs : goal.decreases-some_pairs
decreases-some_pairs l = (130 - l.level) * 11 + 1

abbrev pub decreases-read_pairs : goal.decreases-read_pairs
decreases-read_pairs l = (130 - l.level) * 11 + 2

abbrev pub decreases-strings::read_embedded : goal.decreases-strings::read_embedded
decreases-strings::read_embedded l = (130 - l.inner) * 11 + 3

abbrev pub decreases-strings::read_piece : goal.decreases-strings::read_piece
decreases-strings::read_piece l = (130 - l.inner) * 11 + 4

abbrev pub decreases-strings::read_pieces : goal.decreases-strings::read_pieces
decreases-strings::read_pieces l = (130 - l.inner) * 11 + 5

abbrev pub decreases-strings::read_content : goal.decreases-strings::read_content
decreases-strings::read_content l = (130 - l.inner) * 11 + 6

abbrev pub decreases-strings::read_byte_item : goal.decreases-strings::read_byte_item
decreases-strings::read_byte_item l = (130 - l.inner) * 11 + 8

abbrev pub decreases-strings::read_text_item : goal.decreases-strings::read_text_item
decreases-strings::read_text_item l = (130 - l.inner) * 11 + 8

abbrev pub decreases-strings::some_chunks : goal.decreases-strings::some_chunks
decreases-strings::some_chunks l = (130 - l.inner) * 11 + 7

abbrev pub decreases-strings::read_chunk_list : goal.decreases-strings::read_chunk_list
decreases-strings::read_chunk_list l = (130 - l.inner) * 11 + 8

abbrev pub decreases-strings::read_chunks : goal.decreases-strings::read_chunks
decreases-strings::read_chunks l = (130 - l.inner) * 11 + 9

abbrev pub decreases-read_core : goal.decreases-read_core
decreases-read_core l = (130 - l.inner) * 11 + 10

abbrev pub decreases-some_items-items : goal.decreases-some_items-items
decreases-some_items-items l = length l.text

abbrev pub invariant-some_items-items : goal.invariant-some_items-items
invariant-some_items-items l = record {
  list : ListSoFar (read_item (129 - l.level)) l.close (map view l.items.items) l.text l.fn.text;
  well : WellFormedItems l.level (items_view l.items.items);
}

abbrev pub decreases-some_pairs-pairs : goal.decreases-some_pairs-pairs
decreases-some_pairs-pairs l = length l.text

abbrev pub invariant-some_pairs-pairs : goal.invariant-some_pairs-pairs
invariant-some_pairs-pairs l = record {
  list : ListSoFar (read_pair (read_item (129 - l.level))) 125 (map (λ p. (view p.0, view p.1)) l.pairs.items) l.text
      l.fn.text;
  well : WellFormedPairs l.level (pairs_view l.pairs.items);
}

abbrev pub decreases-strings::read_pieces-pieces : goal.decreases-strings::read_pieces-pieces
decreases-strings::read_pieces-pieces l = length l.text

abbrev pub invariant-strings::read_pieces-pieces : goal.invariant-strings::read_pieces-pieces
invariant-strings::read_pieces-pieces l = PiecesSoFar (129 - l.inner) l.kind l.content.items l.text l.fn.text

abbrev pub decreases-strings::some_chunks-chunks : goal.decreases-strings::some_chunks-chunks
decreases-strings::some_chunks-chunks l = length l.text

abbrev pub invariant-strings::some_chunks-chunks : goal.invariant-strings::some_chunks-chunks
invariant-strings::some_chunks-chunks l = record {
  list : ListSoFar (read_chunk (read_item (129 - l.inner)) l.kind) 41 (chunk_list l.chunks) l.text l.fn.text;
  well : AllByRecursion (IsChunk l.kind) (chunk_list l.chunks);
  kind : list_kind l.chunks ≡ l.kind;
}
