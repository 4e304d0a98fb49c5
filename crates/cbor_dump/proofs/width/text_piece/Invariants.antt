-- The longest piece so far is as long as any before the rest, and each piece shortens the rest.
use denote.Shadow.{shadow}
use denote.Text.{Utf8}
use Rattle.std.proofs.Common.{◌≡◌, ◌≤◌, length, max}
use Rattle.cbor_dump.specs.Pieces.{pieces_of, piece_size, text_cut, text_pieces}
use Rattle.cbor_dump.specs.mirror.Widths.{longest}
use Rattle.cbor_dump.proofs.width.text_piece.Given as goal

-- the longest of the pieces so far and of those that are left is the longest of all
abbrev pub invariant-pieces : goal.invariant-pieces
invariant-pieces l =
    shadow (Utf8 l.rest)
    × (max l.longest (longest (pieces_of text_cut (length l.rest) l.rest)) ≡ longest (text_pieces l.text))
    × (l.longest ≤ piece_size)

abbrev pub decreases-pieces : goal.decreases-pieces
decreases-pieces l = length l.rest
