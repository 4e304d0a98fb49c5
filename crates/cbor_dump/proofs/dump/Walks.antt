-- Rules for `Wrote` and `Left` (which lines of a dump a `Writer` has written, and which of all lines are left): after
-- some lines, or a piece of a string, those behind are left, and if none are left, all are written. The lines of an
-- embedded dump are lines of a note (`row`).
use Rattle.std.proofs.Common.{◌≡◌, ℕ, ◌<◌, ◌≤◌, List, [], ◌∷◌, ◌++◌, map, length, take, drop, refl, sym, ap, ◌∙◌}
use Rattle.std.proofs.Common.{◌*◌, codes, append_assoc, append-nil, arith}
use Rattle.std.specs.List.{flat_map}
use Rattle.std.specs.String.{string_bytes}
use Rattle.std.proofs.lemmas.Grind.{flat_map-append}
use Rattle.std.proofs.lemmas.List.{length-take}
use Rattle.cbor_notes.specs.Layout.{DumpLine, gap, line_text, row}
use Rattle.cbor_dump.specs.declared.writer.Writer.{Writer}
use Rattle.cbor_dump.specs.Dump.{content_lines, note_line, piece_line}
use Rattle.cbor_dump.specs.Pieces.{pieces_of}
use Rattle.cbor_dump.specs.mirror.Dumped.{Wrote, line_after, own_line}
use Rattle.cbor_dump.proofs.dump.Pieces.{Cuts, pieces_more}

-- ---- lines

-- lines are written alike where the column and what stands before them are the same
alike : (lines : List DumpLine) (old now : Writer) → now.width ≡ old.width
    → string_bytes now.prefix ≡ string_bytes old.prefix
    → flat_map (own_line now) lines ≡ flat_map (own_line old) lines
alike lines old now width prefix =
    ap (λ n. flat_map (line_after (string_bytes now.prefix) n) lines) width
    ∙ ap (λ p. flat_map (line_after p old.width) lines) prefix

pub wrote_none : (w : Writer) → Wrote w w []
wrote_none w = record { text = sym (append-nil (string_bytes w.out)); width = refl; prefix = refl }

pub wrote_then : (old mid new : Writer) (xs ys : List DumpLine) → Wrote old mid xs → Wrote mid new ys
    → Wrote old new (xs ++ ys)
wrote_then old mid new xs ys a b =
    let line = own_line old in
    record {
      text = b.text ∙ ap (λ t. string_bytes mid.out ++ t) (alike ys old mid a.width a.prefix)
          ∙ ap (λ t. t ++ flat_map line ys) a.text
          ∙ append_assoc (string_bytes old.out) (flat_map line xs) (flat_map line ys)
          ∙ ap (λ t. string_bytes old.out ++ t) (sym (flat_map-append line xs ys));
      width = b.width ∙ a.width;
      prefix = b.prefix ∙ a.prefix;
    }

-- Of all lines that are to be written, some are left.
pub record Left (old now : Writer) (left all : List DumpLine) : Type 0 where
  pub text : string_bytes now.out ++ flat_map (own_line old) left
      ≡ string_bytes old.out ++ flat_map (own_line old) all
  pub width : now.width ≡ old.width
  pub prefix : string_bytes now.prefix ≡ string_bytes old.prefix

pub left_all : (w : Writer) (all : List DumpLine) → Left w w all all
left_all w all = record { text = refl; width = refl; prefix = refl }

pub left_none : (old now : Writer) (all : List DumpLine) → Left old now [] all → Wrote old now all
left_none old now all l = record {
  text = sym (append-nil (string_bytes now.out)) ∙ l.text;
  width = l.width;
  prefix = l.prefix;
}

pub left_less : (left here others : List DumpLine) → left ≡ here ++ others → (old now next : Writer)
    (all : List DumpLine) → Wrote now next here → Left old now left all → Left old next others all
left_less left here others split old now next all w l =
    let line = own_line old in
    record {
      text = ap (λ t. t ++ flat_map line others) (w.text
          ∙ ap (λ t. string_bytes now.out ++ t) (alike here old now l.width l.prefix))
          ∙ append_assoc (string_bytes now.out) (flat_map line here) (flat_map line others)
          ∙ ap (λ t. string_bytes now.out ++ t) (sym (flat_map-append line here others)
          ∙ sym (ap (flat_map line) split))
          ∙ l.text;
      width = w.width ∙ l.width;
      prefix = w.prefix ∙ l.prefix;
    }

-- the lines of an embedded dump are lines of a note
pub rows_are : (prefix : List ℕ) (outer depth width : ℕ) (lines : List DumpLine)
    → flat_map (line_after (prefix ++ gap outer (2 * depth)) width) lines
    ≡ flat_map (line_after prefix outer) (map (note_line depth) (map (row width) lines))
rows_are prefix outer depth width [] = refl
rows_are prefix outer depth width (line ∷ lines) =
    let one : line_after (prefix ++ gap outer (2 * depth)) width line
    ≡ line_after prefix outer (note_line depth (row width line)) =
    append_assoc prefix (gap outer (2 * depth)) (line_text width line)
    ∙ ap (λ t. prefix ++ t) (sym (append_assoc (gap outer (2 * depth)) (row width line) (codes "\n"))) in
    rw (one, rows_are prefix outer depth width lines) refl

-- ---- pieces

abbrev pub lines_of : (List ℕ → DumpLine) → (List ℕ → ℕ) → List ℕ → List DumpLine
lines_of line cut bytes = map line (pieces_of cut (length bytes) bytes)

-- a string with content has a line for each piece
content_some : (depth : ℕ) (comment : List ℕ → List ℕ) (first : List ℕ) (pieces others : List (List ℕ))
    → pieces ≡ first ∷ others
    → content_lines depth comment pieces ≡ map (λ p. piece_line depth p (comment p)) pieces
content_some depth comment first pieces others e = rw e refl

pub content_is : (depth : ℕ) (comment : List ℕ → List ℕ) (cut : List ℕ → ℕ) → Cuts cut → (bytes : List ℕ)
    → 0 < length bytes
    → content_lines depth comment (pieces_of cut (length bytes) bytes) ≡ lines_of (λ p. piece_line depth p (comment p))
    cut bytes
content_is depth comment cut cuts bytes some =
    content_some depth comment (take (cut bytes) bytes) (pieces_of cut (length bytes) bytes)
    (pieces_of cut (length (drop (cut bytes) bytes)) (drop (cut bytes) bytes)) (pieces_more cut cuts bytes some)

-- A loop over pieces: one is cut off what is left.
module _ (line : List ℕ → DumpLine) (cut : List ℕ → ℕ) (cuts : Cuts cut) (rest piece after : List ℕ)
    (some : 0 < length rest) (front : piece ≡ take (cut rest) rest) (back : after ≡ drop (cut rest) rest) where
  split_off : lines_of line cut rest ≡ (line piece ∷ []) ++ lines_of line cut after
  split_off = rw (front, back) (ap (map line) (pieces_more cut cuts rest some))

  pub pieces_left : (old now next : Writer) (all : List DumpLine) → Wrote now next (line piece ∷ [])
      → Left old now (lines_of line cut rest) all → Left old next (lines_of line cut after) all
  pieces_left = left_less (lines_of line cut rest) (line piece ∷ []) (lines_of line cut after) split_off

-- no piece is longer than its cut
pub piece_few : (rest piece : List ℕ) (n : ℕ) → piece ≡ take n rest → n ≤ 16 → length piece ≤ 24
piece_few rest piece n front few = omega (arith, ap length front, length-take n rest)
