-- For `decoded_line` in `decoded.rt`: filling up with blanks, one at a time, makes the line of a piece. For
-- `decoded_lines`: after each piece of up to sixteen bytes, the lines so far are those of the pieces so far
-- (`AreShown`), and if no bytes are left, they are all lines.
use Rattle.std.proofs.Common.{◌≡◌, ℕ, ◌+◌, ◌-◌, ◌*◌, ◌<◌, ◌≤◌, min, List, [], ◌∷◌, ◌++◌, map, length, take}
use Rattle.std.proofs.Common.{drop, replicate, codes, refl, sym, ap, ◌∙◌, arith}
use Rattle.std.specs.Int.{div_ceil}
use Rattle.std.specs.List.{range_with_len}
use Rattle.std.specs.Fork.{slice_chunk}
use Rattle.std.proofs.lemmas.List.{append_assoc, drop-drop, take_at, drop_at, length-drop, replicate_more, take_min}
use Rattle.std.proofs.lemmas.List.{drop_min}
use Rattle.std.proofs.lemmas.List.FromFn.{map-range_with_len_more}
use Rattle.hex.specs.Hex.{encode_lower}
use Rattle.cbor_notes.specs.Text.{quoted_bytes}
use Rattle.cbor_notes.specs.DecodedLines.{decoded_line, decoded_lines}

-- one more blank
pub blanks_more : (line after blank : List ℕ) (counter start : ℕ) → start ≤ counter
    → after ≡ line ++ replicate (counter - start) 32
    → blank ≡ 32 ∷ [] → after ++ blank ≡ line ++ replicate (counter + 1 - start) 32
blanks_more line after blank counter start low is blank_is =
    let more : counter + 1 - start ≡ counter - start + 1 = omega arith in
    rw (is, blank_is, more, append_assoc, replicate_more) refl

-- the line, from its parts
pub line_is : (piece filled marked line : List ℕ) (width counter : ℕ) → 2 * length piece ≤ width → width ≤ counter
    → counter ≤ width
    → filled ≡ encode_lower piece ++ replicate (counter - 2 * length piece) 32 → marked ≡ filled ++ codes " # "
    → line ≡ marked ++ quoted_bytes piece → line ≡ decoded_line width piece
unfolding decoded_line
line_is piece filled marked line width counter fits low high filled_is marked_is is =
    let same : counter ≡ width = omega arith in
    let whole : line ≡ ((encode_lower piece ++ replicate (counter - 2 * length piece) 32) ++ codes " # ")
    ++ quoted_bytes piece =
    is ∙ rw (marked_is, filled_is) refl in
    rw same at whole

count_is : (n long : ℕ) → long ≤ 16 * n → 16 * n < long + 16 → n ≡ div_ceil long 16
count_is n long all within = omega arith

-- what is known after n pieces
pub record AreShown (bytes rest : List ℕ) (lines : List (List ℕ)) (n : ℕ) : Type 0 where
  pub left : rest ≡ drop (16 * n) bytes
  pub within : 16 * n < length bytes + 16
  pub shown : lines ≡ map (λ k. decoded_line (2 * min 16 (length bytes)) (slice_chunk bytes 16 k)) (range_with_len 0 n)

-- a piece of sixteen, or what is left
cut_at : (rest piece left : List ℕ) → rest ≡ piece ++ left → length piece ≡ min 16 (length rest)
    → (take 16 rest ≡ piece) × (drop 16 rest ≡ left)
cut_at rest piece left split long = (
  sym (take_min 16 rest) ∙ ap (λ (k : ℕ). take k rest) (sym long) ∙ ap (take (length piece)) split
      ∙ take_at piece left (length piece) refl,
  sym (drop_min 16 rest) ∙ ap (λ (k : ℕ). drop k rest) (sym long) ∙ ap (drop (length piece)) split
      ∙ drop_at piece left (length piece) refl,
)

piece_is : (bytes rest piece left : List ℕ) (n : ℕ) → rest ≡ drop (16 * n) bytes
    → rest ≡ piece ++ left → length piece ≡ min 16 (length rest) → piece ≡ slice_chunk bytes 16 n
piece_is bytes rest piece left n at split long =
    let place : 16 * n ≡ n * 16 = omega arith in
    sym (cut_at rest piece left split long).0 ∙ ap (take 16) (at ∙ ap (λ (k : ℕ). drop k bytes) place)

pub shown_more : (bytes rest piece left line : List ℕ) (lines : List (List ℕ)) (n : ℕ) → AreShown bytes rest lines n
    → rest ≡ piece ++ left → length piece ≡ min 16 (length rest) → 0 < length rest
    → line ≡ decoded_line (2 * min 16 (length bytes)) piece → AreShown bytes left (lines ++ line ∷ []) (n + 1)
shown_more bytes rest piece left line lines n so_far split long some is =
    let next : 16 * n + 16 ≡ 16 * (n + 1) = omega arith in
    let long_rest : length rest ≡ length bytes - 16 * n = ap length so_far.left ∙ length-drop (16 * n) bytes in
    let here : piece ≡ slice_chunk bytes 16 n = piece_is bytes rest piece left n so_far.left split long in
    let after : left ≡ drop (16 * n + 16) bytes =
    sym (cut_at rest piece left split long).1 ∙ ap (drop 16) so_far.left ∙ drop-drop 16 (16 * n) bytes in
    record {
      left = rw next at after;
      within = omega arith;
      shown =
          rw (so_far.shown, is, here)
          (sym (map-range_with_len_more (λ k. decoded_line (2 * min 16 (length bytes)) (slice_chunk bytes 16 k)) 0 n n
          (omega arith)));
    }

pub shown_all : (bytes rest : List ℕ) (lines : List (List ℕ)) (n : ℕ) → AreShown bytes rest lines n → length rest ≡ 0
    → lines ≡ decoded_lines bytes
unfolding decoded_lines
shown_all bytes rest lines n so_far none =
    let long_rest : length rest ≡ length bytes - 16 * n = ap length so_far.left ∙ length-drop (16 * n) bytes in
    let count : n ≡ div_ceil (length bytes) 16 = count_is n (length bytes) (omega arith) so_far.within in
    rw count at so_far.shown
