-- The lines of numbers, strings, breaks and heads in a dump are good (`IsGood`): they can be laid out, their digits
-- have no `#` and no line feed, and their comments have no line feed. This holds if the depth of the item is below its
-- level, and its level is at most 128.
use Rattle.std.proofs.Common.{◌≢◌, ℕ, zero, suc, ◌+◌, ◌%◌, ◌==◌, ◌<◌, ◌≤◌, true, false, cond, unwrap_or, List}
use Rattle.std.proofs.Common.{[], ◌∷◌, ◌++◌, map, length, take, drop, slice_index, nat_le, inl, inr, codes, Option}
use Rattle.std.proofs.Common.{Some, None, refl, sym, subst, arith}
use Rattle.std.specs.List.{AllByRecursion, flat_map}
use Rattle.std.specs.Str.{IsAscii}
use Rattle.std.proofs.lemmas.Bool.Decides.{nat_tests}
use Rattle.std.proofs.lemmas.Bool.{cond_both, cases_lt}
use Rattle.std.proofs.lemmas.Str.{IsAscii-append}
use Rattle.std.proofs.lemmas.List.{length-take}
use Rattle.hex.specs.Hex.{encode_lower, lower_digits}
use Rattle.cbor_notes.specs.Element.{element_size, element_text}
use Rattle.cbor_notes.specs.Layout.{DumpLine}
use Rattle.cbor_notes.specs.Columns.{IsPlain}
use Rattle.cbor_tokens.specs.Uncommented.{Lacks}
use Rattle.cbor_notes.specs.LineTree.{IsFit}
use Rattle.cbor_notes.proofs.columns.CommentTexts.{element_line}
use Rattle.cbor_notes.proofs.columns.OneLine.{Free, from_test, free_hex, lacks_of}
use Rattle.cbor_dump.proofs.dump.CommentLines.{unsigned_line, negative_line, float_line, simple_line, counted_line}
use Rattle.cbor_dump.proofs.dump.CommentLines.{bytes_line, text_line, free_head}
use Rattle.cbor_tokens.proofs.texts.HexLemmas.{IsAscii-encode_lower, IsAscii-from_test}
use Rattle.cbor_notes.proofs.columns.Trees.{all_both}
use Rattle.cbor_grammar.specs.declared.width.IntegerWidth.{IntegerWidth}
use Rattle.cbor_grammar.specs.declared.width.IntegerWidth.TheVariants as width
use Rattle.cbor_grammar.specs.declared.width.FloatWidth.{FloatWidth}
use Rattle.cbor_grammar.specs.declared.width.FloatWidth.TheVariants as float_width
use Rattle.cbor_grammar.specs.declared.encoding.Encoding.{Encoding}
use Rattle.cbor_grammar.specs.Item.{Chunk, Atom, integer, negative, string, chunked_string, float, simple}
use Rattle.cbor_grammar.specs.Head.{head, stated, opening, break_byte}
use Rattle.cbor_grammar.specs.declared.strings.StringKind.{StringKind}
use Rattle.cbor_grammar.specs.declared.strings.StringKind.TheVariants.{Bytes, Text}
use Rattle.cbor_grammar.specs.StringKind.{major_of}
use Rattle.cbor_grammar.specs.WellFormed.{deepest}
use Rattle.cbor_grammar.specs.Written.{encoded_head, encoded_float, encoded_simple, encoded_open}
use Rattle.cbor_dump.specs.Comments.{bytes_comment, text_comment}
use Rattle.cbor_dump.specs.Pieces.{pieces_of, byte_pieces, text_pieces, last_start, text_cut, begins_character}
use Rattle.cbor_dump.specs.Pieces.{piece_size}
use Rattle.cbor_dump.specs.Dump.{Context, head_hex, head_line, piece_line, content_lines, string_lines}
use Rattle.cbor_dump.specs.Dump.{string_word, string_content_lines, chunks_lines, bytes_lines, element_lines}
use Rattle.cbor_dump.specs.Dump.{sized_lines, tagged_lines}
use Rattle.cbor_dump.specs.Dump.{count_if_definite, break_line, atom_lines, container_line, close_lines, inside}
use Rattle.cbor_dump.specs.Dump.{below}
use Rattle.cbor_dump.proofs.dump.Elements.{Small, element_small, element_cut}
use Rattle.cbor_dump.proofs.dump.Digits.{length-hex, length-head_short, length-head_long}
use Rattle.cbor_dump.proofs.dump.Pieces.{byte_cut, text_short, text_long}

-- a line that can be laid out, and whose digits and comment keep to its line
pub record IsGood (line : DumpLine) : Type 0 where
  pub fit : IsFit line
  pub plain : IsPlain line

pub blank_feed : ◌≢◌ {A = ℕ} 32 10
blank_feed e = cc e

ascii_head : (bytes : List ℕ) → IsAscii (head_hex bytes)
ascii_head bytes =
    cond_both (nat_le (length bytes) 1) _ _ IsAscii (λ _. IsAscii-encode_lower bytes) (λ _.
    IsAscii-append (encode_lower (take 1 bytes) ++ codes " ") (encode_lower (drop 1 bytes))
    (IsAscii-append (encode_lower (take 1 bytes)) (codes " ") (IsAscii-encode_lower (take 1 bytes))
    (IsAscii-from_test (codes " ") refl)) (IsAscii-encode_lower (drop 1 bytes)))

head_fits : (bytes : List ℕ) → length bytes ≤ 24 → length (head_hex bytes) ≤ 64
head_fits bytes few =
    elim (cases_lt 1 (length bytes)) [
      | inl long ↦ let digits = length-head_long bytes long in omega arith
      | inr short ↦ let digits = length-head_short bytes short in omega arith
    ]

-- a head at a depth that isn't too deep
pub fit_head : (depth : ℕ) (bytes comment : List ℕ) → depth < 140 → length bytes ≤ 9 → Free 10 comment
    → IsGood (head_line depth bytes comment)
fit_head depth bytes comment low few said = record {
  fit = record { level = low; short = head_fits bytes (omega arith); ascii = ascii_head bytes };
  plain = record {
    no_hash = lacks_of 35 (head_hex bytes)
        (free_head 35 (λ e. cc e) (λ e. cc e) (from_test 35 lower_digits refl) bytes);
    no_feed = lacks_of 10 (head_hex bytes) (free_head 10 (λ e. cc e) blank_feed (from_test 10 lower_digits refl) bytes);
    one_line = lacks_of 10 comment said;
  };
}

piece_short : (piece : List ℕ) → length piece ≤ 24 → length (encode_lower piece) ≤ 64
piece_short piece few = let digits = length-hex piece in omega arith

fit_piece : (depth : ℕ) (piece comment : List ℕ) → depth < 140 → length piece ≤ 24 → Free 10 comment
    → IsGood (piece_line depth piece comment)
fit_piece depth piece comment low few said = record {
  fit = record { level = low; short = piece_short piece few; ascii = IsAscii-encode_lower piece };
  plain = record {
    no_hash = lacks_of 35 (encode_lower piece) (free_hex 35 (λ e. cc e) (from_test 35 lower_digits refl) piece);
    no_feed = lacks_of 10 (encode_lower piece) (free_hex 10 (λ e. cc e) (from_test 10 lower_digits refl) piece);
    one_line = lacks_of 10 comment said;
  };
}

pub head_length : (major n : ℕ) (w : IntegerWidth) → length (head major n w) ≤ 9
head_length major n width.Unknown = omega arith
head_length major n _ = omega arith

pub float_length : (bits : ℕ) (w : FloatWidth) → length (encoded_float bits w) ≤ 9
float_length bits float_width.Unknown = omega arith
float_length bits _ = omega arith

simple_length : (n : ℕ) → length (encoded_simple n) ≤ 9
simple_length n = grind (arith, nat_tests)

open_length : (major n : ℕ) (w : Option IntegerWidth) → length (encoded_open major n w) ≤ 9
open_length major n (Some w) = head_length major n (stated w n)
open_length major n None = omega arith

-- no piece is longer than a cut
pieces_few : (cut : List ℕ → ℕ) → ((bytes : List ℕ) → cut bytes ≤ 16) → (n : ℕ) (bytes : List ℕ)
    → AllByRecursion (λ p. length p ≤ 24) (pieces_of cut n bytes)
pieces_few cut small zero [] = tt
pieces_few cut small (suc n) [] = tt
pieces_few cut small zero (b ∷ bytes) = tt
pieces_few cut small (suc n) (b ∷ bytes) =
    let k = small (b ∷ bytes) in
    let long = length-take (cut (b ∷ bytes)) (b ∷ bytes) in
    (omega arith, pieces_few cut small n (drop (cut (b ∷ bytes)) (b ∷ bytes)))

last_low : (text : List ℕ) (n : ℕ) → last_start text n ≤ n
last_low text zero = omega arith
last_low text (suc n) =
    let below = last_low text n in
    elim (begins_character (slice_index text (suc n))) as (λ v. cond v (suc n) (last_start text n) ≤ suc n) [
      | true ↦ omega arith
      | false ↦ omega arith
    ]

pub text_cut_low : (text : List ℕ) → text_cut text ≤ 16
text_cut_low text = let last = last_low text piece_size in grind (arith, nat_tests)

text_few : (text : List ℕ) → AllByRecursion (λ p. length p ≤ 24) (text_pieces text)
text_few [] = tt
text_few (b ∷ text) =
    elim (cases_lt 24 (length (b ∷ text))) [
      | inl long ↦ subst (AllByRecursion (λ p. length p ≤ 24)) (sym (text_long (b ∷ text) long))
          (pieces_few text_cut text_cut_low (length (b ∷ text)) (b ∷ text))
      | inr short ↦ subst (AllByRecursion (λ p. length p ≤ 24)) (sym (text_short (b ∷ text) (omega arith) short))
          (short, tt)
    ]

lines_fit : (depth : ℕ) (comment : List ℕ → List ℕ) → ((piece : List ℕ) → Free 10 (comment piece))
    → (pieces : List (List ℕ)) → depth < 140 → AllByRecursion (λ p. length p ≤ 24) pieces
    → AllByRecursion IsGood (map (λ p. piece_line depth p (comment p)) pieces)
lines_fit depth comment said [] low few = tt
lines_fit depth comment said (p ∷ ps) low few =
    (fit_piece depth p (comment p) low few.0 (said p), lines_fit depth comment said ps low few.1)

content_fits : (depth : ℕ) (comment : List ℕ → List ℕ) → ((piece : List ℕ) → Free 10 (comment piece))
    → (pieces : List (List ℕ)) → depth < 140 → AllByRecursion (λ p. length p ≤ 24) pieces
    → AllByRecursion IsGood (content_lines depth comment pieces)
content_fits depth comment said [] low few =
    (fit_piece depth [] (codes "\"\"") low (omega arith) (from_test 10 (codes "\"\"") refl), tt)
content_fits depth comment said (p ∷ ps) low few = lines_fit depth comment said (p ∷ ps) low few

-- the content of a byte string, in pieces or elements
plain_fits : (depth : ℕ) (encoding : Option Encoding) (bytes : List ℕ) → depth < 140
    → AllByRecursion IsGood (bytes_lines depth encoding bytes)
plain_fits depth encoding bytes low =
    content_fits depth (bytes_comment encoding bytes) (λ piece. bytes_line encoding bytes piece) (byte_pieces bytes) low
    (pieces_few byte_cut (λ rest. omega arith) (length bytes) bytes)

elements_fit : (depth t size : ℕ) (bytes : List ℕ) → depth < 140 → size ≤ 16
    → AllByRecursion IsGood (element_lines depth t size bytes)
elements_fit depth t size bytes low few =
    lines_fit depth (λ e. unwrap_or (element_text t e) []) (λ e. element_line t e)
    (pieces_of (element_cut size) (length bytes) bytes) low
    (pieces_few (element_cut size) (λ rest. omega arith) (length bytes) bytes)

sized_fit : (depth : ℕ) (encoding : Option Encoding) (t : ℕ) (size : Option ℕ) (bytes : List ℕ) → depth < 140
    → Small size → AllByRecursion IsGood (sized_lines depth encoding t size bytes)
sized_fit depth encoding t None bytes low small = plain_fits depth encoding bytes low
sized_fit depth encoding t (Some size) bytes low small =
    cond_both (length bytes % size == 0) _ _ (AllByRecursion IsGood) (λ _. elements_fit depth t size bytes low small.1)
    (λ _. plain_fits depth encoding bytes low)

tagged_fit : (depth : ℕ) (encoding : Option Encoding) (tag : Option ℕ) (bytes : List ℕ) → depth < 140
    → AllByRecursion IsGood (tagged_lines depth encoding tag bytes)
tagged_fit depth encoding None bytes low = plain_fits depth encoding bytes low
tagged_fit depth encoding (Some t) bytes low = sized_fit depth encoding t (element_size t) bytes low (element_small t)

word_line : (kind : StringKind) → Free 10 (string_word kind)
word_line Bytes = from_test 10 (codes "bytes") refl
word_line Text = from_test 10 (codes "text") refl

string_content_fits : (kind : StringKind) (p : Context) (bytes : List ℕ) → p.depth + 1 < 140
    → AllByRecursion IsGood (string_content_lines kind p bytes)
string_content_fits Bytes p bytes low = tagged_fit (p.depth + 1) p.encoding p.tag bytes low
string_content_fits Text p bytes low =
    content_fits (p.depth + 1) text_comment text_line (text_pieces bytes) low (text_few bytes)

string_fits : (kind : StringKind) (p : Context) (c : Chunk) → p.depth + 1 < 140
    → AllByRecursion IsGood (string_lines kind p c)
string_fits kind p c low = (
  fit_head p.depth (encoded_head (major_of kind) (length c.bytes) c.width) _ (omega arith)
      (head_length (major_of kind) (length c.bytes) (stated c.width (length c.bytes)))
      (counted_line (string_word kind) (Some (length c.bytes)) (word_line kind)),
  string_content_fits kind p c.bytes low,
)

chunks_fit : (kind : StringKind) (p : Context) (cs : List Chunk) → p.depth + 1 < 140
    → AllByRecursion IsGood (flat_map (string_lines kind p) cs)
chunks_fit kind p [] low = tt
chunks_fit kind p (c ∷ cs) low =
    all_both IsGood (string_lines kind p c) (flat_map (string_lines kind p) cs) (string_fits kind p c low)
    (chunks_fit kind p cs low)

break_fits : (depth : ℕ) → depth < 140 → AllByRecursion IsGood (break_line depth ∷ [])
break_fits depth low = (fit_head depth (break_byte ∷ []) _ low (omega arith) (from_test 10 (codes "break") refl), tt)

pub close_fits : (depth : ℕ) (w : Option IntegerWidth) → depth < 140 → AllByRecursion IsGood (close_lines depth w)
close_fits depth (Some w) low = tt
close_fits depth None low = break_fits depth low

all_chunks_fit : (kind : StringKind) (p : Context) (cs : List Chunk) → p.depth < 128
    → AllByRecursion IsGood (chunks_lines kind p cs)
all_chunks_fit kind p cs low = (
  fit_head p.depth (opening (major_of kind) ∷ []) _ (omega arith) (omega arith)
      (counted_line (string_word kind) None (word_line kind)),
  all_both IsGood (flat_map (string_lines kind (inside p)) cs) (break_line (p.depth + 1) ∷ [])
      (chunks_fit kind (inside p) cs (omega arith)) (break_fits (p.depth + 1) (omega arith)),
)

pub atom_fits : (p : Context) (a : Atom) → p.depth < 128 → AllByRecursion IsGood (atom_lines p a)
atom_fits p (integer n w) low = (
  fit_head p.depth (encoded_head 0 n w) _ (omega arith) (head_length 0 n (stated w n))
      (unsigned_line n),
  tt,
)
atom_fits p (negative n w) low = (
  fit_head p.depth (encoded_head 1 n w) _ (omega arith) (head_length 1 n (stated w n))
      (negative_line n),
  tt,
)
atom_fits p (string kind c) low = string_fits kind p c (omega arith)
atom_fits p (chunked_string kind cs) low = all_chunks_fit kind p cs low
atom_fits p (float bits w) low = (
  fit_head p.depth (encoded_float bits w) _ (omega arith) (float_length bits w)
      (float_line (encoded_float bits w)),
  tt,
)
atom_fits p (simple n) low = (fit_head p.depth (encoded_simple n) _ (omega arith) (simple_length n) (simple_line n), tt)

pub open_fits : (depth major : ℕ) (name : List ℕ) (n : ℕ) (w : Option IntegerWidth) → depth < 140 → Free 10 name
    → IsGood (container_line depth major name n w)
open_fits depth major name n w low said = fit_head depth (encoded_open major n w) _ low (open_length major n w)
    (counted_line name (count_if_definite n w) said)

-- where a line below is
pub low_here : (depth level : ℕ) → depth < level → level ≤ deepest → depth < 128
low_here depth level below few = omega arith

pub low_below : (depth level : ℕ) → depth < level → depth + 1 < level + 1
low_below depth level below = omega arith

pub low_end : (depth level : ℕ) → depth < level → level ≤ deepest → depth + 1 < 140
low_end depth level below few = omega arith

pub low_first : (depth level : ℕ) → depth < level → level ≤ deepest → depth < 140
low_first depth level below few = omega arith

-- what is known of each line, in part
pub plain_of : (lines : List DumpLine) → AllByRecursion IsGood lines → AllByRecursion IsPlain lines
plain_of [] good = tt
plain_of (line ∷ lines) good = (good.0.plain, plain_of lines good.1)

pub one_line_of : (lines : List DumpLine) → AllByRecursion IsPlain lines
    → AllByRecursion (λ line. Lacks 10 line.comment) lines
one_line_of [] plain = tt
one_line_of (line ∷ lines) plain = (plain.0.one_line, one_line_of lines plain.1)
