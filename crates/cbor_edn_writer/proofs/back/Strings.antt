-- In EDN, a string is read back with the same encoding: its content, and the width of its length if that is longer than
-- needed (`string_reads`). A chunk is read back too (`part_reads`), and so is a string of no chunks (`no_parts_reads`).
use Rattle.std.proofs.Common.{◌≡◌, inl, ℕ, suc, ◌^◌, ◌==◌, ◌&&◌, List, [], ◌∷◌, ◌++◌, length, codes, not}
use Rattle.std.proofs.Common.{Option, Some, None, is_some, Bool, true, false, if◌then◌else◌, refl, sym, ap, ◌∙◌}
use Rattle.std.proofs.Common.{append_assoc, append-nil, arith}
use Rattle.std.specs.Prelude.{nat_lt}
use Rattle.std.proofs.lemmas.Bool.{cond-false}
use Rattle.std.proofs.lemmas.Bool.Decides.{nat_tests}
use Rattle.std.proofs.lemmas.Str.{is_utf8-from_IsUtf8}
use Rattle.hex.specs.Hex.{encode_lower}
use Rattle.cbor_grammar.specs.declared.width.IntegerWidth.{IntegerWidth}
use Rattle.cbor_grammar.specs.declared.width.IntegerWidth.TheVariants.{Unknown, Zero, Eight, Sixteen, ThirtyTwo}
use Rattle.cbor_grammar.specs.declared.width.IntegerWidth.TheVariants.{SixtyFour}
use Rattle.cbor_grammar.specs.declared.strings.StringKind.{StringKind}
use Rattle.cbor_grammar.specs.declared.strings.StringKind.TheVariants.{Bytes, Text}
use Rattle.cbor_grammar.specs.Item.{Item, Chunk, atom, string, chunked_string}
use Rattle.cbor_grammar.specs.NotationText.{indicator}
use Rattle.cbor_grammar.specs.StringKind.{major_of, no_chunks}
use Rattle.cbor_grammar.specs.WellFormed.{IsChunk}
use Rattle.cbor_grammar.specs.Written.{encoded_chunk}
use Rattle.cbor_edn_grammar.specs.declared.opening.Base.TheVariants.{Hex}
use Rattle.cbor_edn_grammar.specs.declared.opening.Opening.{Opening}
use Rattle.cbor_edn_grammar.specs.declared.opening.Opening.TheVariants.{Quote, Apostrophe, Digits}
use Rattle.cbor_edn_writer.specs.declared.print.place.EdnPlace.{EdnPlace}
use Rattle.cbor_edn_writer.specs.EdnLeaves.{longer, length_mark, Said, Noted, quoted_string}
use Rattle.cbor_edn_writer.proofs.Comments.{note_is_any}
use Rattle.cbor_tokens.specs.Escapes.{escaped_text}
use Rattle.cbor_edn_grammar.specs.Items.{kind_from, read_embedded, read_item}
use Rattle.cbor_edn_grammar.specs.Quoted.{quoted}
use Rattle.cbor_edn_grammar.specs.Reading.{Read, ◌>>=◌, repeated}
use Rattle.cbor_edn_grammar.specs.Blank.{skip_blank}
use Rattle.cbor_edn_grammar.specs.Digits.{read_digits}
use Rattle.cbor_edn_grammar.specs.Strings.{opening_of, begins_string, kind_of, piece_of, is_sign_of, joins, joined}
use Rattle.cbor_edn_grammar.specs.Strings.{piece_turn}
use Rattle.cbor_edn_grammar.specs.Strings.{stated_by, width_after, read_content, may_hold, chunk_of, string_item}
use Rattle.cbor_edn_grammar.specs.Word.{after_word}
use Rattle.cbor_edn_grammar.proofs.Levels.{core_string}
use Rattle.cbor_edn_writer.proofs.back.Reads.{is_ended, Follows, IsBegun, ReadsAs}
use Rattle.cbor_edn_grammar.proofs.Words.{IsWord, plain_word, word_front, word_rest, ended_stops, skip_none}
use Rattle.cbor_edn_writer.proofs.back.Widths.{longer_fits, longer_encoded}
use Rattle.cbor_edn_grammar.proofs.Pieces.{taken_nothing, taken_all}
use Rattle.cbor_edn_writer.proofs.back.Quotes.{quoted_read}
use Rattle.cbor_edn_grammar.proofs.Hex.{hex_read}

-- ---- the width after a string

-- a width that is read as it was written: `Zero` is not written, and read as `Unknown`
abbrev IsMark : IntegerWidth → Type 0
IsMark Zero = ⊥
IsMark w = Unit {0}

longer_mark : (n : ℕ) (w : IntegerWidth) → IsMark (longer n w)
longer_mark n w = of w
  where
    either : (test : Bool) (w : IntegerWidth) → IsMark w → IsMark (if test then w else Unknown)
    either true w h = h
    either false w h = tt

    of : (w : IntegerWidth) → IsMark (longer n w)
    of Unknown = tt
    of Zero = tt
    of Eight = either (nat_lt n 24) Eight tt
    of Sixteen = either (nat_lt n (2 ^ 8)) Sixteen tt
    of ThirtyTwo = either (nat_lt n (2 ^ 16)) ThirtyTwo tt
    of SixtyFour = either (nat_lt n (2 ^ 32)) SixtyFour tt

no_width : (rest : List ℕ) → is_ended rest ≡ true → width_after rest ≡ Some (Some Unknown, rest)
no_width [] h = refl
no_width (b ∷ rest) h = cond-false (b == 95) _ _ (grind (arith, nat_tests, h))

-- a word that begins with `_` and states a width
stated_width : (word rest : List ℕ) (w : Option IntegerWidth) → IsWord (95 ∷ word) → is_ended rest ≡ true
    → stated_by (95 ∷ word) ≡ Some w → width_after (95 ∷ (word ++ rest)) ≡ Some (w, rest)
stated_width word rest w is h e =
    let text = 95 ∷ (word ++ rest) in
    let stop = ended_stops rest h in
    ap (λ found. stated_by found >>= λ width. Some (width, after_word text)) (word_front (95 ∷ word) rest is stop)
    ∙ ap (λ r. r >>= λ width. Some (width, after_word text)) e
    ∙ ap (λ after. Some (w, after)) (word_rest (95 ∷ word) rest is stop)

indicator_read : (w : IntegerWidth) (rest : List ℕ) → IsMark w → is_ended rest ≡ true
    → width_after (indicator w ++ rest) ≡ Some (Some w, rest)
indicator_read Unknown rest mark h = no_width rest h
indicator_read Zero rest mark h = absurd mark
indicator_read Eight rest mark h =
    stated_width (codes "0") rest (Some Eight) (plain_word (codes "_0") (omega arith) (refl, (refl, tt))) h refl
indicator_read Sixteen rest mark h =
    stated_width (codes "1") rest (Some Sixteen) (plain_word (codes "_1") (omega arith) (refl, (refl, tt))) h refl
indicator_read ThirtyTwo rest mark h =
    stated_width (codes "2") rest (Some ThirtyTwo) (plain_word (codes "_2") (omega arith) (refl, (refl, tt))) h refl
indicator_read SixtyFour rest mark h =
    stated_width (codes "3") rest (Some SixtyFour) (plain_word (codes "_3") (omega arith) (refl, (refl, tt))) h refl

-- the width after a string, or after `>>`
pub mark_reads : (n : ℕ) (w : IntegerWidth) (rest : List ℕ) → Follows rest
    → width_after (length_mark n w ++ rest) ≡ Some (Some (longer n w), rest)
mark_reads n w rest h = indicator_read (longer n w) rest (longer_mark n w) h.ended

-- ---- nothing is joined

abbrev join_if : Bool → List ℕ → List ℕ → Bool × List ℕ
join_if test next text = if test then (true, next) else (false, text)

alone_if : (test : Bool) (next text : List ℕ) → (join_if test next text).0 ≡ false
    → join_if test next text ≡ (false, text)
alone_if true next text h = absurd cc
alone_if false next text h = refl

joined_none : (text next : List ℕ) → (joins text next).0 ≡ false → joins text next ≡ (false, text)
joined_none text [] h = refl
joined_none text (b ∷ rest) h = alone_if ((b == 43) && not (is_sign_of rest)) (skip_blank rest) text h

underscore_alone : (text : List ℕ) → joined (95 ∷ text) ≡ (false, 95 ∷ text)
underscore_alone text = ap (joins (95 ∷ text)) (skip_none (95 ∷ text) refl)

pub indicator_alone : (w : IntegerWidth) (rest : List ℕ) → Follows rest
    → joined (indicator w ++ rest) ≡ (false, indicator w ++ rest)
indicator_alone Unknown rest h = joined_none rest (skip_blank rest) h.alone
indicator_alone Zero rest h = joined_none rest (skip_blank rest) h.alone
indicator_alone Eight rest h = underscore_alone (48 ∷ rest)
indicator_alone Sixteen rest h = underscore_alone (49 ∷ rest)
indicator_alone ThirtyTwo rest h = underscore_alone (50 ∷ rest)
indicator_alone SixtyFour rest h = underscore_alone (51 ∷ rest)

-- ---- one piece

module _ (embedded : List ℕ → Read (List ℕ)) (text inner after bytes : List ℕ) (o : Opening)
    (opened : opening_of text ≡ Some (o, inner)) (piece : piece_of embedded o inner ≡ Some (bytes, after))
    (alone : joined after ≡ (false, after)) where
  piece_found : piece_turn embedded text ≡ Some (bytes, false, after)
  piece_found =
      ap (λ r. r >>= λ o. piece_of embedded o.0 o.1 >>= λ p. Some (p.0, (joined p.1).0, (joined p.1).1)) opened
      ∙ ap (λ r. r >>= λ p. Some (p.0, (joined p.1).0, (joined p.1).1)) piece
      ∙ ap (λ j. Some (bytes, j.0, j.1)) alone

  pub one_piece : (w : Option IntegerWidth) (rest : List ℕ) → width_after after ≡ Some (w, rest)
      → read_content embedded text ≡ Some ((kind_of o, bytes, w), rest)
  unfolding read_content
  one_piece w rest width =
      ap (λ r. r >>= λ o. repeated (piece_turn embedded) text >>= λ p. width_after p.1
      >>= λ w. Some ((kind_of o.0, p.0, w.0), w.1)) opened
      ∙ ap (λ r. r >>= λ p. width_after p.1 >>= λ w. Some ((kind_of o, p.0, w.0), w.1))
      (taken_all taken_nothing text bytes after piece_found)
      ∙ ap (λ r. r >>= λ w. Some ((kind_of o, bytes, w.0), w.1)) width

-- ---- a chunk

-- what a string of this kind begins with, and what comes after that
abbrev pub opening_to : StringKind → Opening
opening_to Bytes = Digits Hex
opening_to Text = Quote

abbrev pub after_opening : StringKind → Chunk → List ℕ
after_opening Bytes c = encode_lower c.bytes ++ (codes "'" ++ length_mark (length c.bytes) c.width)
after_opening Text c = escaped_text c.bytes ++ (codes "\"" ++ length_mark (length c.bytes) c.width)

pub part_begun : (kind : StringKind) (c : Chunk) → IsBegun (quoted_string kind c)
part_begun Bytes c = refl
part_begun Text c = refl

pub part_opens : (kind : StringKind) (c : Chunk) (rest : List ℕ)
    → opening_of (quoted_string kind c ++ rest) ≡ Some (opening_to kind, after_opening kind c ++ rest)
unfolding opening_of
part_opens Bytes c rest = refl
part_opens Text c rest = refl

opens_kind : (kind : StringKind) → kind_of (opening_to kind) ≡ kind
opens_kind Bytes = refl
opens_kind Text = refl

-- the kind that the first chunk of a string shows
pub part_kind : (kind : StringKind) (c : Chunk) (rest : List ℕ)
    → kind_from (opening_of (quoted_string kind c ++ rest)) ≡ kind
part_kind kind c rest = ap kind_from (part_opens kind c rest) ∙ opens_kind kind

piece_read : (embedded : List ℕ → Read (List ℕ)) (kind : StringKind) (c : Chunk) (rest : List ℕ) → IsChunk kind c
    → piece_of embedded (opening_to kind) (after_opening kind c ++ rest)
    ≡ Some (c.bytes, length_mark (length c.bytes) c.width ++ rest)
piece_read embedded Bytes c rest h =
    let mark = length_mark (length c.bytes) c.width in
    ap (read_digits Hex) (append_assoc (encode_lower c.bytes) (codes "'" ++ mark) rest)
    ∙ hex_read c.bytes (mark ++ rest) h.bytes
piece_read embedded Text c rest h =
    let mark = length_mark (length c.bytes) c.width in
    ap (quoted 34) (append_assoc (escaped_text c.bytes) (codes "\"" ++ mark) rest)
    ∙ quoted_read c.bytes (mark ++ rest) h.content

pub part_reads : (embedded : List ℕ → Read (List ℕ)) (kind : StringKind) (c : Chunk) (rest : List ℕ) → IsChunk kind c
    → Follows rest → read_content embedded (quoted_string kind c ++ rest)
    ≡ Some ((kind, c.bytes, Some (longer (length c.bytes) c.width)), rest)
part_reads embedded kind c rest is h =
    let w = longer (length c.bytes) c.width in
    one_piece embedded (quoted_string kind c ++ rest) (after_opening kind c ++ rest) (indicator w ++ rest) c.bytes
    (opening_to kind) (part_opens kind c rest) (piece_read embedded kind c rest is) (indicator_alone w rest h) (Some w)
    rest (mark_reads (length c.bytes) c.width rest h)
    ∙ ap (λ kind. Some ((kind, c.bytes, Some w), rest)) (opens_kind kind)

-- ---- the same encoding

-- a chunk as it is read: its width is stated only where it is longer than the length needs
abbrev pub as_read : Chunk → Chunk
as_read c = record { bytes = c.bytes; width = longer (length c.bytes) c.width }

may_again : (kind : StringKind) (c : Chunk) → IsChunk kind c → may_hold kind c.bytes ≡ true
may_again Bytes c is = refl
may_again Text c is = is_utf8-from_IsUtf8 c.bytes is.content

-- what is read of a chunk is one, since its length fits the width
pub part_chunk : (kind : StringKind) (c : Chunk) → IsChunk kind c
    → chunk_of kind c.bytes (longer (length c.bytes) c.width) ≡ Some (as_read c)
part_chunk kind c is =
    rw (longer_fits (length c.bytes) c.width is.fits, may_again kind c is) refl

pub part_same : (major : ℕ) (kind : StringKind) (c : Chunk) → IsChunk kind c
    → encoded_chunk major (as_read c) ≡ encoded_chunk major c
part_same major kind c is = ap (λ head. head ++ c.bytes) (longer_encoded major (length c.bytes) c.width is.fits)

-- ---- strings

-- a string, from its content and the width after it
string_found : (left : ℕ) (text rest bytes : List ℕ) (kind : StringKind) (w : Option IntegerWidth) (i : Item)
    → begins_string text ≡ true
    → read_content (read_embedded (read_item left)) text ≡ Some ((kind, bytes, w), rest)
    → string_item kind bytes w ≡ Some i → read_item (suc left) text ≡ Some (i, rest)
string_found left text rest bytes kind w i begins content is =
    core_string (suc left) left text (omega arith) begins
    ∙ ap (λ r. r >>= λ c. string_item c.0.0 c.0.1 c.0.2 >>= λ i. Some (i, c.1)) content
    ∙ ap (λ r. r >>= λ i. Some (i, rest)) is

pub string_reads : (left : ℕ) (p : EdnPlace) (says : Said) (kind : StringKind) (c : Chunk) (t : List ℕ)
    → IsChunk kind c → Noted p says (quoted_string kind c) t → ReadsAs (suc left) (atom (string kind c)) t
string_reads left p says kind c t is noted = record {
  item = atom (string kind (as_read c));
  core = quoted_string kind c;
  note = noted.0;
  parts = noted.2;
  is_note = note_is_any p says noted.0 noted.1;
  begun = part_begun kind c;
  read = λ rest follows.
      string_found left (quoted_string kind c ++ rest) rest c.bytes kind (Some (longer (length c.bytes) c.width))
      (atom (string kind (as_read c))) (ap is_some (part_opens kind c rest))
      (part_reads (read_embedded (read_item left)) kind c rest is follows)
      (ap (λ r. r >>= λ chunk. Some (atom (string kind chunk))) (part_chunk kind c is));
  same = part_same (major_of kind) kind c is;
}

-- ---- a string of no chunks

empty_content : (embedded : List ℕ → Read (List ℕ)) (kind : StringKind) (rest : List ℕ) → Follows rest
    → read_content embedded (no_chunks kind ++ rest) ≡ Some ((kind, [], None), rest)
unfolding opening_of
empty_content embedded Bytes rest h =
    one_piece embedded (codes "''_" ++ rest) (codes "'_" ++ rest) (95 ∷ rest) [] Apostrophe refl
    (taken_all taken_nothing (codes "'_" ++ rest) [] (95 ∷ rest) refl) (underscore_alone rest) None rest
    (stated_width [] rest None (plain_word (codes "_") (omega arith) (refl, tt)) h.ended refl)
empty_content embedded Text rest h =
    one_piece embedded (codes "\"\"_" ++ rest) (codes "\"_" ++ rest) (95 ∷ rest) [] Quote refl
    (taken_all taken_nothing (codes "\"_" ++ rest) [] (95 ∷ rest) refl) (underscore_alone rest) None rest
    (stated_width [] rest None (plain_word (codes "_") (omega arith) (refl, tt)) h.ended refl)

empty_begins : (kind : StringKind) (rest : List ℕ) → begins_string (no_chunks kind ++ rest) ≡ true
unfolding opening_of
empty_begins Bytes rest = refl
empty_begins Text rest = refl

empty_begun : (kind : StringKind) → IsBegun (no_chunks kind)
empty_begun Bytes = refl
empty_begun Text = refl

pub no_parts_reads : (left : ℕ) (kind : StringKind)
    → ReadsAs (suc left) (atom (chunked_string kind [])) (no_chunks kind)
no_parts_reads left kind = record {
  item = atom (chunked_string kind []);
  core = no_chunks kind;
  note = [];
  parts = sym (append-nil (no_chunks kind));
  is_note = inl refl;
  begun = empty_begun kind;
  read = λ rest follows.
      string_found left (no_chunks kind ++ rest) rest [] kind None (atom (chunked_string kind []))
      (empty_begins kind rest) (empty_content (read_embedded (read_item left)) kind rest follows) refl;
  same = refl;
}
