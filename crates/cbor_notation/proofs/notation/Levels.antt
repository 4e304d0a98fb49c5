-- With more levels left, `read_item` returns the same, unless it returns `TooDeep` with fewer levels left (`Grows`).
use Rattle.std.proofs.Common.{◌≡◌, ℕ, zero, suc, ◌+◌, Bool, true, false, List, [], ◌∷◌, length, Option, Some}
use Rattle.std.proofs.Common.{None, Result, Ok, Err, ◌⊎◌, inl, inr, refl, sym, ap, ◌∙◌, subst, arith}
use Rattle.std.proofs.lemmas.Bool.{cases_Bool}
use Rattle.cbor_grammar.specs.declared.width.IntegerWidth.{IntegerWidth}
use Rattle.cbor_grammar.specs.declared.error.Error.{Error}
use Rattle.cbor_grammar.specs.declared.error.Error.TheVariants as refusal
use Rattle.cbor_notation.specs.declared.start.Start.{Start}
use Rattle.cbor_notation.specs.declared.start.Start.TheVariants as start
use Rattle.cbor_grammar.specs.Item.{Item}
use Rattle.cbor_grammar.specs.declared.strings.StringKind.{StringKind}
use Rattle.cbor_grammar.specs.declared.strings.StringKind.TheVariants.{Bytes, Text}
use Rattle.cbor_grammar.specs.StringKind.{no_chunks}
use Rattle.cbor_grammar.specs.Reading.{Read, ◌>>=◌}
use Rattle.cbor_notation.specs.mirror.NotationReading.{or_refused, after_byte, after_word, read_unsigned_number}
use Rattle.cbor_notation.specs.mirror.NotationReading.{integer_or_tag, read_integer, after_end, more_members}
use Rattle.cbor_notation.specs.mirror.NotationReading.{members_from}
use Rattle.cbor_notation.specs.mirror.NotationReading.{members_or_end, read_members, read_pair, read_length, read_array}
use Rattle.cbor_notation.specs.mirror.NotationReading.{read_map, read_embedded, piece_of, read_piece, start_of}
use Rattle.cbor_notation.specs.mirror.NotationReading.{first_start}
use Rattle.cbor_notation.specs.mirror.NotationReading.{begins_piece, read_pieces, skip_blank, begins_string}
use Rattle.cbor_notation.specs.mirror.NotationReading.{content_of, read_content, read_string, read_chunk, chunks_of}
use Rattle.cbor_notation.specs.mirror.NotationReading.{kind_from, read_chunks, string_of, read_string_item}
use Rattle.cbor_notation.specs.mirror.NotationReading.{core_of, read_core, read_item}
use Rattle.cbor_notation.proofs.notation.Pieces.{pieces_go, pieces_stop}

-- the first is TooDeep, or both are one answer
abbrev pub Grows : {X : Type 0} → Result X Error → Result X Error → Type 0
Grows few many = (few ≡ Err refusal.TooDeep) ⊎ (few ≡ many)

pub grows_then : {X Y : Type 0} (few many : Result X Error) (f g : X → Result Y Error) → Grows few many
    → ((x : X) → Grows (f x) (g x)) → Grows (few >>= f) (many >>= g)
grows_then (Ok x) many f g (inl e) then = cc e
grows_then {Y} (Ok x) many f g (inr e) then = subst (λ (r : Result _ Error). Grows {X = Y} (f x) (r >>= g)) e (then x)
grows_then (Err d) many f g (inl e) then = let d_is : d ≡ refusal.TooDeep = cc e in inl (ap Err d_is)
grows_then {Y} (Err d) many f g (inr e) then =
    subst (λ (r : Result _ Error). Grows {X = Y} (Err d) (r >>= g)) e (inr refl)

-- what follows a step that reads no item
pub grows_on : {X Y : Type 0} (r : Result X Error) (f g : X → Result Y Error) → ((x : X) → Grows (f x) (g x))
    → Grows (r >>= f) (r >>= g)
grows_on r f g then = grows_then r r f g (inr refl) then

-- what is made of what was read
pub grows_made : {X Y : Type 0} (few many : Result X Error) (f : X → Result Y Error) → Grows few many
    → Grows (few >>= f) (many >>= f)
grows_made few many f grows = grows_then few many f f grows (λ x. inr refl)

pub grows_more : {X : Type 0} (few more most : Result X Error) → Grows few more → Grows more most → Grows few most
grows_more few more most (inl e) then = inl e
grows_more few more most (inr e) (inl d) = inl (e ∙ d)
grows_more few more most (inr e) (inr d) = inr (e ∙ d)

-- ---- lists

module _ {X : Type 0} (few many : List ℕ → Read X) (grows : (text : List ℕ) → Grows (few text) (many text)) where
  more_members_grow : (n close : ℕ) (text : List ℕ) (end : Option (List ℕ))
      → ((t : List ℕ) → Grows (members_from few close n t) (members_from many close n t))
      → Grows (more_members (members_from few close n) text end) (more_members (members_from many close n) text end)
  more_members_grow n close text (Some rest) others = inr refl
  more_members_grow n close text None others =
      grows_on (or_refused (after_byte 44 text)) (members_from few close n) (members_from many close n) others

  members_from_grow : (close n : ℕ) (text : List ℕ)
      → Grows (members_from few close n text) (members_from many close n text)
  unfolding members_from
  members_from_grow close zero text = inr refl
  members_from_grow close (suc n) text =
      grows_then (few text) (many text) _ _ (grows text) (λ x.
      grows_made (more_members (members_from few close n) x.1 (after_end close x.1))
      (more_members (members_from many close n) x.1 (after_end close x.1)) _
      (more_members_grow n close x.1 (after_end close x.1) (members_from_grow close n)))

  members_or_end_grow : (close : ℕ) (text : List ℕ) (end : Option (List ℕ))
      → Grows (members_or_end few close text end) (members_or_end many close text end)
  members_or_end_grow close text (Some rest) = inr refl
  members_or_end_grow close text None = members_from_grow close (suc (length text)) text

  members_grow : (close : ℕ) (text : List ℕ) → Grows (read_members few close text) (read_members many close text)
  unfolding read_members
  members_grow close text = members_or_end_grow close (skip_blank text) (after_end close (skip_blank text))

-- ---- items

no_pieces : (read : List ℕ → Read Item) (kind : StringKind) (text : List ℕ)
    → read_pieces read kind zero text ≡ Err refusal.Notation
unfolding read_pieces
no_pieces read kind text = refl

module _ (few many : List ℕ → Read Item) (grows : (text : List ℕ) → Grows (few text) (many text)) where
  pair_grows : (text : List ℕ) → Grows (read_pair few text) (read_pair many text)
  pair_grows text =
      grows_then (few text) (many text) _ _ (grows text) (λ k.
      grows_on (or_refused (after_byte 58 k.1)) _ _ (λ rest. grows_made (few rest) (many rest) _ (grows rest)))

  array_grows : (text : List ℕ) → Grows (read_array few text) (read_array many text)
  array_grows text = let rest = (read_length text).1 in grows_made (read_members few 93 rest)
      (read_members many 93 rest) _ (members_grow few many grows 93 rest)

  map_grows : (text : List ℕ) → Grows (read_map few text) (read_map many text)
  map_grows text = let rest = (read_length text).1 in grows_made (read_members (read_pair few) 125 rest)
      (read_members (read_pair many) 125 rest) _ (members_grow (read_pair few) (read_pair many) pair_grows 125 rest)

  embedded_grows : (text : List ℕ) → Grows (read_embedded few text) (read_embedded many text)
  embedded_grows text =
      grows_on (or_refused (after_byte 60 text)) _ _
      (λ first. grows_made (read_members few 62 first) (read_members many 62 first) _
      (members_grow few many grows 62 first))

  piece_of_grows : (s : Start) (text : List ℕ) → Grows (piece_of few s text) (piece_of many s text)
  piece_of_grows start.Angle text = embedded_grows text
  piece_of_grows _ text = inr refl

  piece_grows : (text : List ℕ) → Grows (read_piece few text) (read_piece many text)
  unfolding read_piece
  piece_grows [] = inr refl
  piece_grows (b ∷ text) = piece_of_grows (start_of b) text

  pieces_grow : (kind : StringKind) (n : ℕ) (text : List ℕ)
      → Grows (read_pieces few kind n text) (read_pieces many kind n text)
  pieces_grow kind zero text = inr (no_pieces few kind text ∙ sym (no_pieces many kind text))
  pieces_grow kind (suc n) text =
      elim (cases_Bool (begins_piece kind (first_start text))) [
        | inl e ↦
            rw (pieces_go few kind n text e, pieces_go many kind n text e)
            (grows_then (read_piece few text) (read_piece many text) _ _ (piece_grows text) (λ x.
            grows_made (read_pieces few kind n (skip_blank x.1)) (read_pieces many kind n (skip_blank x.1)) _
            (pieces_grow kind n (skip_blank x.1))))
        | inr e ↦ inr (pieces_stop few kind n text e ∙ sym (pieces_stop many kind n text e))
      ]

  content_of_grows : (kind : StringKind) (text : List ℕ) (begins : Bool)
      → Grows (content_of few kind text begins) (content_of many kind text begins)
  content_of_grows kind text false = inr refl
  content_of_grows kind text true = pieces_grow kind (suc (length text)) text

  content_grows : (kind : StringKind) (text : List ℕ) → Grows (read_content few kind text) (read_content many kind text)
  content_grows kind text = content_of_grows kind text (begins_string kind (first_start text))

  string_grows : (kind : StringKind) (text : List ℕ) → Grows (read_string few kind text) (read_string many kind text)
  unfolding read_string
  string_grows kind text = grows_made (read_content few kind text)
      (read_content many kind text) _ (content_grows kind text)

  chunk_grows : (kind : StringKind) (text : List ℕ) → Grows (read_chunk few kind text) (read_chunk many kind text)
  chunk_grows kind text = string_grows kind (skip_blank text)

  chunks_of_grow : (kind : StringKind) (text : List ℕ) → Grows (chunks_of few kind text) (chunks_of many kind text)
  chunks_of_grow kind text =
      grows_made (read_members (read_chunk few kind) 41 text) (read_members (read_chunk many kind) 41 text) _
      (members_grow (read_chunk few kind) (read_chunk many kind) (chunk_grows kind) 41 text)

  chunks_grow : (text : List ℕ) → Grows (read_chunks few text) (read_chunks many text)
  chunks_grow text = grows_on (or_refused (after_byte 95 text)) _ _
      (λ opened. chunks_of_grow (kind_from (first_start (skip_blank opened))) (skip_blank opened))

  string_of_grows : (kind : StringKind) (text : List ℕ) (empty : Option (List ℕ))
      → Grows (string_of few kind text empty) (string_of many kind text empty)
  string_of_grows kind text (Some rest) = inr refl
  string_of_grows kind text None = grows_made (read_string few kind text) (read_string many kind text) _
      (string_grows kind text)

  string_item_grows : (kind : StringKind) (text : List ℕ)
      → Grows (read_string_item few kind text) (read_string_item many kind text)
  string_item_grows kind text = string_of_grows kind text (after_word (no_chunks kind) text)

  integer_or_tag_grows : (n : ℕ) (w : IntegerWidth) (text : List ℕ) (inner : Option (List ℕ))
      → Grows (integer_or_tag few n w text inner) (integer_or_tag many n w text inner)
  integer_or_tag_grows n w text None = inr refl
  integer_or_tag_grows n w text (Some inner) = grows_made (few inner) (many inner) _ (grows inner)

  integer_grows : (text : List ℕ) → Grows (read_integer few text) (read_integer many text)
  integer_grows text =
      grows_on (read_unsigned_number text) _ _ (λ n. integer_or_tag_grows n.0.0 n.0.1 n.1 (after_byte 40 n.1))

  core_of_grows : (s : Start) (text rest : List ℕ) → Grows (core_of few s text rest) (core_of many s text rest)
  core_of_grows start.Digit text rest = integer_grows text
  core_of_grows start.Minus text rest = inr refl
  core_of_grows start.Bracket text rest = array_grows rest
  core_of_grows start.Brace text rest = map_grows rest
  core_of_grows start.Parenthesis text rest = chunks_grow rest
  core_of_grows start.Apostrophe text rest = string_item_grows Bytes text
  core_of_grows start.Angle text rest = string_item_grows Bytes text
  core_of_grows start.LetterB text rest = string_item_grows Bytes text
  core_of_grows start.LetterH text rest = string_item_grows Bytes text
  core_of_grows start.Quote text rest = string_item_grows Text text
  core_of_grows start.Other text rest = inr refl

  core_grows : (text : List ℕ) → Grows (read_core few text) (read_core many text)
  unfolding read_core
  core_grows [] = inr refl
  core_grows (b ∷ rest) = core_of_grows (start_of b) (b ∷ rest) rest

-- ---- levels

-- one level more
pub item_grows : (left : ℕ) (text : List ℕ) → Grows (read_item left text) (read_item (suc left) text)
unfolding read_item
item_grows zero text = inl refl
item_grows (suc left) text =
    grows_made (read_core (read_item left) (skip_blank text)) (read_core (read_item (suc left)) (skip_blank text)) _
    (core_grows (read_item left) (read_item (suc left)) (item_grows left) (skip_blank text))

-- and any number of levels more
pub levels_grow : (left more : ℕ) (text : List ℕ) → Grows (read_item left text) (read_item (more + left) text)
levels_grow left zero text = inr (ap (λ (n : ℕ). read_item n text) (omega arith))
levels_grow left (suc more) text =
    grows_more (read_item left text) (read_item (more + left) text) (read_item (suc more + left) text)
    (levels_grow left more text)
    (subst (λ (n : ℕ). Grows (read_item (more + left) text) (read_item n text)) (omega arith)
    (item_grows (more + left) text))
