-- If a string is one piece and what ends a string follows (`ends_string`), `read_string_item` returns the content of
-- this piece (`one_string`): for a text in quotes and for `h'..'`. If the first quote or backslash of a text is the
-- quote, the bytes before this quote are the content (`unquoted`).
use Rattle.std.proofs.Common.{◌≡◌, ◌⊎◌, inl, inr, ℕ, suc, Bool, true, false, List, [], ◌∷◌, ◌++◌, ◌==◌, nat_eq, length}
use Rattle.std.proofs.Common.{take, drop, position, codes, Option, Some, None, Result, Ok, Err, refl, sym, ap, ◌∙◌}
use Rattle.std.proofs.Common.{rules, tests}
use Rattle.std.specs.List.{starts_with}
use Rattle.std.proofs.lemmas.Bool.{cond-false, eqb-true}
use Rattle.std.proofs.lemmas.List.{append-nil}
use Rattle.cbor_tokens.specs.Token.{is_special}
use Rattle.cbor_tokens.specs.TokenReading.{unquoted, with_front}
use Rattle.cbor_tokens.proofs.tokens.Quoted.{unquoted-plain, closes}
use Rattle.cbor_tokens.proofs.tokens.TextPlaces.{first_at}
use Rattle.cbor_grammar.specs.declared.error.Error.{Error}
use Rattle.cbor_grammar.specs.Item.{Item, Atom, Chunk, atom, string}
use Rattle.cbor_grammar.specs.declared.strings.StringKind.{StringKind}
use Rattle.cbor_grammar.specs.declared.strings.StringKind.TheVariants.{Bytes, Text}
use Rattle.cbor_grammar.specs.Reading.{Read, ◌>>=◌}
use Rattle.cbor_notation.specs.mirror.NotationReading.{after_word, or_refused, skip_blank, start_of, first_start}
use Rattle.cbor_notation.specs.mirror.NotationReading.{begins_piece, ends_string, one_string, read_piece, read_pieces}
use Rattle.cbor_tokens.specs.HexDigits.{base16_of}
use Rattle.cbor_notation.specs.mirror.NotationReading.{read_string, checked, read_decoded, read_string_item}

-- What comes before the first quote or backslash of a text is its content, where that is the quote.
pub plain : (text content rest : List ℕ) (place : Option ℕ) (n : ℕ) → place ≡ position (is_special 34) text
    → place ≡ Some n → content ≡ take n text → drop n text ≡ 34 ∷ rest → unquoted 34 false text ≡ Some (content, rest)
plain text content rest place n found at front behind =
    let first = first_at (is_special 34) text place n found at in
    unquoted-plain 34 text
    ∙ ap (λ m. with_front (take m text) (unquoted 34 false (drop m text))) (sym first.0)
    ∙ ap (λ t. with_front (take n text) (unquoted 34 false t)) behind
    ∙ ap (with_front (take n text)) (closes 34 rest)
    ∙ ap (λ xs. Some (xs, rest)) (append-nil (take n text) ∙ sym front)

-- what ends a string
ends_with : (b : ℕ) (rest : List ℕ) → ends_string (b ∷ rest) ≡ true → (b ≡ 44) ⊎ (b ≡ 58) ⊎ (b ≡ 93) ⊎ (b ≡ 125)
ends_with b rest ends = search (rules, tests)

-- is no blank, no piece, and no `_`
ends_plainly : (kind : StringKind) (rest : List ℕ) → ends_string rest ≡ true
    → (skip_blank rest ≡ rest) × (begins_piece kind (first_start rest) ≡ false)
    × (starts_with nat_eq rest (codes "_") ≡ false)
unfolding start_of
ends_plainly kind [] never = cc never
ends_plainly kind (b ∷ rest) ends = by_byte (ends_with b rest ends) where
  by_byte : (b ≡ 44) ⊎ (b ≡ 58) ⊎ (b ≡ 93) ⊎ (b ≡ 125)
      → (skip_blank (b ∷ rest) ≡ b ∷ rest) × (begins_piece kind (first_start (b ∷ rest)) ≡ false)
      × (starts_with nat_eq (b ∷ rest) (codes "_") ≡ false)
  by_byte (inl e) = rw e (refl, refl, refl)
  by_byte (inr (inl e)) = rw e (refl, refl, refl)
  by_byte (inr (inr (inl e))) = rw e (refl, refl, refl)
  by_byte (inr (inr (inr e))) = rw e (refl, refl, refl)

-- so a piece before it is the only one
one_piece : (read : List ℕ → Read Item) (kind : StringKind) (n : ℕ) (text content rest : List ℕ)
    → begins_piece kind (first_start text) ≡ true → read_piece read text ≡ Ok (content, rest) → ends_string rest ≡ true
    → read_pieces read kind (suc (suc n)) text ≡ Ok (content, rest)
unfolding read_pieces
one_piece read kind n text content rest begins piece ends =
    let plainly = ends_plainly kind rest ends in
    rw (begins, piece, plainly.0, plainly.1, read_pieces)
    (ap (λ t. Ok (content ++ [], t)) plainly.0 ∙ ap (λ xs. Ok (xs, rest)) (append-nil content))

-- so it is not `""_` before it
no_empty : (inner content rest : List ℕ) → unquoted 34 false inner ≡ Some (content, rest) → ends_string rest ≡ true
    → after_word (codes "\"\"_") (34 ∷ inner) ≡ None
no_empty [] content rest never ends = refl
no_empty (b ∷ inner) content rest is ends = by_test (b == 34) refl where
  behind : Option (List ℕ × List ℕ) → List ℕ
  behind None = []
  behind (Some read) = read.1

  by_test : (t : Bool) → (b == 34) ≡ t → after_word (codes "\"\"_") (34 ∷ b ∷ inner) ≡ None
  by_test true quote =
      let same : inner ≡ rest = ap behind (rw quote at is) in
      let none : after_word (codes "\"\"_") (34 ∷ 34 ∷ rest) ≡ None =
      cond-false (starts_with nat_eq rest (codes "_")) _ None (ends_plainly Text rest ends).2 in
      rw (eqb-true b 34 quote, same) none
  by_test false other =
      let apart : nat_eq 34 b ≡ false = search (rules, tests) in
      cond-false (starts_with nat_eq (34 ∷ b ∷ inner) (codes "\"\"_")) _ None (rw apart refl)

abbrev made : (Chunk → Atom) → Chunk × List ℕ → Result (Item × List ℕ) Error
made leaf c = Ok (atom (leaf c.0), c.1)

one : (leaf : Chunk → Atom) (rest : List ℕ) (r : Result Chunk Error)
    → (◌>>=◌ {B = Chunk × List ℕ} r (λ c. Ok (c, rest)) >>= made leaf) ≡ (r >>= λ c. Ok (atom (leaf c), rest))
one leaf rest (Ok c) = refl
one leaf rest (Err e) = refl

-- A text without escapes, and after it what ends a string: what the rules give.
pub plain_text : (read : List ℕ → Read Item) (text inner content rest : List ℕ) → text ≡ 34 ∷ inner
    → unquoted 34 false inner ≡ Some (content, rest) → ends_string rest ≡ true
    → read_string_item read Text text ≡ one_string Text content rest
unfolding read_string read_piece start_of
plain_text read text inner content rest front is ends =
    let pieces = one_piece read Text (length inner) (34 ∷ inner) content rest refl (ap or_refused is) ends in
    ap (read_string_item read Text) front ∙ rw (no_empty inner content rest is ends, pieces)
    (one (string Text) rest (checked Text content))

-- Hex digits, and after them what ends a string: what the rules give.
pub plain_hex : (read : List ℕ → Read Item) (text inner bytes rest : List ℕ) → text ≡ 104 ∷ 39 ∷ inner
    → read_decoded true base16_of inner ≡ Ok (bytes, rest) → ends_string rest ≡ true
    → read_string_item read Bytes text ≡ one_string Bytes bytes rest
unfolding read_string read_piece start_of
plain_hex read text inner bytes rest front is ends =
    let pieces = one_piece read Bytes (suc (length inner)) (104 ∷ 39 ∷ inner) bytes rest refl is ends in
    ap (read_string_item read Bytes) front ∙ rw pieces refl
