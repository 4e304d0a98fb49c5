-- `read_string` reads each string of definite length that the grammar has (`StringOf`), if the rest of the text may
-- follow an item (`Follows`). No such string begins with `''_` or `""_`, which are indefinite strings without chunks
-- (`no_chunks`).
use Rattle.std.proofs.Common.{◌≡◌, ◌≢◌, ℕ, suc, ◌<◌, true, false, not, ◌==◌, ◌||◌, nat_eq, List, [], ◌∷◌, ◌++◌, length}
use Rattle.std.proofs.Common.{drop, codes, Some, None, Ok, refl, sym, ap, ◌∙◌, subst, inl, inr, arith, ◌⊎◌}
use Rattle.std.specs.List.{list_all, starts_with}
use Rattle.std.proofs.lemmas.Bool.{cases_Bool, or_parts, ne_eqb, not-true, eq-eqb, eqb-false, cond-false}
use Rattle.std.proofs.lemmas.List.{append_assoc, length-append}
use Rattle.cbor_tokens.specs.Token.{in_quotes, escaped_byte}
use Rattle.cbor_grammar.specs.declared.width.IntegerWidth.{IntegerWidth}
use Rattle.cbor_grammar.specs.declared.width.IntegerWidth.TheVariants.{Unknown}
use Rattle.cbor_grammar.specs.Item.{Chunk, Item}
use Rattle.cbor_grammar.specs.declared.strings.StringKind.{StringKind}
use Rattle.cbor_grammar.specs.declared.strings.StringKind.TheVariants.{Bytes, Text}
use Rattle.cbor_grammar.specs.StringKind.{IsContent, no_chunks}
use Rattle.cbor_grammar.specs.Reading.{Read}
use Rattle.cbor_grammar.specs.Notation.{IsBlank, QuotedBy, Notation, in_base16, in_base32, in_base32hex, in_base64}
use Rattle.cbor_grammar.specs.Notation.{as_text, as_items, PieceOf, Joined, one, more, StringOf}
use Rattle.cbor_notation.specs.mirror.NotationReading.{after_word, start_of, first_start, begins_string}
use Rattle.cbor_notation.specs.mirror.NotationReading.{checked, read_string}
use Rattle.cbor_grammar.proofs.shared.Utf8.{utf8_passes}
use Rattle.cbor_notation.proofs.notation.Ends.{holds_of, Begins, Ends, begins_append, begins_ends, ends_more}
use Rattle.cbor_notation.proofs.notation.Ends.{blank_ends}
use Rattle.cbor_notation.proofs.notation.Ends.{core_ends, notation_starts, Follows, follows_blank, Starts}
use Rattle.cbor_notation.proofs.notation.Lists.{ReadsAgain}
use Rattle.cbor_notation.proofs.notation.Pieces.{apostrophe, quotation_mark, quoted_parts, piece_starts, piece_begins}
use Rattle.cbor_notation.proofs.notation.Pieces.{any_piece, piece_starts_core, joined_begins, joined_again}

-- what a string of each kind begins with
abbrev pub string_starts : StringKind → List ℕ
string_starts Bytes = codes "'<bh"
string_starts Text = codes "\""

pub string_begins : (Reads : List ℕ → Item → Type 0) (kind : StringKind) (text : List ℕ) (c : Chunk)
    → StringOf kind Reads text c → Begins (string_starts kind) text
string_begins Reads Bytes text c is = joined_begins Reads Bytes text c.bytes is.2
string_begins Reads Text text c is = subst (Begins (string_starts Text)) (sym is.1.1) refl

pub string_starts_core : (Reads : List ℕ → Item → Type 0) (kind : StringKind) (text : List ℕ) (c : Chunk)
    → StringOf kind Reads text c → Starts text
string_starts_core Reads kind text c is = piece_starts_core kind text (joined_begins Reads kind text c.bytes is.2)

string_goes : (kind : StringKind) (text : List ℕ) → Begins (string_starts kind) text
    → begins_string kind (first_start text) ≡ true
unfolding start_of
string_goes kind [] is = absurd is
string_goes Bytes (b ∷ text) is = holds_of (λ c. begins_string Bytes (start_of c)) (string_starts Bytes) b refl is
string_goes Text (b ∷ text) is = holds_of (λ c. begins_string Text (start_of c)) (string_starts Text) b refl is

checked_again : (kind : StringKind) (c : Chunk) → c.width ≡ Unknown → IsContent kind c.bytes
    → checked kind c.bytes ≡ Ok c
checked_again Bytes c unknown is = ap (λ (w : IntegerWidth). Ok (record { bytes = c.bytes; width = w })) (sym unknown)
checked_again Text c unknown is = rw (utf8_passes c.bytes is)
    (ap (λ (w : IntegerWidth). Ok (record { bytes = c.bytes; width = w })) (sym unknown))

pub string_again : (Reads : List ℕ → Item → Type 0) (read : List ℕ → Read Item) (it : ReadsAgain Reads read)
    (kind : StringKind) (text after rest : List ℕ) (c : Chunk)
    → StringOf kind Reads text c → IsBlank after → Follows rest
    → read_string read kind (text ++ (after ++ rest)) ≡ Ok (c, rest)
unfolding read_string
string_again Reads read it kind text after rest c is is_blank follows =
    let whole : List ℕ = text ++ (after ++ rest) in
    let begins = begins_append (string_starts kind) text (after ++ rest) (string_begins Reads kind text c is) in
    let enough : length text < suc (length whole) = omega (arith, length-append text (after ++ rest)) in
    rw (
      string_goes kind whole begins,
      joined_again Reads read it kind (suc (length whole)) text c.bytes after rest enough is_blank follows is.2,
      checked_again kind c is.0 is.3,
    ) refl

-- ---- no string begins as an indefinite one of no chunks does

-- two quotes and `_`
abbrev pub empty_word : ℕ → List ℕ
empty_word quote = quote ∷ quote ∷ 95 ∷ []

no_word : (word text : List ℕ) → starts_with nat_eq text word ≡ false → after_word word text ≡ None
no_word word text none = cond-false (starts_with nat_eq text word) (Some (drop (length word) text)) None none

other_start : (quote : ℕ) (bytes text : List ℕ) → list_all (λ b. not (quote == b)) bytes ≡ true → Begins bytes text
    → after_word (empty_word quote) text ≡ None
other_start quote bytes [] all is = absurd is
other_start quote bytes (b ∷ text) all is =
    no_word (empty_word quote) (b ∷ text) (rw (not-true (quote == b) (holds_of (λ c. not (quote == c)) bytes b all is))
    refl)

-- what may be after a piece
abbrev piece_ends : List ℕ
piece_ends = codes ",:]})>/ '<bh\"" ++ (9 ∷ 10 ∷ 13 ∷ [])

quoted_no_word : (quote : ℕ) (content rest : List ℕ) → quote ≢ 92 → Ends piece_ends rest
    → after_word (empty_word quote) (quote ∷ (in_quotes quote content ++ quote ∷ rest)) ≡ None
quoted_no_word quote [] [] other ends = no_word (empty_word quote) (quote ∷ quote ∷ [])
    (rw (eq-eqb quote quote refl) refl)
quoted_no_word quote [] (b ∷ rest) other ends =
    no_word (empty_word quote) (quote ∷ quote ∷ b ∷ rest)
    (rw (eq-eqb quote quote refl, not-true (95 == b) (holds_of (λ c. not (95 == c)) piece_ends b refl ends)) refl)
quoted_no_word quote (c ∷ content) rest other ends =
    let tail : List ℕ = in_quotes quote content ++ quote ∷ rest in
    let parts : quote ∷ (in_quotes quote (c ∷ content) ++ quote ∷ rest) ≡ quote ∷ (escaped_byte quote c ++ tail) =
    ap (λ (t : List ℕ). quote ∷ t) (append_assoc (escaped_byte quote c) (in_quotes quote content) (quote ∷ rest)) in
    ap (after_word (empty_word quote)) parts ∙ elim (cases_Bool ((c == quote) || (c == 92))) [
      | inl special ↦ rw special (no_word (empty_word quote) (quote ∷ 92 ∷ c ∷ tail)
          (rw (eq-eqb quote quote refl, ne_eqb quote 92 other) refl))
      | inr plain ↦
          let apart : quote ≢ c = λ e. eqb-false c quote (or_parts (c == quote) (c == 92) plain).0 (sym e) in
          rw plain (no_word (empty_word quote) (quote ∷ c ∷ tail)
          (rw (eq-eqb quote quote refl, ne_eqb quote c apart) refl))
    ]

module _ (Reads : List ℕ → Item → Type 0) where
  text_or_other : (text bytes : List ℕ) → Notation Reads text bytes → QuotedBy 39 text bytes ⊎ Begins (codes "<bh") text
  text_or_other text bytes (in_base16 digits is decodes) = inr (subst (Begins (codes "<bh")) (sym is.1) refl)
  text_or_other text bytes (in_base32 digits is all encodes) = inr (subst (Begins (codes "<bh")) (sym is.1) refl)
  text_or_other text bytes (in_base32hex digits is all encodes) = inr (subst (Begins (codes "<bh")) (sym is.1) refl)
  text_or_other text bytes (in_base64 digits is all encodes) = inr (subst (Begins (codes "<bh")) (sym is.1) refl)
  text_or_other text bytes (as_text is) = inl is
  text_or_other text bytes (as_items is listed encodes) = inr (subst (Begins (codes "<bh")) (sym listed.1) refl)

  notation_no_word : (text bytes rest : List ℕ) → Ends piece_ends rest
      → QuotedBy 39 text bytes ⊎ Begins (codes "<bh") text → after_word (empty_word 39) (text ++ rest) ≡ None
  notation_no_word text bytes rest ends (inl is) = ap (after_word (empty_word 39)) (quoted_parts 39 text bytes rest is)
      ∙ quoted_no_word 39 bytes rest apostrophe ends
  notation_no_word text bytes rest ends (inr is) =
      other_start 39 (codes "<bh") (text ++ rest) refl (begins_append (codes "<bh") text rest is)

  piece_no_word : (kind : StringKind) (text bytes rest : List ℕ) → Ends piece_ends rest → PieceOf kind Reads text bytes
      → after_word (no_chunks kind) (text ++ rest) ≡ None
  piece_no_word Bytes text bytes rest ends is = notation_no_word text bytes rest ends (text_or_other text bytes is)
  piece_no_word Text text bytes rest ends (inl is) =
      ap (after_word (empty_word 34)) (quoted_parts 34 text bytes rest is)
      ∙ quoted_no_word 34 bytes rest quotation_mark ends
  piece_no_word Text text bytes rest ends (inr is) =
      other_start 34 notation_starts (text ++ rest) refl
      (begins_append notation_starts text rest (piece_begins Reads Bytes text bytes is))

  joined_no_word : (kind : StringKind) (text bytes rest : List ℕ) → Ends core_ends rest
      → Joined (PieceOf kind Reads) text bytes → after_word (no_chunks kind) (text ++ rest) ≡ None
  joined_no_word kind text bytes rest ends (one is) =
      piece_no_word kind text bytes rest (ends_more core_ends piece_ends rest refl ends) is
  joined_no_word kind text bytes rest ends (more first blank others bytes_first bytes_rest text_is bytes_is is blank_is
      then) =
      let tail : List ℕ = others ++ rest in
      let whole : text ++ rest ≡ first ++ (blank ++ tail) = ap (λ (t : List ℕ). t ++ rest) text_is
      ∙ (append_assoc first (blank ++ others) rest
      ∙ ap (λ (t : List ℕ). first ++ t) (append_assoc blank others rest)) in
      let next = begins_ends (codes "'<bh\"") tail (any_piece kind tail (begins_append (piece_starts kind) others rest
      (joined_begins Reads kind others bytes_rest then))) in
      ap (after_word (no_chunks kind)) whole
      ∙ piece_no_word kind first bytes_first (blank ++ tail)
      (blank_ends (codes "'<bh\"") piece_ends blank tail refl refl blank_is next) is

  pub string_no_word : (kind : StringKind) (text after rest : List ℕ) (c : Chunk) → StringOf kind Reads text c
      → IsBlank after → Follows rest → after_word (no_chunks kind) (text ++ (after ++ rest)) ≡ None
  string_no_word kind text after rest c is is_blank follows =
      joined_no_word kind text c.bytes (after ++ rest) (follows_blank after rest is_blank follows) is.2
