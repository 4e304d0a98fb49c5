-- The function that reads notation reads each piece of a string that the grammar has, such as `'..'`, `h'..'` and
-- `<<..>>`, goes on where another piece begins, and stops where none does.
use Rattle.std.proofs.Common.{◌≡◌, ◌≢◌, ℕ, zero, suc, ◌<◌, Bool, true, false, not, List, [], ◌∷◌, ◌++◌, length, codes}
use Rattle.std.proofs.Common.{Option, Some, Ok, refl, sym, ap, ◌∙◌, subst, inl, inr, arith}
use Rattle.std.proofs.lemmas.Bool.{not-true}
use Rattle.std.proofs.lemmas.List.{append_assoc, append-nil, length-append}
use Rattle.cbor_tokens.specs.Base32.{standard, extended_hex}
use Rattle.cbor_tokens.specs.Token.{in_quotes, DigitsBetween}
use Rattle.cbor_tokens.specs.TokenReading.{unquoted}
use Rattle.cbor_tokens.proofs.tokens.Quoted.{unquoted-in_quotes}
use Rattle.cbor_tokens.proofs.tokens.Spaced.{digits_of-DigitsBetween}
use Rattle.cbor_grammar.specs.Item.{Item, Items, no_items, item}
use Rattle.cbor_grammar.specs.Item.{items_of}
use Rattle.cbor_grammar.specs.declared.strings.StringKind.{StringKind}
use Rattle.cbor_grammar.specs.declared.strings.StringKind.TheVariants.{Bytes, Text}
use Rattle.cbor_grammar.specs.Written.{encoded_items}
use Rattle.cbor_grammar.specs.Reading.{Read, ◌>>=◌}
use Rattle.cbor_grammar.specs.Notation.{IsBlank, QuotedBy, DigitsIn, Notation, in_base16, in_base32, in_base32hex}
use Rattle.cbor_grammar.specs.Notation.{in_base64, as_text, as_items, PieceOf, Joined, one, more, list_of, Listed}
use Rattle.cbor_notation.specs.mirror.NotationReading.{or_refused, skip_blank, start_of, first_start, begins_piece}
use Rattle.cbor_tokens.specs.HexDigits.{base16_bytes, base16_of}
use Rattle.cbor_notation.specs.mirror.NotationReading.{read_piece, read_pieces, read_decoded}
use Rattle.cbor_notation.specs.mirror.NotationReading.{base32_of, base64_of}
use Rattle.cbor_notation.proofs.notation.Ends.{holds_of, Begins, begins_append, begins_more, item_ends, core_starts}
use Rattle.cbor_notation.proofs.notation.Ends.{notation_starts, Follows, follows_passed, Starts, starts_passed}
use Rattle.cbor_notation.proofs.notation.Lists.{ReadsAgain, listed_again}
use Rattle.cbor_notation.proofs.notation.Decoded.{base32_again, url_safe_again, standard_again}

-- ---- one piece

pub items_again : (is : Items) → items_of (list_of is) ≡ is
items_again no_items = refl
items_again (item i is) = ap (item i) (items_again is)

-- a text between quotes, and what is after its first quote
pub quoted_parts : (quote : ℕ) (text content rest : List ℕ) → QuotedBy quote text content
    → text ++ rest ≡ quote ∷ (in_quotes quote content ++ quote ∷ rest)
quoted_parts quote text content rest is = ap (λ (t : List ℕ). t ++ rest) is
    ∙ ap (λ (t : List ℕ). quote ∷ t) (append_assoc (in_quotes quote content) (quote ∷ []) rest)

pub quoted_again : (quote : ℕ) (content rest : List ℕ) → quote ≢ 92
    → or_refused (unquoted quote false (in_quotes quote content ++ quote ∷ rest)) ≡ Ok (content, rest)
quoted_again quote content rest other = ap or_refused (unquoted-in_quotes quote content rest other)

pub apostrophe : ◌≢◌ {A = ℕ} 39 92
apostrophe = omega arith

pub quotation_mark : ◌≢◌ {A = ℕ} 34 92
quotation_mark = omega arith

-- digits after an opened quote
decoded_again : (comments : Bool) (decode : List ℕ → Option (List ℕ)) (content digits bytes rest : List ℕ)
    → DigitsBetween comments content digits → decode digits ≡ Some bytes
    → read_decoded comments decode (content ++ 39 ∷ rest) ≡ Ok (bytes, rest)
decoded_again comments decode content digits bytes rest between is =
    rw (digits_of-DigitsBetween comments content digits rest between, is) refl

digits_parts : (comments : Bool) (prefix text digits rest : List ℕ) → (is : DigitsIn comments prefix text digits)
    → text ++ rest ≡ prefix ++ (is.0 ++ 39 ∷ rest)
digits_parts comments prefix text digits rest is =
    ap (λ (t : List ℕ). t ++ rest) is.1 ∙ (append_assoc prefix (is.0 ++ codes "'") rest
    ∙ ap (λ (t : List ℕ). prefix ++ t) (append_assoc is.0 (codes "'") rest))

module _ (Reads : List ℕ → Item → Type 0) (read : List ℕ → Read Item) (it : ReadsAgain Reads read) where
  embedded_again : (is : Items) (text rest : List ℕ) → Listed Reads (codes "<<") (codes ">>") text (list_of is)
      → read_piece read (text ++ rest) ≡ Ok (encoded_items is, rest)
  unfolding read_piece start_of
  embedded_again is text rest listed =
      let l = listed_again Reads read it 62 (codes ">") refl (list_of is) (codes "<<") text rest listed in
      ap (read_piece read) l.0 ∙ rw (l.1, items_again is) refl

  notation_again : (text bytes rest : List ℕ) → Notation Reads text bytes
      → read_piece read (text ++ rest) ≡ Ok (bytes, rest)
  unfolding read_piece start_of
  notation_again text bytes rest (in_base16 digits is decodes) =
      ap (read_piece read) (digits_parts true (codes "h'") text digits rest is)
      ∙ decoded_again true base16_of is.0 digits bytes rest is.2 (ap base16_bytes decodes)
  notation_again text bytes rest (in_base32 digits is all encodes) =
      ap (read_piece read) (digits_parts true (codes "b32'") text digits rest is)
      ∙ decoded_again true (base32_of standard) is.0 digits bytes rest is.2
      (ap (base32_of standard) encodes ∙ base32_again standard bytes all)
  notation_again text bytes rest (in_base32hex digits is all encodes) =
      ap (read_piece read) (digits_parts true (codes "h32'") text digits rest is)
      ∙ decoded_again true (base32_of extended_hex) is.0 digits bytes rest is.2
      (ap (base32_of extended_hex) encodes ∙ base32_again extended_hex bytes all)
  notation_again text bytes rest (in_base64 digits is all (inl encodes)) =
      ap (read_piece read) (digits_parts false (codes "b64'") text digits rest is)
      ∙ decoded_again false base64_of is.0 digits bytes rest is.2 (ap base64_of encodes ∙ url_safe_again bytes all)
  notation_again text bytes rest (in_base64 digits is all (inr encodes)) =
      ap (read_piece read) (digits_parts false (codes "b64'") text digits rest is)
      ∙ decoded_again false base64_of is.0 digits bytes rest is.2 (ap base64_of encodes ∙ standard_again bytes all)
  notation_again text bytes rest (as_text is) = ap (read_piece read) (quoted_parts 39 text bytes rest is)
      ∙ quoted_again 39 bytes rest apostrophe
  notation_again text bytes rest (as_items is listed encodes) = embedded_again is text rest listed
      ∙ ap (λ (b : List ℕ). Ok (b, rest)) (sym encodes)

  pub piece_again : (kind : StringKind) (text bytes rest : List ℕ) → PieceOf kind Reads text bytes
      → read_piece read (text ++ rest) ≡ Ok (bytes, rest)
  unfolding read_piece start_of
  piece_again Bytes text bytes rest is = notation_again text bytes rest is
  piece_again Text text bytes rest (inr is) = notation_again text bytes rest is
  piece_again Text text bytes rest (inl is) = ap (read_piece read) (quoted_parts 34 text bytes rest is)
      ∙ quoted_again 34 bytes rest quotation_mark

-- ---- several pieces

-- what pieces begin with, and what a string of each kind begins with
abbrev pub piece_starts : StringKind → List ℕ
piece_starts Bytes = codes "'<bh"
piece_starts Text = codes "'<bh\""

module _ (Reads : List ℕ → Item → Type 0) where
  notation_begins : (text bytes : List ℕ) → Notation Reads text bytes → Begins notation_starts text
  notation_begins text bytes (in_base16 digits is decodes) = subst (Begins notation_starts) (sym is.1) refl
  notation_begins text bytes (in_base32 digits is all encodes) = subst (Begins notation_starts) (sym is.1) refl
  notation_begins text bytes (in_base32hex digits is all encodes) = subst (Begins notation_starts) (sym is.1) refl
  notation_begins text bytes (in_base64 digits is all encodes) = subst (Begins notation_starts) (sym is.1) refl
  notation_begins text bytes (as_text is) = subst (Begins notation_starts) (sym is) refl
  notation_begins text bytes (as_items is listed encodes) = subst (Begins notation_starts) (sym listed.1) refl

  pub piece_begins : (kind : StringKind) (text bytes : List ℕ) → PieceOf kind Reads text bytes
      → Begins (piece_starts kind) text
  piece_begins Bytes text bytes is = notation_begins text bytes is
  piece_begins Text text bytes (inr is) =
      begins_more notation_starts (piece_starts Text) text refl (notation_begins text bytes is)
  piece_begins Text text bytes (inl is) = subst (Begins (piece_starts Text)) (sym is) refl

  pub joined_begins : (kind : StringKind) (text bytes : List ℕ) → Joined (PieceOf kind Reads) text bytes
      → Begins (piece_starts kind) text
  joined_begins kind text bytes (one is) = piece_begins kind text bytes is
  joined_begins kind text bytes (more first blank rest bytes_first bytes_rest text_is bytes_is is is_blank then) =
      subst (Begins (piece_starts kind)) (sym text_is)
      (begins_append (piece_starts kind) first (blank ++ rest) (piece_begins kind first bytes_first is))

-- all begin as pieces of texts may
pub any_piece : (kind : StringKind) (text : List ℕ) → Begins (piece_starts kind) text → Begins (piece_starts Text) text
any_piece Bytes text is = begins_more (piece_starts Bytes) (piece_starts Text) text refl is
any_piece Text text is = is

pub piece_starts_core : (kind : StringKind) (text : List ℕ) → Begins (piece_starts kind) text → Starts text
piece_starts_core kind text is = begins_more (piece_starts Text) core_starts text refl (any_piece kind text is)

begins_length : (bytes text : List ℕ) → Begins bytes text → 0 < length text
begins_length bytes [] is = absurd is
begins_length bytes (b ∷ text) is = omega arith

-- where a piece begins the pieces go on, and before what follows an item they end
goes_on : (kind : StringKind) (text : List ℕ) → Begins (piece_starts kind) text
    → begins_piece kind (first_start text) ≡ true
unfolding start_of
goes_on kind [] is = absurd is
goes_on Bytes (b ∷ text) is = holds_of (λ c. begins_piece Bytes (start_of c)) (piece_starts Bytes) b refl is
goes_on Text (b ∷ text) is = holds_of (λ c. begins_piece Text (start_of c)) (piece_starts Text) b refl is

ends_there : (kind : StringKind) (text : List ℕ) → Follows text → begins_piece kind (first_start text) ≡ false
unfolding start_of
ends_there kind [] follows = refl
ends_there kind (b ∷ text) follows = not-true (begins_piece kind (start_of b))
    (holds_of (λ c. not (begins_piece kind (start_of c))) item_ends b refl follows)

pub pieces_go : (read : List ℕ → Read Item) (kind : StringKind) (n : ℕ) (text : List ℕ)
    → begins_piece kind (first_start text) ≡ true
    → read_pieces read kind (suc n) text ≡ (read_piece read text >>= λ x. read_pieces read kind n (skip_blank x.1)
    >>= λ xs. Ok (x.0 ++ xs.0, xs.1))
unfolding read_pieces
pieces_go read kind n text e = rw (e, read_pieces) refl

pub pieces_stop : (read : List ℕ → Read Item) (kind : StringKind) (n : ℕ) (text : List ℕ)
    → begins_piece kind (first_start text) ≡ false → read_pieces read kind (suc n) text ≡ Ok ([], text)
unfolding read_pieces
pieces_stop read kind n text e = rw (e, read_pieces) refl

module _ (Reads : List ℕ → Item → Type 0) (read : List ℕ → Read Item) (it : ReadsAgain Reads read) where
  pub joined_again : (kind : StringKind) (n : ℕ) (text bytes after rest : List ℕ) → length text < n → IsBlank after
      → Follows rest → Joined (PieceOf kind Reads) text bytes
      → read_pieces read kind n (text ++ (after ++ rest)) ≡ Ok (bytes, rest)
  joined_again kind zero text bytes after rest lt is_blank follows is = absurd (omega arith)
  joined_again kind (suc zero) text bytes after rest lt is_blank follows is =
      absurd (omega (arith, begins_length (piece_starts kind) text (joined_begins Reads kind text bytes is)))
  joined_again kind (suc (suc n)) text bytes after rest lt is_blank follows (one is) =
      rw (
        pieces_go read kind (suc n) (text ++ (after ++ rest))
            (goes_on kind (text ++ (after ++ rest))
            (begins_append (piece_starts kind) text (after ++ rest) (piece_begins Reads kind text bytes is))),
        piece_again Reads read it kind text bytes (after ++ rest) is,
        follows_passed after rest is_blank follows,
        pieces_stop read kind n rest (ends_there kind rest follows),
        append-nil bytes,
      ) refl
  joined_again kind (suc (suc n)) text bytes after rest lt is_blank follows
      (more first blank others bytes_first bytes_rest text_is bytes_is is blank_is then) =
      let tail : List ℕ = others ++ (after ++ rest) in
      let whole : text ++ (after ++ rest) ≡ first ++ (blank ++ tail) = ap (λ (t : List ℕ). t ++ (after ++ rest)) text_is
      ∙ (append_assoc first (blank ++ others) (after ++ rest)
      ∙ ap (λ (t : List ℕ). first ++ t) (append_assoc blank others (after ++ rest))) in
      let begins = piece_begins Reads kind first bytes_first is in
      let starts : Starts tail = piece_starts_core kind tail
      (begins_append (piece_starts kind) others (after ++ rest)
      (joined_begins Reads kind others bytes_rest then)) in
      let shorter : length others < suc n = omega (
        arith,
        ap length text_is,
        length-append first (blank ++ others),
        length-append blank others,
        begins_length (piece_starts kind) first begins,
      ) in
      rw (
        whole,
        pieces_go read kind (suc n) (first ++ (blank ++ tail))
            (goes_on kind (first ++ (blank ++ tail)) (begins_append (piece_starts kind) first (blank ++ tail) begins)),
        piece_again Reads read it kind first bytes_first (blank ++ tail) is,
        starts_passed blank tail blank_is starts,
        joined_again kind (suc n) others bytes_rest after rest shorter is_blank follows then,
        bytes_is,
      ) refl
