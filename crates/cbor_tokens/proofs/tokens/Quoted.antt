-- For any quote but the backslash, `unquoted` returns content and a rest if and only if the text is this content as it
-- is written between quotes (`in_quotes`), then the quote, then the rest. For the loop of `quoted_front`: each byte
-- before the next quote or backslash is itself content.
use Rattle.std.proofs.Common.{◌≡◌, ◌≢◌, ◌⊎◌, ℕ, ◌-◌, ◌<◌, ◌≤◌, Bool, true, false, ◌==◌, List, [], ◌∷◌, ◌++◌, length}
use Rattle.std.proofs.Common.{get_or, take, drop, Option, Some, None, refl, sym, ap, ◌∙◌, inl, inr, eq-eqb}
use Rattle.std.proofs.Common.{arith}
use Rattle.std.specs.List.{position_or_len}
use Rattle.std.proofs.lemmas.List.{append_assoc, append-nil, get_or-drop, length-drop, nil_from_length}
use Rattle.std.proofs.lemmas.List.Sums.{passes_at_first}
use Rattle.std.proofs.lemmas.Bool.{or_parts, eqb-true, ne_eqb, cases_Bool}
use Rattle.std.proofs.Math.Numerals.{one-add}
use Rattle.cbor_tokens.specs.Token.{is_special, escaped_byte, in_quotes}
use Rattle.cbor_tokens.specs.TokenReading.{with_front, unquoted}
use Rattle.cbor_tokens.proofs.tokens.TextPlaces.{place_after}
use Rattle.cbor_tokens.proofs.tokens.Contents.{from_front, with_front-append, with_front-nil}

-- the text that is read, with the `\` before it in an escape
abbrev opened : Bool → List ℕ → List ℕ
opened false text = text
opened true text = 92 ∷ text

-- one more byte of content
step : (quote byte : ℕ) (piece rest : List ℕ) (read next : List ℕ × List ℕ) → piece ≡ escaped_byte quote byte
    → rest ≡ in_quotes quote next.0 ++ quote ∷ next.1 → read.0 ≡ (byte ∷ []) ++ next.0 → read.1 ≡ next.1
    → piece ++ rest ≡ in_quotes quote read.0 ++ quote ∷ read.1
step quote byte piece rest read next piece_is rest_is content after =
    rw (content, after, piece_is, rest_is) (sym
    (append_assoc (escaped_byte quote byte) (in_quotes quote next.0) (quote ∷ next.1)))

plain : (quote byte : ℕ) → (byte == quote) ≡ false → (byte == 92) ≡ false → escaped_byte quote byte ≡ byte ∷ []
plain quote byte not_quote not_backslash = rw (not_quote, not_backslash) refl

escaped : (quote byte : ℕ) → is_special quote byte ≡ true → escaped_byte quote byte ≡ 92 ∷ byte ∷ []
escaped quote byte is = rw is refl

-- what is read is the content of quotes
read_in : (quote : ℕ) (escape : Bool) (text : List ℕ) (read : List ℕ × List ℕ) → unquoted quote escape text ≡ Some read
    → opened escape text ≡ in_quotes quote read.0 ++ quote ∷ read.1
read_in quote false [] read is = cc is
read_in quote true [] read is = cc is
read_in quote true (byte ∷ rest) read is =
    elim (cases_Bool (is_special quote byte)) [
      | inl special ↦
          let next = from_front (byte ∷ []) (unquoted quote false rest) read (rw special at is) in
          step quote byte (92 ∷ byte ∷ []) rest read next.0 (sym (escaped quote byte special))
          (read_in quote false rest next.0 next.1) next.2 next.3
      | inr no_escape ↦ let never : ◌≡◌ {A = Option (List ℕ × List ℕ)} None (Some read) = rw no_escape at is in cc never
    ]
read_in quote false (byte ∷ rest) read is =
    elim (cases_Bool (byte == quote)) [
      | inl closes ↦
          let same : ◌≡◌ {A = Option (List ℕ × List ℕ)} (Some ([], rest)) (Some read) = rw closes at is in
          let pair : ◌≡◌ {A = List ℕ × List ℕ} ([], rest) read = cc same in
          ap (λ (b : ℕ). b ∷ rest) (eqb-true byte quote closes)
          ∙ ap (λ (r : List ℕ × List ℕ). in_quotes quote r.0 ++ quote ∷ r.1) pair
      | inr goes_on ↦
          elim (cases_Bool (byte == 92)) [
            | inl opens ↦ ap (λ (b : ℕ). b ∷ rest) (eqb-true byte 92 opens)
                ∙ read_in quote true rest read (rw (goes_on, opens) at is)
            | inr plain_byte ↦
                let next = from_front (byte ∷ []) (unquoted quote false rest) read (rw (goes_on, plain_byte) at is) in
                step quote byte (byte ∷ []) rest read next.0 (sym (plain quote byte goes_on plain_byte))
                (read_in quote false rest next.0 next.1) next.2 next.3
          ]
    ]

pub in_quotes-unquoted : (quote : ℕ) (text : List ℕ) (read : List ℕ × List ℕ) → unquoted quote false text ≡ Some read
    → text ≡ in_quotes quote read.0 ++ quote ∷ read.1
in_quotes-unquoted quote text read is = read_in quote false text read is

-- the content of quotes is read
unquoted-piece : (quote byte : ℕ) (rest : List ℕ) → quote ≢ 92
    → unquoted quote false (escaped_byte quote byte ++ rest) ≡ with_front (byte ∷ []) (unquoted quote false rest)
unquoted-piece quote byte rest apart =
    elim (cases_Bool (is_special quote byte)) [
      | inl special ↦ rw (escaped quote byte special, ne_eqb 92 quote (λ is. apart (sym is)), special) refl
      | inr no_escape ↦
          let parts = or_parts (byte == quote) (byte == 92) no_escape in
          rw (plain quote byte parts.0 parts.1, parts.0, parts.1) refl
    ]

pub unquoted-in_quotes : (quote : ℕ) (content rest : List ℕ) → quote ≢ 92
    → unquoted quote false (in_quotes quote content ++ quote ∷ rest) ≡ Some (content, rest)
unquoted-in_quotes quote [] rest apart = rw (eq-eqb quote quote refl) refl
unquoted-in_quotes quote (byte ∷ content) rest apart =
    ap (unquoted quote false) (append_assoc (escaped_byte quote byte) (in_quotes quote content) (quote ∷ rest))
    ∙ (unquoted-piece quote byte (in_quotes quote content ++ quote ∷ rest) apart
    ∙ ap (with_front (byte ∷ [])) (unquoted-in_quotes quote content rest apart))

-- the content between quotes is determined
pub in_quotes-one : (quote : ℕ) (content rest other after : List ℕ) → quote ≢ 92
    → in_quotes quote content ++ quote ∷ rest ≡ in_quotes quote other ++ quote ∷ after
    → (content ≡ other) × (rest ≡ after)
in_quotes-one quote content rest other after apart is =
    let same : ◌≡◌ {A = Option (List ℕ × List ℕ)} (Some (content, rest)) (Some (other, after)) =
    sym (unquoted-in_quotes quote content rest apart)
    ∙ (ap (unquoted quote false) is ∙ unquoted-in_quotes quote other after apart) in
    let pair : ◌≡◌ {A = List ℕ × List ℕ} (content, rest) (other, after) = cc same in
    (ap (λ (r : List ℕ × List ℕ). r.0) pair, ap (λ (r : List ℕ × List ℕ). r.1) pair)

-- up to the first quote or `\`, each byte is itself
pub unquoted-plain : (quote : ℕ) (text : List ℕ)
    → let n = position_or_len (is_special quote) text in unquoted quote false text ≡ with_front (take n text)
    (unquoted quote false (drop n text))
unquoted-plain quote [] = refl
unquoted-plain quote (byte ∷ rest) =
    elim (cases_Bool (is_special quote byte)) [
      | inl special ↦ rw special (sym (with_front-nil (unquoted quote false (byte ∷ rest))))
      | inr no_escape ↦
          let parts = or_parts (byte == quote) (byte == 92) no_escape in
          let n = position_or_len (is_special quote) rest in
          rw (no_escape, parts.0, parts.1, one-add n) (ap (with_front (byte ∷ [])) (unquoted-plain quote rest)
          ∙ with_front-append (byte ∷ []) (take n rest) (unquoted quote false (drop n rest)))
    ]

pub plain_read : (quote : ℕ) (text piece rest : List ℕ) → let n = position_or_len (is_special quote) text in
    piece ≡ take n text → rest ≡ drop n text → unquoted quote false text ≡ with_front piece (unquoted quote false rest)
plain_read quote text piece rest front back = rw (front, back) (unquoted-plain quote text)

-- a quote or a `\` is the first byte behind them
pub special_first : (quote : ℕ) (text rest : List ℕ) → rest ≡ drop (position_or_len (is_special quote) text) text
    → 1 ≤ length rest → is_special quote (get_or rest 0 0) ≡ true
special_first quote text rest is some =
    let n = position_or_len (is_special quote) text in
    let byte : get_or rest 0 0 ≡ get_or text n 0 = rw is (get_or-drop n text 0 0
    ∙ ap (λ (m : ℕ). get_or text m 0) (omega arith)) in
    rw byte (passes_at_first (is_special quote) text 0 (omega (arith, ap length is, length-drop n text)))

pub plain_to_end : (quote : ℕ) (text rest : List ℕ) → rest ≡ drop (position_or_len (is_special quote) text) text
    → length rest < 1 → unquoted quote false text ≡ None
plain_to_end quote text rest is none =
    let n = position_or_len (is_special quote) text in
    unquoted-plain quote text ∙ ap (λ (t : List ℕ). with_front (take n text) (unquoted quote false t))
    (sym is ∙ nil_from_length rest (omega arith))

-- the quote closes
pub closes : (quote : ℕ) (rest : List ℕ) → unquoted quote false (quote ∷ rest) ≡ Some ([], rest)
closes quote rest = rw (eq-eqb quote quote refl) refl

pub closed : (quote : ℕ) (text piece : List ℕ) (byte : ℕ) (after : List ℕ)
    → unquoted quote false text ≡ with_front piece (unquoted quote false (byte ∷ after)) → byte ≡ quote
    → unquoted quote false text ≡ Some (piece, after)
closed quote text piece byte after is same =
    is ∙ (ap (λ (b : ℕ). with_front piece (unquoted quote false (b ∷ after))) same
    ∙ (ap (with_front piece) (closes quote after) ∙ ap (λ (t : List ℕ). Some (t, after)) (append-nil piece)))

-- what is read and what is left, by its place
pub quoted_place : (quote : ℕ) (text content rest : List ℕ) → unquoted quote false text ≡ Some (content, rest)
    → unquoted quote false text ≡ Some (content, drop (length text - length rest) text)
quoted_place quote text content rest read =
    let place = place_after text (in_quotes quote content) rest quote
    (in_quotes-unquoted quote text (content, rest) read) in
    read ∙ ap (λ (t : List ℕ). Some (content, t)) (sym place)

-- what the result says of the text: this content and this rest, or none
pub only_quoted : (quote : ℕ) (text content rest : List ℕ) → quote ≢ 92
    → unquoted quote false text ≡ Some (content, rest) → (other after : List ℕ)
    → text ≡ in_quotes quote other ++ quote ∷ after → (content ≡ other) × (rest ≡ after)
only_quoted quote text content rest apart read other after is =
    in_quotes-one quote content rest other after apart (sym (in_quotes-unquoted quote text (content, rest) read) ∙ is)

pub none_quoted : (quote : ℕ) (text : List ℕ) → quote ≢ 92 → unquoted quote false text ≡ None → (other after : List ℕ)
    → text ≡ in_quotes quote other ++ quote ∷ after → ⊥
none_quoted quote text apart read other after is =
    let never : ◌≡◌ {A = Option (List ℕ × List ℕ)} None (Some (other, after)) = sym read
    ∙ (ap (unquoted quote false) is ∙ unquoted-in_quotes quote other after apart) in cc never

pub no_backslash : (quote : ℕ) → (quote ≡ 34) ⊎ (quote ≡ 39) → quote ≢ 92
no_backslash quote is same = elim is [
  | inl e ↦ absurd (omega (arith, e, same))
  | inr e ↦ absurd
      (omega (arith, e, same))
]
