-- The escaped characters of a text (`escaped_text`) and an escaped quote are pieces of a JSON string (`Fills`). A piece
-- between quotes is an `IsString`: the lexer reads it as one string, and two such strings with the same meaning are the
-- same text.
use Rattle.std.proofs.Common.{◌≡◌, ℕ, ◌/◌, ◌%◌, ◌+◌, ◌*◌, ◌<◌, ◌≤◌, List, [], ◌∷◌, ◌++◌, Bool, true, false, Some}
use Rattle.std.proofs.Common.{◌==◌, if◌then◌else◌, codes, refl, inl, inr, sym, ap, ap₂, subst, ◌∙◌, arith}
use Rattle.std.proofs.Common.{append_assoc, slice_index}
use Rattle.std.proofs.Math.Utf8.{encode, encodes}
use Rattle.std.proofs.lemmas.Bool.{cases_lt, agree_below_at, eqb-true}
use Rattle.std.proofs.lemmas.Bool.Decides.{nat_tests}
use Rattle.std.proofs.lemmas.List.{append-nil}
use Rattle.std.proofs.lemmas.Str.{encodes_same}
use Rattle.std.specs.Char.{digit_value, is_digit, encode_utf8}
use Rattle.std.specs.List.{flat_map}
use Rattle.std.specs.Str.{chars}
use Rattle.hex.specs.Hex.{encode_lower, encode_with, lower_digits}
use Rattle.json.specs.Lex.{token, string_token, lex, between, in_string}
use Rattle.json.specs.Text.{content, plain, prepend, code_unit, short_escape, is_high_surrogate, is_low_surrogate}
use Rattle.json.specs.Token.{string}
use Rattle.cbor_tokens.specs.Escapes.{is_hidden, escaped_char, unit_escape, escaped_text}
use Rattle.cbor_json.specs.JsonLeaves.{in_quotes}
use Rattle.cbor_json.proofs.json.Fills.{Shows, shows_then, shows_byte, Fills, fills_nothing, fills_then, plain_char}
use Rattle.cbor_json.proofs.json.Fills.{calm_fills}
use Rattle.cbor_json.proofs.json.Digits.{hex_calm}

-- ---- escapes

-- a backslash and a letter
two_bytes : (a b : ℕ) → 32 ≤ a → a ≤ 126 → 32 ≤ b → b ≤ 126 → Shows (a ∷ b ∷ [])
two_bytes a b al ah bl bh = shows_then {a = a ∷ []} (shows_byte a al ah) (shows_byte b bl bh)

quote_fills : Fills (codes "\\\"")
unfolding content lex short_escape encode
quote_fills = record {
  means = 34 ∷ [];
  characters = 34 ∷ [];
  spells = refl;
  escaped = refl;
  read = λ r. refl;
  lexed = λ r. refl;
  shows = two_bytes 92 34 (omega arith) (omega arith) (omega arith) (omega arith);
}

backslash_fills : Fills (codes "\\\\")
unfolding content lex short_escape encode
backslash_fills = record {
  means = 92 ∷ [];
  characters = 92 ∷ [];
  spells = refl;
  escaped = refl;
  read = λ r. refl;
  lexed = λ r. refl;
  shows = two_bytes 92 92 (omega arith) (omega arith) (omega arith) (omega arith);
}

letter_fills : (x c : ℕ) → (x == 117) ≡ false → short_escape x ≡ Some c → (x == 34) ≡ false → 32 ≤ x → x ≤ 126
    → c ∷ [] ≡ encodes (c ∷ []) → 92 ∷ x ∷ [] ≡ escaped_char c ++ [] → Fills (92 ∷ x ∷ [])
unfolding content lex
letter_fills x c no_u is q low high spells escaped = record {
  means = c ∷ [];
  characters = c ∷ [];
  spells = spells;
  escaped = escaped;
  read = λ r. rw (no_u, is) refl;
  lexed = λ r. refl;
  shows = two_bytes 92 x (omega arith) (omega arith) low high;
}

-- ---- four hex digits

abbrev hex : ℕ → ℕ
hex k = slice_index lower_digits k

hex_is : (k : ℕ) → k < 16 → is_digit (hex k) 16 ≡ true
hex_is k lt = agree_below_at (λ k. is_digit (hex k) 16) (λ k. true) 16 k refl lt

hex_value : (k : ℕ) → k < 16 → digit_value (hex k) ≡ k
hex_value k lt =
    eqb-true (digit_value (hex k)) k (agree_below_at (λ k. digit_value (hex k) == k) (λ k. true) 16 k refl lt)

unit_of : (a b c d : ℕ) → a < 16 → b < 16 → c < 16 → d < 16
    → code_unit (hex a) (hex b) (hex c) (hex d) ≡ Some (a * 4096 + b * 256 + c * 16 + d)
unfolding code_unit
unit_of a b c d la lb lc ld =
    rw (hex_is a la, hex_is b lb, hex_is c lc, hex_is d ld)
    (rw (hex_value a la, hex_value b lb, hex_value c lc, hex_value d ld) refl)

low_of : (c : ℕ) → is_hidden c ≡ true → c < 65536
low_of c h = elim (cases_lt c 65536) [
  | inl lt ↦ lt
  | inr le ↦ absurd (let q = not_hidden c le in let wrong : true ≡ false = sym h ∙ q in cc)
]
  where
    not_hidden : (c : ℕ) → 65536 ≤ c → is_hidden c ≡ false
    not_hidden c le = grind (arith, nat_tests)

no_high : (c : ℕ) → is_hidden c ≡ true → is_high_surrogate c ≡ false
no_high c h = grind (arith, nat_tests, h)

no_low : (c : ℕ) → is_hidden c ≡ true → is_low_surrogate c ≡ false
no_low c h = grind (arith, nat_tests, h)

after_u : (t : List ℕ) → Fills t → (r : List ℕ) → lex in_string (92 ∷ 117 ∷ (t ++ r)) ≡ lex in_string r
unfolding lex
after_u t f r = f.lexed r

module _ (c : ℕ) (hidden : is_hidden c ≡ true) (escaped : escaped_char c ≡ unit_escape c) where
  unit_is : code_unit (hex (c / 256 / 16)) (hex (c / 256 % 16)) (hex (c % 256 / 16)) (hex (c % 256 % 16)) ≡ Some c
  unit_is =
      let low = low_of c hidden in
      let same : c / 256 / 16 * 4096 + c / 256 % 16 * 256 + c % 256 / 16 * 16 + c % 256 % 16 ≡ c = omega (arith, low) in
      unit_of (c / 256 / 16) (c / 256 % 16) (c % 256 / 16) (c % 256 % 16) (omega (arith, low)) (omega arith)
      (omega arith) (omega arith) ∙ ap Some same

  unit_read : (r : List ℕ) → content plain (unit_escape c ++ r) ≡ prepend (encode_utf8 c) (content plain r)
  unfolding content encode_with
  unit_read r = rw (unit_is, no_high c hidden, no_low c hidden) refl

  pub unit_fills : Fills (unit_escape c)
  unit_fills =
      let low = low_of c hidden in
      let digits = calm_fills (encode_lower (c / 256 ∷ c % 256 ∷ [])) (hex_calm (c / 256 ∷ c % 256 ∷ [])
      (omega (arith, low), (omega arith, tt))) in
      record {
        means = encode_utf8 c;
        characters = c ∷ [];
        spells = sym (append-nil (encode c));
        escaped = sym (append-nil (unit_escape c)) ∙ ap (λ x. x ++ []) (sym escaped);
        read = unit_read;
        lexed = λ r. after_u _ digits r;
        shows = shows_then {a = 92 ∷ 117 ∷ []}
            (two_bytes 92 117 (omega arith) (omega arith) (omega arith) (omega arith)) digits.shows;
      }

-- ---- a text

-- one case of a chain of tests
pub chosen : (P : List ℕ → Type 0) (test : Bool) (a b : List ℕ) → (test ≡ true → P a) → (test ≡ false → P b)
    → P (if test then a else b)
chosen P true a b h k = h refl
chosen P false a b h k = k refl

char_fills : (c : ℕ) → Fills (escaped_char c)
unfolding short_escape encode
char_fills c =
    chosen Fills (c == 34) _ _ (λ e. quote_fills) (λ no_quote.
    chosen Fills (c == 92) _ _ (λ e. backslash_fills) (λ no_escape.
    chosen Fills (c == 10) _ _ (λ e. letter_fills 110 10 refl refl refl (omega arith) (omega arith) refl refl)
    (λ no_10.
    chosen Fills (c == 13) _ _ (λ e. letter_fills 114 13 refl refl refl (omega arith) (omega arith) refl refl)
    (λ no_13.
    chosen Fills (c == 9) _ _ (λ e. letter_fills 116 9 refl refl refl (omega arith) (omega arith) refl refl)
    (λ no_9.
    chosen Fills (c == 8) _ _ (λ e. letter_fills 98 8 refl refl refl (omega arith) (omega arith) refl refl)
    (λ no_8.
    chosen Fills (c == 12) _ _ (λ e. letter_fills 102 12 refl refl refl (omega arith) (omega arith) refl refl)
    (λ no_12.
    chosen Fills (is_hidden c) (unit_escape c) (encode c) (λ h. unit_fills c h
    (rw (no_quote, no_escape, no_10, no_13, no_9, no_8, no_12, h) refl))
    (λ shown. plain_char c shown no_quote no_escape))))))))

chars_fill : (cs : List ℕ) → Fills (flat_map escaped_char cs)
chars_fill [] = fills_nothing
chars_fill (c ∷ cs) = fills_then (char_fills c) (chars_fill cs)

-- any text, escaped
pub escaped_fills : (t : List ℕ) → Fills (escaped_text t)
escaped_fills t = chars_fill (chars t)

-- a quote that is escaped
pub quote_escaped : Fills (codes "\\\"")
quote_escaped = quote_fills

-- ---- strings

-- the lexer takes the text as a string, whatever follows
pub record IsString (t : List ℕ) : Type 0 where
  pub means : List ℕ
  pub characters : List ℕ
  pub spells : means ≡ encodes characters
  pub written : t ≡ 34 ∷ (flat_map escaped_char characters ++ 34 ∷ [])
  pub lexed : (r : List ℕ) → lex between (t ++ r) ≡ token (string means) ∷ lex between r
  pub shows : Shows t

string_lexed : (s : List ℕ) (f : Fills s) (r : List ℕ)
    → lex between (34 ∷ (s ++ 34 ∷ r)) ≡ token (string (f.means ++ [])) ∷ lex between r
unfolding lex content
string_lexed s f r =
    ap₂ (λ o l. token (string_token o) ∷ l) (f.read (34 ∷ r)) (f.lexed (34 ∷ r))

pub is_string : (s t : List ℕ) → Fills s → t ≡ 34 ∷ (s ++ 34 ∷ []) → IsString t
is_string s t f is = subst IsString (sym is) (record {
  means = f.means ++ [];
  characters = f.characters;
  spells = append-nil f.means ∙ f.spells;
  written = ap (λ x. 34 ∷ (x ++ 34 ∷ [])) f.escaped;
  lexed = λ r. ap (λ l. lex between (34 ∷ l)) (append_assoc s (34 ∷ []) r) ∙ string_lexed s f r;
  shows = shows_then {a = 34 ∷ []} (shows_byte 34 (omega arith) (omega arith))
      (shows_then f.shows (shows_byte 34 (omega arith) (omega arith)));
})

-- one meaning is written in one way
pub same_string : (s t : List ℕ) (a : IsString s) (b : IsString t) → a.means ≡ b.means → s ≡ t
same_string s t a b same =
    a.written ∙ ap (λ cs. 34 ∷ (flat_map escaped_char cs ++ 34 ∷ []))
    (encodes_same a.characters b.characters (sym a.spells ∙ same ∙ b.spells)) ∙ sym b.written

pub string_in_quotes : (s : List ℕ) → Fills s → IsString (in_quotes s)
string_in_quotes s f = is_string s (in_quotes s) f refl
