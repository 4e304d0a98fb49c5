-- The definition `Fills`, a piece of a JSON string between its quotes: it is some characters, escaped by
-- `escaped_char`, and a reader takes it whatever follows. Such pieces are the empty text, two pieces in a row, `Calm`
-- texts (printable ASCII without quotes and backslashes), and each visible character that needs no escape.
use Rattle.std.proofs.Common.{◌≡◌, ℕ, ◌≤◌, List, [], ◌∷◌, ◌++◌, Bool, true, false, Option, Some, None}
use Rattle.std.proofs.Common.{◌==◌, ◌&&◌, ◌||◌, not, cond, nat_le, refl, inl, inr, sym, ap, subst, ◌∙◌, arith}
use Rattle.std.proofs.Common.{append_assoc}
use Rattle.std.proofs.Math.Utf8.{encode, encodes}
use Rattle.std.proofs.lemmas.Bool.{cases_lt, le-ltb}
use Rattle.std.proofs.lemmas.Bool.Decides.{nat_tests}
use Rattle.std.proofs.lemmas.List.{append-nil}
use Rattle.std.proofs.lemmas.Grind.{flat_map-append}
use Rattle.std.proofs.lemmas.Str.{encode_ascii, encodes-append}
use Rattle.std.specs.List.{AllByRecursion, flat_map}
use Rattle.json.specs.Lex.{Lexeme, Mode, lex, lex_byte, in_string, operator, space, other}
use Rattle.json.specs.Text.{content, plain, prepend}
use Rattle.json.specs.Word.{is_operator, is_space}
use Rattle.cbor_tokens.specs.Escapes.{is_hidden, escaped_char}
use Rattle.cbor_tokens.proofs.escaping.High.{High, high_encode}

-- ---- characters

abbrev pub NotHidden : ℕ → Type 0
NotHidden c = is_hidden c ≡ false

pub all_append : (P : ℕ → Type 0) (xs ys : List ℕ) → AllByRecursion P xs → AllByRecursion P ys
    → AllByRecursion P (xs ++ ys)
all_append P [] ys h k = k
all_append P (x ∷ xs) ys h k = (h.0, all_append P xs ys h.1 k)

-- the text is characters that are shown
pub record Shows (t : List ℕ) : Type 0 where
  pub characters : List ℕ
  pub spelled : t ≡ encodes characters
  pub shown : AllByRecursion NotHidden characters

pub shows_nothing : Shows []
shows_nothing = record { characters = []; spelled = refl; shown = tt }

pub shows_then : {a b : List ℕ} → Shows a → Shows b → Shows (a ++ b)
shows_then {a} {b} p q = record {
  characters = p.characters ++ q.characters;
  spelled = ap (λ x. x ++ b) p.spelled ∙ ap (λ x. encodes p.characters ++ x) q.spelled
      ∙ sym (encodes-append p.characters q.characters);
  shown = all_append NotHidden p.characters q.characters p.shown q.shown;
}

-- a character of ASCII that prints
pub shows_byte : (b : ℕ) → 32 ≤ b → b ≤ 126 → Shows (b ∷ [])
shows_byte b low high = record {
  characters = b ∷ [];
  spelled = ap (λ x. x ++ []) (sym (encode_ascii b (omega (arith, high))));
  shown = (grind (arith, nat_tests, low, high), tt);
}

-- ---- pieces

-- The reader of strings takes the piece, whatever follows, and does not end in it. It is some characters, escaped as
-- they are here.
pub record Fills (t : List ℕ) : Type 0 where
  pub means : List ℕ
  pub characters : List ℕ
  pub spells : means ≡ encodes characters
  pub escaped : t ≡ flat_map escaped_char characters
  pub read : (r : List ℕ) → content plain (t ++ r) ≡ prepend means (content plain r)
  pub lexed : (r : List ℕ) → lex in_string (t ++ r) ≡ lex in_string r
  pub shows : Shows t

prepend_none : (o : Option (List ℕ)) → o ≡ prepend [] o
prepend_none (Some s) = refl
prepend_none None = refl

prepend_both : (a b : List ℕ) (o : Option (List ℕ)) → prepend a (prepend b o) ≡ prepend (a ++ b) o
prepend_both a b (Some s) = ap Some (sym (append_assoc a b s))
prepend_both a b None = refl

pub fills_nothing : Fills []
fills_nothing = record {
  means = [];
  characters = [];
  spells = refl;
  escaped = refl;
  read = λ r. prepend_none (content plain r);
  lexed = λ r. refl;
  shows = shows_nothing;
}

pub fills_then : {a b : List ℕ} → Fills a → Fills b → Fills (a ++ b)
fills_then {a} {b} p q = record {
  means = p.means ++ q.means;
  characters = p.characters ++ q.characters;
  spells = ap (λ x. x ++ q.means) p.spells ∙ ap (λ x. encodes p.characters ++ x) q.spells
      ∙ sym (encodes-append p.characters q.characters);
  escaped = ap (λ x. x ++ b) p.escaped ∙ ap (λ x. flat_map escaped_char p.characters ++ x) q.escaped
      ∙ sym (flat_map-append escaped_char p.characters q.characters);
  read = λ r. ap (content plain) (append_assoc a b r) ∙ p.read (b ++ r) ∙ ap (prepend p.means) (q.read r)
      ∙ prepend_both p.means q.means (content plain r);
  lexed = λ r. ap (lex in_string) (append_assoc a b r) ∙ p.lexed (b ++ r) ∙ q.lexed r;
  shows = shows_then p.shows q.shows;
}

stays_inside : (o s : Bool) (x : ℕ) (r : List ℕ) (k : Mode → List Lexeme)
    → lex_byte in_string (cond o operator (cond s space other)) x r k ≡ k in_string
stays_inside true s x r k = refl
stays_inside false true x r k = refl
stays_inside false false x r k = refl

-- a byte that is no quote, no backslash and no control character
byte_read : (x : ℕ) (r : List ℕ) → (x == 34) ≡ false → (x == 92) ≡ false → 32 ≤ x
    → content plain (x ∷ r) ≡ prepend (x ∷ []) (content plain r)
unfolding content
byte_read x r q b low = rw (q, b, le-ltb x 32 low) refl

byte_lexed : (x : ℕ) (r : List ℕ) → (x == 34) ≡ false → (x == 92) ≡ false → lex in_string (x ∷ r) ≡ lex in_string r
unfolding lex
byte_lexed x r q b = rw (q, b) (stays_inside (is_operator x) (is_space x) x r (λ m. lex m r))

-- ---- bytes that stand for themselves

abbrev pub is_calm : ℕ → Bool
is_calm b = nat_le 32 b && (nat_le b 126 && not ((b == 34) || (b == 92)))

abbrev pub Calm : List ℕ → Type 0
Calm t = AllByRecursion (λ b. is_calm b ≡ true) t

abbrev pub all_calm : List ℕ → Bool
all_calm [] = true
all_calm (b ∷ bs) = is_calm b && all_calm bs

-- a character that is none of those with an escape
escaped_plain : (c : ℕ) → is_hidden c ≡ false → (c == 34) ≡ false → (c == 92) ≡ false → escaped_char c ≡ encode c
escaped_plain c shown no_quote no_escape =
    let a : (c == 10) ≡ false = grind (arith, nat_tests, shown) in
    let b : (c == 13) ≡ false = grind (arith, nat_tests, shown) in
    let d : (c == 9) ≡ false = grind (arith, nat_tests, shown) in
    let e : (c == 8) ≡ false = grind (arith, nat_tests, shown) in
    let f : (c == 12) ≡ false = grind (arith, nat_tests, shown) in
    rw (no_quote, no_escape, a, b, d, e, f, shown) refl

calm_byte : (b : ℕ) → is_calm b ≡ true → Fills (b ∷ [])
calm_byte b h =
    let q : (b == 34) ≡ false = grind (arith, nat_tests, h) in
    let s : (b == 92) ≡ false = grind (arith, nat_tests, h) in
    let low : 32 ≤ b = grind (arith, nat_tests, h) in
    let high : b ≤ 126 = grind (arith, nat_tests, h) in
    let hidden : is_hidden b ≡ false = grind (arith, nat_tests, low, high) in
    let spelled : b ∷ [] ≡ encode b ++ [] = ap (λ x. x ++ []) (sym (encode_ascii b (omega (arith, high)))) in
    record {
      means = b ∷ [];
      characters = b ∷ [];
      spells = spelled;
      escaped = spelled ∙ ap (λ x. x ++ []) (sym (escaped_plain b hidden q s));
      read = λ r. byte_read b r q s low;
      lexed = λ r. byte_lexed b r q s;
      shows = shows_byte b low high;
    }

pub calm_fills : (t : List ℕ) → Calm t → Fills t
calm_fills [] h = fills_nothing
calm_fills (b ∷ bs) h = fills_then {a = b ∷ []} (calm_byte b h.0) (calm_fills bs h.1)

and_true : (a b : Bool) → (a && b) ≡ true → (a ≡ true) × (b ≡ true)
and_true true b h = (refl, h)
and_true false b h = absurd cc

calm_of : (t : List ℕ) → all_calm t ≡ true → Calm t
calm_of [] h = tt
calm_of (b ∷ bs) h = let both = and_true (is_calm b) (all_calm bs) h in (both.0, calm_of bs both.1)

-- a constant text
pub constant : (t : List ℕ) → all_calm t ≡ true → Fills t
constant t h = calm_fills t (calm_of t h)

pub calm_append : (a b : List ℕ) → Calm a → Calm b → Calm (a ++ b)
calm_append a b h k = all_append (λ b. is_calm b ≡ true) a b h k

pub calm_constant : (t : List ℕ) → all_calm t ≡ true → Calm t
calm_constant t h = calm_of t h

-- ---- other characters

high_read : (t r : List ℕ) → High t → content plain (t ++ r) ≡ prepend t (content plain r)
high_read [] r h = prepend_none (content plain r)
high_read (b ∷ t) r h =
    let low : 128 ≤ b = h.0 in
    byte_read b (t ++ r) (grind (arith, nat_tests, low)) (grind (arith, nat_tests, low)) (omega (arith, low))
    ∙ ap (prepend (b ∷ [])) (high_read t r h.1) ∙ prepend_both (b ∷ []) t (content plain r)

high_lexed : (t r : List ℕ) → High t → lex in_string (t ++ r) ≡ lex in_string r
high_lexed [] r h = refl
high_lexed (b ∷ t) r h =
    let low : 128 ≤ b = h.0 in
    byte_lexed b (t ++ r) (grind (arith, nat_tests, low)) (grind (arith, nat_tests, low)) ∙ high_lexed t r h.1

pub plain_char : (c : ℕ) → is_hidden c ≡ false → (c == 34) ≡ false → (c == 92) ≡ false → Fills (encode c)
plain_char c shown no_quote no_escape = elim (cases_lt c 128) [
  | inl a ↦ subst Fills (sym (encode_ascii c a))
      (calm_byte c (grind (arith, nat_tests, shown, a, no_quote, no_escape)))
  | inr a ↦
      let high = high_encode c a in
      record {
        means = encode c;
        characters = c ∷ [];
        spells = sym (append-nil (encode c));
        escaped = sym (append-nil (encode c)) ∙ ap (λ x. x ++ []) (sym (escaped_plain c shown no_quote no_escape));
        read = λ r. high_read (encode c) r high;
        lexed = λ r. high_lexed (encode c) r high;
        shows = record {
          characters = c ∷ [];
          spelled = sym (append-nil (encode c));
          shown = (shown, tt);
        };
      }
]
