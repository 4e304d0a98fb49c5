-- The definition `Runs`: a text leads from one state to another (in quotes, in a comment or in neither), no character
-- in it is hidden, and its line feeds are outside of quotes and comments. The empty text, two such texts in a row,
-- printable ASCII (`scan`, `steady`) and a line end are such texts.
use Rattle.std.proofs.Common.{◌≡◌, inl, inr, ℕ, zero, suc, ◌≤◌, List, [], ◌∷◌, ◌++◌}
use Rattle.std.proofs.Common.{Bool, true, false, Option, Some, None, ◌==◌, ◌&&◌, ◌||◌, if◌then◌else◌, nat_le, not}
use Rattle.std.proofs.Common.{refl, sym, ap, subst, ◌∙◌, arith, replicate}
use Rattle.std.proofs.Math.Utf8.{encodes}
use Rattle.std.proofs.lemmas.Bool.Decides.{nat_tests}
use Rattle.std.proofs.lemmas.Str.{encode_ascii, encodes-append}
use Rattle.std.specs.List.{AllByRecursion}
use Rattle.cbor_grammar.specs.NotationText.{line}
use Rattle.cbor_edn_writer.specs.Breaks.{Within, Nothing, Text, TextEscape, Bytes, BytesEscape, Comment, after}
use Rattle.cbor_edn_writer.specs.Breaks.{BreaksApart}
use Rattle.cbor_tokens.specs.Hidden.{IsShown}
use Rattle.cbor_tokens.proofs.escaping.Shown.{IsShownChar, is_shown as shown_text}

-- ---- what a text is within

abbrev pub ends : Within → List ℕ → Within
ends w [] = w
ends w (b ∷ bs) = ends (after w b) bs

ends_append : (w : Within) (a b : List ℕ) → ends w (a ++ b) ≡ ends (ends w a) b
ends_append w [] b = refl
ends_append w (x ∷ a) b = ends_append (after w x) a b

breaks_append : (w : Within) (a b : List ℕ) → BreaksApart w a → BreaksApart (ends w a) b → BreaksApart w (a ++ b)
breaks_append w [] b h k = k
breaks_append w (x ∷ a) b h k = (h.0, breaks_append (after w x) a b h.1 k)

-- ---- characters

all_append : (P : ℕ → Type 0) (xs ys : List ℕ) → AllByRecursion P xs → AllByRecursion P ys → AllByRecursion P (xs ++ ys)
all_append P [] ys h k = k
all_append P (x ∷ xs) ys h k = (h.0, all_append P xs ys h.1 k)

-- The text takes what it is within from w to v. It is characters that are shown, and its line feeds are apart.
pub record Runs (lines : Bool) (w v : Within) (t : List ℕ) : Type 0 where
  pub breaks : BreaksApart w t
  pub ended : ends w t ≡ v
  pub characters : List ℕ
  pub spelled : t ≡ encodes characters
  pub shown : AllByRecursion (IsShownChar lines) characters

pub runs_nothing : {lines : Bool} {w : Within} → Runs lines w w []
runs_nothing = record { breaks = tt; ended = refl; characters = []; spelled = refl; shown = tt }

pub runs_then : {lines : Bool} {w v u : Within} {a b : List ℕ} → Runs lines w v a → Runs lines v u b
    → Runs lines w u (a ++ b)
runs_then {lines} {w} {v} {u} {a} {b} p q = record {
  breaks = breaks_append w a b p.breaks (subst (λ x. BreaksApart x b) (sym p.ended) q.breaks);
  ended = ends_append w a b ∙ ap (λ x. ends x b) p.ended ∙ q.ended;
  characters = p.characters ++ q.characters;
  spelled = ap (λ x. x ++ b) p.spelled ∙ ap (λ x. encodes p.characters ++ x) q.spelled
      ∙ sym (encodes-append p.characters q.characters);
  shown = all_append (IsShownChar lines) p.characters q.characters p.shown q.shown;
}

-- a character of ASCII that prints
pub runs_byte : {lines : Bool} {w v : Within} {bs : List ℕ} (b : ℕ) → 32 ≤ b → b ≤ 126 → Runs lines (after w b) v bs
    → Runs lines w v (b ∷ bs)
runs_byte {lines} {w} {v} {bs} b low high p = record {
  breaks = (λ e. absurd (omega (arith, e)), p.breaks);
  ended = p.ended;
  characters = b ∷ p.characters;
  spelled = ap (λ x. b ∷ x) p.spelled ∙ ap (λ x. x ++ encodes p.characters) (sym (encode_ascii b (omega arith)));
  shown = (inl (grind (arith, nat_tests)), p.shown);
}

-- ---- constant texts

abbrev pub scan : Within → List ℕ → Option Within
scan w [] = Some w
scan w (b ∷ bs) = if nat_le 32 b && nat_le b 126 then scan (after w b) bs else None

if_some : {A : Type 0} (test : Bool) (x : Option A) (y : A) → (if test then x else None) ≡ Some y
    → (test ≡ true) × (x ≡ Some y)
if_some true x y h = (refl, h)
if_some false x y h = absurd cc

pub scanned : {lines : Bool} {w v : Within} (t : List ℕ) → scan w t ≡ Some v → Runs lines w v t
scanned {lines} {w} {v} [] h = let same : w ≡ v = cc in subst (λ x. Runs lines w x []) same runs_nothing
scanned {lines} {w} {v} (b ∷ bs) h =
    let both = if_some (nat_le 32 b && nat_le b 126) (scan (after w b) bs) v h in
    runs_byte b (grind (arith, nat_tests, both.0)) (grind (arith, nat_tests, both.0))
    (scanned {w = after w b} bs both.1)

-- ---- bytes that change nothing

abbrev pub is_steady : ℕ → Bool
is_steady b = nat_le 32 b && (nat_le b 126 && not ((b == 34) || (b == 39) || (b == 47) || (b == 92)))

abbrev pub Steady : List ℕ → Type 0
Steady t = AllByRecursion (λ b. is_steady b ≡ true) t

abbrev pub Calm : Within → Type 0
Calm TextEscape = ⊥
Calm BytesEscape = ⊥
Calm w = Unit {0}

stays : (w : Within) (b : ℕ) → Calm w → is_steady b ≡ true → after w b ≡ w
stays Nothing b calm h = grind (arith, nat_tests, h)
stays Text b calm h = grind (arith, nat_tests, h)
stays TextEscape b calm h = absurd calm
stays Bytes b calm h = grind (arith, nat_tests, h)
stays BytesEscape b calm h = absurd calm
stays Comment b calm h = grind (arith, nat_tests, h)

pub steady : {lines : Bool} {w : Within} (t : List ℕ) → Calm w → Steady t → Runs lines w w t
steady [] calm h = runs_nothing
steady {lines} {w} (b ∷ bs) calm h =
    runs_byte b (grind (arith, nat_tests, h.0)) (grind (arith, nat_tests, h.0))
    (subst (λ x. Runs lines x w bs) (sym (stays w b calm h.0)) (steady bs calm h.1))

pub steady_append : (a b : List ℕ) → Steady a → Steady b → Steady (a ++ b)
steady_append a b h k = all_append (λ b. is_steady b ≡ true) a b h k

-- ---- line ends

blanks : (n : ℕ) → Steady (replicate n 32)
blanks zero = tt
blanks (suc n) = (refl, blanks n)

pub line_runs : (indent : ℕ) → Runs true Nothing Nothing (line indent)
line_runs indent =
    let more : Runs true Nothing Nothing (replicate indent 32) = steady (replicate indent 32) tt (blanks indent) in
    record {
      breaks = (λ e. refl, more.breaks);
      ended = more.ended;
      characters = 10 ∷ more.characters;
      spelled = ap (λ x. 10 ∷ x) more.spelled ∙ ap (λ x. x ++ encodes more.characters) (sym (encode_ascii 10
          (omega arith)));
      shown = (inr (refl, refl), more.shown);
    }

-- ---- no character is hidden

pub is_shown : {lines : Bool} {w v : Within} {t : List ℕ} → Runs lines w v t → IsShown lines t
is_shown {lines} {w} {v} {t} p = shown_text lines t p.characters p.spelled p.shown
