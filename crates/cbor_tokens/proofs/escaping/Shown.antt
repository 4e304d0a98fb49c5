-- If none of the characters of a text is hidden (`is_hidden`), no hidden character begins at any byte of the text
-- (`IsShown`). If `lines` is set, the text may have line feeds.
use Rattle.std.proofs.Common.{◌≡◌, ◌⊎◌, inl, inr, ℕ, zero, suc, ◌+◌, ◌/◌, ◌%◌, ◌<◌, ◌≤◌, List, [], ◌∷◌, ◌++◌, length}
use Rattle.std.proofs.Common.{Bool, true, false, refl, sym, ap, subst, ◌∙◌, arith, slice_index}
use Rattle.std.proofs.Math.Utf8.{encode, encodes, next}
use Rattle.std.proofs.lemmas.Bool.{cases_lt, lt-ltb, le-ltb}
use Rattle.std.proofs.lemmas.Bool.Decides.{nat_tests}
use Rattle.std.specs.List.{AllByRecursion}
use Rattle.cbor_tokens.specs.Escapes.{is_hidden}
use Rattle.cbor_tokens.specs.Hidden.{Hides, ShownAt, IsShown}

-- a character that is not hidden, or a line feed where lines may end
abbrev pub IsShownChar : Bool → ℕ → Type 0
IsShownChar lines c = (is_hidden c ≡ false) ⊎ ((lines ≡ true) × (c ≡ 10))

-- ---- no character is hidden

-- no hidden character begins at any place
abbrev ShownAll : Bool → List ℕ → Type 0
ShownAll lines [] = Unit {0}
ShownAll lines (b ∷ bs) = ¬ (Hides lines b (slice_index bs 0) (slice_index bs 1)) × ShownAll lines bs

shown_at : (lines : Bool) (t : List ℕ) → ShownAll lines t → (k : ℕ) → k < length t → ShownAt lines t k
shown_at lines [] h k lt = absurd (omega arith)
shown_at lines (b ∷ bs) h zero lt = h.0
shown_at lines (b ∷ bs) h (suc k) lt =
    let one : suc k + 1 ≡ suc (k + 1) = omega arith in
    let two : suc k + 2 ≡ suc (k + 2) = omega arith in
    subst (λ i. ¬ (Hides lines (slice_index bs k) (slice_index (b ∷ bs) i) (slice_index (b ∷ bs) (suc k + 2))))
    (sym one)
    (subst (λ i. ¬ (Hides lines (slice_index bs k) (slice_index bs (k + 1)) (slice_index (b ∷ bs) i))) (sym two)
    (shown_at lines bs h.1 k (omega (arith, lt))))

-- what the second and the third byte have to be, by the first
module _ (lines : Bool) (a b c : ℕ) (high : 128 ≤ a) (c2 : a ≡ 0xc2 → b < 0xa0 → ⊥) (d8 : a ≡ 0xd8 → b ≡ 0x9c → ⊥)
    (e2 : a ≡ 0xe2 → b ≡ 0x80 → 0x8e ≤ c → c ≤ 0x8f → ⊥) (e3 : a ≡ 0xe2 → b ≡ 0x80 → 0xa8 ≤ c → c ≤ 0xae → ⊥)
    (e4 : a ≡ 0xe2 → b ≡ 0x81 → 0xa6 ≤ c → c ≤ 0xa9 → ⊥) (ef : a ≡ 0xef → b ≡ 0xbb → c ≡ 0xbf → ⊥) where
  shows : ¬ (Hides lines a b c)
  shows = λ h. elim h [
    | inl p ↦ omega (arith, p.0, high)
    | inr h1 ↦ elim h1 [
      | inl p ↦ omega (arith, p, high)
      | inr h2 ↦ elim h2 [
        | inl p ↦ c2 p.0 p.1
        | inr h3 ↦ elim h3 [
          | inl p ↦ d8 p.0 p.1
          | inr h4 ↦ elim h4 [
            | inl p ↦ e2 p.0 p.1 p.2 p.3
            | inr h5 ↦ elim h5 [
              | inl p ↦ e3 p.0 p.1 p.2 p.3
              | inr h6 ↦ elim h6 [
                | inl p ↦ e4 p.0 p.1 p.2 p.3
                | inr p ↦ ef p.0 p.1 p.2
              ]
            ]
          ]
        ]
      ]
    ]
  ]

never : (lines : Bool) (a b c : ℕ) → 128 ≤ a → (a < 0xc2) ⊎ (0xef < a) → ¬ (Hides lines a b c)
never lines a b c high other = elim other [
  | inl lt ↦ shows lines a b c high (λ p q. omega (arith, p, lt)) (λ p q. omega (arith, p, lt))
      (λ p q r s. omega (arith, p, lt)) (λ p q r s. omega (arith, p, lt)) (λ p q r s. omega (arith, p, lt))
      (λ p q r. omega (arith, p, lt))
  | inr lt ↦ shows lines a b c high (λ p q. omega (arith, p, lt)) (λ p q. omega (arith, p, lt))
      (λ p q r s. omega (arith, p, lt)) (λ p q r s. omega (arith, p, lt)) (λ p q r s. omega (arith, p, lt))
      (λ p q r. omega (arith, p, lt))
]

-- which numbers are hidden
hidden_low : (c : ℕ) → 128 ≤ c → c < 160 → is_hidden c ≡ true
hidden_low c low high = grind (arith, nat_tests)

hidden_marks : (c : ℕ) → 0x200e ≤ c → c ≤ 0x200f → is_hidden c ≡ true
hidden_marks c low high = grind (arith, nat_tests)

hidden_lines : (c : ℕ) → 0x2028 ≤ c → c ≤ 0x202e → is_hidden c ≡ true
hidden_lines c low high = grind (arith, nat_tests)

hidden_isolates : (c : ℕ) → 0x2066 ≤ c → c ≤ 0x2069 → is_hidden c ≡ true
hidden_isolates c low high = grind (arith, nat_tests)

both : (c : ℕ) → is_hidden c ≡ true → is_hidden c ≡ false → ⊥
both c p q = let wrong : true ≡ false = sym p ∙ q in absurd cc

named : (c k : ℕ) → c ≡ k → is_hidden k ≡ true → is_hidden c ≡ false → ⊥
named c k e p q = both c (ap is_hidden e ∙ p) q

two : (lines : Bool) (c x : ℕ) → 128 ≤ c → c < 2048 → is_hidden c ≡ false
    → ¬ (Hides lines (192 + c / 64) (128 + c % 64) x)
two lines c x low high shown = shows lines (192 + c / 64) (128 + c % 64) x (omega arith)
    (λ p q. both c (hidden_low c low (omega (arith, p, q))) shown)
    (λ p q. named c 0x61c (omega (arith, p, q)) refl shown)
    (λ p q r s. omega (arith, p, high)) (λ p q r s. omega (arith, p, high)) (λ p q r s. omega (arith, p, high))
    (λ p q r. omega (arith, p, high))

three : (lines : Bool) (c : ℕ) → 2048 ≤ c → c < 65536 → is_hidden c ≡ false
    → ¬ (Hides lines (224 + c / 4096) (128 + c / 64 % 64) (128 + c % 64))
three lines c low high shown = shows lines (224 + c / 4096) (128 + c / 64 % 64) (128 + c % 64) (omega arith)
    (λ p q. omega (arith, p)) (λ p q. omega (arith, p))
    (λ p q r s. both c (hidden_marks c (omega (arith, p, q, r, s)) (omega (arith, p, q, r, s))) shown)
    (λ p q r s. both c (hidden_lines c (omega (arith, p, q, r, s)) (omega (arith, p, q, r, s))) shown)
    (λ p q r s. both c (hidden_isolates c (omega (arith, p, q, r, s)) (omega (arith, p, q, r, s))) shown)
    (λ p q r. named c 0xfeff (omega (arith, p, q, r)) refl shown)

ascii : (lines : Bool) (c x y : ℕ) → c < 128 → IsShownChar lines c → ¬ (Hides lines c x y)
ascii lines c x y lt shown = λ h. elim h [
  | inl p ↦ elim shown [
    | inl q ↦ both c (grind (arith, nat_tests, p.0)) q
    | inr line ↦ p.1 line.0 line.1
  ]
  | inr h1 ↦ elim h1 [
    | inl p ↦ elim shown [
      | inl q ↦ named c 127 p refl q
      | inr line ↦ omega (arith, p, line.1)
    ]
    | inr h2 ↦ elim h2 [
      | inl p ↦ omega (arith, p.0, lt)
      | inr h3 ↦ elim h3 [
        | inl p ↦ omega (arith, p.0, lt)
        | inr h4 ↦ elim h4 [
          | inl p ↦ omega (arith, p.0, lt)
          | inr h5 ↦ elim h5 [
            | inl p ↦ omega (arith, p.0, lt)
            | inr h6 ↦ elim h6 [
              | inl p ↦ omega (arith, p.0, lt)
              | inr p ↦ omega (arith, p.0, lt)
            ]
          ]
        ]
      ]
    ]
  ]
]

-- past U+007F a character is shown if it is not hidden
not_line : (lines : Bool) (c : ℕ) → 128 ≤ c → IsShownChar lines c → is_hidden c ≡ false
not_line lines c low shown = elim shown [
  | inl q ↦ q
  | inr line ↦ absurd (omega (arith, low, line.1))
]

tail : (lines : Bool) (bits : ℕ) (bs : List ℕ) → ShownAll lines bs → ShownAll lines ((128 + bits % 64) ∷ bs)
tail lines bits bs h = (never lines (128 + bits % 64) _ _ (omega arith) (inl (omega arith)), h)

character_shown : (lines : Bool) (c : ℕ) (bs : List ℕ) → IsShownChar lines c → ShownAll lines bs
    → ShownAll lines (encode c ++ bs)
unfolding encode
character_shown lines c bs shown h = elim (cases_lt c 128) [
  | inl a ↦ rw (lt-ltb c 128 a) (ascii lines c _ _ a shown, h)
  | inr a ↦ elim (cases_lt c 2048) [
    | inl b ↦ rw (le-ltb c 128 a, lt-ltb c 2048 b)
        (two lines c _ a b (not_line lines c a shown), tail lines c bs h)
    | inr b ↦ elim (cases_lt c 65536) [
      | inl d ↦ rw (le-ltb c 128 a, le-ltb c 2048 b, lt-ltb c 65536 d)
          (three lines c b d (not_line lines c a shown), tail lines (c / 64) (next c ∷ bs) (tail lines c bs h))
      | inr d ↦ rw (le-ltb c 128 a, le-ltb c 2048 b, le-ltb c 65536 d) (
        never lines (240 + c / 262144) _ _ (omega arith) (inr (omega arith)),
        tail lines (c / 4096) (next (c / 64) ∷ next c ∷ bs) (tail lines (c / 64) (next c ∷ bs) (tail lines c bs h)),
      )
    ]
  ]
]

characters_shown : (lines : Bool) (cs : List ℕ) → AllByRecursion (IsShownChar lines) cs → ShownAll lines (encodes cs)
characters_shown lines [] h = tt
characters_shown lines (c ∷ cs) h = character_shown lines c (encodes cs) h.0 (characters_shown lines cs h.1)

pub is_shown : (lines : Bool) (t cs : List ℕ) → t ≡ encodes cs → AllByRecursion (IsShownChar lines) cs → IsShown lines t
is_shown lines t cs spelled shown =
    shown_at lines t (subst (ShownAll lines) (sym spelled) (characters_shown lines cs shown))
