-- For `utf8.rt`: if bytes begin with no whole character, the ranges of RFC 3629 (`BeginsLonger`, `MayFollow`,
-- `Continues`) decide how many of them, 0 to 3, are the beginning of one (`BeginsText`). The place of a fault in UTF-8
-- (`IsUtf8Fault`) is after two things: the longest front that is UTF-8, and then those bytes.
use Rattle.std.proofs.Common.{◌≡◌, ℕ, ◌+◌, ◌-◌, ◌*◌, ◌/◌, ◌%◌, ◌<◌, ◌≤◌, ◌⊎◌, inl, inr, List, [], ◌∷◌, ◌++◌}
use Rattle.std.proofs.Common.{length, take, drop, get_or, refl, sym, ap, subst, ◌∙◌, arith, append_assoc}
use Rattle.std.proofs.Common.{lt-ltb, le-ltb}
use Rattle.std.specs.Prelude.{IsUtf8}
use Rattle.std.specs.Char.{IsScalar, encode_utf8}
use Rattle.std.proofs.Math.ListN.{get_or-append}
use Rattle.std.proofs.Math.Seq.{take-add}
use Rattle.std.proofs.lemmas.Bool.{cond-true, cond-false, cases_lt, and_parts}
use lib.Utf8.{scalar, scalars, scalar_cases, encodes}
use Rattle.std.proofs.lemmas.Bool.Decides.{nat_tests}
use Rattle.std.proofs.lemmas.List.{length-append, length-take, length-drop, take_all}
use Rattle.std.proofs.lemmas.List.{get_or-take}
use Rattle.std.proofs.lemmas.Str.{IsUtf8-append, IsUtf8-encode, encode_ascii}
use Rattle.cbor_bytes.specs.Utf8.{BeginsText, IsUtf8Fault}
use Rattle.cbor_bytes.specs.mirror.Characters.{BeginsLonger, Continues, MayFollow, NoCharFirst}
use Rattle.cbor_bytes.specs.mirror.Scanning.{WholeChars}
use Rattle.cbor_bytes.proofs.skipping.Scans.{utf8_behind}

-- ---- the bytes of a character

encode_two : (c : ℕ) → 128 ≤ c → c < 2048 → encode_utf8 c ≡ (192 + c / 64) ∷ (128 + c % 64) ∷ []
unfolding encode_utf8
encode_two c low high = cond-false _ _ _ (le-ltb c 128 low) ∙ cond-true _ _ _ (lt-ltb c 2048 high)

encode_three : (c : ℕ) → 2048 ≤ c → c < 65536
    → encode_utf8 c ≡ (224 + c / 4096) ∷ (128 + (c / 64) % 64) ∷ (128 + c % 64) ∷ []
unfolding encode_utf8
encode_three c low high = cond-false _ _ _ (le-ltb c 128 (omega arith)) ∙ cond-false _ _ _ (le-ltb c 2048 low)
    ∙ cond-true _ _ _ (lt-ltb c 65536 high)

encode_four : (c : ℕ) → 65536 ≤ c
    → encode_utf8 c ≡ (240 + c / 262144) ∷ (128 + (c / 4096) % 64) ∷ (128 + (c / 64) % 64) ∷ (128 + c % 64) ∷ []
unfolding encode_utf8
encode_four c low = cond-false _ _ _ (le-ltb c 128 (omega arith)) ∙ cond-false _ _ _ (le-ltb c 2048 (omega arith))
    ∙ cond-false _ _ _ (le-ltb c 65536 low)

-- ---- bytes that are a character

is_scalar : (c : ℕ) → c < 1114112 → (c < 55296) ⊎ (57344 ≤ c) → IsScalar c
is_scalar c below (inl low) = grind (arith, nat_tests)
is_scalar c below (inr high) = grind (arith, nat_tests)

one_is : (x : ℕ) → x < 128 → IsUtf8 (x ∷ [])
one_is x low = subst IsUtf8 (encode_ascii x low) (IsUtf8-encode x (is_scalar x (omega arith) (inl (omega arith))))

two_are : (x y : ℕ) → 194 ≤ x → x < 224 → MayFollow x y → IsUtf8 (x ∷ y ∷ [])
two_are x y low high follows =
    let c : ℕ = (x - 192) * 64 + (y - 128) in
    let first : 192 + c / 64 ≡ x = omega arith in
    let second : 128 + c % 64 ≡ y = omega arith in
    subst IsUtf8 (encode_two c (omega arith) (omega arith)
    ∙ ap (λ (k : ℕ). k ∷ (128 + c % 64) ∷ []) first ∙ ap (λ (k : ℕ). x ∷ k ∷ []) second)
    (IsUtf8-encode c (is_scalar c (omega arith) (inl (omega arith))))

three_are : (x y z : ℕ) → 224 ≤ x → x < 240 → MayFollow x y → Continues z → IsUtf8 (x ∷ y ∷ z ∷ [])
three_are x y z low high follows last =
    let c : ℕ = (x - 224) * 4096 + ((y - 128) * 64 + (z - 128)) in
    let first : 224 + c / 4096 ≡ x = omega arith in
    let second : 128 + (c / 64) % 64 ≡ y = omega arith in
    let third : 128 + c % 64 ≡ z = omega arith in
    subst IsUtf8 (encode_three c least (omega arith)
    ∙ ap (λ (k : ℕ). k ∷ (128 + (c / 64) % 64) ∷ (128 + c % 64) ∷ []) first
    ∙ ap (λ (k : ℕ). x ∷ k ∷ (128 + c % 64) ∷ []) second ∙ ap (λ (k : ℕ). x ∷ y ∷ k ∷ []) third)
    (IsUtf8-encode c (is_scalar c (omega arith) scalar))
  where
    least : 2048 ≤ (x - 224) * 4096 + ((y - 128) * 64 + (z - 128))
    least =
        elim (cases_lt 224 x) [
          | inl more ↦ omega arith
          | inr same ↦ let is : x ≡ 224 = omega arith in omega (arith, follows.1 is)
        ]

    scalar : ((x - 224) * 4096 + ((y - 128) * 64 + (z - 128)) < 55296)
        ⊎ (57344 ≤ (x - 224) * 4096 + ((y - 128) * 64 + (z - 128)))
    scalar =
        elim (cases_lt x 237) [
          | inl less ↦ inl (omega arith)
          | inr from ↦
              elim (cases_lt 237 x) [
                | inl more ↦ inr (omega arith)
                | inr same ↦ let is : x ≡ 237 = omega arith in inl (omega (arith, follows.2 is))
              ]
        ]

four_are : (x y z w : ℕ) → 240 ≤ x → x < 245 → MayFollow x y → Continues z → Continues w
    → IsUtf8 (x ∷ y ∷ z ∷ w ∷ [])
four_are x y z w low high follows third last =
    let c : ℕ = (x - 240) * 262144 + ((y - 128) * 4096 + ((z - 128) * 64 + (w - 128))) in
    let first : 240 + c / 262144 ≡ x = omega arith in
    let second : 128 + (c / 4096) % 64 ≡ y = omega arith in
    let next : 128 + (c / 64) % 64 ≡ z = omega arith in
    let fourth : 128 + c % 64 ≡ w = omega arith in
    subst IsUtf8 (encode_four c least
    ∙ ap (λ (k : ℕ). k ∷ (128 + (c / 4096) % 64) ∷ (128 + (c / 64) % 64) ∷ (128 + c % 64) ∷ []) first
    ∙ ap (λ (k : ℕ). x ∷ k ∷ (128 + (c / 64) % 64) ∷ (128 + c % 64) ∷ []) second
    ∙ ap (λ (k : ℕ). x ∷ y ∷ k ∷ (128 + c % 64) ∷ []) next ∙ ap (λ (k : ℕ). x ∷ y ∷ z ∷ k ∷ []) fourth)
    (IsUtf8-encode c (is_scalar c most (inr (omega (arith, least)))))
  where
    least : 65536 ≤ (x - 240) * 262144 + ((y - 128) * 4096 + ((z - 128) * 64 + (w - 128)))
    least =
        elim (cases_lt 240 x) [
          | inl more ↦ omega arith
          | inr same ↦ let is : x ≡ 240 = omega arith in omega (arith, follows.3 is)
        ]

    most : (x - 240) * 262144 + ((y - 128) * 4096 + ((z - 128) * 64 + (w - 128))) < 1114112
    most =
        elim (cases_lt x 244) [
          | inl less ↦ omega arith
          | inr same ↦ let is : x ≡ 244 = omega arith in omega (arith, follows.4 is)
        ]

-- ---- bytes that begin one

three_begin : (x y z : ℕ) → 224 ≤ x → x < 245 → MayFollow x y → Continues z → BeginsText (x ∷ y ∷ z ∷ [])
three_begin x y z low high follows third =
    elim (cases_lt x 240) [
      | inl short ↦ ([], three_are x y z low short follows third)
      | inr long ↦ (128 ∷ [], four_are x y z 128 long high follows third (omega arith, omega arith))
    ]

two_begin : (x y : ℕ) → BeginsLonger x → MayFollow x y → BeginsText (x ∷ y ∷ [])
two_begin x y first follows =
    elim (cases_lt x 224) [
      | inl short ↦ ([], two_are x y first.0 short follows)
      | inr long ↦
          let more = three_begin x y 128 long first.1 follows (omega arith, omega arith) in
          (128 ∷ more.0, more.1)
    ]

-- the least byte that may follow
least_follows : (x : ℕ) → (y : ℕ) × MayFollow x y
least_follows x =
    elim (cases_lt x 237) [
      | inl less ↦ (
        160,
        ((omega arith, omega arith), λ e. omega arith, λ e. omega arith, λ e. omega arith, λ e. omega arith),
      )
      | inr more ↦
          elim (cases_lt x 244) [
            | inl less ↦ (
              150,
              ((omega arith, omega arith), λ e. omega arith, λ e. omega arith, λ e. omega arith, λ e. omega arith),
            )
            | inr most ↦ (
              128,
              ((omega arith, omega arith), λ e. omega arith, λ e. omega arith, λ e. omega arith, λ e. omega arith),
            )
          ]
    ]

one_begins : (x : ℕ) → BeginsLonger x → BeginsText (x ∷ [])
one_begins x first =
    let next = least_follows x in
    let more = two_begin x next.0 first next.1 in
    (next.0 ∷ more.0, more.1)

-- ---- what a text begins with

-- the bytes of the first character
record FirstChar (z : List ℕ) : Type 0 where
  pub first : (get_or z 0 0 < 128) ⊎ BeginsLonger (get_or z 0 0)
  pub second : 128 ≤ get_or z 0 0 → MayFollow (get_or z 0 0) (get_or z 1 0)
  pub third : 224 ≤ get_or z 0 0 → Continues (get_or z 2 0)
  pub fourth : 240 ≤ get_or z 0 0 → Continues (get_or z 3 0)

char_first : (c : ℕ) (r : List ℕ) → IsScalar c → FirstChar (encode_utf8 c ++ r)
char_first c r s =
    elim (cases_lt c 128) [
      | inl low ↦ subst (λ (p : List ℕ). FirstChar (p ++ r)) (sym (encode_ascii c low)) (record {
        first = inl low;
        second = λ h. absurd (omega arith);
        third = λ h. absurd (omega arith);
        fourth = λ h. absurd (omega arith);
      })
      | inr one ↦ elim (cases_lt c 2048) [
        | inl low ↦ subst (λ (p : List ℕ). FirstChar (p ++ r)) (sym (encode_two c one low)) (record {
          first = inr (omega arith, omega arith);
          second = λ h. (
            (omega arith, omega arith),
            λ e. omega arith,
            λ e. omega arith,
            λ e. omega arith,
            λ e. omega arith,
          );
          third = λ h. absurd (omega arith);
          fourth = λ h. absurd (omega arith);
        })
        | inr two ↦ elim (cases_lt c 65536) [
          | inl low ↦ subst (λ (p : List ℕ). FirstChar (p ++ r)) (sym (encode_three c two low)) (record {
            first = inr (omega arith, omega arith);
            second = λ h. (
              (omega arith, omega arith),
              λ e. omega arith,
              λ e. below_surrogates c s e,
              λ e. omega arith,
              λ e. omega arith,
            );
            third = λ h. (omega arith, omega arith);
            fourth = λ h. absurd (omega arith);
          })
          | inr three ↦
              let most : c < 1114112 = greatest c s in
              subst (λ (p : List ℕ). FirstChar (p ++ r)) (sym (encode_four c three)) (record {
                first = inr (omega arith, omega arith);
                second = λ h. (
                  (omega arith, omega arith),
                  λ e. omega arith,
                  λ e. omega arith,
                  λ e. omega arith,
                  λ e. omega arith,
                );
                third = λ h. (omega arith, omega arith);
                fourth = λ h. (omega arith, omega arith);
              })
        ]
      ]
    ]
  where
    greatest : (c : ℕ) → IsScalar c → c < 1114112
    greatest c s =
        elim (scalar_cases c s) [
          | inl low ↦ omega arith
          | inr high ↦ high.1
        ]

    below_surrogates : (c : ℕ) → IsScalar c → 224 + c / 4096 ≡ 237 → 128 + (c / 64) % 64 < 160
    below_surrogates c s e =
        elim (scalar_cases c s) [
          | inl low ↦ omega arith
          | inr high ↦ omega (arith, high.0)
        ]

text_first : (z : List ℕ) → 0 < length z → IsUtf8 z → FirstChar z
text_first z some ([], u) = absurd (omega (arith, ap length u.1))
text_first z some (c ∷ cs, u) =
    subst FirstChar u.1 (char_first c (encodes cs) (and_parts (scalar c) (scalars cs) u.0).0)

-- the same of a front that a text begins with
module _ (b : List ℕ) (k : ℕ) (some : k < length b) (text : BeginsText (take (k + 1) b)) where
  front : List ℕ
  front = take (k + 1) b ++ text.0

  front_byte : (i : ℕ) → i ≤ k → get_or front i 0 ≡ get_or b i 0
  unfolding front
  front_byte i le =
      get_or-append (take (k + 1) b) text.0 0 i (omega (arith, length-take (k + 1) b))
      ∙ get_or-take (k + 1) b i 0 (omega arith)

  front_char : FirstChar front
  unfolding front
  front_char = text_first (take (k + 1) b ++ text.0)
      (omega (arith, length-append (take (k + 1) b) text.0, length-take (k + 1) b)) text.1

  pub front_first : (get_or b 0 0 < 128) ⊎ BeginsLonger (get_or b 0 0)
  front_first = rw (front_byte 0 (omega arith)) at front_char.first

  pub front_second : 1 ≤ k → 128 ≤ get_or b 0 0 → MayFollow (get_or b 0 0) (get_or b 1 0)
  front_second le = rw (front_byte 0 (omega arith), front_byte 1 le) at front_char.second

  pub front_third : 2 ≤ k → 224 ≤ get_or b 0 0 → Continues (get_or b 2 0)
  front_third le = rw (front_byte 0 (omega arith), front_byte 2 le) at front_char.third

  pub front_fourth : 3 ≤ k → 240 ≤ get_or b 0 0 → Continues (get_or b 3 0)
  front_fourth le = rw (front_byte 0 (omega arith), front_byte 3 le) at front_char.fourth

-- ---- bytes with no whole character first

take_one : (b : List ℕ) → 0 < length b → take 1 b ≡ get_or b 0 0 ∷ []
take_one [] some = absurd (omega arith)
take_one (x ∷ b) some = refl

take_two : (b : List ℕ) → 1 < length b → take 2 b ≡ get_or b 0 0 ∷ get_or b 1 0 ∷ []
take_two [] some = absurd (omega arith)
take_two (x ∷ b) some = ap (λ (z : List ℕ). x ∷ z) (take_one b (omega arith))

take_three : (b : List ℕ) → 2 < length b → take 3 b ≡ get_or b 0 0 ∷ get_or b 1 0 ∷ get_or b 2 0 ∷ []
take_three [] some = absurd (omega arith)
take_three (x ∷ b) some = ap (λ (z : List ℕ). x ∷ z) (take_two b (omega arith))

take_four : (b : List ℕ) → 3 < length b
    → take 4 b ≡ get_or b 0 0 ∷ get_or b 1 0 ∷ get_or b 2 0 ∷ get_or b 3 0 ∷ []
take_four [] some = absurd (omega arith)
take_four (x ∷ b) some = ap (λ (z : List ℕ). x ∷ z) (take_three b (omega arith))

outside : (n low high : ℕ) → (n < low) ⊎ (high < n) → low ≤ n → n ≤ high → ⊥
outside n low high (inl less) least most = omega arith
outside n low high (inr more) least most = omega arith

module _ (b : List ℕ) (none : NoCharFirst b) where
  pub first_stops : (get_or b 0 0 < 194) ⊎ (244 < get_or b 0 0) → 0 < length b → BeginsText (take 1 b) → ⊥
  first_stops other some text =
      elim (front_first b 0 some text) [
        | inl low ↦ none 1 (omega arith) (omega arith)
            (subst IsUtf8 (sym (take_one b some)) (one_is (get_or b 0 0) low))
        | inr longer ↦ outside (get_or b 0 0) 194 244 other longer.0 (omega (arith, longer.1))
      ]

  pub first_begins : BeginsLonger (get_or b 0 0) → 0 < length b → BeginsText (take 1 b)
  first_begins first some = subst BeginsText (sym (take_one b some)) (one_begins (get_or b 0 0) first)

  module _ (first : BeginsLonger (get_or b 0 0)) where
    pub second_stops : ¬ (MayFollow (get_or b 0 0) (get_or b 1 0)) → 1 < length b → BeginsText (take 2 b) → ⊥
    second_stops other some text = other (front_second b 1 some text (omega arith) (omega (arith, first.0)))

    module _ (follows : MayFollow (get_or b 0 0) (get_or b 1 0)) where
      pub second_begins : 1 < length b → BeginsText (take 2 b)
      second_begins some = subst BeginsText (sym (take_two b some))
          (two_begin (get_or b 0 0) (get_or b 1 0) first follows)

      above_two : 1 < length b → 224 ≤ get_or b 0 0
      above_two some =
          elim (cases_lt (get_or b 0 0) 224) [
            | inl short ↦ absurd (none 2 (omega arith) (omega arith) (subst IsUtf8 (sym (take_two b some))
                (two_are (get_or b 0 0) (get_or b 1 0) first.0 short follows)))
            | inr long ↦ long
          ]

      pub third_stops : (get_or b 2 0 < 128) ⊎ (191 < get_or b 2 0) → 2 < length b → BeginsText (take 3 b) → ⊥
      third_stops other some text =
          let third = front_third b 2 some text (omega arith) (above_two (omega arith)) in
          outside (get_or b 2 0) 128 191 other third.0 (omega (arith, third.1))

      module _ (third : Continues (get_or b 2 0)) (some : 2 < length b) where
        pub third_begins : BeginsText (take 3 b)
        third_begins = subst BeginsText (sym (take_three b some)) (three_begin (get_or b 0 0) (get_or b 1 0)
            (get_or b 2 0) (above_two (omega arith)) first.1 follows third)

        above_three : 240 ≤ get_or b 0 0
        above_three =
            elim (cases_lt (get_or b 0 0) 240) [
              | inl short ↦ absurd (none 3 (omega arith) (omega arith) (subst IsUtf8 (sym (take_three b some))
                  (three_are (get_or b 0 0) (get_or b 1 0) (get_or b 2 0) (above_two (omega arith)) short follows
                  third)))
              | inr long ↦ long
            ]

        pub fourth_stops : 3 < length b → BeginsText (take 4 b) → ⊥
        fourth_stops more text =
            none 4 (omega arith) (omega arith) (subst IsUtf8 (sym (take_four b more)) (four_are (get_or b 0 0)
            (get_or b 1 0) (get_or b 2 0) (get_or b 3 0) above_three first.1 follows third
            (front_fourth b 3 more text (omega arith) above_three)))

-- ---- the place of a fault

module _ (b : List ℕ) (n : ℕ) (whole : WholeChars b n) where
  pub no_char_first : NoCharFirst (drop n b)
  no_char_first m some within text =
      whole.longest (n + m) (omega arith) (omega (arith, length-drop n b, whole.within))
      (subst IsUtf8 (sym (take-add n m b)) (IsUtf8-append (take n b) (take m (drop n b)) whole.front text))

  pub not_text : n < length b → IsUtf8 b → ⊥
  not_text short text = whole.longest (length b) short (omega arith)
      (subst IsUtf8 (sym (take_all (length b) b (omega arith))) text)

  pub fault_is : (k : ℕ) → k ≤ length (drop n b) → n < length b → BeginsText (take k (drop n b))
      → (k < length (drop n b) → ¬ (BeginsText (take (k + 1) (drop n b)))) → IsUtf8Fault b (n + k)
  fault_is k within short begins stops =
      let count : length (drop n b) ≡ length b - n = length-drop n b in
      record {
        within = omega arith;
        before = (
          begins.0,
          joined k begins.0 (IsUtf8-append (take n b) (take k (drop n b) ++ begins.0) whole.front
              begins.1),
        );
        at = λ lt text. stops (omega arith) (
          text.0,
          utf8_behind (take n b) (take (k + 1) (drop n b) ++ text.0)
              whole.front (apart (k + 1) text.0 (subst (λ (m : ℕ). IsUtf8 (take m b ++ text.0)) (omega arith) text.1)),
        );
        cut = λ e text. not_text short text;
      }
    where
      parts : (m : ℕ) (more : List ℕ) → take (n + m) b ++ more ≡ take n b ++ (take m (drop n b) ++ more)
      parts m more = ap (λ (z : List ℕ). z ++ more) (take-add n m b)
          ∙ append_assoc (take n b) (take m (drop n b)) more

      joined : (m : ℕ) (more : List ℕ) → IsUtf8 (take n b ++ (take m (drop n b) ++ more))
          → IsUtf8 (take (n + m) b ++ more)
      joined m more text = subst IsUtf8 (sym (parts m more)) text

      apart : (m : ℕ) (more : List ℕ) → IsUtf8 (take (n + m) b ++ more)
          → IsUtf8 (take n b ++ (take m (drop n b) ++ more))
      apart m more text = subst IsUtf8 (parts m more) text
