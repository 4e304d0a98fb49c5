-- The text that std writes for an IPv4 or IPv6 address is that of the definitions `ipv4_text` and `ipv6_text`. In an
-- IPv6 text, `::` is in place of the first longest run of zero groups, if the run has at least two groups and the
-- address does not map an IPv4 address.
use Rattle.std.proofs.Common.{◌≡◌, ℕ, zero, suc, ◌+◌, ◌*◌, ◌/◌, ◌%◌, ◌^◌, ◌<◌, ◌≤◌, Bool, true, false, cond, eqb, leb}
use Rattle.std.proofs.Common.{List, [], ◌∷◌, ◌++◌, length, get_or, take, drop, map, max, codes, refl, sym, ap, ◌∙◌}
use Rattle.std.proofs.Common.{subst, inl, inr, arith, append_assoc, append-nil, le-leb, eq-eqb, ne_eqb}
use Rattle.std.proofs.DigitsParse.{digits_onto-nil, digits_onto_last, digits_onto_step}
use Rattle.std.proofs.NetLemmas.Arrays.{four_items, sixteen_items}
use Rattle.std.proofs.NetLemmas.Texts.{AllSegments-take, AllSegments-drop, IsZeroRun-longest_zero_run}
use Rattle.std.proofs.NetLemmas.Texts.{longest_zero_run_first}
use Rattle.std.proofs.lemmas.Bool.{cases_lt, cases_eq, lt-leb}
use Rattle.std.specs.Prelude.{bytes_eq, ◌&&◌}
use Rattle.std.specs.Fmt.{digits, digit_glyph}
use Rattle.std.specs.List.{flat_map, join_with_byte}
use Rattle.std.specs.Net.Addr.{segments_of, octets_of}
use Rattle.std.specs.Net.Text as Std
use Rattle.cbor_notes.specs.Address as spec

-- the pieces after the first, each after the byte between them
pub join_with_byte-cons : {X : Type 0} (c : ℕ) (f : X → List ℕ) (x : X) (xs : List X)
    → join_with_byte c (map f (x ∷ xs)) ≡ f x ++ flat_map (λ y. c ∷ f y) xs
join_with_byte-cons c f x [] = sym (append-nil (f x))
join_with_byte-cons c f x (y ∷ ys) = ap (λ t. f x ++ (c ∷ t)) (join_with_byte-cons c f y ys)

-- four decimal numbers with dots
pub ipv4_text-std : (octets : List ℕ) → length octets ≡ 4 → Std.ipv4_text octets ≡ spec.ipv4_text octets
ipv4_text-std octets four =
    let P : List ℕ → Type 0 = λ o. Std.ipv4_text o ≡ spec.ipv4_text o in
    subst P (sym (four_items octets four)) (simp append_assoc)

-- a group in hex
pub hex-digits : (n : ℕ) → n < 2 ^ 16 → Std.hex n ≡ digits 16 false n
unfolding Std.hex
hex-digits n fits =
    let last = digits_onto_last 16 false in
    let step = digits_onto_step 16 false in
    let glyph = digit_glyph false in
    let a : n / 16 / 16 ≡ n / 0x100 = omega arith in
    let b : n / 16 / 16 / 16 % 16 ≡ n / 0x1000 = omega arith in
    let begin = sym (digits_onto-nil 16 false n) in
    elim (cases_lt n 0x10) [
      | inl one ↦ rw (lt-leb 0x1000 n (omega arith), lt-leb 0x100 n (omega arith), lt-leb 0x10 n one)
          (sym (begin ∙ last n [] 64 (omega arith) (omega arith)))
      | inr more ↦ elim (cases_lt n 0x100) [
        | inl two ↦ rw (lt-leb 0x1000 n (omega arith), lt-leb 0x100 n two, le-leb 0x10 n more)
            (sym (begin ∙ step n [] 64 (omega arith) (omega arith) ∙ last (n / 16) _ 63 (omega arith) (omega arith)))
        | inr more ↦ elim (cases_lt n 0x1000) [
          | inl three ↦ rw (lt-leb 0x1000 n three, le-leb 0x100 n more, ← a)
              (sym (begin ∙ step n [] 64 (omega arith) (omega arith) ∙ step (n / 16) _ 63 (omega arith) (omega arith)
              ∙ last (n / 16 / 16) _ 62 (omega arith) (omega arith)))
          | inr four ↦ rw (le-leb 0x1000 n four, ← a, ← b)
              (sym (begin ∙ step n [] 64 (omega arith) (omega arith) ∙ step (n / 16) _ 63 (omega arith) (omega arith)
              ∙ step (n / 16 / 16) _ 62 (omega arith) (omega arith)
              ∙ last (n / 16 / 16 / 16) _ 61 (omega arith) (omega arith)))
        ]
      ]
    ]

-- groups of 16 bits
abbrev pub AllGroups : List ℕ → Type 0
AllGroups groups = (k : ℕ) → get_or groups k 0 < 2 ^ 16

-- octets make groups of 16 bits
pub AllGroups-segments_of : (octets : List ℕ) → ((k : ℕ) → get_or octets k 0 < 256) → AllGroups (segments_of octets)
AllGroups-segments_of [] fit k = omega arith
AllGroups-segments_of (a ∷ []) fit k = omega arith
AllGroups-segments_of (a ∷ b ∷ rest) fit k =
    let later = AllGroups-segments_of rest (λ j. fit (suc (suc j))) in
    elim k as (λ j. get_or ((a * 256 + b) ∷ segments_of rest) j 0 < 2 ^ 16)
    [ zero ↦ omega (arith, fit 0, fit 1) | suc j ↦ later j ]

more_groups : (groups : List ℕ) → AllGroups groups
    → flat_map (λ g. 58 ∷ Std.hex g) groups ≡ flat_map (λ g. 58 ∷ digits 16 false g) groups
more_groups [] fit = refl
more_groups (g ∷ rest) fit =
    let here = hex-digits g (fit 0) in
    let later = more_groups rest (λ j. fit (suc j)) in
    cc

-- groups with colons
pub groups_text-std : (groups : List ℕ) → AllGroups groups → Std.groups_text groups ≡ spec.groups_text groups
groups_text-std [] fit = refl
groups_text-std (g ∷ rest) fit =
    let here = hex-digits g (fit 0) in
    let later = more_groups rest (λ j. fit (suc j)) in
    let joined = join_with_byte-cons 58 (digits 16 false) g rest in
    cc

-- one more group in front: the run that it begins with, or the longest of the rest
first_of_two : (here later : ℕ) (first : ℕ → ℕ)
    → ◌≡◌ {A = ℕ × ℕ} (cond (leb later here) (0, here) (first later + 1, later))
    (cond (eqb here (max here later)) 0 (first (max here later) + 1), max here later)
first_of_two here later first = elim (cases_lt here later) [
  | inl shorter ↦
      let most : max here later ≡ later = omega arith in
      rw (most, lt-leb later here shorter, ne_eqb here later (λ same. omega arith))
  | inr longer ↦
      let most : max here later ≡ here = omega arith in
      rw (most, le-leb later here longer, eq-eqb here here refl)
]

-- std finds the same run
pub longest_zero_run-is : (groups : List ℕ)
    → Std.longest_zero_run groups ≡ (spec.first_run (spec.longest_run groups) groups, spec.longest_run groups)
longest_zero_run-is [] = refl
longest_zero_run-is (g ∷ rest) =
    rw (longest_zero_run-is rest)
    (first_of_two (spec.zeros_first (g ∷ rest)) (spec.longest_run rest) (λ n. spec.first_run n rest))

-- eight groups in hex
pub hex_text-std : (groups : List ℕ) → AllGroups groups → Std.hex_groups_text groups ≡ spec.hex_text groups
unfolding Std.hex_groups_text spec.hex_text
hex_text-std groups fit =
    let start = spec.first_run (spec.longest_run groups) groups in
    let count = spec.longest_run groups in
    let whole = groups_text-std groups fit in
    let front = groups_text-std (take start groups) (AllSegments-take start groups fit) in
    let back = groups_text-std (drop (start + count) groups) (AllSegments-drop (start + count) groups fit) in
    rw (longest_zero_run-is groups, whole, front, back)

-- two octets are two numbers where their group is those two numbers' group
same_pair : (a b m n group : ℕ) (others : Bool) → a < 256 → b < 256 → m < 256 → n < 256 → m * 256 + n ≡ group
    → eqb (a * 256 + b) group && others ≡ eqb a m && (eqb b n && others)
same_pair a b m n group others la lb lm ln e = elim (cases_eq a m) [
  | inl high ↦ elim (cases_eq b n) [
    | inl low ↦ rw (eq-eqb (a * 256 + b) group (omega arith), eq-eqb a m high, eq-eqb b n low)
    | inr low ↦ rw (ne_eqb (a * 256 + b) group (λ same. omega arith), eq-eqb a m high, ne_eqb b n low)
  ]
  | inr high ↦ rw (ne_eqb (a * 256 + b) group (λ same. omega arith), ne_eqb a m high)
]

-- an address begins with the prefix where its groups do
same_prefix : (a b c d e f g h i j k l : ℕ) → a < 256 → b < 256 → c < 256 → d < 256 → e < 256 → f < 256 → g < 256
    → h < 256 → i < 256 → j < 256 → k < 256 → l < 256
    → bytes_eq ((a * 256 + b) ∷ (c * 256 + d) ∷ (e * 256 + f) ∷ (g * 256 + h) ∷ (i * 256 + j) ∷ (k * 256 + l) ∷ [])
    (0 ∷ 0 ∷ 0 ∷ 0 ∷ 0 ∷ 0xffff ∷ [])
    ≡ bytes_eq (a ∷ b ∷ c ∷ d ∷ e ∷ f ∷ g ∷ h ∷ i ∷ j ∷ k ∷ l ∷ []) spec.ipv4_prefix
same_prefix a b c d e f g h i j k l la lb lc ld le lf lg lh li lj lk ll =
    let zero_pair : (x y : ℕ) (others : Bool) → x < 256 → y < 256
    → eqb (x * 256 + y) 0 && others ≡ eqb x 0 && (eqb y 0 && others) =
    λ x y others lx ly. same_pair x y 0 0 0 others lx ly (omega arith) (omega arith) refl in
    let ones = same_pair k l 255 255 0xffff true lk ll (omega arith) (omega arith) refl in
    rw (
      ones,
      zero_pair i j _ li lj,
      zero_pair g h _ lg lh,
      zero_pair e f _ le lf,
      zero_pair c d _ lc ld,
      zero_pair a b _ la lb,
    )

-- the last four octets, from their groups
last_four : (m n o p : ℕ) → n < 256 → p < 256
    → Std.ipv4_text (octets_of ((m * 256 + n) ∷ (o * 256 + p) ∷ [])) ≡ spec.ipv4_text (m ∷ n ∷ o ∷ p ∷ [])
last_four m n o p ln lp =
    let a : (m * 256 + n) / 256 ≡ m = omega arith in
    let b : (m * 256 + n) % 256 ≡ n = omega arith in
    let c : (o * 256 + p) / 256 ≡ o = omega arith in
    let d : (o * 256 + p) % 256 ≡ p = omega arith in
    rw (a, b, c, d) (ipv4_text-std (m ∷ n ∷ o ∷ p ∷ []) refl)

-- a choice between equals
cond_same : (t u : Bool) (x y v w : List ℕ) → t ≡ u → x ≡ v → y ≡ w → cond t x y ≡ cond u v w
cond_same t u x y v w test then_same else_same = cc

-- std's text of sixteen octets, by their names
listed : (a b c d e f g h i j q l m n o p : ℕ)
    → ((k : ℕ) → get_or (a ∷ b ∷ c ∷ d ∷ e ∷ f ∷ g ∷ h ∷ i ∷ j ∷ q ∷ l ∷ m ∷ n ∷ o ∷ p ∷ []) k 0 < 256)
    → Std.ipv6_text (segments_of (a ∷ b ∷ c ∷ d ∷ e ∷ f ∷ g ∷ h ∷ i ∷ j ∷ q ∷ l ∷ m ∷ n ∷ o ∷ p ∷ []))
    ≡ spec.ipv6_text (a ∷ b ∷ c ∷ d ∷ e ∷ f ∷ g ∷ h ∷ i ∷ j ∷ q ∷ l ∷ m ∷ n ∷ o ∷ p ∷ [])
unfolding Std.ipv6_text spec.ipv6_text
listed a b c d e f g h i j q l m n o p fit =
    let octets : List ℕ = a ∷ b ∷ c ∷ d ∷ e ∷ f ∷ g ∷ h ∷ i ∷ j ∷ q ∷ l ∷ m ∷ n ∷ o ∷ p ∷ [] in
    cond_same _ _ _ _ _ _ (same_prefix a b c d e f g h i j q l (fit 0) (fit 1) (fit 2) (fit 3) (fit 4) (fit 5) (fit 6)
    (fit 7) (fit 8) (fit 9) (fit 10) (fit 11))
    (ap (λ t. codes "::ffff:" ++ t) (last_four m n o p (fit 13) (fit 15)))
    (hex_text-std (segments_of octets) (AllGroups-segments_of octets fit))

-- std's text of the groups of sixteen octets
pub ipv6_text-std : (octets : List ℕ) → length octets ≡ 16 → ((k : ℕ) → get_or octets k 0 < 256)
    → Std.ipv6_text (segments_of octets) ≡ spec.ipv6_text octets
ipv6_text-std octets sixteen fit =
    let P : List ℕ → Type 0 = λ o. ((k : ℕ) → get_or o k 0 < 256) → Std.ipv6_text (segments_of o) ≡ spec.ipv6_text o in
    subst P (sym (sixteen_items octets sixteen))
    (listed (get_or octets 0 0) (get_or octets 1 0) (get_or octets 2 0) (get_or octets 3 0) (get_or octets 4 0)
    (get_or octets 5 0) (get_or octets 6 0) (get_or octets 7 0) (get_or octets 8 0) (get_or octets 9 0)
    (get_or octets 10 0) (get_or octets 11 0) (get_or octets 12 0) (get_or octets 13 0) (get_or octets 14 0)
    (get_or octets 15 0)) fit

-- the run that is written `::` is the first longest
pub shortened-first_longest : (groups : List ℕ) (start count : ℕ) → spec.IsFirstLongestRun groups start count
    → 2 ≤ count → spec.hex_text groups ≡ spec.shortened groups start count
unfolding spec.hex_text
shortened-first_longest groups start count is least =
    let found = longest_zero_run-is groups in
    let std_run = IsZeroRun-longest_zero_run groups in
    let run : spec.IsZeroRun groups (spec.first_run (spec.longest_run groups) groups) (spec.longest_run groups) =
    rw found at std_run in
    let none_before = rw found at (longest_zero_run_first groups start count is.run) in
    let most = is.longest _ _ run in
    let same_count : spec.longest_run groups ≡ count = omega arith in
    let first = is.first (spec.first_run count groups) (rw same_count at run) in
    let before : spec.first_run count groups ≤ start = rw same_count at (none_before.1 (sym same_count)) in
    let same_start : spec.first_run count groups ≡ start = omega arith in
    rw (same_count, same_start, le-leb 2 count least)

-- so the text has it
pub ShortensFirstLongestRun-ipv6_text : (octets text : List ℕ) → text ≡ spec.ipv6_text octets
    → spec.ShortensFirstLongestRun octets text
unfolding spec.ipv6_text
ShortensFirstLongestRun-ipv6_text octets text e unmapped start count is least =
    e ∙ rw unmapped (shortened-first_longest (segments_of octets) start count is least)
