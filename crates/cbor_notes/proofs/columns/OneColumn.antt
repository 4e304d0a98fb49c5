-- If all lines of a layout are plain (`IsPlain`), the text without comments and blanks (`uncommented`) is the digits of
-- the lines. If the digits also reach no farther than the width of the left column, the first `#` of each line of the
-- text is at the same place (`IsColumn`).
use Rattle.std.proofs.Common.{◌≡◌, ◌≢◌, ℕ, suc, ◌+◌, ◌-◌, ◌*◌, ◌==◌, ◌≤◌, ◌<◌, Bool, true, false, not, cond, List, []}
use Rattle.std.proofs.Common.{◌∷◌, ◌++◌, length, take, get_or, refl, sym, ap, ◌∙◌, arith, append_assoc}
use Rattle.std.proofs.Common.{append-nil, zero, length-append, Some, subst}
use Rattle.std.specs.List.{AllByRecursion, before_first, position, position_or_len, slice_split, filter}
use Rattle.std.specs.List.{flat_map, onto_first}
use Rattle.std.specs.Str.Lines.{lines, lines_of_parts, strip_carriage_return}
use Rattle.std.proofs.lemmas.Bool.{ne_eqb}
use Rattle.std.proofs.lemmas.Bool.Decides.{nat_tests}
use Rattle.std.proofs.lemmas.List.{get_or_append_left, length-replicate}
use Rattle.std.proofs.lemmas.List.Elements.{All-append, All-replicate, filter-append}
use Rattle.std.proofs.lemmas.List.Splits.{slice_split_at}
use Rattle.std.proofs.lemmas.List.Sums.{position_or_len_is}
use Rattle.std.proofs.Math.Seq.{get_or-append_seam, take-append_seam, take-append-add}
use Rattle.cbor_notes.specs.Layout.{DumpLine, blanks, left_column, line_text, reach, width_of}
use Rattle.cbor_tokens.specs.Uncommented.{Lacks, uncommented}
use Rattle.cbor_notes.specs.Columns.{IsPlain, IsColumn, digits_of}

-- the bytes before the first one that passes
pub first_at : (c : ℕ) (front back : List ℕ) → Lacks c front
    → position_or_len (λ b. b == c) (front ++ c ∷ back) ≡ length front
first_at c front back lacks =
    position_or_len_is (λ b. b == c) (front ++ c ∷ back) (length front) 0
    (omega (arith, length-append front (c ∷ back)))
    (λ k h. rw (get_or_append_left front (c ∷ back) 0 k h) (ne_eqb (get_or front k 0) c (lacks k 0 h)))
    (λ _. rw (get_or-append_seam front c back 0) (grind (arith, nat_tests)))

pub before : (c : ℕ) (front back : List ℕ) → Lacks c front → before_first (λ b. b == c) (front ++ c ∷ back) ≡ front
before c front back lacks = ap (λ n. take n (front ++ c ∷ back)) (first_at c front back lacks)
    ∙ take-append_seam front (c ∷ back)

place : (c : ℕ) (front back : List ℕ) → Lacks c front → position (λ b. b == c) (front ++ c ∷ back) ≡ Some (length front)
place c front back lacks =
    let short : length front < length (front ++ c ∷ back) = omega (arith, length-append front (c ∷ back)) in
    rw (first_at c front back lacks) (grind (arith, nat_tests))

-- a list is never cut into no parts
parts_some : (p : ℕ → Bool) (xs : List ℕ) → (first : List ℕ) × (more : List (List ℕ))
    × (slice_split p xs ≡ first ∷ more)
parts_some p [] = ([], [], refl)
parts_some p (x ∷ xs) =
    let rest = parts_some p xs in
    elim (p x) as (λ v. (first : List ℕ) × (more : List (List ℕ))
    × (cond v ([] ∷ slice_split p xs) (onto_first x (slice_split p xs)) ≡ first ∷ more)) [
      | true ↦ ([], slice_split p xs, refl)
      | false ↦ (x ∷ rest.0, rest.1, ap (onto_first x) rest.2)
    ]

-- the first line of a text
line_first : (line rest : List ℕ) → Lacks 10 line → lines (line ++ 10 ∷ rest) ≡ strip_carriage_return line ∷ lines rest
line_first line rest lacks =
    let cut = slice_split_at (λ b. b == 10) line 10 rest (λ k d h. ne_eqb (get_or line k d) 10 (lacks k d h)) refl in
    let some = parts_some (λ b. b == 10) rest in
    ap lines_of_parts cut ∙ rw some.2 refl

-- a line that loses its carriage return loses nothing before its `#`
end_lost : (front back : List ℕ) → (left : List ℕ)
    × (strip_carriage_return (front ++ 35 ∷ (32 ∷ back)) ≡ front ++ 35 ∷ left)
end_lost front back =
    let line : List ℕ = front ++ 35 ∷ (32 ∷ back) in
    let long : length line - 1 ≡ length front + suc (length back) =
    omega (arith, length-append front (35 ∷ (32 ∷ back))) in
    let cut : take (length line - 1) line ≡ front ++ 35 ∷ take (length back) (32 ∷ back) =
    rw long (take-append-add front (35 ∷ (32 ∷ back)) (suc (length back))) in
    elim (get_or line (length line - 1) 0 == 13) as
    (λ v. (left : List ℕ) × (cond v (take (length line - 1) line) line ≡ front ++ 35 ∷ left)) [
      | true ↦ (take (length back) (32 ∷ back), cut)
      | false ↦ (32 ∷ back, refl)
    ]

-- the left column and a blank
abbrev front_of : ℕ → DumpLine → List ℕ
front_of width line = left_column width line ++ 32 ∷ []

abbrev back_of : DumpLine → List ℕ
back_of line = blanks (2 * line.depth) ++ line.comment

abbrev body_of : ℕ → DumpLine → List ℕ
body_of width line = front_of width line ++ 35 ∷ (32 ∷ back_of line)

line_is : (width : ℕ) (line : DumpLine) → line_text width line ≡ body_of width line ++ 10 ∷ []
line_is width line = simp append_assoc

blanks_lack : (c n : ℕ) → 32 ≢ c → Lacks c (blanks n)
blanks_lack c n other = All-replicate (λ b. b ≢ c) n 32 other

front_lacks : (c width : ℕ) (line : DumpLine) → 32 ≢ c → Lacks c line.hex → Lacks c (front_of width line)
front_lacks c width line other lacks =
    let blank = blanks_lack c 1 other in
    All-append (λ b. b ≢ c) (left_column width line) (32 ∷ [])
    (elim (length line.hex == 0) as (λ v. Lacks c
    (cond v (blanks width) ((blanks (3 * line.depth) ++ line.hex) ++ blanks (width - reach line)))) [
      | true ↦ blanks_lack c width other
      | false ↦
          All-append (λ b. b ≢ c) (blanks (3 * line.depth) ++ line.hex) (blanks (width - reach line))
          (All-append (λ b. b ≢ c) (blanks (3 * line.depth)) line.hex (blanks_lack c (3 * line.depth) other) lacks)
          (blanks_lack c (width - reach line) other)
    ])
    blank

front_long : (width : ℕ) (line : DumpLine) → reach line ≤ width → length (front_of width line) ≡ width + 1
front_long width line fits =
    let long = 3 * line.depth + length line.hex in
    elim (length line.hex == 0) as
    (λ v. cond v 0 long ≤ width
    → length (cond v (blanks width) ((blanks (3 * line.depth) ++ line.hex) ++ blanks (width - cond v 0 long))
    ++ 32 ∷ []) ≡ width + 1) [
      | true ↦ λ h. simp (length-append, length-replicate) (omega arith)
      | false ↦ λ h. simp (length-append, length-replicate) (omega arith)
    ] fits

no_blanks : (n : ℕ) → filter (λ b. not (b == 32)) (blanks n) ≡ []
no_blanks zero = refl
no_blanks (suc n) = no_blanks n

nothing : (xs : List ℕ) → length xs ≡ 0 → xs ≡ []
nothing [] none = refl
nothing (x ∷ xs) none = absurd (omega arith)

-- without blanks the left column is the digits
front_digits : (width : ℕ) (line : DumpLine)
    → filter (λ b. not (b == 32)) (front_of width line) ≡ filter (λ b. not (b == 32)) line.hex
front_digits width line =
    let digits = filter (λ (b : ℕ). not (b == 32)) in
    elim (length line.hex == 0) as
    (λ v. (length line.hex == 0) ≡ v
    → digits (cond v (blanks width) ((blanks (3 * line.depth) ++ line.hex) ++ blanks (width - reach line)) ++ 32 ∷ [])
    ≡ digits line.hex) [
      | true ↦ λ e.
          let none : length line.hex ≡ 0 = grind (arith, nat_tests) in
          rw (nothing line.hex none, filter-append, no_blanks width) refl
      | false ↦ λ e. simp (filter-append, no_blanks (3 * line.depth), no_blanks (width - reach line), append-nil)
    ] refl

hash_lacks : Lacks 10 (35 ∷ 32 ∷ [])
hash_lacks k d h = grind (arith, nat_tests)

blank_is_no_hash : ◌≢◌ {A = ℕ} 32 35
blank_is_no_hash e = cc e

blank_is_no_feed : ◌≢◌ {A = ℕ} 32 10
blank_is_no_feed e = cc e

body_lacks : (width : ℕ) (line : DumpLine) → IsPlain line → Lacks 10 (body_of width line)
body_lacks width line plain =
    All-append (λ b. b ≢ 10) (front_of width line) (35 ∷ (32 ∷ back_of line))
    (front_lacks 10 width line blank_is_no_feed plain.no_feed)
    (All-append (λ b. b ≢ 10) (35 ∷ 32 ∷ []) (back_of line) hash_lacks
    (All-append (λ b. b ≢ 10) (blanks (2 * line.depth)) line.comment (blanks_lack 10 (2 * line.depth) blank_is_no_feed)
    plain.one_line))

-- The text of some lines, and the lines of a text: two words that stay closed while the lines are gone over.
text_of : ℕ → List DumpLine → List ℕ
text_of width all = flat_map (line_text width) all

cut : List ℕ → List (List ℕ)
cut text = lines text

cut_none : (width : ℕ) → cut (text_of width []) ≡ []
unfolding text_of cut
cut_none width = refl

-- the first line of a layout
cut_more : (width : ℕ) (line : DumpLine) (more : List DumpLine) → IsPlain line
    → (back : List ℕ) × (cut (text_of width (line ∷ more)) ≡ (front_of width line ++ 35 ∷ back)
    ∷ cut (text_of width more))
unfolding text_of cut
cut_more width line more plain =
    let lost = end_lost (front_of width line) (back_of line) in
    let rest : List ℕ = flat_map (line_text width) more in
    let split : line_text width line ++ rest ≡ body_of width line ++ 10 ∷ rest =
    ap (λ text. text ++ rest) (line_is width line) ∙ append_assoc (body_of width line) (10 ∷ []) rest in (
      lost.0,
      ap lines split ∙ line_first (body_of width line) rest (body_lacks width line plain)
          ∙ ap (λ first. first ∷ lines rest) lost.1,
    )

abbrev HashAt : ℕ → List ℕ → Type 0
HashAt n line = position (λ b. b == 35) line ≡ Some n

fits_first : (width : ℕ) (line : DumpLine) (more : List DumpLine) → width_of (line ∷ more) ≤ width → reach line ≤ width
fits_first width line more fits = omega arith

fits_more : (width : ℕ) (line : DumpLine) (more : List DumpLine) → width_of (line ∷ more) ≤ width
    → width_of more ≤ width
fits_more width line more fits = omega arith

hash_here : (width : ℕ) (line : DumpLine) (back : List ℕ) → IsPlain line → reach line ≤ width
    → HashAt (width + 1) (front_of width line ++ 35 ∷ back)
hash_here width line back plain fits =
    place 35 (front_of width line) back (front_lacks 35 width line blank_is_no_hash plain.no_hash)
    ∙ ap (λ n. Some n) (front_long width line fits)

hashes_more : (width : ℕ) (line : DumpLine) (more : List DumpLine) → IsPlain line → reach line ≤ width
    → AllByRecursion (HashAt (width + 1)) (cut (text_of width more))
    → AllByRecursion (HashAt (width + 1)) (cut (text_of width (line ∷ more)))
hashes_more width line more plain fits others =
    let first = cut_more width line more plain in
    subst (AllByRecursion (HashAt (width + 1))) (sym first.1) (hash_here width line first.0 plain fits, others)

hashes_none : (width : ℕ) → AllByRecursion (HashAt (width + 1)) (cut (text_of width []))
hashes_none width = subst (AllByRecursion (HashAt (width + 1))) (sym (cut_none width)) tt

hashes : (width : ℕ) (all : List DumpLine) → AllByRecursion IsPlain all → width_of all ≤ width
    → AllByRecursion (HashAt (width + 1)) (cut (text_of width all))
hashes width [] plain fits = hashes_none width
hashes width (line ∷ more) plain fits =
    hashes_more width line more plain.0 (fits_first width line more fits)
    (hashes width more plain.1 (fits_more width line more fits))

abbrev kept : List ℕ → List ℕ
kept line = filter (λ b. not (b == 32)) (before_first (λ b. b == 35) line)

kept_here : (width : ℕ) (line : DumpLine) (back : List ℕ) → IsPlain line
    → kept (front_of width line ++ 35 ∷ back) ≡ filter (λ b. not (b == 32)) line.hex
kept_here width line back plain =
    ap (filter (λ b. not (b == 32))) (before 35 (front_of width line) back
    (front_lacks 35 width line blank_is_no_hash plain.no_hash)) ∙ front_digits width line

digits_more : (width : ℕ) (line : DumpLine) (more : List DumpLine) → IsPlain line
    → flat_map kept (cut (text_of width more)) ≡ digits_of more
    → flat_map kept (cut (text_of width (line ∷ more))) ≡ digits_of (line ∷ more)
digits_more width line more plain others =
    let first = cut_more width line more plain in
    ap (flat_map kept) first.1 ∙ ap (λ x. x ++ flat_map kept (cut (text_of width more)))
    (kept_here width line first.0 plain)
    ∙ ap (λ x. filter (λ b. not (b == 32)) line.hex ++ x) others

digits : (width : ℕ) (all : List DumpLine) → AllByRecursion IsPlain all
    → flat_map kept (cut (text_of width all)) ≡ digits_of all
digits width [] plain = ap (flat_map kept) (cut_none width)
digits width (line ∷ more) plain = digits_more width line more plain.0 (digits width more plain.1)

-- the first `#` of each line comes after the left column and a blank
pub one_column : (width : ℕ) (all : List DumpLine) → AllByRecursion IsPlain all → width_of all ≤ width
    → IsColumn (width + 1) (flat_map (line_text width) all)
unfolding text_of cut
one_column width all plain fits = hashes width all plain fits

-- the digits come before them
pub digits_left : (width : ℕ) (all : List DumpLine) → AllByRecursion IsPlain all
    → uncommented (flat_map (line_text width) all) ≡ digits_of all
unfolding text_of cut
digits_left width all plain = digits width all plain
