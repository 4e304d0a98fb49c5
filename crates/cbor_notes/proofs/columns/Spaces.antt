-- For `blanks`, `push_blanks` and `short_gap` in `line.rt`: a text of blanks can be cut at any place, and its parts are
-- blanks. A slice of `gap 44 44` is `gap before after`, if `before` and `after` are at most 44.
use Rattle.std.proofs.Common.{◌≡◌, ℕ, ◌+◌, ◌-◌, ◌<◌, ◌≤◌, List, ◌++◌, length, slice_index, slice_range, replicate, take}
use Rattle.std.proofs.Common.{ap, ◌∙◌, append_assoc, arith, refl, sym, codes}
use Rattle.std.proofs.lemmas.List.{length-append, take_at, drop_at}
use Rattle.std.proofs.lemmas.Str.{IsCharBoundary-from_ascii}
use Rattle.std.specs.Str.{IsCharBoundary}
use Rattle.cbor_notes.specs.Layout.{gap}
use Rattle.cbor_tokens.proofs.texts.HexLemmas.{IsAscii-from_test}
use Rattle.std.proofs.lemmas.List.{replicate-append-replicate, get_or-replicate, length-replicate, take-replicate}

-- blanks can be cut at any place
pub blanks_boundary : (n i : ℕ) → i ≤ n → (i ≤ length {A = ℕ} (replicate n 32))
    × (i < length {A = ℕ} (replicate n 32) → 128 ≤ slice_index (replicate n 32) i
    → 192 ≤ slice_index (replicate n 32) i)
blanks_boundary n i h =
    let long : length {A = ℕ} (replicate n 32) ≡ n = length-replicate n 32 in (
      omega (arith, long),
      λ below high. let blank : slice_index (replicate n 32) i ≡ 32 =
          get_or-replicate n i 32 0 (omega (arith, long)) in absurd (omega (arith, blank)),
    )

pub blanks_cut : (n i : ℕ) → i ≤ n → slice_range {X = ℕ} (replicate n 32) 0 i ≡ replicate i 32
blanks_cut n i h =
    let from_start : i - 0 ≡ i = omega arith in
    ap (λ (k : ℕ). take k (replicate n 32)) from_start ∙ take-replicate {X = ℕ} i n 32 h

-- some of the blanks that are left
pub blanks_split : (out : List ℕ) (n left : ℕ) → n ≤ left
    → (out ++ replicate n 32) ++ replicate (left - n) 32 ≡ out ++ replicate left 32
blanks_split out n left h =
    let whole : n + (left - n) ≡ left = omega arith in
    append_assoc out (replicate n 32) (replicate (left - n) 32)
    ∙ ap (λ x. out ++ x) (replicate-append-replicate n (left - n) 32 ∙ ap (λ k. replicate k 32) whole)

-- a gap can be cut at any place
pub gap_boundary : (i : ℕ) → i ≤ 91 → IsCharBoundary (gap 44 44) i
gap_boundary i h = IsCharBoundary-from_ascii (gap 44 44) i (IsAscii-from_test (gap 44 44) refl) h

-- a wide gap is a narrow one between blanks
gap_within : (before after left right : ℕ)
    → gap (left + before) (after + right) ≡ replicate left 32 ++ (gap before after ++ replicate right 32)
gap_within before after left right =
    ap (λ x. (x ++ codes " # ") ++ replicate (after + right) 32) (sym (replicate-append-replicate left before 32))
    ∙ ap (λ x. ((replicate left 32 ++ replicate before 32) ++ codes " # ") ++ x)
    (sym (replicate-append-replicate after right 32))
    ∙ simp append_assoc

length_gap : (before after : ℕ) → length (gap before after) ≡ before + 3 + after
length_gap before after =
    let whole : length (gap before after) ≡ length (replicate before 32 ++ codes " # ")
    + length {A = ℕ} (replicate after 32) =
    length-append (replicate before 32 ++ codes " # ") (replicate after 32) in
    let start : length (replicate before 32 ++ codes " # ") ≡ length {A = ℕ} (replicate before 32) + 3 =
    length-append (replicate before 32) (codes " # ") in
    let front : length {A = ℕ} (replicate before 32) ≡ before = length-replicate before 32 in
    let back : length {A = ℕ} (replicate after 32) ≡ after = length-replicate after 32 in
    omega (arith, whole, start, front, back)

-- a part of the middle of a list
between : (front middle back : List ℕ) (i j : ℕ) → length front ≡ i → length middle ≡ j - i
    → slice_range (front ++ (middle ++ back)) i j ≡ middle
between front middle back i j start long =
    ap (take (j - i)) (drop_at front (middle ++ back) i start) ∙ take_at middle back (j - i) long

pub gap_cut : (before after : ℕ) → before ≤ 44 → after ≤ 44
    → slice_range (gap 44 44) (44 - before) (47 + after) ≡ gap before after
gap_cut before after few some =
    let left : 44 - before + before ≡ 44 = omega arith in
    let right : after + (44 - after) ≡ 44 = omega arith in
    let whole : gap 44 44 ≡ replicate (44 - before) 32 ++ (gap before after ++ replicate (44 - after) 32) =
    sym (ap (λ n. gap n 44) left) ∙ sym (ap (λ n. gap (44 - before + before) n) right)
    ∙ gap_within before after (44 - before) (44 - after) in
    ap (λ x. slice_range x (44 - before) (47 + after)) whole
    ∙ between (replicate (44 - before) 32) (gap before after) (replicate (44 - after) 32) (44 - before) (47 + after)
    (length-replicate (44 - before) 32) (omega (arith, length_gap before after))
