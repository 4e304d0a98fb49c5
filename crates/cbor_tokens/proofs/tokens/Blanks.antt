-- The function `after_blank` returns the text that follows the longest blank at the front (`IsLongest`), with comments
-- or without. For the steps in `token.rt`: a comment ends at the next `/`, and a `/` with no other one after it opens
-- no comment.
use Rattle.std.proofs.Common.{◌≡◌, ◌≢◌, ℕ, suc, ◌+◌, ◌<◌, ◌≤◌, Bool, true, false, ◌==◌, ◌&&◌, ◌||◌, List, [], ◌∷◌, ◌++◌}
use Rattle.std.proofs.Common.{length, drop, slice_range, Option, Some, None, refl, sym, ap, ◌∙◌, subst, inl, inr, arith}
use Rattle.std.proofs.Common.{IsTrue}
use Rattle.std.specs.List.{AllByRecursion, position, position_or_len}
use Rattle.std.proofs.lemmas.List.{length-append, append_assoc, append-nil}
use Rattle.std.proofs.lemmas.Bool.{cond_both, and_parts, or_cases, eqb-true, eqb-false, ne_eqb, cases_Bool, false≢true}
use Rattle.std.proofs.Math.Numerals.{one-add}
use Rattle.cbor_tokens.specs.Token.{Blank, nothing, whitespace, comment, IsLongest, is_whitespace}
use Rattle.cbor_tokens.specs.TokenReading.{after_blank_in, after_blank}
use Rattle.cbor_tokens.proofs.tokens.Longest.{one_longest}
use Rattle.cbor_tokens.proofs.tokens.TextPlaces.{part_and_rest, part_is, first_at, first_nowhere}

-- what holds at each of the four holds of all whitespace
pub at_whitespace : (P : ℕ → Type 0) → P 32 → P 9 → P 10 → P 13 → (byte : ℕ) → IsTrue (is_whitespace byte) → P byte
at_whitespace P space tab line_feed carriage_return byte is =
    elim (or_cases ((byte == 32) || (byte == 9) || (byte == 10)) (byte == 13) is) [
      | inl early ↦ elim (or_cases ((byte == 32) || (byte == 9)) (byte == 10) early) [
        | inl first ↦ elim (or_cases (byte == 32) (byte == 9) first) [
          | inl e ↦ subst P (sym (eqb-true byte 32 e)) space
          | inr e ↦ subst P (sym (eqb-true byte 9 e)) tab
        ]
        | inr e ↦ subst P (sym (eqb-true byte 10 e)) line_feed
      ]
      | inr e ↦ subst P (sym (eqb-true byte 13 e)) carriage_return
    ]

-- blanks in sequence are a blank
pub Blank-append : {comments : Bool} {front rest : List ℕ} → Blank comments front → Blank comments rest
    → Blank comments (front ++ rest)
Blank-append nothing after = after
Blank-append (whitespace is more) after = whitespace is (Blank-append more after)
Blank-append {rest = after} (comment words rest allowed no_slash more is) then =
    comment words (rest ++ after) allowed no_slash (Blank-append more then)
    (ap (λ (t : List ℕ). t ++ after) is ∙ append_assoc (47 ∷ words) (47 ∷ rest) after)

-- where reading is: before a piece of a blank, or in a comment that was opened and whose words so far have no `/`
abbrev Stands : Bool → Option (List ℕ) → List ℕ → List ℕ → Type 0
Stands comments None text whole = whole ≡ text
Stands comments (Some opened) text whole = (whole ≡ opened) × IsTrue comments
    × ((words : List ℕ) × AllByRecursion (λ byte. byte ≢ 47) words × (opened ≡ 47 ∷ words ++ text))

-- a blank that is a front of the text, and what is left
abbrev Left : Bool → List ℕ → List ℕ → Type 0
Left comments whole rest = (front : List ℕ) × (whole ≡ front ++ rest) × Blank comments front

pub all_push : (words : List ℕ) (byte : ℕ) → AllByRecursion (λ b. b ≢ 47) words → byte ≢ 47
    → AllByRecursion (λ b. b ≢ 47) (words ++ byte ∷ [])
all_push [] byte all other = (other, tt)
all_push (w ∷ words) byte all other = (all.0, all_push words byte all.1 other)

left_in : (comments : Bool) (mode : Option (List ℕ)) (text whole : List ℕ) → Stands comments mode text whole
    → Left comments whole (after_blank_in comments mode text)
left_in comments None [] whole is = ([], is, nothing)
left_in comments (Some opened) [] whole is = ([], is.0, nothing)
left_in comments None (byte ∷ rest) whole is =
    cond_both (is_whitespace byte) (after_blank_in comments None rest) _ (Left comments whole)
    (λ white. let next = left_in comments None rest rest refl in
    (byte ∷ next.0, is ∙ ap (λ (t : List ℕ). byte ∷ t) next.1, whitespace white next.2))
    (λ black. cond_both (comments && (byte == 47)) (after_blank_in comments (Some (byte ∷ rest)) rest) (byte ∷ rest)
    (Left comments whole)
    (λ opens. let parts = and_parts comments (byte == 47) opens in
    let slash : byte ≡ 47 = eqb-true byte 47 parts.1 in
    left_in comments (Some (byte ∷ rest)) rest whole (is, parts.0, ([], tt, ap (λ (b : ℕ). b ∷ rest) slash)))
    (λ closed. ([], is, nothing)))
left_in comments (Some opened) (byte ∷ rest) whole is =
    let words = is.2.0 in
    cond_both (byte == 47) (after_blank_in comments None rest) (after_blank_in comments (Some opened) rest)
    (Left comments whole)
    (λ closes. let next = left_in comments None rest rest refl in
    let slash : byte ≡ 47 = eqb-true byte 47 closes in (
      47 ∷ words ++ 47 ∷ next.0,
      is.0 ∙ is.2.2 ∙ ap (λ (t : List ℕ). 47 ∷ words ++ t)
          (ap (λ (b : ℕ). b ∷ rest) slash ∙ ap (λ (t : List ℕ). 47 ∷ t) next.1)
          ∙ sym (append_assoc (47 ∷ words) (47 ∷ next.0) (after_blank_in comments None rest)),
      comment words next.0 is.1 is.2.1 next.2 refl,
    ))
    (λ goes_on. left_in comments (Some opened) rest whole (
      is.0,
      is.1,
      (
        words ++ byte ∷ [],
        all_push words byte is.2.1 (eqb-false byte 47 goes_on),
        is.2.2
            ∙ sym (append_assoc (47 ∷ words) (byte ∷ []) rest),
      ),
    ))

-- some front of a text is a blank, after which reading leaves the rest
pub blank_left : (comments : Bool) (text : List ℕ) → (front : List ℕ) × (text ≡ front ++ after_blank comments text)
    × Blank comments front
blank_left comments text = left_in comments None text text refl

pub length-after_blank : (comments : Bool) (text : List ℕ) → length (after_blank comments text) ≤ length text
length-after_blank comments text =
    let left = blank_left comments text in
    omega (arith, ap length left.1, length-append left.0 (after_blank comments text))

-- words of a comment, and the `/` that closes it
words_read : (comments : Bool) (opened words rest : List ℕ) → AllByRecursion (λ byte. byte ≢ 47) words
    → after_blank_in comments (Some opened) (words ++ 47 ∷ rest) ≡ after_blank comments rest
words_read comments opened [] rest all = refl
words_read comments opened (w ∷ words) rest all = rw (ne_eqb w 47 all.0) (words_read comments opened words rest all.1)

comment_read : (comments : Bool) (words rest : List ℕ) → IsTrue comments → AllByRecursion (λ byte. byte ≢ 47) words
    → after_blank comments (47 ∷ (words ++ 47 ∷ rest)) ≡ after_blank comments rest
comment_read true words rest allowed all = words_read true (47 ∷ (words ++ 47 ∷ rest)) words rest all
comment_read false words rest allowed all = absurd (false≢true allowed)

-- a blank is left out
pub after_blank-append : {comments : Bool} {front : List ℕ} → Blank comments front → (rest : List ℕ)
    → after_blank comments (front ++ rest) ≡ after_blank comments rest
after_blank-append nothing after = refl
after_blank-append (whitespace is more) after = rw is (after_blank-append more after)
after_blank-append {comments} (comment words rest allowed no_slash more is) after =
    ap (after_blank comments) (ap (λ (t : List ℕ). t ++ after) is ∙ append_assoc (47 ∷ words) (47 ∷ rest) after)
    ∙ (comment_read comments words (rest ++ after) allowed no_slash ∙ after_blank-append more after)

-- so what is left follows the longest blank
pub longest_left : (comments : Bool) (front rest : List ℕ) → Blank comments front
    → rest ≡ after_blank comments (front ++ rest) → IsLongest (Blank comments) front rest
longest_left comments front rest is left = record {
  is = is;
  no_longer = λ other after same blank.
      let read : after_blank comments (front ++ rest) ≡ after_blank comments after = ap (after_blank comments) same
      ∙ after_blank-append blank after in
      omega (
        arith,
        ap length same,
        length-append front rest,
        length-append other after,
        ap length left,
        ap length read,
        length-after_blank comments after,
      );
}

-- and what follows the longest blank is what is left
pub after_longest_blank : (comments : Bool) (front rest : List ℕ) → IsLongest (Blank comments) front rest
    → rest ≡ after_blank comments (front ++ rest)
after_longest_blank comments front rest longest =
    let text = front ++ rest in
    let left = blank_left comments text in
    let here = longest_left comments left.0 (after_blank comments text) left.2 (ap (after_blank comments) left.1) in
    (one_longest (Blank comments) front rest left.0 (after_blank comments text) left.1 longest here).1

-- what no blank goes on with: nothing, or a byte that is neither whitespace nor `/`
abbrev pub EndsBlank : List ℕ → Type 0
EndsBlank [] = Unit {0}
EndsBlank (byte ∷ rest) = (is_whitespace byte ≡ false) × (byte ≢ 47)

pub after_blank-ends : (comments : Bool) (rest : List ℕ) → EndsBlank rest → after_blank comments rest ≡ rest
after_blank-ends comments [] ends = refl
after_blank-ends true (byte ∷ rest) ends = rw (ends.0, ne_eqb byte 47 ends.1) refl
after_blank-ends false (byte ∷ rest) ends = rw ends.0 refl

-- where a comment ends, if it does
pub after_comment : (comments : Bool) (opened rest : List ℕ) (place : ℕ) → place ≡ position_or_len (λ b. b == 47) rest
    → place < length rest → after_blank_in comments (Some opened) rest ≡ after_blank comments (drop (place + 1) rest)
after_comment comments opened [] place is within = absurd (omega arith)
after_comment comments opened (byte ∷ rest) place is within =
    elim (cases_Bool (byte == 47)) [
      | inl closes ↦
          let zero : place ≡ 0 = is ∙ (rw closes refl) in
          rw (closes, zero) refl
      | inr goes_on ↦
          let next : place ≡ suc (position_or_len (λ b. b == 47) rest) = is
          ∙ (rw (goes_on, one-add (position_or_len (λ b. b == 47) rest)) refl) in
          let n = position_or_len (λ b. b == 47) rest in
          let one_on : suc (n + 1) ≡ suc n + 1 = omega arith in
          rw (goes_on, next) (after_comment comments opened rest n refl (omega arith)
          ∙ ap (λ (m : ℕ). after_blank comments (drop m (byte ∷ rest))) one_on)
    ]

pub no_comment : (comments : Bool) (opened rest : List ℕ) → position_or_len (λ b. b == 47) rest ≡ length rest
    → after_blank_in comments (Some opened) rest ≡ opened
no_comment comments opened [] is = refl
no_comment comments opened (byte ∷ rest) is =
    elim (cases_Bool (byte == 47)) [
      | inl closes ↦ let zero : 0 ≡ length (byte ∷ rest) = rw closes at is in absurd (omega arith)
      | inr goes_on ↦
          let next : 1 + position_or_len (λ b. b == 47) rest ≡ suc (length rest) = rw goes_on at is in
          rw goes_on (no_comment comments opened rest (omega arith))
    ]

-- the longest blank by its places
pub longest_blank_at : (comments : Bool) (text : List ℕ) (at end : ℕ) → at ≤ end
    → drop end text ≡ after_blank comments (drop at text)
    → IsLongest (Blank comments) (slice_range text at end) (drop end text)
longest_blank_at comments text at end in_order rest =
    let left = blank_left comments (drop at text) in
    let same = part_is text left.0 at end in_order (left.1 ∙ ap (λ (t : List ℕ). left.0 ++ t) (sym rest)) in
    longest_left comments (slice_range text at end) (drop end text) (subst (Blank comments) (sym same) left.2)
    (rest ∙ ap (after_blank comments) (part_and_rest text at end in_order))

-- what is left after the longest blank begins with no blank
pub after_blank-again : (comments : Bool) (text : List ℕ)
    → after_blank comments (after_blank comments text) ≡ after_blank comments text
after_blank-again comments text =
    let left = blank_left comments text in
    sym (ap (after_blank comments) left.1 ∙ after_blank-append left.2 (after_blank comments text))

-- a `/` that opens a comment, and one that opens none
pub comment_left : (comments : Bool) (text rest : List ℕ) (place : ℕ) → IsTrue comments → text ≡ 47 ∷ rest
    → position (λ b. b == 47) rest ≡ Some place
    → after_blank comments (drop (place + 1) rest) ≡ after_blank comments text
comment_left true text rest place allowed is found =
    let first = first_at (λ b. b == 47) rest (Some place) place (sym found) refl in
    sym (ap (after_blank true) is ∙ after_comment true (47 ∷ rest) rest place first.0 first.1)
comment_left false text rest place allowed is found = absurd (false≢true allowed)

pub slash_left : (comments : Bool) (text rest : List ℕ) → IsTrue comments → text ≡ 47 ∷ rest
    → position (λ b. b == 47) rest ≡ None → text ≡ after_blank comments text
slash_left true text rest allowed is none =
    is ∙ sym (ap (after_blank true) is ∙ no_comment true (47 ∷ rest) rest
    (first_nowhere (λ b. b == 47) rest None (sym none) refl))
slash_left false text rest allowed is none = absurd (false≢true allowed)

-- nothing is left of a blank
pub after_blank-all : {comments : Bool} {text : List ℕ} → Blank comments text → after_blank comments text ≡ []
after_blank-all {comments} {text} is = ap (after_blank comments) (sym (append-nil text)) ∙ after_blank-append is []
