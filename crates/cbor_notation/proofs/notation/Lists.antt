-- For lists of any members: `read_members` reads each list that the grammar has (`Members`), with commas between the
-- members, up to what closes the list, if `read` reads each member (`ReadsAgain`).
use Rattle.std.proofs.Common.{◌≡◌, ℕ, zero, suc, ◌<◌, ◌≤◌, Bool, true, false, not, ◌==◌, nat_lt, cond, List, [], ◌∷◌}
use Rattle.std.proofs.Common.{◌++◌, length, codes, Option, Some, None, Ok, refl, sym, ap, ◌∙◌, subst, inl, inr, arith}
use Rattle.std.proofs.Common.{IsTrue}
use Rattle.std.specs.List.{list_any, list_all, position, position_or_len}
use Rattle.std.proofs.Math.Numerals.{one-add}
use Rattle.std.proofs.lemmas.Bool.{or_parts, or_from, cond_both, eq-eqb, lt-ltb, not-true, not_from_true}
use Rattle.std.proofs.lemmas.Bool.{not_from_false, false≢true}
use Rattle.std.proofs.lemmas.List.{append_assoc, length-append, drop_at}
use Rattle.cbor_tokens.specs.Token.{Blank, nothing, whitespace, comment, is_whitespace}
use Rattle.cbor_grammar.specs.Notation.{IsBlank, Blanked, Closes, Further, Members, Listed}
use Rattle.cbor_grammar.specs.Reading.{Read}
use Rattle.cbor_notation.specs.mirror.NotationReading.{after_byte, after_space, after_end, skip_blank, members_from}
use Rattle.cbor_notation.specs.mirror.NotationReading.{members_or_end, read_members}
use Rattle.cbor_notation.proofs.notation.Ends.{is_one_of, holds_of, begins_append, ends_after_byte, blank_passed}
use Rattle.cbor_notation.proofs.notation.Ends.{item_ends}
use Rattle.cbor_notation.proofs.notation.Ends.{Follows, core_starts, Starts, starts_passed, passed_twice}

-- a text after a blank, which begins as cores do and is the same member
pub record Stripped {X : Type 0} (Member : List ℕ → X → Type 0) (text : List ℕ) (x : X) : Type 0 where
  pub blank : List ℕ
  pub behind : List ℕ
  pub parts : text ≡ blank ++ behind
  pub is_blank : IsBlank blank
  pub starts : Starts behind
  pub is : Member behind x

-- what is such a member is read as it, whatever may follow it
pub record ReadsAgain {X : Type 0} (Member : List ℕ → X → Type 0) (read : List ℕ → Read X) : Type 0 where
  pub again : (text rest : List ℕ) (x : X) → Member text x → Follows rest → read (text ++ rest) ≡ Ok (x, rest)
  pub stripped : (text : List ℕ) (x : X) → Member text x → Stripped Member text x

-- ---- cores between blanks

pub blanked_parts : (text before core after rest : List ℕ) → text ≡ before ++ (core ++ after)
    → text ++ rest ≡ before ++ (core ++ (after ++ rest))
blanked_parts text before core after rest is =
    ap (λ (t : List ℕ). t ++ rest) is ∙ (append_assoc before (core ++ after) rest
    ∙ ap (λ (t : List ℕ). before ++ t) (append_assoc core after rest))

pub blanked_stripped : {X : Type 0} (CoreOf : List ℕ → X → Type 0)
    → ((core : List ℕ) (x : X) → CoreOf core x → Starts core)
    → (text : List ℕ) (x : X) → Blanked (λ core. CoreOf core x) text
    → Stripped (λ t y. Blanked (λ core. CoreOf core y) t) text x
blanked_stripped CoreOf starts text x is = record {
  blank = is.0;
  behind = is.1 ++ is.2;
  parts = is.3;
  is_blank = is.4;
  starts = begins_append core_starts is.1 is.2 (starts is.1 x is.5);
  is = ([], is.1, is.2, refl, nothing, is.5, is.6);
}

-- ---- whitespace before what closes a list

pub position_at : (test : ℕ → Bool) (front : List ℕ) (b : ℕ) (rest : List ℕ) → list_any test front ≡ false
    → test b ≡ true → position_or_len test (front ++ b ∷ rest) ≡ length front
position_at test [] b rest none is = rw is refl
position_at test (x ∷ front) b rest none is =
    let parts = or_parts (test x) (list_any test front) none in
    rw (parts.0, one-add (position_or_len test (front ++ b ∷ rest))) (ap suc (position_at test front b rest parts.1 is))

-- the first byte that passes a test
pub first_at : (test : ℕ → Bool) (front : List ℕ) (b : ℕ) (rest : List ℕ) → list_any test front ≡ false → test b ≡ true
    → position test (front ++ b ∷ rest) ≡ Some (length front)
first_at test front b rest none is =
    let short : length front < length (front ++ b ∷ rest) = omega (arith, length-append front (b ∷ rest)) in
    rw (position_at test front b rest none is, lt-ltb (length front) (length (front ++ b ∷ rest)) short) refl

all_white : (space : List ℕ) → Blank false space → list_any (λ b. not (is_whitespace b)) space ≡ false
all_white [] nothing = refl
all_white (byte ∷ rest) (whitespace is more) =
    or_from (not (is_whitespace byte)) _ (not_from_true (is_whitespace byte) is) (all_white rest more)
all_white text (comment words rest allowed all more is) = absurd (false≢true allowed)

abbrev after_some : ℕ → ℕ → List ℕ → Option (List ℕ)
after_some close spaces text = cond (nat_lt 0 spaces) (after_byte close text) None

after_space_at : (close : ℕ) (space : List ℕ) (b : ℕ) (rest : List ℕ) → Blank false space → is_whitespace b ≡ false
    → after_space close (space ++ b ∷ rest) ≡ after_some close (length space) (b ∷ rest)
after_space_at close space b rest white other =
    rw (first_at (λ c. not (is_whitespace c)) space b rest (all_white space white)
    (not_from_false (is_whitespace b) other))
    (ap (after_some close (length space)) (drop_at space (b ∷ rest) (length space) refl))

-- ---- what closes lists

abbrev pub list_closes : List ℕ
list_closes = codes "]})>"

abbrev pub IsClose : ℕ → Type 0
IsClose close = IsTrue (is_one_of list_closes close)

no_comma : (close : ℕ) → IsClose close → (close == 44) ≡ false
no_comma close closes = not-true (close == 44) (holds_of (λ c. not (c == 44)) list_closes close refl closes)

no_white : (close : ℕ) → IsClose close → is_whitespace close ≡ false
no_white close closes = not-true (is_whitespace close)
    (holds_of (λ c. not (is_whitespace c)) list_closes close refl closes)

pub end_closed : (close : ℕ) (more text rest : List ℕ) → IsClose close → Closes (close ∷ more) text
    → after_end close (text ++ rest) ≡ Some (more ++ rest)
end_closed close more text rest closes (inl is) = rw (is, no_comma close closes, eq-eqb close close refl) refl
end_closed close more text rest closes (inr last) =
    let space = last.0 in
    let white : Blank false space = last.2.1 in
    let some : nat_lt 0 (length space) ≡ true = lt-ltb 0 (length space) last.2.0 in
    let text_is : text ++ rest ≡ 44 ∷ (space ++ close ∷ (more ++ rest)) = ap (λ (t : List ℕ). t ++ rest) last.1
    ∙ ap (λ (t : List ℕ). 44 ∷ t) (append_assoc space (close ∷ more) rest) in
    ap (after_end close) text_is ∙ (after_space_at close space close (more ++ rest) white (no_white close closes)
    ∙ rw (some, eq-eqb close close refl) refl)

-- no list is closed where a core begins
no_start : (close : ℕ) → IsClose close → list_all (λ b. not (b == close)) core_starts ≡ true
no_start close closes = holds_of (λ c. list_all (λ b. not (b == c)) core_starts) list_closes close refl closes

pub starts_no_end : (close : ℕ) (text : List ℕ) → IsClose close → Starts text → after_end close text ≡ None
starts_no_end close [] closes starts = absurd starts
starts_no_end close (b ∷ text) closes starts =
    rw (not-true (b == 44) (holds_of (λ c. not (c == 44)) core_starts b refl starts))
    (ends_after_byte close core_starts (b ∷ text) (no_start close closes) starts)

-- the whitespace at the front of a blank, and what follows it
abbrev Leading : ℕ → List ℕ → Type 0
Leading close text = (space : List ℕ) × (b : ℕ) × (rest : List ℕ) × (text ≡ space ++ b ∷ rest) × Blank false space
    × (is_whitespace b ≡ false) × ((b == close) ≡ false)

leading : (close : ℕ) (blank behind : List ℕ) → IsClose close → IsBlank blank → Starts behind
    → Leading close (blank ++ behind)
leading close [] [] closes nothing starts = absurd starts
leading close [] (b ∷ behind) closes nothing starts = (
  [],
  b,
  behind,
  refl,
  nothing,
  not-true (is_whitespace b)
      (holds_of (λ c. not (is_whitespace c)) core_starts b refl starts),
  not-true (b == close) (holds_of (λ c. not (c == close)) core_starts b (no_start close closes) starts),
)
leading close (byte ∷ rest) behind closes (whitespace is more) starts =
    let next = leading close rest behind closes more starts in
    (byte ∷ next.0, next.1, next.2, ap (λ (t : List ℕ). byte ∷ t) next.3, whitespace is next.4, next.5, next.6)
leading close text behind closes (comment words rest allowed all more is) starts = (
  [],
  47,
  (words ++ 47 ∷ rest) ++ behind,
  ap (λ (t : List ℕ). t ++ behind) is,
  nothing,
  refl,
  not-true (47 == close) (holds_of (λ c. not (47 == c)) list_closes close refl closes),
)

pub blank_no_end : (close : ℕ) (blank behind : List ℕ) → IsClose close → IsBlank blank → Starts behind
    → after_space close (blank ++ behind) ≡ None
blank_no_end close blank behind closes is starts =
    let l = leading close blank behind closes is starts in
    let none : after_byte close (l.1 ∷ l.2) ≡ None = rw l.6 refl in
    ap (after_space close) l.3 ∙ (after_space_at close l.0 l.1 l.2 l.4 l.5
    ∙ cond_both (nat_lt 0 (length l.0)) (after_byte close (l.1 ∷ l.2)) None (λ o. o ≡ None) (λ e. none) (λ e. refl))

-- ---- members

further_length : {X : Type 0} (Member : List ℕ → X → Type 0) (closing text : List ℕ) (xs : List X)
    → Further Member closing text xs → length xs ≤ length text
further_length Member closing text [] further = omega arith
further_length Member closing text (x ∷ xs) further =
    omega (
      arith,
      ap length further.2,
      length-append further.0 further.1,
      further_length Member closing further.1 xs further.4,
    )

module _ {X : Type 0} (Member : List ℕ → X → Type 0) (read : List ℕ → Read X) (it : ReadsAgain Member read) (close : ℕ)
    (more : List ℕ) (closes : IsClose close) where
  pub follows_further : (xs : List X) (text rest : List ℕ) → Further Member (close ∷ more) text xs
      → Follows (text ++ rest)
  follows_further [] text rest (inl is) = subst (λ (t : List ℕ). Follows (t ++ rest)) (sym is)
      (holds_of (is_one_of item_ends) list_closes close refl closes)
  follows_further [] text rest (inr last) = subst (λ (t : List ℕ). Follows (t ++ rest)) (sym last.1) refl
  follows_further (x ∷ xs) text rest further = subst (λ (t : List ℕ). Follows (t ++ rest)) (sym further.2) refl

  pub members_from_again : (n : ℕ) (xs : List X) (x : X) (first further rest : List ℕ) → length xs < n → Member first x
      → Further Member (close ∷ more) further xs
      → members_from read close n (first ++ (further ++ rest)) ≡ Ok (x ∷ xs, more ++ rest)
  unfolding members_from
  members_from_again zero xs x first further rest lt is then = absurd (omega arith)
  members_from_again (suc n) [] x first further rest lt is then =
      rw (
        it.again first (further ++ rest) x is (follows_further [] further rest then),
        end_closed close more further rest closes then,
      ) refl
  members_from_again (suc n) (y ∷ ys) x first further rest lt is then =
      let tail : List ℕ = then.0 ++ (then.1 ++ rest) in
      let text_is : further ++ rest ≡ 44 ∷ tail = ap (λ (t : List ℕ). t ++ rest) then.2
      ∙ ap (λ (t : List ℕ). 44 ∷ t) (append_assoc then.0 then.1 rest) in
      let s = it.stripped then.0 y then.3 in
      let tail_is : tail ≡ s.blank ++ (s.behind ++ (then.1 ++ rest)) =
      ap (λ (t : List ℕ). t ++ (then.1 ++ rest)) s.parts ∙ append_assoc s.blank s.behind (then.1 ++ rest) in
      let open_still : after_end close (44 ∷ tail) ≡ None = ap (after_space close) tail_is
      ∙ blank_no_end close s.blank (s.behind ++ (then.1 ++ rest)) closes s.is_blank
      (begins_append core_starts s.behind (then.1 ++ rest) s.starts) in
      let others = members_from_again n ys y then.0 then.1 rest (omega arith) then.3 then.4 in
      rw (text_is, it.again first (44 ∷ tail) x is refl, open_still, others) refl

  pub members_again : (xs : List X) (text rest : List ℕ) → Members Member (close ∷ more) text xs
      → read_members read close (text ++ rest) ≡ Ok (xs, more ++ rest)
  unfolding read_members
  members_again [] text rest is =
      let end : List ℕ = is.1 in
      let passed : skip_blank (text ++ rest) ≡ end ++ rest =
      ap skip_blank (ap (λ (t : List ℕ). t ++ rest) is.2 ∙ append_assoc is.0 end rest)
      ∙ blank_passed item_ends is.0 (end ++ rest) refl is.3 (follows_further [] end rest is.4) in
      rw (passed, end_closed close more end rest closes is.4) refl
  members_again (x ∷ xs) text rest is =
      let s = it.stripped is.0 x is.3 in
      let tail : List ℕ = s.behind ++ (is.1 ++ rest) in
      let text_is : text ++ rest ≡ s.blank ++ tail =
      ap (λ (t : List ℕ). t ++ rest) is.2 ∙ (append_assoc is.0 is.1 rest
      ∙ (ap (λ (t : List ℕ). t ++ (is.1 ++ rest)) s.parts ∙ append_assoc s.blank s.behind (is.1 ++ rest))) in
      let starts : Starts tail = begins_append core_starts s.behind (is.1 ++ rest) s.starts in
      let passed : skip_blank (text ++ rest) ≡ tail = ap skip_blank text_is
      ∙ starts_passed s.blank tail s.is_blank starts in
      let few : length xs < suc (length tail) =
      omega (
        arith,
        length-append s.behind (is.1 ++ rest),
        length-append is.1 rest,
        further_length Member (close ∷ more) is.1 xs is.4,
      ) in
      rw (passed, starts_no_end close tail closes starts)
      (members_from_again (suc (length tail)) xs x s.behind is.1 rest few s.is is.4)

  -- the members after an opening
  pub listed_again : (xs : List X) (opening text rest : List ℕ) (is : Listed Member opening (close ∷ more) text xs)
      → (text ++ rest ≡ opening ++ (is.0 ++ rest)) × (read_members read close (is.0 ++ rest) ≡ Ok (xs, more ++ rest))
  listed_again xs opening text rest is = (
    ap (λ (t : List ℕ). t ++ rest) is.1 ∙ append_assoc opening is.0 rest,
    members_again xs is.0 rest is.2,
  )

-- a blank before the members may be passed first
pub members_at_blank : {X : Type 0} (read : List ℕ → Read X) (close : ℕ) (text : List ℕ)
    → read_members read close (skip_blank text) ≡ read_members read close text
unfolding read_members
members_at_blank read close text = ap (λ (first : List ℕ). members_or_end read close first (after_end close first))
    (passed_twice text)
