-- If a text begins with a byte that may follow an item (`item_ends`) or that begins a core (`core_starts`),
-- `skip_blank` passes a blank before the text and stops there. A number ends before a byte that is no digit, letter or
-- `_` (`ends_number`), and `after_byte` finds nothing if its byte is none of those that may be first.
use Rattle.std.proofs.Common.{◌≡◌, ℕ, Bool, true, not, ◌==◌, ◌||◌, ◌&&◌, nat_le, List, [], ◌∷◌, ◌++◌, codes, None, refl}
use Rattle.std.proofs.Common.{sym, ap, ◌∙◌, subst, inl, inr, IsTrue}
use Rattle.std.specs.List.{list_any, list_all}
use Rattle.std.specs.Char.{digit_value}
use Rattle.std.proofs.lemmas.Bool.{and_parts, or_cases, or_parts, eqb-true, eqb-false, leb-true, not-true}
use Rattle.cbor_tokens.specs.Token.{nothing, whitespace, comment, is_whitespace}
use Rattle.cbor_tokens.proofs.tokens.Blanks.{at_whitespace, blank_left, after_blank-append, after_blank-ends, EndsBlank}
use Rattle.cbor_tokens.proofs.tokens.Numbers.{EndsNumber}
use Rattle.cbor_grammar.specs.Notation.{IsBlank}
use Rattle.cbor_notation.specs.mirror.NotationReading.{after_byte, skip_blank}

-- ---- one of some bytes

abbrev pub is_one_of : List ℕ → ℕ → Bool
is_one_of bytes b = list_any (λ c. c == b) bytes

-- a test that each of them passes
pub holds_of : (test : ℕ → Bool) (bytes : List ℕ) (b : ℕ) → list_all test bytes ≡ true → is_one_of bytes b ≡ true
    → test b ≡ true
holds_of test [] b all some = cc some
holds_of test (c ∷ bytes) b all some =
    let parts = and_parts (test c) (list_all test bytes) all in
    elim (or_cases (c == b) (is_one_of bytes b) some) [
      | inl is ↦ subst (λ (x : ℕ). test x ≡ true) (eqb-true c b is) parts.0
      | inr more ↦ holds_of test bytes b parts.1 more
    ]

-- the text begins with one of them
abbrev pub Begins : List ℕ → List ℕ → Type 0
Begins bytes [] = ⊥
Begins bytes (b ∷ text) = IsTrue (is_one_of bytes b)

-- the text is empty, or begins with one of them
abbrev pub Ends : List ℕ → List ℕ → Type 0
Ends bytes [] = Unit {0}
Ends bytes (b ∷ text) = IsTrue (is_one_of bytes b)

pub begins_append : (bytes text rest : List ℕ) → Begins bytes text → Begins bytes (text ++ rest)
begins_append bytes [] rest is = absurd is
begins_append bytes (b ∷ text) rest is = is

pub begins_ends : (bytes text : List ℕ) → Begins bytes text → Ends bytes text
begins_ends bytes [] is = absurd is
begins_ends bytes (b ∷ text) is = is

-- fewer bytes
pub begins_more : (few bytes text : List ℕ) → list_all (is_one_of bytes) few ≡ true → Begins few text
    → Begins bytes text
begins_more few bytes [] all is = absurd is
begins_more few bytes (b ∷ text) all is = holds_of (is_one_of bytes) few b all is

pub ends_more : (few bytes text : List ℕ) → list_all (is_one_of bytes) few ≡ true → Ends few text → Ends bytes text
ends_more few bytes [] all is = tt
ends_more few bytes (b ∷ text) all is = holds_of (is_one_of bytes) few b all is

-- a byte that is none of them does not begin the text
pub ends_after_byte : (byte : ℕ) (bytes text : List ℕ) → list_all (λ b. not (b == byte)) bytes ≡ true → Ends bytes text
    → after_byte byte text ≡ None
ends_after_byte byte bytes [] all is = refl
ends_after_byte byte bytes (b ∷ text) all is =
    rw (not-true (b == byte) (holds_of (λ c. not (c == byte)) bytes b all is)) refl

-- no blank goes on with one of them
abbrev pub no_blank : ℕ → Bool
no_blank b = not (is_whitespace b || (b == 47))

pub ends_blank : (bytes text : List ℕ) → list_all no_blank bytes ≡ true → Ends bytes text → EndsBlank text
ends_blank bytes [] all is = tt
ends_blank bytes (b ∷ text) all is =
    let parts = or_parts (is_whitespace b) (b == 47) (not-true _ (holds_of no_blank bytes b all is)) in
    (parts.0, eqb-false b 47 parts.1)

-- a blank is passed up to one of them
pub blank_passed : (bytes blank text : List ℕ) → list_all no_blank bytes ≡ true → IsBlank blank → Ends bytes text
    → skip_blank (blank ++ text) ≡ text
blank_passed bytes blank text all is ends = after_blank-append is text
    ∙ after_blank-ends true text (ends_blank bytes text all ends)

-- ---- what follows an item, and after its core

-- what closes lists and tags, `,` and `:`
abbrev pub item_ends : List ℕ
item_ends = codes ",:]})>"

-- those, and what blanks begin with
abbrev pub core_ends : List ℕ
core_ends = codes ",:]})>/ " ++ (9 ∷ 10 ∷ 13 ∷ [])

-- what may be after an item
abbrev pub Follows : List ℕ → Type 0
Follows text = Ends item_ends text

abbrev blank_starts : List ℕ
blank_starts = codes "/ " ++ (9 ∷ 10 ∷ 13 ∷ [])

-- a blank before one of some bytes
pub blank_ends : (few bytes after rest : List ℕ) → list_all (is_one_of bytes) few ≡ true
    → list_all (is_one_of bytes) blank_starts ≡ true → IsBlank after → Ends few rest → Ends bytes (after ++ rest)
blank_ends few bytes after rest all blanks nothing ends = ends_more few bytes rest all ends
blank_ends few bytes after rest all blanks (whitespace {byte = byte} is more) ends =
    holds_of (is_one_of bytes) blank_starts byte blanks
    (at_whitespace (λ b. IsTrue (is_one_of blank_starts b)) refl refl refl refl byte is)
blank_ends few bytes after rest all blanks (comment words more allowed none blank is) ends =
    subst (λ (t : List ℕ). Ends bytes (t ++ rest)) (sym is) (holds_of (is_one_of bytes) blank_starts 47 blanks refl)

pub follows_blank : (after rest : List ℕ) → IsBlank after → Follows rest → Ends core_ends (after ++ rest)
follows_blank after rest is follows = blank_ends item_ends core_ends after rest refl refl is follows

-- a blank after a core is passed
pub follows_passed : (after rest : List ℕ) → IsBlank after → Follows rest → skip_blank (after ++ rest) ≡ rest
follows_passed after rest is follows = blank_passed item_ends after rest refl is follows

-- no number goes on after its end
abbrev no_number : ℕ → Bool
no_number b = nat_le 36 (digit_value b) && not (b == 95)

pub ends_number : (bytes text : List ℕ) → list_all no_number bytes ≡ true → Ends bytes text → EndsNumber text
ends_number bytes [] all is = tt
ends_number bytes (b ∷ text) all is =
    let parts = and_parts (nat_le 36 (digit_value b)) (not (b == 95)) (holds_of no_number bytes b all is) in
    (leb-true 36 (digit_value b) parts.0, eqb-false b 95 (not-true (b == 95) parts.1))

-- ---- what a core begins with

abbrev pub digits : List ℕ
digits = codes "0123456789"

-- what a notation of bytes begins with
abbrev pub notation_starts : List ℕ
notation_starts = codes "'<bh"

abbrev pub core_starts : List ℕ
core_starts = codes "'<bh\"-[{(ftnus0123456789"

abbrev pub Starts : List ℕ → Type 0
Starts text = Begins core_starts text

-- no blank is before a core, and none is passed
pub starts_passed : (blank text : List ℕ) → IsBlank blank → Starts text → skip_blank (blank ++ text) ≡ text
starts_passed blank text is starts = blank_passed core_starts blank text refl is (begins_ends core_starts text starts)

-- passing a blank twice
pub passed_twice : (text : List ℕ) → skip_blank (skip_blank text) ≡ skip_blank text
passed_twice text =
    let left = blank_left true text in
    sym (ap skip_blank left.1 ∙ after_blank-append left.2 (skip_blank text))
