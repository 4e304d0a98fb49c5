-- In the definitions of EDN, `word_of` and `after_word` split a text right after a word (`IsWord`) if no letter, digit,
-- `_`, `.` or sign follows the word. Also: `position` finds the first byte of a kind, and `skip_blank` leaves a text as
-- it is if no blank begins it.
use Rattle.std.proofs.Common.{◌≡◌, ℕ, suc, ◌+◌, ◌<◌, ◌==◌, ◌&&◌, ◌||◌, not, if◌then◌else◌, Bool, true, false, List}
use Rattle.std.proofs.Common.{[], ◌∷◌, ◌++◌, length, position, Some, None, refl, sym, ap, ◌∙◌, arith, append-nil}
use Rattle.std.proofs.Common.{length-append}
use Rattle.std.specs.List.{AllByRecursion, position_or_len}
use Rattle.std.proofs.lemmas.Bool.{cond-true, cond-false, not-true, or_parts, or_from, or_left, and_right, lt-ltb}
use Rattle.std.proofs.lemmas.Bool.{le-ltb}
use Rattle.std.proofs.lemmas.Bool.Decides.{nat_tests}
use Rattle.std.proofs.lemmas.List.{take_at, drop_at}
use Rattle.cbor_edn_grammar.specs.Reading.{after_byte}
use Rattle.cbor_edn_grammar.specs.Blank.{after_space, or_here, after_spaces, skip_blank}
use Rattle.cbor_edn_grammar.specs.Word.{is_word_byte, is_sign, is_exponent, begins_number, run_len, word_len, word_of}
use Rattle.cbor_edn_grammar.specs.Word.{after_word}
use Rattle.cbor_edn_grammar.proofs.Ends.{ends_item, is_ended}

-- ---- what follows a word

-- no word and no number goes on with this text
abbrev pub stops : List ℕ → Bool
stops [] = true
stops (b ∷ rest) = not (is_word_byte b || is_sign b)

ending_stops : (b : ℕ) → ends_item b ≡ true → not (is_word_byte b || is_sign b) ≡ true
ending_stops b e = grind (arith, nat_tests, e)

pub ended_stops : (rest : List ℕ) → is_ended rest ≡ true → stops rest ≡ true
ended_stops [] e = refl
ended_stops (b ∷ rest) e = ending_stops b e

-- what ends an item does not begin with a byte that ends none
pub no_byte : (byte : ℕ) (rest : List ℕ) → ends_item byte ≡ false → is_ended rest ≡ true → after_byte byte rest ≡ None
no_byte byte [] other e = refl
no_byte byte (b ∷ rest) other e = cond-false (b == byte) _ None (grind (arith, nat_tests, other, e))

-- ---- runs

-- letters, digits, `_` and `.`
abbrev pub AreWordBytes : List ℕ → Type 0
AreWordBytes word = AllByRecursion (λ b. is_word_byte b ≡ true) word

pub words_append : (a b : List ℕ) → AreWordBytes a → AreWordBytes b → AreWordBytes (a ++ b)
words_append [] b h k = k
words_append (x ∷ a) b h k = (h.0, words_append a b h.1 k)

-- the run of a text that begins with such bytes goes over them
pub run_over : (number signed : Bool) (front text : List ℕ) → AreWordBytes front
    → ((signed : Bool) → run_len number signed text ≡ length text)
    → run_len number signed (front ++ text) ≡ length (front ++ text)
run_over number signed [] text h go = go signed
run_over number signed (b ∷ front) text h go =
    cond-true (is_word_byte b || (signed && is_sign b)) _ 0 (or_left (is_word_byte b) (signed && is_sign b) h.0)
    ∙ ap suc (run_over number (number && is_exponent b) front text h.1 go)

pub plain_run : (number signed : Bool) (word : List ℕ) → AreWordBytes word → run_len number signed word ≡ length word
plain_run number signed [] h = refl
plain_run number signed (b ∷ word) h =
    cond-true (is_word_byte b || (signed && is_sign b)) _ 0 (or_left (is_word_byte b) (signed && is_sign b) h.0)
    ∙ ap suc (plain_run number (number && is_exponent b) word h.1)

-- a run that is the whole word ends there, whatever stops it
run_front : (number signed : Bool) (word rest : List ℕ) → run_len number signed word ≡ length word → stops rest ≡ true
    → run_len number signed (word ++ rest) ≡ length word
run_front number signed [] [] whole e = refl
run_front number signed [] (b ∷ rest) whole e =
    let parts = or_parts (is_word_byte b) (is_sign b) (not-true (is_word_byte b || is_sign b) e) in
    cond-false (is_word_byte b || (signed && is_sign b)) _ 0
    (or_from (is_word_byte b) (signed && is_sign b) parts.0 (and_right signed (is_sign b) parts.1))
run_front number signed (b ∷ word) rest whole e =
    step (is_word_byte b || (signed && is_sign b)) _ _ _
    (λ w. run_front number (number && is_exponent b) word rest w e) whole
  where
    step : (test : Bool) (inner more n : ℕ) → (inner ≡ n → more ≡ n) → (if test then suc inner else 0) ≡ suc n
        → (if test then suc more else 0) ≡ suc n
    step true inner more n go whole = ap suc (go (omega (arith, whole)))
    step false inner more n go whole = absurd (omega (arith, whole))

-- ---- words

-- one word, all of it: its own run is the whole
pub record IsWord (word : List ℕ) : Type 0 where
  pub some : 0 < length word
  pub run : run_len (begins_number word) (begins_number word) word ≡ length word

pub plain_word : (word : List ℕ) → 0 < length word → AreWordBytes word → IsWord word
plain_word word some h = record { some = some; run = plain_run (begins_number word) (begins_number word) word h }

begins_front : (word rest : List ℕ) → 0 < length word → begins_number (word ++ rest) ≡ begins_number word
begins_front [] rest some = absurd (omega (arith, some))
begins_front (b ∷ word) rest some = refl

module _ (word rest : List ℕ) (is : IsWord word) (stop : stops rest ≡ true) where
  word_ends : word_len (word ++ rest) ≡ length word
  unfolding word_len
  word_ends = ap (λ b. run_len b b (word ++ rest)) (begins_front word rest is.some)
      ∙ run_front (begins_number word) (begins_number word) word rest is.run stop

  pub word_front : word_of (word ++ rest) ≡ word
  word_front = take_at word rest (word_len (word ++ rest)) (sym word_ends)

  pub word_rest : after_word (word ++ rest) ≡ rest
  word_rest = drop_at word rest (word_len (word ++ rest)) (sym word_ends)

-- ---- the first byte of a kind

no_place : (p : ℕ → Bool) (front rest : List ℕ) → AllByRecursion (λ b. p b ≡ false) front
    → position_or_len p rest ≡ 0 → position_or_len p (front ++ rest) ≡ length front
no_place p [] rest h here = here
no_place p (b ∷ front) rest h here =
    let step = cond-true (not (p b)) (1 + position_or_len p (front ++ rest)) 0 (ap not h.0) in
    omega (arith, step, no_place p front rest h.1 here)

pub position_none : (p : ℕ → Bool) (text : List ℕ) → AllByRecursion (λ b. p b ≡ false) text → position p text ≡ None
position_none p text h =
    let at = ap (position_or_len p) (sym (append-nil text)) ∙ no_place p text [] h refl in
    cond-false _ _ None (le-ltb (position_or_len p text) (length text) (omega (arith, at)))

pub position_some : (p : ℕ → Bool) (front rest : List ℕ) (b : ℕ) → AllByRecursion (λ b. p b ≡ false) front
    → p b ≡ true → position p (front ++ b ∷ rest) ≡ Some (length front)
position_some p front rest b h is =
    let at = no_place p front (b ∷ rest) h (cond-false (not (p b)) (1 + position_or_len p rest) 0 (ap not is)) in
    cond-true _ _ None (lt-ltb (position_or_len p (front ++ b ∷ rest)) (length (front ++ b ∷ rest))
    (omega (arith, at, length-append front (b ∷ rest)))) ∙ ap Some at

-- ---- no blank

pub skip_none : (text : List ℕ) → after_space true text ≡ None → skip_blank text ≡ text
unfolding after_spaces
skip_none [] e = refl
skip_none (b ∷ text) e = ap (or_here (after_spaces true (length text)) (b ∷ text)) e
