-- In EDN, integers and simple values are read back with the same encoding, if they are well formed and no simple value
-- is from 24 to 31. Floats are read back too, if `float_reads` holds, which is assumed here (`leaf_reads`). The number
-- of a tag, with the parenthesis after it, is read back too (`tag_reads`).
use Rattle.std.proofs.Common.{◌≡◌, ◌⊎◌, inl, inr, ℕ, suc, ◌+◌, ◌^◌, ◌<◌, ◌≤◌, ◌==◌, not, Bool, true, false, List, []}
use Rattle.std.proofs.Common.{◌∷◌, ◌++◌, length, codes, Some, refl, sym, ap, ap₂, subst, ◌∙◌, arith, append-nil}
use Rattle.std.proofs.Common.{append_assoc, length-append, nat_lt, is_none, Option, None, bytes_eq}
use Rattle.std.specs.Fmt.{decimal}
use Rattle.std.specs.Char.{digit_value}
use Rattle.std.specs.Str.Parse.{IsNumeral}
use Rattle.std.specs.Option.{option_or}
use Rattle.std.proofs.lemmas.Bool.{cond-true, cond-false, cond_both, agree_below, not-true, lt-ltb, ltb-true}
use Rattle.std.proofs.lemmas.Bool.{eqb-true, le-leb, le-ltb}
use Rattle.cbor_grammar.specs.declared.width.IntegerWidth.{IntegerWidth}
use Rattle.cbor_grammar.specs.declared.width.IntegerWidth.TheVariants.{Unknown}
use Rattle.cbor_grammar.specs.Head.{FitsWidth}
use Rattle.cbor_grammar.specs.Item.{Atom, integer, negative, simple, float, string, chunked_string, Item, atom}
use Rattle.cbor_grammar.specs.NotationText.{number, indicator, simple_text}
use Rattle.cbor_grammar.specs.WellFormed.{WellFormedAtom, FitsFloat}
use Rattle.cbor_grammar.specs.Written.{encoded}
use Rattle.cbor_grammar.specs.declared.width.FloatWidth.{FloatWidth}
use Rattle.cbor_edn_grammar.specs.Reading.{Read, ◌>>=◌, after_byte}
use Rattle.cbor_edn_writer.specs.declared.print.place.EdnPlace.{EdnPlace}
use Rattle.cbor_edn_grammar.specs.Blank.{after_space, skip_blank}
use Rattle.cbor_edn_writer.specs.EdnLeaves.{marked, Said, EdnLeaf, Noted, FloatText}
use Rattle.cbor_edn_writer.proofs.Comments.{note_is_any}
use Rattle.cbor_edn_grammar.specs.Float.{is_float}
use Rattle.cbor_edn_grammar.specs.Items.{other_item, read_item, read_number, number_or_tag, read_tagged, number_item}
use Rattle.cbor_edn_grammar.specs.Items.{name_item, read_simple, is_simple, simple_number}
use Rattle.cbor_edn_grammar.specs.Reserved.{NotReserved}
use Rattle.cbor_edn_grammar.specs.Big.{big_item}
use Rattle.cbor_edn_grammar.specs.Number.{fits, unsigned, integer_of, zero_of}
use Rattle.cbor_edn_grammar.specs.Strings.{opening_of, begins_string}
use Rattle.cbor_edn_grammar.specs.Word.{begins_number, run_len}
use Rattle.cbor_edn_grammar.proofs.Levels.{core_other}
use Rattle.cbor_edn_writer.proofs.writing.Texts.{below_limit}
use Rattle.cbor_edn_writer.proofs.back.Reads.{is_ended, Follows, begins_item, IsBegun, ReadsAs}
pub use Rattle.cbor_edn_writer.proofs.back.Widths.{read_width, longer_fits, marked_fits, longer_encoded, marked_encoded}
pub use Rattle.cbor_edn_writer.proofs.back.Widths.{read_encoded}
use Rattle.cbor_edn_writer.proofs.back.Names.{StartsName, name_front, name_alone}
use Rattle.cbor_edn_grammar.proofs.Words.{stops, ended_stops, no_byte, AreWordBytes, words_append, plain_run, IsWord}
use Rattle.cbor_edn_grammar.proofs.Words.{plain_word, skip_none, word_front, word_rest}
pub use Rattle.cbor_edn_grammar.proofs.Digits.{none_of_digits}
use Rattle.cbor_edn_grammar.proofs.Digits.{digit_passes, digits_words, digits_of, indicator_words, unsigned_number}
use Rattle.cbor_edn_grammar.proofs.Digits.{negated_number, integer_digits, tag_digits, no_float}

-- ---- the front of a number

-- a digit or a minus
abbrev pub IsStart : ℕ → Type 0
IsStart b = (digit_value b < 10) ⊎ (b ≡ 45)

start_passes : (test : ℕ → Bool) (b : ℕ) → agree_below (λ k. test (48 + k)) (λ k. true) 10 ≡ true → test 45 ≡ true
    → IsStart b → test b ≡ true
start_passes test b digits minus h = elim h [
  | inl digit ↦ digit_passes test b digits digit
  | inr is ↦ subst (λ b. test b ≡ true) (sym is) minus
]

start_fails : (test : ℕ → Bool) (b : ℕ) → agree_below (λ k. not (test (48 + k))) (λ k. true) 10 ≡ true
    → test 45 ≡ false → IsStart b → test b ≡ false
start_fails test b digits minus h = not-true (test b) (start_passes (λ b. not (test b)) b digits (ap not minus) h)

no_string : (b : ℕ) (text : List ℕ) → IsStart b → begins_string (b ∷ text) ≡ false
unfolding opening_of
no_string b text h = start_fails (λ b. begins_string (b ∷ text)) b refl refl h

other_number : (left : ℕ) (read : List ℕ → Read Item) (b : ℕ) (text : List ℕ) → IsStart b
    → other_item left read (b ∷ text) ≡ read_number left read (b ∷ text)
other_number left read b text h =
    cond-false (b == 91) _ _ (start_fails (λ b. b == 91) b refl refl h)
    ∙ cond-false (b == 123) _ _ (start_fails (λ b. b == 123) b refl refl h)
    ∙ cond-false (b == 40) _ _ (start_fails (λ b. b == 40) b refl refl h)
    ∙ cond-true (begins_number (b ∷ text)) _ _ (start_passes (λ b. begins_number (b ∷ text)) b refl refl h)

abbrev pub StartsNumber : List ℕ → Type 0
StartsNumber [] = ⊥
StartsNumber (b ∷ word) = IsStart b

pub number_begun : (word rest : List ℕ) → StartsNumber word → IsBegun (word ++ rest)
number_begun [] rest h = absurd h
number_begun (b ∷ word) rest h = start_passes begins_item b refl refl h

-- a word that begins as a number is read as one, or as a tag where a parenthesis follows
pub number_front : (left : ℕ) (word rest : List ℕ) → StartsNumber word → IsWord word → stops rest ≡ true
    → read_item (suc left) (word ++ rest)
    ≡ number_or_tag left (read_item left) word rest (after_byte 40 rest)
number_front left [] rest h is stop = absurd h
number_front left (b ∷ word) rest h is stop =
    core_other (suc left) left ((b ∷ word) ++ rest) (omega arith) (no_string b (word ++ rest) h)
    ∙ other_number left (read_item left) b (word ++ rest) h
    ∙ ap₂ (λ word rest. number_or_tag left (read_item left) word rest (after_byte 40 rest))
    (word_front (b ∷ word) rest is stop) (word_rest (b ∷ word) rest is stop)

pub number_alone : (left : ℕ) (word rest : List ℕ) (i : Item) → StartsNumber word → IsWord word
    → is_ended rest ≡ true → number_item left word ≡ Some i → read_item (suc left) (word ++ rest) ≡ Some (i, rest)
number_alone left word rest i h is ended found =
    number_front left word rest h is (ended_stops rest ended)
    ∙ ap (number_or_tag left (read_item left) word rest) (no_byte 40 rest refl ended)
    ∙ ap (λ r. r >>= λ i. Some (i, rest)) found

-- ---- integers

integer_item_is : (left : ℕ) (word : List ℕ) (a : Atom) → is_float word ≡ false → integer_of word ≡ Some a
    → number_item left word ≡ Some (atom a)
integer_item_is left word a whole_number is =
    cond-false (is_float word) _ _ whole_number
    ∙ ap (λ o. option_or (o >>= λ a. Some (atom a)) (big_item left word)) is

digits_word : (ds : List ℕ) (w : IntegerWidth) → IsNumeral 10 ds → IsWord (ds ++ indicator w)
digits_word ds w h =
    plain_word (ds ++ indicator w) (omega (arith, length-append ds (indicator w), h.0))
    (words_append ds (indicator w) (digits_words ds h.1) (indicator_words w))

minus_word : (word : List ℕ) → AreWordBytes word → IsWord (45 ∷ word)
minus_word word h = record { some = omega arith; run = ap suc (plain_run true false word h) }

starts_digits : (ds rest : List ℕ) → IsNumeral 10 ds → StartsNumber (ds ++ rest)
starts_digits [] rest h = absurd (omega (arith, h.0))
starts_digits (d ∷ ds) rest h = inl h.1.0

pub number_word : (n : ℕ) (w : IntegerWidth) → n ≤ 2 ^ 64 → IsWord (number n w)
number_word n w le = digits_word (decimal n) w (digits_of n le)

pub number_starts : (n : ℕ) (w : IntegerWidth) → n ≤ 2 ^ 64 → StartsNumber (number n w)
number_starts n w le = starts_digits (decimal n) (indicator w) (digits_of n le)

module _ (left n : ℕ) (w : IntegerWidth) (rest : List ℕ) (h : fits w n ≡ true) (lt : n < 2 ^ 64)
    (ended : is_ended rest ≡ true) where
  integer_back : read_item (suc left) (number n w ++ rest) ≡ Some (atom (integer n (read_width w)), rest)
  integer_back =
      let digits = digits_of n (omega (arith, lt)) in
      let is = integer_digits (decimal n) (indicator w) digits
      ∙ ap (λ r. r >>= λ n. Some (integer n.0 n.1)) (unsigned_number n w h lt) in
      number_alone left (number n w) rest (atom (integer n (read_width w))) (number_starts n w (omega (arith, lt)))
      (number_word n w (omega (arith, lt))) ended
      (integer_item_is left (number n w) (integer n (read_width w)) (no_float false (decimal n) w digits) is)

  negative_back : read_item (suc left) ((45 ∷ number (n + 1) w) ++ rest)
      ≡ Some (atom (negative n (read_width w)), rest)
  negative_back =
      let digits = digits_of (n + 1) (omega (arith, lt)) in
      let is = ap (λ r. option_or (r >>= λ n. Some (negative n.0 n.1)) (zero_of (number (n + 1) w)))
      (negated_number n w h lt) in
      let words = words_append (decimal (n + 1)) (indicator w) (digits_words (decimal (n + 1)) digits.1)
      (indicator_words w) in
      number_alone left (45 ∷ number (n + 1) w) rest (atom (negative n (read_width w))) (inr refl)
      (minus_word (number (n + 1) w) words) ended
      (integer_item_is left (45 ∷ number (n + 1) w) (negative n (read_width w))
      (no_float true (decimal (n + 1)) w digits) is)

-- ---- tags

-- the text up to the item of a tag
module _ (left n : ℕ) (w : IntegerWidth) (all : Bool) (rest : List ℕ) (h : FitsWidth w n) where
  tag_read : read_item (suc left) (number n (marked all n w) ++ (codes "(" ++ rest))
      ≡ read_tagged (read_item left) n (read_width (marked all n w)) rest
  tag_read =
      let m = marked all n w in
      let lt = below_limit n w h in
      let le : n ≤ 2 ^ 64 = omega (arith, lt) in
      number_front left (number n m) (40 ∷ rest) (number_starts n m le) (number_word n m le) refl
      ∙ ap (λ t. t >>= λ t. read_tagged (read_item left) t.0 t.1 rest)
      (tag_digits (decimal n) (indicator m) (digits_of n le) ∙ unsigned_number n m (marked_fits n w all h) lt)

  pub tag_reads : read_item (suc left) ((number n (marked all n w) ++ codes "(") ++ rest)
      ≡ read_tagged (read_item left) n (read_width (marked all n w)) rest
  tag_reads = ap (read_item (suc left)) (append_assoc (number n (marked all n w)) (codes "(") rest) ∙ tag_read

pub tag_begun : (n : ℕ) (w v : IntegerWidth) (rest : List ℕ) → FitsWidth w n
    → IsBegun ((number n v ++ codes "(") ++ rest)
tag_begun n w v rest h =
    subst IsBegun (sym (append_assoc (number n v) (codes "(") rest))
    (number_begun (number n v) (codes "(" ++ rest) (number_starts n v (omega (arith, below_limit n w h))))

-- ---- simple values

-- the text of an item without a note: it begins as an item, and is read as that item
abbrev IsCore : ℕ → Item → List ℕ → Type 0
IsCore left i core =
    IsBegun core × ((rest : List ℕ) → Follows rest → read_item left (core ++ rest) ≡ Some (i, rest))

named_core : (left n k : ℕ) (word : List ℕ) → (n == k) ≡ true → StartsName word → IsBegun word → IsWord word
    → bytes_eq word (codes "simple") ≡ false → name_item word ≡ Some (atom (simple k))
    → IsCore (suc left) (atom (simple n)) word
named_core left n k word e starts begun is other found = (
  begun,
  (λ rest f. name_alone left word rest (atom (simple n)) starts is other f.ended
      (found ∙ ap (λ k. Some (atom (simple k))) (sym (eqb-true n k e)))),
)

nothing_here : {X : Type 0} (o : Option X) → is_none o ≡ true → o ≡ None
nothing_here None e = refl
nothing_here (Some x) e = absurd cc

-- where a digit comes first there is no blank
no_blank : (ds rest : List ℕ) → IsNumeral 10 ds → skip_blank (ds ++ rest) ≡ ds ++ rest
no_blank [] rest h = absurd (omega (arith, h.0))
no_blank (d ∷ ds) rest h = skip_none (d ∷ (ds ++ rest)) (nothing_here (after_space true (d ∷ (ds ++ rest)))
    (digit_passes (λ d. is_none (after_space true (d ∷ (ds ++ rest)))) d refl h.1.0))

-- CBOR has the value
has_simple : (n : ℕ) → n < 256 → NotReserved (simple n) → is_simple n ≡ true
has_simple n lt (inl low) = rw (lt-ltb n 24 low) refl
has_simple n lt (inr high) = rw (le-ltb n 24 (omega (arith, high)), le-leb 32 n high, lt-ltb n 256 lt) refl

simple_number_read : (n : ℕ) (rest : List ℕ) → n < 256 → NotReserved (simple n)
    → read_simple (decimal n ++ 41 ∷ rest) ≡ Some (atom (simple n), rest)
simple_number_read n rest lt free =
    let le : n ≤ 2 ^ 64 = omega (arith, lt) in
    let word = subst IsWord (append-nil (decimal n)) (number_word n Unknown le) in
    let is = ap unsigned (sym (append-nil (decimal n)))
    ∙ unsigned_number n Unknown (lt-ltb n (2 ^ 64) (omega (arith, lt))) (omega (arith, lt)) in
    ap₂ (λ w r. unsigned w >>= λ u. simple_number u.0 u.1 >>= λ n. after_byte 41 (skip_blank r)
    >>= λ rest. Some (atom (simple n), rest)) (word_front (decimal n) (41 ∷ rest) word refl)
    (word_rest (decimal n) (41 ∷ rest) word refl)
    ∙ ap (λ u. u >>= λ u. simple_number u.0 u.1 >>= λ n. after_byte 41 (skip_blank (41 ∷ rest))
    >>= λ rest. Some (atom (simple n), rest)) is
    ∙ ap (λ k. k >>= λ n. after_byte 41 (skip_blank (41 ∷ rest)) >>= λ rest. Some (atom (simple n), rest))
    (cond-true (is_simple n) (Some n) None (has_simple n lt free))
    ∙ ap (λ r. after_byte 41 r >>= λ rest. Some (atom (simple n), rest)) (skip_none (41 ∷ rest) refl)

numbered_core : (left n : ℕ) → n < 256 → NotReserved (simple n)
    → IsCore (suc left) (atom (simple n)) (codes "simple(" ++ (decimal n ++ codes ")"))
numbered_core left n lt free = (
  refl,
  (λ rest f.
      let digits = digits_of n (omega (arith, lt)) in
      let inner = append_assoc (decimal n) (codes ")") rest in
      name_front left (codes "simple") (40 ∷ ((decimal n ++ codes ")") ++ rest)) refl
      record { some = omega arith; run = refl } refl
      ∙ ap (λ t. read_simple (skip_blank t)) inner
      ∙ ap read_simple (no_blank (decimal n) (41 ∷ rest) digits) ∙ simple_number_read n rest lt free),
)

simple_core : (left n : ℕ) → n < 256 → NotReserved (simple n) → IsCore (suc left) (atom (simple n)) (simple_text n)
simple_core left n lt free =
    let Core : List ℕ → Type 0 = λ t. IsCore (suc left) (atom (simple n)) t in
    cond_both (n == 20) (codes "false") _ Core (λ e. named 20 (codes "false") e refl refl refl refl refl refl)
    (λ _. cond_both (n == 21) (codes "true") _ Core (λ e. named 21 (codes "true") e refl refl refl refl refl refl)
    (λ _. cond_both (n == 22) (codes "null") _ Core (λ e. named 22 (codes "null") e refl refl refl refl refl refl)
    (λ _. cond_both (n == 23) (codes "undefined") (codes "simple(" ++ (decimal n ++ codes ")")) Core
    (λ e. named 23 (codes "undefined") e refl refl refl refl refl refl) (λ _. numbered_core left n lt free))))
  where
    named : (k : ℕ) (word : List ℕ) → (n == k) ≡ true → nat_lt 0 (length word) ≡ true → StartsName word → IsBegun word
        → run_len (begins_number word) (begins_number word) word ≡ length word
        → bytes_eq word (codes "simple") ≡ false → name_item word ≡ Some (atom (simple k))
        → IsCore (suc left) (atom (simple n)) word
    named k word e some starts begun run other found =
        named_core left n k word e starts begun record { some = ltb-true 0 (length word) some; run = run } other found

-- ---- leaves

-- a text with a note after it, or nothing
pub noted_reads : (left : ℕ) (p : EdnPlace) (says : Said) (i found : Item) (core t : List ℕ) → IsBegun core
    → ((rest : List ℕ) → Follows rest → read_item left (core ++ rest) ≡ Some (found, rest))
    → encoded found ≡ encoded i → Noted p says core t → ReadsAs left i t
noted_reads left p says i found core t begun read same h = record {
  item = found;
  core = core;
  note = h.0;
  parts = h.2;
  is_note = note_is_any p says h.0 h.1;
  begun = begun;
  read = read;
  same = same;
}

module _ (float_reads : (left : ℕ) (all : Bool) (bits : ℕ) (w : FloatWidth) (t : List ℕ) → FitsFloat w bits
    → FloatText all bits w t → ReadsAs (suc left) (atom (float bits w)) t) where
  pub leaf_reads : (left : ℕ) (p : EdnPlace) (a : Atom) (t : List ℕ) → WellFormedAtom a → NotReserved a
      → EdnLeaf p a t → ReadsAs (suc left) (atom a) t
  leaf_reads left p (integer n w) t well free h =
      let m = marked p.style.widths n w in
      let lt = below_limit n w well in
      noted_reads (suc left) p _ (atom (integer n w)) (atom (integer n (read_width m))) (number n m) t
      (subst IsBegun (append-nil (number n m)) (number_begun (number n m) [] (number_starts n m (omega (arith, lt)))))
      (λ rest f. integer_back left n m rest (marked_fits n w p.style.widths well) lt f.ended)
      (read_encoded 0 n w p.style.widths well) h
  leaf_reads left p (negative n w) t well free h =
      let m = marked p.style.widths n w in
      let lt = below_limit n w well in
      noted_reads (suc left) p _ (atom (negative n w)) (atom (negative n (read_width m))) (45 ∷ number (n + 1) m) t refl
      (λ rest f. negative_back left n m rest (marked_fits n w p.style.widths well) lt f.ended)
      (read_encoded 1 n w p.style.widths well) h
  leaf_reads left p (float bits w) t well free h = float_reads left p.style.widths bits w t well h
  leaf_reads left p (simple n) t well free h =
      let core = simple_core left n well free in
      noted_reads (suc left) p _ (atom (simple n)) (atom (simple n)) (simple_text n) t core.0 core.1 refl h
  leaf_reads left p (string kind c) t well free h = absurd h
  leaf_reads left p (chunked_string kind cs) t well free h = absurd h
