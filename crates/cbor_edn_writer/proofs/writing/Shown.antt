-- The parts of an EDN text that hold no item: strings, floats, simple values and notes are `Runs` from outside of
-- quotes and comments to outside of them. Numbers and hex digits are `Steady`: printable ASCII without quotes, slashes
-- and backslashes.
use Rattle.std.proofs.Common.{◌≡◌, inl, inr, ℕ, ◌/◌, ◌%◌, ◌^◌, ◌<◌, ◌≤◌, List, [], ◌∷◌, ◌++◌, length}
use Rattle.std.proofs.Common.{Bool, true, false, Option, Some, None, ◌==◌, ◌||◌, if◌then◌else◌, codes}
use Rattle.std.proofs.Common.{refl, sym, ap, subst, ◌∙◌, arith, slice_index}
use Rattle.std.proofs.Math.Utf8.{encode}
use Rattle.std.proofs.lemmas.Bool.{cases_lt, agree_below_at}
use Rattle.std.proofs.lemmas.Bool.Decides.{nat_tests}
use Rattle.std.proofs.lemmas.Fmt.{decimal_is_IsNumeral_wide}
use Rattle.std.proofs.lemmas.List.{append-nil}
use Rattle.std.proofs.lemmas.Str.{encode_ascii}
use Rattle.std.proofs.lemmas.Str.Parse.{digit_from_value}
use Rattle.std.specs.Borrow.{Bor}
use Rattle.std.specs.Char.{digit_value}
use Rattle.std.specs.Fmt.{decimal, sign_text}
use Rattle.std.specs.Float.Numeral.{Parts, text_of, exponent_text}
use Rattle.std.specs.List.{AllByRecursion, flat_map, list_any}
use Rattle.std.specs.Str.{chars}
use Rattle.std.specs.Str.Parse.{AllDigits}
use Rattle.hex.specs.Hex.{encode_lower, encode_with, lower_digits}
use Rattle.ryu.specs.Plain.{IsLaidOutNumber}
use Rattle.cbor_floats.specs.Decimal.{IsTextOf}
use Rattle.cbor_grammar.specs.Item.{Chunk}
use Rattle.cbor_grammar.specs.NotationText.{number, indicator, simple_text, float_bits}
use Rattle.cbor_grammar.specs.WellFormed.{IsChunk}
use Rattle.cbor_grammar.specs.declared.width.IntegerWidth.{IntegerWidth}
use Rattle.cbor_grammar.specs.declared.width.IntegerWidth.TheVariants.{Unknown, Zero, Eight, Sixteen, ThirtyTwo}
use Rattle.cbor_grammar.specs.declared.width.IntegerWidth.TheVariants.{SixtyFour}
use Rattle.cbor_grammar.specs.declared.width.FloatWidth.{FloatWidth}
use Rattle.cbor_grammar.specs.declared.width.FloatWidth.TheVariants as float_width
use Rattle.cbor_grammar.specs.declared.strings.StringKind.{StringKind}
use Rattle.cbor_grammar.specs.declared.strings.StringKind.TheVariants as kind
use Rattle.cbor_grammar.proofs.bytes.Laws.{AllBytes, wide_bytes}
use Rattle.cbor_edn_writer.specs.Breaks.{Nothing, Text, Bytes, Comment, after, BreaksApart}
use Rattle.cbor_tokens.specs.Escapes.{is_hidden, escaped_char, unit_escape}
use Rattle.cbor_tokens.proofs.escaping.High.{High, high_encode}
use Rattle.cbor_edn_writer.specs.EdnLeaves.{longer, marked, length_mark, ends_note, Said, Noted}
use Rattle.cbor_edn_writer.specs.EdnLeaves.{comment_before, text_before, note_before, note_after, Beside, After}
use Rattle.cbor_edn_writer.specs.EdnLeaves.{FloatText, float_indicator, quoted_string}
use Rattle.cbor_notes.specs.declared.note.Note.{Note}
use Rattle.cbor_edn_writer.specs.declared.print.place.EdnPlace.{EdnPlace}
use Rattle.cbor_edn_writer.proofs.Comments.{IsNote, AnyNote, by_note, note_is_any}
use Rattle.cbor_edn_writer.proofs.back.Blanks.{after_note}
use Rattle.cbor_edn_writer.proofs.writing.Runs.{Runs, runs_nothing, runs_then, runs_byte, scanned, is_steady, Steady}
use Rattle.cbor_edn_writer.proofs.writing.Runs.{ends, steady, steady_append}

-- ---- digits

-- the digit of each value is steady
hex_digit : (k : ℕ) → k < 16 → is_steady (slice_index lower_digits k) ≡ true
hex_digit k lt = agree_below_at (λ k. is_steady (slice_index lower_digits k)) (λ k. true) 16 k refl lt

pub hex_steady : (b : List ℕ) → AllByRecursion (λ x. x < 256) b → Steady (encode_lower b)
unfolding encode_with
hex_steady [] h = tt
hex_steady (x ∷ b) h =
    let lt : x < 256 = h.0 in (hex_digit (x / 16) (omega arith), (hex_digit (x % 16) (omega arith), hex_steady b h.1))

digit_steady : (c : ℕ) → digit_value c < 10 → is_steady c ≡ true
digit_steady c lt = let range = digit_from_value c lt in grind (arith, nat_tests, range)

pub digits_steady : (t : List ℕ) → AllDigits 10 t → Steady t
digits_steady [] h = tt
digits_steady (c ∷ t) h = (digit_steady c h.0, digits_steady t h.1)

pub decimal_steady : (n : ℕ) → n ≤ 2 ^ 64 → Steady (decimal n)
decimal_steady n le = digits_steady (decimal n) (decimal_is_IsNumeral_wide n (omega (arith, le))).0.1

pub indicator_steady : (w : IntegerWidth) → Steady (indicator w)
indicator_steady Unknown = tt
indicator_steady Zero = tt
indicator_steady Eight = (refl, (refl, tt))
indicator_steady Sixteen = (refl, (refl, tt))
indicator_steady ThirtyTwo = (refl, (refl, tt))
indicator_steady SixtyFour = (refl, (refl, tt))

pub number_steady : (n : ℕ) (w : IntegerWidth) → n ≤ 2 ^ 64 → Steady (number n w)
number_steady n w le = steady_append (decimal n) (indicator w) (decimal_steady n le) (indicator_steady w)

-- ---- notes

note_byte : (b : ℕ) → ends_note b ≡ false → (32 ≤ b) × (b ≤ 126) × (after Comment b ≡ Comment)
note_byte b h = (grind (arith, nat_tests, h), grind (arith, nat_tests, h), grind (arith, nat_tests, h))

or_false : (a b : Bool) → (a || b) ≡ false → (a ≡ false) × (b ≡ false)
or_false false b h = (refl, h)
or_false true b h = absurd cc

note_runs : {lines : Bool} (note : List ℕ) → IsNote note → Runs lines Comment Comment note
note_runs [] h = runs_nothing
note_runs {lines} (b ∷ note) h =
    let parts = or_false (ends_note b) (list_any ends_note note) h in
    let is = note_byte b parts.0 in
    runs_byte b is.0 is.1 (subst (λ w. Runs lines w Comment note) (sym is.2) (note_runs note parts.1))

some_note_runs : {lines : Bool} (t : List ℕ) → AnyNote t → Runs lines Nothing Nothing t
some_note_runs {lines} t h = elim h [
  | inl none ↦ subst (λ x. Runs lines Nothing Nothing x) (sym none) runs_nothing
  | inr some ↦ subst (λ x. Runs lines Nothing Nothing x) (sym some.2)
      (runs_then {v = Comment} (scanned (codes " /") refl)
      (runs_then {v = Comment} (note_runs some.0 some.1) (scanned (codes "/") refl)))
]

pub noted_runs : {lines : Bool} (p : EdnPlace) (says : Said) (core t : List ℕ) → Runs lines Nothing Nothing core
    → Noted p says core t → Runs lines Nothing Nothing t
noted_runs {lines} p says core t runs h =
    subst (λ x. Runs lines Nothing Nothing x) (sym h.2)
    (runs_then runs (some_note_runs h.0 (note_is_any p says h.0 h.1)))

-- the notes of an item's own
note_before_runs : {lines : Bool} (p : EdnPlace) → Runs lines Nothing Nothing (note_before p)
note_before_runs {lines} p = either p.style.notes
  where
    comment : (note : List ℕ) → Runs lines Nothing Nothing (comment_before note)
    comment note =
        by_note (λ t. Runs lines Nothing Nothing t) note (codes "/" ++ (note ++ codes "/ ")) runs_nothing
        (λ is begins. runs_then {v = Comment} (scanned (codes "/") refl)
        (runs_then {v = Comment} (note_runs note is) (scanned (codes "/ ") refl)))

    of : (found : Option (Bor Note)) → Runs lines Nothing Nothing (text_before found)
    of None = runs_nothing
    of (Some n) = comment n.now.before.now

    either : (test : Bool) → Runs lines Nothing Nothing (if test then text_before p.found else [])
    either false = runs_nothing
    either true = of p.found

pub beside_runs : {lines : Bool} (p : EdnPlace) (texts : List ℕ → Type 0) (t : List ℕ)
    → ((core : List ℕ) → texts core → Runs lines Nothing Nothing core) → Beside p texts t
    → Runs lines Nothing Nothing t
beside_runs {lines} p texts t runs (inl is_core) = runs t is_core
beside_runs {lines} p texts t runs (inr (core, is_core, is)) =
    subst (λ x. Runs lines Nothing Nothing x) (sym is) (runs_then (note_before_runs p)
    (runs_then (runs core is_core) (some_note_runs (note_after p) (after_note p))))

pub after_runs : {lines : Bool} (p : EdnPlace) (texts : List ℕ → Type 0) (t : List ℕ)
    → ((core : List ℕ) → texts core → Runs lines Nothing Nothing core) → After p texts t
    → Runs lines Nothing Nothing t
after_runs {lines} p texts t runs (inl is_core) = runs t is_core
after_runs {lines} p texts t runs (inr (core, is_core, is)) =
    subst (λ x. Runs lines Nothing Nothing x) (sym is) (runs_then (note_before_runs p) (runs core is_core))

-- ---- texts

-- bytes past U+007F change nothing in a text
high_after : (b : ℕ) → 128 ≤ b → after Text b ≡ Text
high_after b h = grind (arith, nat_tests, h)

high_breaks : (t : List ℕ) → High t → BreaksApart Text t × (ends Text t ≡ Text)
high_breaks [] h = (tt, refl)
high_breaks (b ∷ t) h =
    let low : 128 ≤ b = h.0 in
    let more = high_breaks t h.1 in
    let same = high_after b low in (
      ((λ e. absurd (omega (arith, e, low))), subst (λ w. BreaksApart w t) (sym same) more.0),
      ap (λ w. ends w t) same ∙ more.1,
    )

plain_runs : {lines : Bool} (c : ℕ) → is_hidden c ≡ false → (c == 34) ≡ false → (c == 92) ≡ false
    → Runs lines Text Text (encode c)
plain_runs {lines} c shown no_quote no_escape = elim (cases_lt c 128) [
  | inl a ↦ subst (λ x. Runs lines Text Text x) (sym (encode_ascii c a))
      (runs_byte c (grind (arith, nat_tests, shown)) (grind (arith, nat_tests, shown, a))
      (subst (λ w. Runs lines w Text []) (sym (text_stays c no_quote no_escape)) runs_nothing))
  | inr a ↦
      let high = high_breaks (encode c) (high_encode c a) in
      record {
        breaks = high.0;
        ended = high.1;
        characters = c ∷ [];
        spelled = sym (append-nil (encode c));
        shown = (inl shown, tt);
      }
]
  where
    text_stays : (c : ℕ) → (c == 34) ≡ false → (c == 92) ≡ false → after Text c ≡ Text
    text_stays c p q = rw (q, p) refl

pair_bytes : (c : ℕ) → c < 65536 → AllByRecursion (λ x. x < 256) (c / 256 ∷ c % 256 ∷ [])
pair_bytes c lt = (omega (arith, lt), (omega arith, tt))

hidden_low : (c : ℕ) → is_hidden c ≡ true → c < 65536
hidden_low c h = elim (cases_lt c 65536) [
  | inl lt ↦ lt
  | inr le ↦ absurd
      (let q = not_hidden c le in let wrong : true ≡ false = sym h ∙ q in cc)
]
  where
    not_hidden : (c : ℕ) → 65536 ≤ c → is_hidden c ≡ false
    not_hidden c le = grind (arith, nat_tests)

unit_runs : {lines : Bool} (c : ℕ) → is_hidden c ≡ true → Runs lines Text Text (unit_escape c)
unit_runs c h = runs_then {v = Text} (scanned (codes "\\u") refl)
    (steady (encode_lower (c / 256 ∷ c % 256 ∷ [])) tt (hex_steady (c / 256 ∷ c % 256 ∷ []) (pair_bytes c
    (hidden_low c h))))

-- one case of a chain of tests
chosen : (P : List ℕ → Type 0) (test : Bool) (a b : List ℕ) → P a → (test ≡ false → P b)
    → P (if test then a else b)
chosen P true a b h k = h
chosen P false a b h k = k refl

chosen_if : (P : List ℕ → Type 0) (test : Bool) (a b : List ℕ) → (test ≡ true → P a) → (test ≡ false → P b)
    → P (if test then a else b)
chosen_if P true a b h k = h refl
chosen_if P false a b h k = k refl

char_runs : {lines : Bool} (c : ℕ) → Runs lines Text Text (escaped_char c)
char_runs {lines} c =
    let P : List ℕ → Type 0 = λ t. Runs lines Text Text t in
    chosen P (c == 34) _ _ (scanned (codes "\\\"") refl) (λ no_quote.
    chosen P (c == 92) _ _ (scanned (codes "\\\\") refl) (λ no_escape.
    chosen P (c == 10) _ _ (scanned (codes "\\n") refl) (λ e.
    chosen P (c == 13) _ _ (scanned (codes "\\r") refl) (λ e.
    chosen P (c == 9) _ _ (scanned (codes "\\t") refl) (λ e.
    chosen P (c == 8) _ _ (scanned (codes "\\b") refl) (λ e.
    chosen P (c == 12) _ _ (scanned (codes "\\f") refl) (λ e.
    chosen_if P (is_hidden c) (unit_escape c) (encode c) (unit_runs c)
    (λ shown. plain_runs c shown no_quote no_escape))))))))

chars_run : {lines : Bool} (cs : List ℕ) → Runs lines Text Text (flat_map escaped_char cs)
chars_run [] = runs_nothing
chars_run (c ∷ cs) = runs_then (char_runs c) (chars_run cs)

pub string_runs : {lines : Bool} (kind : StringKind) (c : Chunk) → IsChunk kind c
    → Runs lines Nothing Nothing (quoted_string kind c)
string_runs kind.Bytes c h =
    runs_then {v = Bytes} (scanned (codes "h'") refl)
    (runs_then {v = Bytes} (steady (encode_lower c.bytes) tt (hex_steady c.bytes h.bytes))
    (runs_then {v = Nothing} (scanned (codes "'") refl)
    (steady (length_mark (length c.bytes) c.width) tt (indicator_steady (longer (length c.bytes) c.width)))))
string_runs kind.Text c h =
    runs_then {v = Text} (scanned (codes "\"") refl)
    (runs_then {v = Text} (chars_run (chars c.bytes))
    (runs_then {v = Nothing} (scanned (codes "\"") refl)
    (steady (length_mark (length c.bytes) c.width) tt (indicator_steady (longer (length c.bytes) c.width)))))

-- ---- floats and simple values

sign_steady : (negative : Bool) → Steady (sign_text negative)
sign_steady true = (refl, tt)
sign_steady false = tt

exponent_steady : (negative : Bool) (ds : List ℕ) → AllDigits 10 ds → Steady (exponent_text negative ds)
exponent_steady negative [] h = tt
exponent_steady negative (d ∷ ds) h =
    (refl, steady_append (sign_text negative) (d ∷ ds) (sign_steady negative) (digits_steady (d ∷ ds) h))

point_steady : (point : Bool) (ds : List ℕ) → AllDigits 10 ds → Steady (if point then 46 ∷ ds else [])
point_steady true ds h = (refl, digits_steady ds h)
point_steady false ds h = tt

pub laid_out_steady : (text : List ℕ) → IsLaidOutNumber 16 4 text → Steady text
laid_out_steady text h =
    let p : Parts = h.3.0 in
    let well = h.3.2.well_formed in
    let size : Steady (text_of p) =
    steady_append p.whole _ (digits_steady p.whole well.whole_digits)
    (steady_append (if p.point then 46 ∷ p.fraction else []) _ (point_steady p.point p.fraction well.fraction_digits)
    (exponent_steady p.exponent_negative p.exponent well.exponent_digits)) in
    subst Steady (sym (h.2 ∙ ap (λ x. sign_text h.0 ++ x) h.3.1))
    (steady_append (sign_text h.0) (text_of p) (sign_steady h.0) size)

number_text_steady : (text : List ℕ) {x : _} → IsTextOf text x → Steady text
number_text_steady text h = elim h.number [
  | inl word ↦ elim word [
    | inl nan ↦ subst Steady (sym nan.0) (refl, (refl, (refl, tt)))
    | inr more ↦ elim more [
      | inl inf ↦ subst Steady (sym inf.0) (refl, (refl, (refl, (refl, (refl, (refl, (refl, (refl, tt))))))))
      | inr minus ↦ subst Steady (sym minus.0) (
        refl,
        (
          refl,
          (
            refl,
            (
              refl,
              (
                refl,
                (
                  refl,
                  (
                    refl,
                    (
                      refl,
                      (refl, tt),
                    ),
                  ),
                ),
              ),
            ),
          ),
        ),
      )
    ]
  ]
  | inr finite ↦ laid_out_steady text (h.layout finite.2)
]

float_mark_steady : (w : FloatWidth) → Steady (float_indicator w)
float_mark_steady float_width.Unknown = (refl, (refl, tt))
float_mark_steady float_width.Sixteen = (refl, (refl, tt))
float_mark_steady float_width.ThirtyTwo = (refl, (refl, tt))
float_mark_steady float_width.SixtyFour = (refl, (refl, tt))

float_bytes : (bits : ℕ) (w : FloatWidth) → AllBytes (float_bits bits w)
float_bytes bits float_width.Unknown = wide_bytes bits
float_bytes bits float_width.Sixteen = (omega arith, (omega arith, tt))
float_bytes bits float_width.ThirtyTwo = (omega arith, (omega arith, (omega arith, (omega arith, tt))))
float_bytes bits float_width.SixtyFour = wide_bytes bits

pub float_runs : {lines : Bool} (all : Bool) (bits : ℕ) (w : FloatWidth) (t : List ℕ) → FloatText all bits w t
    → Runs lines Nothing Nothing t
float_runs {lines} all bits w t h = elim h [
  | inl n ↦
      let text = number_text_steady n.text n.number in
      elim n.is [
        | inl marked ↦ subst (λ x. Runs lines Nothing Nothing x) (sym marked.0)
            (steady (n.text ++ float_indicator w) tt (steady_append n.text (float_indicator w) text
            (float_mark_steady w)))
        | inr shortest ↦ subst (λ x. Runs lines Nothing Nothing x) (sym shortest.0) (steady n.text tt text)
      ]
  | inr bits_text ↦ subst (λ x. Runs lines Nothing Nothing x) (sym bits_text.1)
      (runs_then {v = Bytes} (scanned (codes "float'") refl)
      (runs_then {v = Bytes} (steady (encode_lower (float_bits bits w)) tt
      (hex_steady (float_bits bits w) (float_bytes bits w))) (scanned (codes "'") refl)))
]

pub simple_runs : {lines : Bool} (n : ℕ) → n < 256 → Runs lines Nothing Nothing (simple_text n)
simple_runs {lines} n lt =
    let P : List ℕ → Type 0 = λ t. Runs lines Nothing Nothing t in
    chosen P (n == 20) _ _ (scanned (codes "false") refl) (λ e.
    chosen P (n == 21) _ _ (scanned (codes "true") refl) (λ e.
    chosen P (n == 22) _ _ (scanned (codes "null") refl) (λ e.
    chosen P (n == 23) _ _ (scanned (codes "undefined") refl) (λ e.
    runs_then {v = Nothing} (scanned (codes "simple(") refl)
    (runs_then {v = Nothing} (steady (decimal n) tt (decimal_steady n (omega (arith, lt)))) (scanned
    (codes ")") refl))))))
