-- What is written of a number, a string, a float or a simple value (`number`, `string_text`, `float_text`,
-- `simple_text`) is notation of the same value by the grammar, if the value fits its width. Its width is that of the
-- normal form.
use Rattle.std.proofs.Common.{◌≡◌, ℕ, zero, suc, ◌+◌, ◌*◌, ◌/◌, ◌%◌, ◌^◌, ◌<◌, ◌≤◌, ◌==◌, Bool, true, false, cond}
use Rattle.std.proofs.Common.{List, [], ◌∷◌, ◌++◌, length, replicate, slice_index, codes, Option, Some, None, ◌⊎◌, inl}
use Rattle.std.proofs.Common.{IsTrue, inr, refl, sym, ap, subst, ◌∙◌, arith}
use Rattle.std.proofs.lemmas.Bool.{agree_below_at, cond_both, eqb-true, lt-ltb, false≢true}
use Rattle.std.proofs.lemmas.Nat.{from_be_bytes-to_be_bytes_4, from_be_bytes-to_be_bytes_8}
use Rattle.std.proofs.lemmas.Fmt.{decimal_is_IsNumeral}
use Rattle.std.specs.List.{AllByRecursion}
use Rattle.std.specs.Char.{digit_value}
use Rattle.std.specs.Fmt.{decimal, digits}
use Rattle.std.specs.Str.Parse.{AllDigits, digits_value_after}
use Rattle.std.specs.Int.{w16, w32, w64, to_be_bytes}
use Rattle.hex.specs.Hex.{encode_lower, encode_with, lower_digits}
use Rattle.hex.proofs.HexLemmas.{decode_of-encode_lower}
use Rattle.base64.specs.Rfc4648.{encode_group, encode_symbols, padding_len}
use Rattle.cbor_tokens.specs.Base64.{standard, url_safe}
use Rattle.cbor_tokens.specs.Token.{Blank, nothing, whitespace, IsNumber, AreDigits, Indicates, is_digit, Spaced, blank}
use Rattle.cbor_tokens.specs.Token.{digit, DigitsBetween, in_quotes}
use Rattle.cbor_tokens.proofs.tokens.WrittenNumbers.{decimal_IsNumber}
use Rattle.cbor_grammar.specs.declared.width.IntegerWidth.{IntegerWidth}
use Rattle.cbor_grammar.specs.declared.width.IntegerWidth.TheVariants.{Unknown, Zero, Eight, Sixteen, ThirtyTwo}
use Rattle.cbor_grammar.specs.declared.width.IntegerWidth.TheVariants.{SixtyFour}
use Rattle.cbor_grammar.specs.declared.width.FloatWidth.{FloatWidth}
use Rattle.cbor_grammar.specs.declared.width.FloatWidth.TheVariants as float_width
use Rattle.cbor_grammar.specs.declared.encoding.Encoding.{Encoding}
use Rattle.cbor_grammar.specs.declared.encoding.Encoding.TheVariants.{Base16, Base64, Base64Url}
use Rattle.cbor_grammar.specs.Item.{Chunk, Item}
use Rattle.cbor_grammar.specs.Head.{FitsWidth}
use Rattle.cbor_grammar.specs.WellFormed.{FitsFloat, IsChunk}
use Rattle.cbor_grammar.specs.declared.strings.StringKind.{StringKind}
use Rattle.cbor_grammar.specs.declared.strings.StringKind.TheVariants.{Bytes, Text}
use Rattle.cbor_grammar.specs.Written.{resolve_float}
use Rattle.cbor_grammar.specs.Notation.{NumberOf, NegativeOf, number_width, Notation, in_base16, in_base64, StringOf}
use Rattle.cbor_grammar.specs.Notation.{one}
use Rattle.cbor_grammar.specs.Notation.{SimpleOf, FloatDigits, FloatOf}
use Rattle.cbor_grammar.specs.NotationText.{indicator, number, quoted, string_text, float_text, simple_text}
use Rattle.cbor_grammar.specs.Normal.{normal_width, normal_chunk}
use Rattle.cbor_grammar.proofs.bytes.Laws.{AllBytes, wide_bytes}
use Rattle.cbor_notation_writer.proofs.normal.Form.{below_limit, normal_fits}

-- ---- blanks

pub spaces : {comments : Bool} (n : ℕ) → Blank comments (replicate n 32)
spaces zero = nothing
spaces (suc n) = whitespace refl (spaces n)

pub new_line : {comments : Bool} (n : ℕ) → Blank comments (10 ∷ replicate n 32)
new_line n = whitespace refl (spaces n)

pub one_space : {comments : Bool} → Blank comments (codes " ")
one_space = whitespace refl nothing

-- ---- numbers

abbrev indicated : IntegerWidth → Option ℕ
indicated Unknown = None
indicated Zero = None
indicated Eight = Some 0
indicated Sixteen = Some 1
indicated ThirtyTwo = Some 2
indicated SixtyFour = Some 3

one_digit : (d : ℕ) → d < 10 → decimal d ≡ (48 + d) ∷ [] → AreDigits 10 ((48 + d) ∷ []) d
one_digit d lt is = let n = decimal_is_IsNumeral d (omega arith) in subst (λ ds. AreDigits 10 ds d) is (n.0, sym n.1)

indicates : (w : IntegerWidth) → Indicates (indicator w) (indicated w)
unfolding digits
indicates Unknown = refl
indicates Zero = refl
indicates Eight = (codes "0", refl, one_digit 0 (omega arith) refl, omega arith)
indicates Sixteen = (codes "1", refl, one_digit 1 (omega arith) refl, omega arith)
indicates ThirtyTwo = (codes "2", refl, one_digit 2 (omega arith) refl, omega arith)
indicates SixtyFour = (codes "3", refl, one_digit 3 (omega arith) refl, omega arith)

is_number : (v : ℕ) (w : IntegerWidth) → v ≤ 2 ^ 64 → IsNumber (number v w) v (indicated w)
is_number v w le = decimal_IsNumber v (indicator w) (indicated w) le (indicates w)

width_is : (n : ℕ) (w : IntegerWidth) → FitsWidth w n → normal_width w n ≡ number_width n (indicated w)
width_is n Unknown fits = refl
width_is n Zero fits = let lt : n < 24 = fits in rw (lt-ltb n 24 lt) refl
width_is n _ fits = refl

pub number_read : (n : ℕ) (w : IntegerWidth) → FitsWidth w n → NumberOf (number n w) n (normal_width w n)
number_read n w fits =
    let lt = below_limit n w fits in
    (indicated w, is_number n w (omega arith), (width_is n w fits, normal_fits n w fits))

pub negative_read : (n : ℕ) (w : IntegerWidth) → FitsWidth w n
    → NegativeOf (codes "-" ++ number (n + 1) w) n (normal_width w n)
negative_read n w fits =
    let lt = below_limit n w fits in
    (number (n + 1) w, indicated w, refl, is_number (n + 1) w (omega arith), (width_is n w fits, normal_fits n w fits))

-- ---- digits between quotes

abbrev every : (ℕ → Bool) → List ℕ → Bool
every p [] = true
every p (x ∷ xs) = cond (p x) (every p xs) false

both_true : (a b : Bool) → cond a b false ≡ true → (a ≡ true) × (b ≡ true)
both_true true b h = (refl, h)
both_true false b h = absurd (false≢true h)

from_test : (p : ℕ → Bool) (xs : List ℕ) → every p xs ≡ true → AllByRecursion (λ x. IsTrue (p x)) xs
from_test p [] h = tt
from_test p (x ∷ xs) h = let t = both_true (p x) (every p xs) h in (t.0, from_test p xs t.1)

at_index : (P : ℕ → Type 0) (xs : List ℕ) → AllByRecursion P xs → P 0 → (k : ℕ) → P (slice_index xs k)
at_index P [] all first k = first
at_index P (x ∷ xs) all first zero = all.0
at_index P (x ∷ xs) all first (suc k) = at_index P xs all.1 first k

all_append : (P : ℕ → Type 0) (xs ys : List ℕ) → AllByRecursion P xs → AllByRecursion P ys → AllByRecursion P (xs ++ ys)
all_append P [] ys h k = k
all_append P (x ∷ xs) ys h k = (h.0, all_append P xs ys h.1 k)

all_replicate : (P : ℕ → Type 0) (n x : ℕ) → P x → AllByRecursion P (replicate n x)
all_replicate P zero x h = tt
all_replicate P (suc n) x h = (h, all_replicate P n x h)

abbrev Digits : Bool → List ℕ → Type 0
Digits comments ds = AllByRecursion (λ d. IsTrue (is_digit comments d)) ds

-- what an alphabet writes are digits
abbrev Alphabet : Bool → List ℕ → Type 0
Alphabet comments t = (k : ℕ) → IsTrue (is_digit comments (slice_index t k))

hex_digits : (t b : List ℕ) → Alphabet true t → Digits true (encode_with t b)
unfolding encode_with
hex_digits t [] h = tt
hex_digits t (x ∷ b) h = (h (x / 16), (h (x % 16), hex_digits t b h))

symbols : (t b : List ℕ) → Alphabet false t → Digits false (encode_symbols t b)
unfolding encode_symbols
symbols t [] h = tt
symbols t (x ∷ []) h = (h _, (h _, tt))
symbols t (x ∷ (y ∷ [])) h = (h _, (h _, (h _, tt)))
symbols t (x ∷ (y ∷ (z ∷ b))) h = all_append _ (encode_group t x y z) (encode_symbols t b)
    (h _, (h _, (h _, (h _, tt)))) (symbols t b h)

abbrev standard_alphabet : List ℕ
standard_alphabet = codes "ABCDEFGHIJKLMNOPQRSTUVWXYZabcdefghijklmnopqrstuvwxyz0123456789+/"

abbrev url_safe_alphabet : List ℕ
url_safe_alphabet = codes "ABCDEFGHIJKLMNOPQRSTUVWXYZabcdefghijklmnopqrstuvwxyz0123456789-_"

encoded_digits : (b : List ℕ) → Digits true (encode_lower b)
encoded_digits b = hex_digits lower_digits b
    (at_index (λ d. IsTrue (is_digit true d)) lower_digits (from_test (is_digit true) lower_digits refl) refl)

standard_digits : (b : List ℕ) → Digits false (standard b)
standard_digits b =
    all_append _ (encode_symbols standard_alphabet b) (replicate (padding_len (length b)) 61)
    (symbols standard_alphabet b (at_index (λ d. IsTrue (is_digit false d)) standard_alphabet
    (from_test (is_digit false) standard_alphabet refl) refl)) (all_replicate _ (padding_len (length b)) 61 refl)

url_safe_digits : (b : List ℕ) → Digits false (url_safe b)
url_safe_digits b =
    all_append _ (encode_symbols url_safe_alphabet b) []
    (symbols url_safe_alphabet b (at_index (λ d. IsTrue (is_digit false d)) url_safe_alphabet
    (from_test (is_digit false) url_safe_alphabet refl) refl)) tt

spaced : (comments : Bool) (ds : List ℕ) → Digits comments ds → Spaced comments ds ds
spaced comments [] h = blank nothing
spaced comments (d ∷ ds) h = digit [] ds nothing h.0 (spaced comments ds h.1) refl

some_or_none : (ds : List ℕ) → (ds ≡ []) ⊎ (0 < length ds)
some_or_none [] = inl refl
some_or_none (d ∷ ds) = inr (omega arith)

between : (comments : Bool) (ds : List ℕ) → Digits comments ds → DigitsBetween comments ds ds
between comments ds h = (spaced comments ds h, some_or_none ds)

pub quoted_read : (Read : List ℕ → Item → Type 0) (e : Encoding) (b : List ℕ) → AllBytes b
    → Notation Read (quoted e b) b
quoted_read Read Base16 b h = in_base16 (encode_lower b)
    (encode_lower b, refl, between true (encode_lower b) (encoded_digits b))
    (decode_of-encode_lower b (λ i. at_index (λ x. x < 256) b h (omega arith) i))
quoted_read Read Base64 b h = in_base64 (standard b) (standard b, refl, between false (standard b) (standard_digits b))
    h (inr refl)
quoted_read Read Base64Url b h = in_base64 (url_safe b)
    (url_safe b, refl, between false (url_safe b) (url_safe_digits b)) h (inl refl)

pub string_read : (kind : StringKind) (Read : List ℕ → Item → Type 0) (e : Encoding) (s : Chunk) → IsChunk kind s
    → StringOf kind Read (string_text kind e s.bytes) (normal_chunk s)
string_read Bytes Read e s h = (refl, tt, one (quoted_read Read e s.bytes h.bytes), tt)
string_read Text Read e s h = (refl, (in_quotes 34 s.bytes ++ 34 ∷ [], refl), one (inl refl), h.content)

-- ---- floats and simple values

digit_is : (k : ℕ) → k < 16 → digit_value (slice_index lower_digits k) ≡ k
digit_is k lt = eqb-true _ k
    (agree_below_at (λ k. digit_value (slice_index lower_digits k) == k) (λ k. true) 16 k refl lt)

-- the number that bytes are, the first of them the highest
abbrev number_after : ℕ → List ℕ → ℕ
number_after n [] = n
number_after n (b ∷ bs) = number_after (n * 256 + b) bs

hex_value : (n : ℕ) (bs : List ℕ) → AllBytes bs → digits_value_after 16 n (encode_lower bs) ≡ number_after n bs
unfolding encode_with
hex_value n [] h = refl
hex_value n (b ∷ bs) h =
    let lt : b < 256 = h.0 in
    let high = digit_is (b / 16) (omega arith) in
    let low = digit_is (b % 16) (omega arith) in
    let step : (n * 16 + digit_value (slice_index lower_digits (b / 16))) * 16 + digit_value
    (slice_index lower_digits (b % 16)) ≡ n * 256 + b = rw (high, low) (omega arith) in
    ap (λ m. digits_value_after 16 m (encode_lower bs)) step ∙ hex_value (n * 256 + b) bs h.1

hex_all : (bs : List ℕ) → AllBytes bs → AllDigits 16 (encode_lower bs)
unfolding encode_with
hex_all [] h = tt
hex_all (b ∷ bs) h =
    let lt : b < 256 = h.0 in
    (omega (arith, digit_is (b / 16) (omega arith)), (omega (arith, digit_is (b % 16) (omega arith)), hex_all bs h.1))

module _ (n : ℕ) (w : FloatWidth) (bs : List ℕ) (all : AllBytes bs) (value : number_after 0 bs ≡ n) where
  float_of : 0 < length (encode_lower bs) → FloatDigits w (length (encode_lower bs))
      → FloatOf (codes "float'" ++ (encode_lower bs ++ codes "'")) n w
  float_of some count = (encode_lower bs, refl, (((some, hex_all bs all), sym (hex_value 0 bs all ∙ value)), count))

wide_read : (n : ℕ) → n < 2 ^ 64 → FloatOf (float_text n float_width.SixtyFour) n float_width.SixtyFour
unfolding encode_with
wide_read n lt =
    float_of n float_width.SixtyFour (to_be_bytes w64 n) (wide_bytes n)
    (omega (arith, from_be_bytes-to_be_bytes_8 n lt)) (omega arith) refl

pub float_read : (n : ℕ) (w : FloatWidth) → FitsFloat w n → FloatOf (float_text n w) n (resolve_float w)
unfolding encode_with
float_read n float_width.Unknown fits = wide_read n fits
float_read n float_width.Sixteen fits =
    float_of n float_width.Sixteen (to_be_bytes w16 n) (omega arith, (omega arith, tt)) (omega arith) (omega arith) refl
float_read n float_width.ThirtyTwo fits =
    float_of n float_width.ThirtyTwo (to_be_bytes w32 n)
    (omega arith, (omega arith, (omega arith, (omega arith, tt))))
    (omega (arith, from_be_bytes-to_be_bytes_4 n fits)) (omega arith) refl
float_read n float_width.SixtyFour fits = wide_read n fits

pub simple_read : (n : ℕ) → n < 256 → SimpleOf (simple_text n) n
simple_read n lt =
    named_or (n == 20) (codes "false") _ (λ e. inl (inl (refl, eqb-true n 20 e)))
    (named_or (n == 21) (codes "true") _ (λ e. inl (inr (inl (refl, eqb-true n 21 e))))
    (named_or (n == 22) (codes "null") _ (λ e. inl (inr (inr (inl (refl, eqb-true n 22 e)))))
    (named_or (n == 23) (codes "undefined") _ (λ e. inl (inr (inr (inr (refl, eqb-true n 23 e)))))
    (let v = decimal_is_IsNumeral n (omega arith) in inr (decimal n, refl, ((v.0, sym v.1), lt))))))
  where
    named_or : (test : Bool) (name other : List ℕ) → (test ≡ true → SimpleOf name n) → SimpleOf other n
        → SimpleOf (cond test name other) n
    named_or test name other this or = cond_both test name other (λ t. SimpleOf t n) this (λ e. or)
