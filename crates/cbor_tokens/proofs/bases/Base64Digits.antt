-- For `base64_text.rt`: in each of its two encodings, digits decode to bytes (`decoded`) if and only if they are the
-- `encoding` of these bytes. Digits with `+`, `/` or `=` are decoded as `standard` and all others as `url_safe`; this
-- finds the bytes of both encodings.
use Rattle.std.proofs.Common.{◌≡◌, ℕ, zero, suc, ◌+◌, ◌*◌, ◌/◌, ◌%◌, ◌<◌, ◌||◌, Bool, true, false, not, List, [], ◌∷◌}
use Rattle.std.proofs.Common.{◌++◌, length, replicate, slice_index, codes, Option, Some, None, Result, Ok, Err, IfOk}
use Rattle.std.proofs.Common.{IfSome, IfNone, IsSomeAnd, refl, sym, ap, ◌∙◌, ◌⊎◌, inl, inr, arith, lit<}
use Rattle.std.specs.List.{list_any, list_all}
use Rattle.std.proofs.lemmas.Bool.{cases_Bool, cases_lt}
use Rattle.std.proofs.lemmas.List.{append-nil, get_or_append_left}
use Rattle.std.proofs.lemmas.List.Folds.{list_all_at, list_any-append}
use Rattle.base64.specs.Rfc4648.{encode_symbols, padding_len}
use Rattle.cbor_tokens.specs.AreBytes.{AreBytes}
use Rattle.base64.proofs.EngineFacts.{decode_of-encode_of, decode_of_strict}
use Rattle.base64.specs.Engines as engines
use Rattle.base64.specs.GeneralPurpose.{decode_of, decoded_of}
use Rattle.std.specs.Result.{result_ok}
use Rattle.cbor_tokens.specs.Base64.{decoded, encoding, is_standard_only, standard, url_safe}

-- the letters and figures that both alphabets begin with
abbrev letters : List ℕ
letters = codes "ABCDEFGHIJKLMNOPQRSTUVWXYZabcdefghijklmnopqrstuvwxyz0123456789"

abbrev standard_symbols : List ℕ
standard_symbols = letters ++ codes "+/"

abbrev url_safe_symbols : List ℕ
url_safe_symbols = letters ++ codes "-_"

-- no symbol of the one alphabet is only in the other
url_safe_symbol : (k : ℕ) → k < 64 → is_standard_only (slice_index url_safe_symbols k) ≡ false
url_safe_symbol k small = elim (cases_Bool (is_standard_only (slice_index url_safe_symbols k))) [
  | inl marked ↦
      let all : list_all (λ d. not (is_standard_only d)) url_safe_symbols ≡ true = refl in
      let some = list_all_at (λ d. not (is_standard_only d)) url_safe_symbols k 0 small (ap not marked) in
      cc (sym all ∙ some)
  | inr plain ↦ plain
]

-- a symbol of the standard alphabet that is in both
standard_symbol : (k : ℕ) → k < 64 → is_standard_only (slice_index standard_symbols k) ≡ false
    → slice_index standard_symbols k ≡ slice_index url_safe_symbols k
standard_symbol k small plain = elim (cases_lt k 62) [
  | inl lt ↦ get_or_append_left letters (codes "+/") 0 k lt ∙ sym (get_or_append_left letters (codes "-_") 0 k lt)
  | inr ge ↦ elim (cases_lt k 63) [
    | inl lt ↦ let last : k ≡ 62 = omega arith in let never : true ≡ false = rw last at plain in cc never
    | inr ge ↦ let last : k ≡ 63 = omega arith in let never : true ≡ false = rw last at plain in cc never
  ]
]

or_false : (a b : Bool) → (a || b) ≡ false → (a ≡ false) × (b ≡ false)
or_false true b is = cc is
or_false false b is = (refl, is)

false_or : (a b : Bool) → a ≡ false → b ≡ false → (a || b) ≡ false
false_or a b x y = rw (x, y) refl

-- one symbol, and then the same others
same_first : (k : ℕ) (xs ys : List ℕ) → k < 64 → list_any is_standard_only (slice_index standard_symbols k ∷ xs) ≡ false
    → (list_any is_standard_only xs ≡ false → xs ≡ ys)
    → slice_index standard_symbols k ∷ xs ≡ slice_index url_safe_symbols k ∷ ys
same_first k xs ys small plain more =
    let parts = or_false (is_standard_only (slice_index standard_symbols k)) (list_any is_standard_only xs) plain in
    rw (standard_symbol k small parts.0, more parts.1) refl

-- no digit of an encoding safe in URLs is only in the standard one
symbols_url_safe : (bytes : List ℕ) → AreBytes bytes
    → list_any is_standard_only (encode_symbols url_safe_symbols bytes) ≡ false
unfolding encode_symbols
symbols_url_safe [] all = refl
symbols_url_safe (a ∷ []) all =
    let x = all.0 in
    false_or _ _ (url_safe_symbol (a / 4) (omega arith))
    (false_or _ _ (url_safe_symbol (a % 4 * 16) (omega arith)) refl)
symbols_url_safe (a ∷ b ∷ []) all =
    let x = all.0 in
    let y = all.1.0 in
    false_or _ _ (url_safe_symbol (a / 4) (omega arith))
    (false_or _ _ (url_safe_symbol (a % 4 * 16 + b / 16) (omega arith))
    (false_or _ _ (url_safe_symbol (b % 16 * 4) (omega arith)) refl))
symbols_url_safe (a ∷ b ∷ c ∷ bytes) all =
    let x = all.0 in
    let y = all.1.0 in
    let z = all.1.1.0 in
    false_or _ _ (url_safe_symbol (a / 4) (omega arith))
    (false_or _ _ (url_safe_symbol (a % 4 * 16 + b / 16) (omega arith))
    (false_or _ _ (url_safe_symbol (b % 16 * 4 + c / 64) (omega arith))
    (false_or _ _ (url_safe_symbol (c % 64) (omega arith))
    (symbols_url_safe bytes all.1.1.1))))

-- the symbols of a standard encoding without these digits
symbols_same : (bytes : List ℕ) → AreBytes bytes
    → list_any is_standard_only (encode_symbols standard_symbols bytes) ≡ false
    → encode_symbols standard_symbols bytes ≡ encode_symbols url_safe_symbols bytes
unfolding encode_symbols
symbols_same [] all plain = refl
symbols_same (a ∷ []) all plain =
    let x = all.0 in
    same_first (a / 4) _ _ (omega arith) plain (λ one. same_first (a % 4 * 16) _ _ (omega arith) one (λ two. refl))
symbols_same (a ∷ b ∷ []) all plain =
    let x = all.0 in
    let y = all.1.0 in
    same_first (a / 4) _ _ (omega arith) plain (λ one. same_first (a % 4 * 16 + b / 16) _ _ (omega arith) one
    (λ two. same_first (b % 16 * 4) _ _ (omega arith) two (λ three. refl)))
symbols_same (a ∷ b ∷ c ∷ bytes) all plain =
    let x = all.0 in
    let y = all.1.0 in
    let z = all.1.1.0 in
    same_first (a / 4) _ _ (omega arith) plain (λ one. same_first (a % 4 * 16 + b / 16) _ _ (omega arith) one
    (λ two. same_first (b % 16 * 4 + c / 64) _ _ (omega arith) two (λ three. same_first (c % 64) _ _ (omega arith) three
    (λ rest. symbols_same bytes all.1.1.1 rest))))

-- an encoding safe in URLs has no digit that only the standard one has
url_safe_plain : (digits bytes : List ℕ) → AreBytes bytes → digits ≡ url_safe bytes
    → list_any is_standard_only digits ≡ false
url_safe_plain digits bytes all is = ap (list_any is_standard_only)
    (is ∙ append-nil (encode_symbols url_safe_symbols bytes)) ∙ symbols_url_safe bytes all

no_padding : (n : ℕ) → list_any is_standard_only (replicate n 61) ≡ false → replicate {A = ℕ} n 61 ≡ []
no_padding zero plain = refl
no_padding (suc n) plain = cc plain

-- a standard encoding without these digits is one that is safe in URLs
standard_plain : (digits bytes : List ℕ) → AreBytes bytes → digits ≡ standard bytes
    → list_any is_standard_only digits ≡ false → digits ≡ url_safe bytes
standard_plain digits bytes all is plain =
    let symbols : List ℕ = encode_symbols standard_symbols bytes in
    let padding : List ℕ = replicate (padding_len (length bytes)) 61 in
    let both : (list_any is_standard_only symbols || list_any is_standard_only padding) ≡ false =
    sym (list_any-append is_standard_only symbols padding) ∙ ap (list_any is_standard_only) (sym is) ∙ plain in
    let parts = or_false _ _ both in
    is ∙ ap (λ (l : List ℕ). symbols ++ l) (no_padding (padding_len (length bytes)) parts.1)
    ∙ ap (λ (l : List ℕ). l ++ []) (symbols_same bytes all parts.0)

-- bytes by their places
pub bytes_at : (bytes : List ℕ) → AreBytes bytes → (i : ℕ) → slice_index bytes i < 256
bytes_at [] all i = lit< tt
bytes_at (b ∷ bytes) all zero = all.0
bytes_at (b ∷ bytes) all (suc i) = bytes_at bytes all.1 i

-- and back
pub bytes_from : (bytes : List ℕ) → ((i : ℕ) → slice_index bytes i < 256) → AreBytes bytes
bytes_from [] at = tt
bytes_from (b ∷ bytes) at = (at 0, bytes_from bytes (λ i. at (suc i)))

-- the encoding that the digits choose
pub url_safe_chosen : (digits bytes : List ℕ) (marked : Bool) → marked ≡ list_any is_standard_only digits
    → AreBytes bytes
    → digits ≡ url_safe bytes → digits ≡ encoding (not marked) bytes
url_safe_chosen digits bytes true marks all is = let never : true ≡ false = marks
    ∙ url_safe_plain digits bytes all is in cc never
url_safe_chosen digits bytes false marks all is = is

pub standard_chosen : (digits bytes : List ℕ) (marked : Bool) → marked ≡ list_any is_standard_only digits
    → AreBytes bytes
    → digits ≡ standard bytes → digits ≡ encoding (not marked) bytes
standard_chosen digits bytes true marks all is = is
standard_chosen digits bytes false marks all is = standard_plain digits bytes all is (sym marks)

-- what was found, in either encoding
pub found_either : {V E : Type 0} (r : Result (Option V) E) (items : V → List ℕ) (digits : List ℕ) (url : Bool)
    → IfOk r (λ found. IfSome found (λ v. AreBytes (items v) × (digits ≡ encoding url (items v))))
    → IfOk r (λ found. IfSome found (λ v. AreBytes (items v)
    × ((digits ≡ url_safe (items v)) ⊎ (digits ≡ standard (items v)))))
found_either (Ok (Some v)) items digits true is = (is.0, inl is.1)
found_either (Ok (Some v)) items digits false is = (is.0, inr is.1)
found_either (Ok None) items digits url is = tt
found_either (Err e) items digits url is = tt

-- nothing found says that neither fact holds of any bytes, where each of them lets something be found
pub none_from : {V E : Type 0} (r : Result (Option V) E) (items : V → List ℕ) (P Q : List ℕ → Type 0)
    → ((bytes : List ℕ) → AreBytes bytes → P bytes → IfOk r (λ found. IsSomeAnd found (λ v. items v ≡ bytes)))
    → ((bytes : List ℕ) → AreBytes bytes → Q bytes → IfOk r (λ found. IsSomeAnd found (λ v. items v ≡ bytes)))
    → IfOk r (λ found. IfNone found ((bytes : List ℕ) → AreBytes bytes → (¬ (P bytes)) × (¬ (Q bytes))))
none_from (Ok (Some v)) items P Q p q = tt
none_from (Ok None) items P Q p q = λ bytes all. (p bytes all, q bytes all)
none_from (Err e) items P Q p q = tt

some_ok : {V E : Type 0} (r : Result V E) (v : V) → result_ok r ≡ Some v → r ≡ Ok v
some_ok (Ok x) v is = cc
some_ok (Err e) v is = cc

-- digits that decode are the encoding of what they decode to
pub decoded_found : (url : Bool) (digits bytes : List ℕ) → AreBytes digits → decoded url digits ≡ Some bytes
    → digits ≡ encoding url bytes
unfolding decoded decoded_of
decoded_found true digits bytes all is =
    decode_of_strict engines.url_safe_no_pad digits bytes (refl, refl) (bytes_at digits all)
    (some_ok (decode_of engines.url_safe_no_pad digits) bytes is)
decoded_found false digits bytes all is =
    decode_of_strict engines.standard digits bytes (refl, refl) (bytes_at digits all)
    (some_ok (decode_of engines.standard digits) bytes is)

-- and the encoding of bytes decodes to them
pub decoded_every : (url : Bool) (bytes : List ℕ) → AreBytes bytes → decoded url (encoding url bytes) ≡ Some bytes
unfolding decoded decoded_of
decoded_every true bytes all = ap result_ok
    (decode_of-encode_of engines.url_safe_no_pad bytes refl (bytes_at bytes all))
decoded_every false bytes all = ap result_ok (decode_of-encode_of engines.standard bytes refl (bytes_at bytes all))
