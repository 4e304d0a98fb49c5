-- For `datetime.rt`: the date, the time of day, the fraction and the zone are each at one place in the text of a moment
-- (`Pieces`), and the fraction ends with its last digit, as no zone begins with a digit or a dot. `fraction_text` has
-- those of the `nine_digits` that are `shown`, or nothing if none are.
use Rattle.std.proofs.Common.{FitsSigned, append_assoc, ◌≤ℤ◌, ne_eqb, ◌==◌, Bool, false, cond, append-nil, ◌-◌, min}
use Rattle.std.proofs.Common.{replicate, ◌⊎◌, inl, inr, neg_ℤ, ap, sym, ◌∙◌, to_z, of_z, w32, ◌-ℤ◌, ◌≡◌, ◌≢◌, ℕ, ◌+◌}
use Rattle.std.proofs.Common.{◌^◌, ◌<◌, ◌≤◌, ℤ, pos, List, [], ◌∷◌, ◌++◌, length, take, drop, get_or, true, refl, arith}
use Rattle.std.proofs.lemmas.Bool.Decides.{nat_tests}
use Rattle.std.proofs.lemmas.Int.{to_z-of_z, to_z_pos}
use Rattle.std.proofs.Math.Seq.{drop-cons, drop-append_seam, take-append-add, take-append_seam}
use Rattle.std.proofs.lemmas.Bool.{cases_lt}
use Rattle.std.proofs.lemmas.List.{length-drop, drop-replicate, take-append-drop, take-append-le, take-replicate}
use Rattle.std.proofs.lemmas.List.{take_all}
use Rattle.std.proofs.lemmas.List.Folds.{length-prefix_len}
use Rattle.std.proofs.lemmas.List.Sums.{take_while-cons}
use Rattle.std.proofs.lemmas.Str.{IsAscii-append, IsAscii-take}
use Rattle.std.proofs.lemmas.Str.Ascii.{IsAscii-cons, IsAscii-nil}
use Rattle.std.specs.Char.{is_ascii_digit}
use Rattle.std.specs.List.{list_all, prefix_len}
use Rattle.std.specs.Str.{IsAscii}
use Rattle.std.specs.Prelude.{IsTrue, take_while}
use Rattle.jiff.proofs.SpanFacts.{signed_arith}
use Rattle.cbor_notes.specs.DateTime.{IsFraction, no_fraction, some_digits, IsZone, ahead, behind, IsDateTimeText}
use Rattle.cbor_notes.specs.DateTime.{fraction_text, nine_digits, shown}
use Rattle.cbor_notes.specs.Date.{clock_text, date_text}
use Rattle.cbor_notes.proofs.dates.DateTexts.{clock_text-eight, date_text-ten}
use Rattle.jiff.specs.Types.{Date}

-- seconds of a zone behind UTC
pub negated : (n m : ℕ) → n ≡ m → n < 2 ^ 31 → to_z w32 (of_z w32 (pos 0 -ℤ to_z w32 n)) ≡ neg_ℤ (pos m)
negated n m e h =
    let back : pos 0 -ℤ pos n ≡ neg_ℤ (pos n) = omega (arith, signed_arith) in
    rw (to_z_pos w32 n (omega arith), back, ← e) (to_z-of_z w32 (neg_ℤ (pos n)) (omega (arith, signed_arith)))

-- a zone begins with no digit and no dot
pub zone_first : (zone : List ℕ) (offset : ℤ) → IsZone zone offset
    → (prefix_len is_ascii_digit zone ≡ 0) × (get_or zone 0 0 ≢ 46)
zone_first zone offset (inl (inl upper, o)) = rw upper (refl, λ e. absurd (omega (arith, e)))
zone_first zone offset (inl (inr lower, o)) = rw lower (refl, λ e. absurd (omega (arith, e)))
zone_first zone offset (inr (ahead hour minute h m is o)) = rw is (refl, λ e. absurd (omega (arith, e)))
zone_first zone offset (inr (behind hour minute h m is o)) = rw is (refl, λ e. absurd (omega (arith, e)))

-- digits, and then what begins with none
pub digits_then : (digits zone : List ℕ) → list_all is_ascii_digit digits ≡ true → prefix_len is_ascii_digit zone ≡ 0
    → prefix_len is_ascii_digit (digits ++ zone) ≡ length digits
digits_then [] zone all none = none
digits_then (d ∷ ds) zone all none =
    let first : is_ascii_digit d ≡ true = grind (arith, nat_tests) in
    let more : list_all is_ascii_digit ds ≡ true = grind (arith, nat_tests) in
    rw first (omega (arith, digits_then ds zone more none))

all_digits-step : (b : Bool) (x : ℕ) (xs : List ℕ) → is_ascii_digit x ≡ b → list_all is_ascii_digit xs ≡ true
    → list_all is_ascii_digit (cond b (x ∷ xs) []) ≡ true
all_digits-step true x xs first more = rw (first, more) refl
all_digits-step false x xs first more = refl

-- the first digits are digits
pub all_digits : (xs : List ℕ) → list_all is_ascii_digit (take_while is_ascii_digit xs) ≡ true
all_digits [] = refl
all_digits (x ∷ xs) = rw take_while-cons (all_digits-step (is_ascii_digit x) x (take_while is_ascii_digit xs) refl
    (all_digits xs))

-- a fraction with digits is read from its dot on
pub fraction_read : (text rest : List ℕ) (n : ℕ) → text ≡ 46 ∷ rest → n ≡ length (take_while is_ascii_digit rest)
    → 0 < n
    → IsFraction (46 ∷ take n rest) (take n rest) × (text ≡ (46 ∷ take n rest) ++ drop n rest)
fraction_read text rest n is count some =
    let len : n ≡ prefix_len is_ascii_digit rest = count ∙ length-prefix_len is_ascii_digit rest in
    let here : take n rest ≡ take_while is_ascii_digit rest = ap (λ k. take k rest) len in (
      some_digits refl (rw (here, ← count) some) (rw here (all_digits rest)),
      is
          ∙ ap (λ t. 46 ∷ t) (sym (take-append-drop n rest)),
    )

-- and only so
pub fraction_only : (text rest fraction digits zone : List ℕ) (offset : ℤ) (n : ℕ) → text ≡ 46 ∷ rest
    → n ≡ length (take_while is_ascii_digit rest)
    → IsFraction fraction digits → IsZone zone offset → text ≡ fraction ++ zone
    → (take n rest ≡ digits) × (drop n rest ≡ zone)
fraction_only text rest fraction digits zone offset n is count (no_fraction empty none) zone_is whole =
    let e : 46 ∷ rest ≡ zone = sym is ∙ whole ∙ ap (λ t. t ++ zone) empty in
    absurd ((zone_first zone offset zone_is).1 (ap (λ t. get_or t 0 0) (sym e)))
fraction_only text rest fraction digits zone offset n is count (some_digits dot some all) zone_is whole =
    let e : 46 ∷ rest ≡ 46 ∷ (digits ++ zone) = sym is ∙ whole ∙ ap (λ t. t ++ zone) dot in
    let same : rest ≡ digits ++ zone = cc in
    let len : n ≡ length digits = count ∙ length-prefix_len is_ascii_digit rest ∙ ap (prefix_len is_ascii_digit) same
    ∙ digits_then digits zone all (zone_first zone offset zone_is).0 in
    rw (len, same) (take-append_seam digits zone, drop-append_seam digits zone)

-- a number of places: digits, and zeros in the places of the others
fill_places : (k : ℕ) (digits : List ℕ) (n : ℕ) → n ≡ min (length digits) k
    → take n digits ++ drop n (replicate k 48) ≡ take k (digits ++ replicate k 48)
fill_places k digits n is = elim (cases_lt k (length digits)) [
  | inl more ↦
      let all : n ≡ k = omega arith in
      let none : k - k ≡ 0 = omega arith in
      rw (all, drop-replicate {X = ℕ} k k 48, none, take-append-le k digits (replicate k 48) (omega arith))
      (append-nil (take k digits))
  | inr few ↦
      let all : n ≡ length digits = omega arith in
      let split : k ≡ length digits + (k - length digits) = omega arith in
      let left : take n digits ++ drop n (replicate k 48) ≡ digits ++ replicate (k - length digits) 48 =
      rw (all, take_all (length digits) digits (omega arith), drop-replicate {X = ℕ} (length digits) k 48) refl in
      let right : take k (digits ++ replicate k 48) ≡ digits ++ replicate (k - length digits) 48 =
      ap (λ m. take m (digits ++ replicate k 48)) split ∙ take-append-add digits (replicate k 48) (k - length digits)
      ∙ ap (λ t. digits ++ t) (take-replicate {X = ℕ} (k - length digits) k 48 (omega arith)) in
      left ∙ sym right
]

pub nine_places : (digits : List ℕ) (n : ℕ) → n ≡ min (length digits) 9
    → take n digits ++ drop n (replicate 9 48) ≡ nine_digits digits
nine_places digits n is = fill_places 9 digits n is

-- nine digits are ASCII
pub digits_ascii : (xs : List ℕ) → list_all is_ascii_digit xs ≡ true → IsAscii xs
digits_ascii [] all = IsAscii-nil
digits_ascii (x ∷ xs) all =
    IsAscii-cons x xs (grind (arith, nat_tests)) (digits_ascii xs (grind (arith, nat_tests)))

pub nine_ascii : (digits : List ℕ) → list_all is_ascii_digit digits ≡ true → IsAscii (nine_digits digits)
nine_ascii digits all =
    IsAscii-take (digits ++ replicate 9 48) 9
    (IsAscii-append digits (replicate 9 48) (digits_ascii digits all) (digits_ascii (replicate 9 48) refl))

-- a text that begins with a dot is the dot and the rest
pub dot_first : (text : List ℕ) → 0 < length text → get_or text 0 0 ≡ 46
    → text ≡ 46 ∷ take (length text - 1) (drop 1 text)
dot_first text some dot =
    let all = take_all (length text - 1) (drop 1 text) (omega (arith, length-drop 1 text)) in
    drop-cons text 0 0 some ∙ rw (dot, all) refl

-- what is left of a list after a number of elements
pub rest_is : (xs : List ℕ) (n : ℕ) → take (length xs - n) (drop n xs) ≡ drop n xs
rest_is xs n = take_all (length xs - n) (drop n xs) (omega (arith, length-drop n xs))

-- where a dot comes first, so do digits
pub fraction_some : (text rest fraction digits zone : List ℕ) (offset : ℤ) (n : ℕ) → text ≡ 46 ∷ rest
    → n ≡ length (take_while is_ascii_digit rest)
    → IsFraction fraction digits → IsZone zone offset → text ≡ fraction ++ zone → 0 < n
fraction_some text rest fraction digits zone offset n is count (no_fraction empty none) zone_is whole =
    let e : 46 ∷ rest ≡ zone = sym is ∙ whole ∙ ap (λ t. t ++ zone) empty in
    absurd ((zone_first zone offset zone_is).1 (ap (λ t. get_or t 0 0) (sym e)))
fraction_some text rest fraction digits zone offset n is count (some_digits dot some all) zone_is whole =
    let e : 46 ∷ rest ≡ 46 ∷ (digits ++ zone) = sym is ∙ whole ∙ ap (λ t. t ++ zone) dot in
    let same : rest ≡ digits ++ zone = cc in
    let len : n ≡ length digits = count ∙ length-prefix_len is_ascii_digit rest ∙ ap (prefix_len is_ascii_digit) same
    ∙ digits_then digits zone all (zone_first zone offset zone_is).0 in
    rw len some

-- a fraction of zeros is nothing, and any other the digits that are shown
pub fraction_none : (digits : List ℕ) → shown (nine_digits digits) ≡ 0 → fraction_text digits ≡ []
unfolding fraction_text
fraction_none digits none = rw none refl

pub fraction_shown : (digits : List ℕ) → (shown (nine_digits digits) ≡ 0 → ⊥)
    → fraction_text digits ≡ 46 ∷ take (shown (nine_digits digits)) (nine_digits digits)
unfolding fraction_text
fraction_shown digits some =
    let test : (shown (nine_digits digits) == 0) ≡ false = ne_eqb (shown (nine_digits digits)) 0 some in
    rw test refl

-- the digits of a fraction are digits
pub fraction_digits : (fraction digits : List ℕ) → IsFraction fraction digits → IsTrue (list_all is_ascii_digit digits)
fraction_digits fraction digits (no_fraction empty none) = rw none refl
fraction_digits fraction digits (some_digits dot some all) = all

-- the pieces of a text of a date and a time, by their places
pub record Pieces (text : List ℕ) (date : Date) (hour minute second : ℕ) (fraction zone : List ℕ) : Type 0 where
  pub separator : ℕ
  pub after : List ℕ
  pub long : 10 ≤ length text
  pub date_is : take 10 text ≡ date_text date
  pub time_is : drop 10 text ≡ separator ∷ after
  pub separator_is : (separator ≡ 84) ⊎ (separator ≡ 116)
  pub clock_long : 8 ≤ length after
  pub clock_is : take 8 after ≡ clock_text hour minute second
  pub rest_is : drop 8 after ≡ fraction ++ zone

pieces_of : (text : List ℕ) (date : Date) (hour minute second sep : ℕ) (fraction zone : List ℕ) → pos 0 ≤ℤ date.year
    → (sep ≡ 84) ⊎ (sep ≡ 116)
    → text ≡ date_text date ++ (sep ∷ []) ++ clock_text hour minute second ++ fraction ++ zone
    → Pieces text date hour minute second fraction zone
pieces_of text date hour minute second sep fraction zone here which is =
    let ten = date_text-ten date here in
    let eight = clock_text-eight hour minute second in
    let e = rw (ten, eight) at is in
    record {
      separator = sep;
      after = drop 11 text;
      long = omega (arith, ap length e);
      date_is = ap (take 10) e ∙ sym ten;
      time_is = ap (drop 10) e ∙ ap (λ t. sep ∷ t) (sym (ap (drop 11) e));
      separator_is = which;
      clock_long = omega (arith, ap (λ t. length (drop 11 t)) e);
      clock_is = ap (λ t. take 8 (drop 11 t)) e ∙ sym eight;
      rest_is = ap (λ t. drop 8 (drop 11 t)) e;
    }

pub datetime_pieces : (text : List ℕ) (seconds : ℤ) (digits : List ℕ) → (d : IsDateTimeText text seconds digits)
    → Pieces text d.date d.hour d.minute d.second d.fraction d.zone
datetime_pieces text seconds digits d = elim d.separator_is [
  | inl upper ↦ pieces_of text d.date d.hour d.minute d.second 84 d.fraction d.zone d.year_in (inl refl)
      (rw upper at d.text_is)
  | inr lower ↦ pieces_of text d.date d.hour d.minute d.second 116 d.fraction d.zone d.year_in (inr refl)
      (rw lower at d.text_is)
]

-- the separator and what follows, of any that follow the date
pub time_parts : (rest after : List ℕ) (sep sep₂ : ℕ) (after₂ : List ℕ) → rest ≡ sep ∷ after → rest ≡ sep₂ ∷ after₂
    → (sep ≡ sep₂) × (after ≡ after₂)
time_parts rest after sep sep₂ after₂ p q = (cc, cc)

-- a list of five pieces, by what is left after each
pub five_parts : (text a b c d e r₁ r₂ r₃ : List ℕ) → text ≡ a ++ r₁ → r₁ ≡ b ++ r₂ → r₂ ≡ c ++ r₃ → r₃ ≡ d ++ e
    → text ≡ a ++ b ++ c ++ d ++ e
five_parts text a b c d e r₁ r₂ r₃ p q r s = p ∙ rw (q, r, s) (simp append_assoc)

-- an offset is small
pub zone_fits : (zone : List ℕ) (offset : ℤ) → IsZone zone offset → FitsSigned w32 offset
zone_fits zone offset (inl utc) = rw utc.1 (omega (arith, signed_arith))
zone_fits zone offset (inr (ahead hour minute h m is o)) = rw o (omega (arith, signed_arith))
zone_fits zone offset (inr (behind hour minute h m is o)) = rw o (omega (arith, signed_arith))
