-- A number of seconds is a number of days of 86,400 seconds and a time below 86,400 seconds, in only one way. So the
-- text of a moment (`IsMomentText`) is `moment_text` of its date and the seconds since midnight, and no other.
use Rattle.std.proofs.Common.{append_assoc, ◌≡◌, ℕ, ◌+◌, ◌*◌, ◌/◌, ◌%◌, ◌<◌, ℤ, pos, negsuc, ◌+ℤ◌, ◌*ℤ◌, nat_abs, List}
use Rattle.std.proofs.Common.{◌++◌, codes, FitsSigned, w64, refl, sym, ap, ◌∙◌, arith}
use Rattle.std.specs.Int.{int_div_euclid, int_rem_euclid}
use Rattle.jiff.proofs.SpanFacts.{signed_arith}
use Rattle.jiff.specs.Types.{Date}
use Rattle.jiff.specs.Words.{epoch_day}
use Rattle.cbor_notes.specs.Date.{IsMomentText, clock_text, date_text}
use Rattle.cbor_notes.proofs.dates.DateTexts.{date_text_same}

-- the day and the seconds from midnight
pub day_and_clock : (s q r : ℤ) → q ≡ int_div_euclid s (pos 86400) → r ≡ int_rem_euclid s (pos 86400)
    → (s ≡ q *ℤ pos 86400 +ℤ pos (nat_abs r)) × (nat_abs r < 86400)
day_and_clock (pos a) q r q_is r_is = rw (q_is, r_is) (omega (arith, signed_arith), omega (arith, signed_arith))
day_and_clock (negsuc a) q r q_is r_is = rw (q_is, r_is) (omega (arith, signed_arith), omega (arith, signed_arith))

-- the day is small
pub day_fits : (s q : ℤ) → FitsSigned w64 s → q ≡ int_div_euclid s (pos 86400) → FitsSigned w64 q
day_fits s q fits is =
    let parts = day_and_clock s q (int_rem_euclid s (pos 86400)) is refl in
    omega (arith, signed_arith)

-- they are the only ones
pub one_day : (s q d : ℤ) (n k : ℕ) → s ≡ q *ℤ pos 86400 +ℤ pos n → s ≡ d *ℤ pos 86400 +ℤ pos k → n < 86400 → k < 86400
    → (d ≡ q) × (k ≡ n)
one_day s q d n k a b n_in k_in = (omega (arith, signed_arith), omega (arith, signed_arith))

-- the text of a date and a number of seconds from midnight
unfoldable pub moment_text : Date → ℕ → List ℕ
moment_text date n = date_text date ++ codes "T" ++ clock_text (n / 3600) (n / 60 % 60) (n % 60) ++ codes "Z"

-- is that of the moment
pub moment_found : (s : ℤ) (date : Date) (n : ℕ) → s ≡ epoch_day date *ℤ pos 86400 +ℤ pos n → n < 86400
    → IsMomentText s (moment_text date n)
unfolding moment_text
moment_found s date n is n_in = record {
  date = date;
  hour = n / 3600;
  minute = n / 60 % 60;
  second = n % 60;
  hour_in = omega arith;
  minute_in = omega arith;
  second_in = omega arith;
  seconds_are = let same : n ≡ 3600 * (n / 3600) + 60 * (n / 60 % 60) + n % 60 = omega arith in is
      ∙ ap (λ k. epoch_day date *ℤ pos 86400 +ℤ pos k) same;
  text_is = refl;
}

-- and only that
pub moment_only : (s : ℤ) (date : Date) (n : ℕ) (text : List ℕ) → s ≡ epoch_day date *ℤ pos 86400 +ℤ pos n → n < 86400
    → IsMomentText s text → moment_text date n ≡ text
unfolding moment_text
moment_only s date n text is n_in moment =
    let h = moment.hour_in in
    let m = moment.minute_in in
    let e = moment.second_in in
    let same = one_day s (epoch_day date) (epoch_day moment.date) n
    (3600 * moment.hour + 60 * moment.minute + moment.second) is moment.seconds_are n_in (omega arith) in
    let k : 3600 * moment.hour + 60 * moment.minute + moment.second ≡ n = same.1 in
    let hour : n / 3600 ≡ moment.hour = omega arith in
    let minute : n / 60 % 60 ≡ moment.minute = omega arith in
    let second : n % 60 ≡ moment.second = omega arith in
    rw (hour, minute, second, date_text_same date moment.date (sym same.0)) (sym moment.text_is)

-- four pieces, appended one after the other
pub four_pieces : (t₀ t₁ t₂ t₃ t₄ a b c d : List ℕ) → t₁ ≡ t₀ ++ a → t₂ ≡ t₁ ++ b → t₃ ≡ t₂ ++ c → t₄ ≡ t₃ ++ d
    → t₄ ≡ t₀ ++ (a ++ b ++ c ++ d)
four_pieces t₀ t₁ t₂ t₃ t₄ a b c d p q r s = rw (s, r, q, p) (simp append_assoc)
