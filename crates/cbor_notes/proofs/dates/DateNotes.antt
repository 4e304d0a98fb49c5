-- The definitions `date_of_epoch`, `epoch_of_date` and `datetime_of_epoch`: what they return is right, and for which
-- days, texts and seconds they return something.
use Rattle.std.proofs.Common.{◌≡◌, ℕ, ℤ, pos, ◌<ℤ◌, ◌≤ℤ◌, int_le, int_lt, Option, Some, None, option_map, IfSome}
use Rattle.std.proofs.Common.{IsSome, ◌++◌, codes, unsigned_abs, List, refl, sym, ap, ◌∙◌, arith}
use Rattle.std.proofs.lemmas.Bool.{cond-false, false_from_ne_true, true_from_ne_false}
use Rattle.std.proofs.lemmas.Bool.Decides.{Decides-and, Decides-like}
use Rattle.std.specs.Bool.{Decides}
use Rattle.std.specs.Str.{bytes_eq}
use Rattle.std.proofs.lemmas.Slice.Eq.{bytes_eq-Decides}
use Rattle.std.specs.Int.{int_div_euclid, int_rem_euclid}
use Rattle.jiff.proofs.SpanFacts.{signed_arith}
use Rattle.jiff.specs.Types.{Date}
use Rattle.jiff.specs.Words.{IsEpochDay, epoch_day}
use Rattle.cbor_notes.specs.Date.{IsDateText, IsDayText, IsMomentText, date_of_epoch, datetime_of_epoch, date_text}
use Rattle.cbor_notes.specs.Date.{day_text, epoch_of_date, grouped_signed, is_day_text, time_text}
use Rattle.cbor_notes.specs.Days.{CalendarDay, calendar_day, day_count, day_number, day_of, is_day_number}
use Rattle.cbor_notes.proofs.dates.CalendarDays.{date_on, place, place_in, place_of}
use Rattle.cbor_notes.proofs.dates.Moments.{day_and_clock, moment_found, moment_text}
use Rattle.cbor_notes.proofs.dates.Searches.{IfSome-first_found, IfSome-tested, IsSome-first_found, IsSome-tested}

-- the result is the text if there is one, and None if there is none
pub same_text : {A : Type 0} (text : A) (answer : Option A) → IfSome answer (λ other. text ≡ other) → IsSome answer
    → Some text ≡ answer
same_text text None is some = cc
same_text text (Some other) is some = ap Some is

pub no_text : {A : Type 0} (answer : Option A) → IfSome answer (λ other. ⊥) → None ≡ answer
no_text None never = refl
no_text (Some other) never = absurd never

-- an order and its test
pub Decides-int_le : (a b : ℤ) → Decides (int_le a b) (a ≤ℤ b)
Decides-int_le a b = (
  (λ h. omega (arith, signed_arith)),
  λ h. true_from_ne_false (int_le a b) (λ e. omega (arith, signed_arith)),
)

Decides-int_lt : (a b : ℤ) → Decides (int_lt a b) (a <ℤ b)
Decides-int_lt a b = (
  (λ h. omega (arith, signed_arith)),
  λ h. true_from_ne_false (int_lt a b) (λ e. omega (arith, signed_arith)),
)

-- the days of the calendar have the numbers that the dates of `jiff` have
Decides-is_day_number : (number : ℤ) → Decides (is_day_number number) (IsEpochDay number)
Decides-is_day_number number =
    let low = Decides-int_le (day_number 0) number in
    let high = Decides-int_lt number (day_number day_count) in
    Decides-like (is_day_number number) (λ h. (omega (arith, signed_arith), omega (arith, signed_arith)))
    (λ h. (omega (arith, signed_arith), omega (arith, signed_arith)))
    (Decides-and (int_le (day_number 0) number) (int_lt number (day_number day_count)) low high)

-- the text of a date by its parts
pub text_of : (date : Date) → day_text (day_of date) ≡ date_text date
unfolding date_text
text_of date = refl

pub date_of_epoch_is : (number : ℤ) → IfSome (date_of_epoch number) (IsDayText number)
unfolding date_of_epoch
date_of_epoch_is number =
    IfSome-tested _ _ (IsDayText number) (λ h.
    let here = place_in number ((Decides-is_day_number number).0 h) in
    let on = date_on (place number) here.0 in
    (on.0, on.2 ∙ here.1, ap day_text (sym on.1) ∙ text_of on.0))

pub date_of_epoch_some : (number : ℤ) → IsEpochDay number → IsSome (date_of_epoch number)
unfolding date_of_epoch
date_of_epoch_some number range = IsSome-tested _ _ ((Decides-is_day_number number).1 range)

-- outside of the calendar there is no date
pub date_of_epoch-out : (day : ℤ) → (IsEpochDay day → ⊥) → date_of_epoch day ≡ None
unfolding date_of_epoch
date_of_epoch-out day out =
    cond-false _ _ None (false_from_ne_true (is_day_number day) (λ h. out ((Decides-is_day_number day).0 h)))

Decides-is_day_text : (text : List ℕ) (day : CalendarDay)
    → Decides (is_day_text text day) ((pos 0 ≤ℤ day.year) × (text ≡ day_text day))
Decides-is_day_text text day =
    Decides-and (int_le (pos 0) day.year) (bytes_eq text (day_text day)) (Decides-int_le (pos 0) day.year)
    (bytes_eq-Decides text (day_text day))

-- a date from the year 0 on, and its number in groups
abbrev pub IsDayNote : List ℕ → List ℕ → Type 0
IsDayNote text day = (date : Date) × IsDateText text date × (day ≡ grouped_signed (epoch_day date))

pub epoch_of_date_is : (text : List ℕ) → IfSome (epoch_of_date text) (IsDayNote text)
unfolding epoch_of_date
epoch_of_date_is text =
    IfSome-first_found day_count _ (IsDayNote text) (λ n within. IfSome-tested _ _ (IsDayNote text) (λ h.
    let on = date_on n within in
    let both = (Decides-is_day_text text (calendar_day n)).0 h in
    let year : pos 0 ≤ℤ on.0.year = rw (← on.1) at both.0 in
    (on.0, (year, both.1 ∙ ap day_text (sym on.1) ∙ text_of on.0), ap grouped_signed (sym on.2))))

pub epoch_of_date_some : (text : List ℕ) (date : Date) → IsDateText text date → IsSome (epoch_of_date text)
unfolding epoch_of_date
epoch_of_date_some text date is =
    let at = place_of date in
    IsSome-first_found day_count _ (place (epoch_day date)) at.0
    (IsSome-tested _ _ (rw (← at.2) ((Decides-is_day_text text (day_of date)).1 (is.0, is.1 ∙ sym (text_of date)))))

-- what holds of what is made of what is found
pub IfSome-option_map : {A B : Type 0} (f : A → B) (found : Option A) (P : A → Type 0) (Q : B → Type 0) → IfSome found P
    → ((x : A) → P x → Q (f x)) → IfSome (option_map f found) Q
IfSome-option_map f None P Q is then = tt
IfSome-option_map f (Some x) P Q is then = then x is

pub IsSome-option_map : {A B : Type 0} (f : A → B) (found : Option A) → IsSome found → IsSome (option_map f found)
IsSome-option_map f None some = cc
IsSome-option_map f (Some x) some = refl

pub datetime_of_epoch_is : (seconds : ℤ) → IfSome (datetime_of_epoch seconds) (IsMomentText seconds)
unfolding datetime_of_epoch moment_text
datetime_of_epoch_is seconds =
    let day = int_div_euclid seconds (pos 86400) in
    let clock = day_and_clock seconds day (int_rem_euclid seconds (pos 86400)) refl refl in
    IfSome-option_map _ (date_of_epoch day) (IsDayText day) (IsMomentText seconds) (date_of_epoch_is day) (λ text is.
    let time = unsigned_abs (int_rem_euclid seconds (pos 86400)) in
    let text_is : text ++ codes "T" ++ time_text time ++ codes "Z" ≡ moment_text is.0 time = rw is.2 refl in
    rw text_is (moment_found seconds is.0 time (rw is.1 clock.0) clock.1))

pub datetime_of_epoch_some : (seconds : ℤ) → IsEpochDay (int_div_euclid seconds (pos 86400))
    → IsSome (datetime_of_epoch seconds)
unfolding datetime_of_epoch
datetime_of_epoch_some seconds range =
    IsSome-option_map _ (date_of_epoch (int_div_euclid seconds (pos 86400))) (date_of_epoch_some _ range)

-- outside of the calendar there is no moment
pub datetime_of_epoch-out : (seconds : ℤ) → (IsEpochDay (int_div_euclid seconds (pos 86400)) → ⊥)
    → datetime_of_epoch seconds ≡ None
unfolding datetime_of_epoch
datetime_of_epoch-out seconds out = rw (date_of_epoch-out (int_div_euclid seconds (pos 86400)) out) refl
