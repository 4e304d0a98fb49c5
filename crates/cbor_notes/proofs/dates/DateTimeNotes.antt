-- The definition `epoch_of_datetime`: it returns something for exactly the texts of moments (`IsDateTimeText`), and
-- what it returns is the number of seconds from 1970-01-01T00:00:00Z to the moment, with the fraction in the text.
use Rattle.std.proofs.Common.{◌≡◌, ◌⊎◌, inl, inr, ℕ, ◌+◌, ◌*◌, ◌<◌, ◌≤◌, ◌==◌, ◌||◌, ℤ, pos, neg_ℤ, ◌-ℤ◌, ◌≤ℤ◌, true}
use Rattle.std.proofs.Common.{cond, Option, Some, None, IfSome, IsSome, List, [], ◌∷◌, ◌++◌, length, take, drop, get_or}
use Rattle.std.proofs.Common.{codes, refl, subst, sym, ap, ◌∙◌, append_assoc, ne_eqb, arith}
use Rattle.std.specs.Option.{option_and_then}
use Rattle.std.specs.Bool.{Decides}
use Rattle.std.specs.Char.{is_ascii_digit}
use Rattle.std.specs.List.{list_all}
use Rattle.std.specs.Prelude.{take_while}
use Rattle.std.specs.Str.{bytes_eq}
use Rattle.std.proofs.Math.Seq.{drop-append_seam, take-append_seam}
use Rattle.std.proofs.lemmas.Bool.{cond_both, cond-false, eqb-true}
use Rattle.std.proofs.lemmas.Bool.Decides.{Decides-and, Decides-or}
use Rattle.std.proofs.lemmas.List.{take-append-drop}
use Rattle.std.proofs.lemmas.List.Folds.{length-prefix_len}
use Rattle.std.proofs.lemmas.Slice.Eq.{bytes_eq-Decides}
use Rattle.jiff.specs.Types.{Date}
use Rattle.jiff.specs.Words.{epoch_day}
use Rattle.cbor_notes.specs.Date.{civil_seconds, clock_text, date_text, day_seconds, day_text}
use Rattle.cbor_notes.specs.DateTime.{IsDateTimeText, IsFraction, no_fraction, some_digits, IsOffset, ahead, behind}
use Rattle.cbor_notes.specs.DateTime.{IsZone, dotted, epoch_of_datetime, epoch_text, is_civil_text, offset_text}
use Rattle.cbor_notes.specs.DateTime.{read_civil, read_digits, read_zone, signed_seconds}
use Rattle.cbor_notes.specs.Days.{CalendarDay, calendar_day, day_count, day_of}
use Rattle.cbor_notes.specs.Search.{first_minute}
use Rattle.cbor_notes.proofs.dates.CalendarDays.{date_on, place, place_of}
use Rattle.cbor_notes.proofs.dates.DateNotes.{Decides-int_le, IfSome-option_map, IsSome-option_map, text_of}
use Rattle.cbor_notes.proofs.dates.DateTexts.{clock_text-eight, date_text-ten}
use Rattle.cbor_notes.proofs.dates.DateTimeTexts.{all_digits, digits_then, zone_first}
use Rattle.cbor_notes.proofs.dates.Searches.{IfSome-first_found, IfSome-first_minute, IfSome-option_or, IfSome-tested}
use Rattle.cbor_notes.proofs.dates.Searches.{IsSome-first_found, IsSome-first_minute, IsSome-option_or, IsSome-tested}

-- zones
signed_seconds_is : (text : List ℕ) (hour minute : ℕ) → hour < 24 → minute < 60
    → IfSome (signed_seconds text hour minute) (IsZone text)
signed_seconds_is text hour minute hour_in minute_in =
    IfSome-option_or _ _ (IsZone text)
    (IfSome-tested _ _ (IsZone text) (λ is. inr
    (ahead hour minute (omega arith) (omega arith)
    ((bytes_eq-Decides text (offset_text (codes "+") hour minute)).0 is) refl)))
    (IfSome-tested _ _ (IsZone text) (λ is. inr
    (behind hour minute (omega arith) (omega arith)
    ((bytes_eq-Decides text (offset_text (codes "-") hour minute)).0 is) refl)))

Decides-utc : (text : List ℕ) → Decides (bytes_eq text (codes "Z") || bytes_eq text (codes "z"))
    ((text ≡ codes "Z") ⊎ (text ≡ codes "z"))
Decides-utc text =
    Decides-or (bytes_eq text (codes "Z")) (bytes_eq text (codes "z")) (bytes_eq-Decides text (codes "Z"))
    (bytes_eq-Decides text (codes "z"))

read_zone_is : (text : List ℕ) → IfSome (read_zone text) (IsZone text)
unfolding read_zone
read_zone_is text =
    IfSome-option_or _ (first_minute (signed_seconds text)) (IsZone text)
    (IfSome-tested _ _ (IsZone text) (λ utc. inl ((Decides-utc text).0 utc, refl)))
    (IfSome-first_minute (signed_seconds text) (IsZone text) (signed_seconds_is text))

-- what is found where the text is one of these
pub found_at : {X : Type 0} (text other : List ℕ) (x : X) → text ≡ other
    → IsSome (cond (bytes_eq text other) (Some x) None)
found_at text other x is = IsSome-tested _ _ ((bytes_eq-Decides text other).1 is)

offset_some : (text : List ℕ) (offset : ℤ) → IsOffset text offset → IsSome (first_minute (signed_seconds text))
offset_some text offset (ahead hour minute h m is o) =
    IsSome-first_minute (signed_seconds text) hour minute (omega arith) (omega arith)
    (IsSome-option_or _ _ (inl (found_at text (offset_text (codes "+") hour minute) (pos (3600 * hour + 60 * minute))
    is)))
offset_some text offset (behind hour minute h m is o) =
    IsSome-first_minute (signed_seconds text) hour minute (omega arith) (omega arith)
    (IsSome-option_or _ _ (inr (found_at text (offset_text (codes "-") hour minute)
    (neg_ℤ (pos (3600 * hour + 60 * minute))) is)))

read_zone_some : (text : List ℕ) (offset : ℤ) → IsZone text offset → IsSome (read_zone text)
unfolding read_zone
read_zone_some text offset (inl utc) =
    IsSome-option_or _ (first_minute (signed_seconds text)) (inl (IsSome-tested _ (pos 0) ((Decides-utc text).1 utc.0)))
read_zone_some text offset (inr is) =
    IsSome-option_or (cond (bytes_eq text (codes "Z") || bytes_eq text (codes "z")) (Some (pos 0)) None) _
    (inr (offset_some text offset is))

-- fractions
dotted_is : (digits : List ℕ) → list_all is_ascii_digit digits ≡ true → IsFraction (dotted digits) digits
dotted_is [] all = no_fraction refl refl
dotted_is (digit ∷ rest) all = some_digits refl (omega arith) all

pub read_digits-digits : (text : List ℕ) → list_all is_ascii_digit (read_digits text) ≡ true
read_digits-digits text =
    cond_both (get_or text 0 0 == 46) (take_while is_ascii_digit (drop 1 text)) []
    (λ digits. list_all is_ascii_digit digits ≡ true)
    (λ _. all_digits (drop 1 text)) (λ _. refl)

-- the digits that come first, after a dot, and the rest
after_dot : (text digits : List ℕ) → take (length digits) text ≡ digits
    → 46 ∷ text ≡ dotted digits ++ drop (length (dotted digits)) (46 ∷ text)
after_dot text [] first = refl
after_dot text (digit ∷ rest) first =
    ap (λ t. 46 ∷ t) (sym (take-append-drop (length (digit ∷ rest)) text)
    ∙ ap (λ t. t ++ drop (length (digit ∷ rest)) text) first)

fraction_split : (text : List ℕ) → text ≡ dotted (read_digits text) ++ drop (length (dotted (read_digits text))) text
fraction_split [] = refl
fraction_split (first ∷ text) =
    cond_both (first == 46) (take_while is_ascii_digit text) []
    (λ digits. first ∷ text ≡ dotted digits ++ drop (length (dotted digits)) (first ∷ text))
    (λ dot. rw (eqb-true first 46 dot) (after_dot text (take_while is_ascii_digit text)
    (ap (λ n. take n text) (length-prefix_len is_ascii_digit text))))
    (λ _. refl)

dotted_some : (digits : List ℕ) → 0 < length digits → dotted digits ≡ 46 ∷ digits
dotted_some [] some = absurd (omega arith)
dotted_some (digit ∷ rest) some = refl

-- a fraction and a zone are read as they are
fraction_read : (fraction digits zone : List ℕ) (offset : ℤ) → IsFraction fraction digits → IsZone zone offset
    → dotted (read_digits (fraction ++ zone)) ≡ fraction
fraction_read fraction digits zone offset (no_fraction empty none) zone_is =
    let no_dot : read_digits zone ≡ [] = cond-false _ _ []
    (ne_eqb (get_or zone 0 0) 46 (zone_first zone offset zone_is).1) in
    rw (empty, no_dot) refl
fraction_read fraction digits zone offset (some_digits dot some all) zone_is =
    let count = digits_then digits zone all (zone_first zone offset zone_is).0 in
    let read : take_while is_ascii_digit (digits ++ zone) ≡ digits = rw count (take-append_seam digits zone) in
    rw (dot, read) (dotted_some digits some)

-- the date and the time of day in front of them
pub record IsCivil (text : List ℕ) (seconds : ℤ) : Type 0 where
  pub date : Date
  pub hour : ℕ
  pub minute : ℕ
  pub second : ℕ
  pub separator : List ℕ
  pub year_in : pos 0 ≤ℤ date.year
  pub hour_in : hour ≤ 23
  pub minute_in : minute ≤ 59
  pub second_in : second ≤ 60
  pub separator_is : (separator ≡ codes "T") ⊎ (separator ≡ codes "t")
  pub seconds_are : seconds ≡ civil_seconds date hour minute second
  pub text_is : text ≡ date_text date ++ separator ++ clock_text hour minute second

-- either letter between a date and a time
either_letter : (text day time : List ℕ) → (text ≡ day ++ codes "T" ++ time) ⊎ (text ≡ day ++ codes "t" ++ time)
    → (letter : List ℕ) × ((letter ≡ codes "T") ⊎ (letter ≡ codes "t")) × (text ≡ day ++ letter ++ time)
either_letter text day time (inl upper) = (codes "T", inl refl, upper)
either_letter text day time (inr lower) = (codes "t", inr refl, lower)

from_letter : (text day time letter : List ℕ) → (letter ≡ codes "T") ⊎ (letter ≡ codes "t")
    → text ≡ day ++ letter ++ time → (text ≡ day ++ codes "T" ++ time) ⊎ (text ≡ day ++ codes "t" ++ time)
from_letter text day time letter (inl upper) is = inl (is ∙ ap (λ l. day ++ l ++ time) upper)
from_letter text day time letter (inr lower) is = inr (is ∙ ap (λ l. day ++ l ++ time) lower)

Decides-is_civil_text : (text : List ℕ) (day : CalendarDay) (time : List ℕ)
    → Decides (is_civil_text text day time) ((pos 0 ≤ℤ day.year)
    × ((text ≡ day_text day ++ codes "T" ++ time) ⊎ (text ≡ day_text day ++ codes "t" ++ time)))
Decides-is_civil_text text day time =
    Decides-and _ _ (Decides-int_le (pos 0) day.year)
    (Decides-or _ _ (bytes_eq-Decides text (day_text day ++ codes "T" ++ time))
    (bytes_eq-Decides text (day_text day ++ codes "t" ++ time)))

read_civil_is : (text : List ℕ) → IfSome (read_civil text) (IsCivil text)
unfolding read_civil
read_civil_is text =
    IfSome-first_found day_count _ (IsCivil text) (λ n within.
    IfSome-first_minute _ (IsCivil text) (λ hour minute hour_in minute_in.
    IfSome-first_found 61 _ (IsCivil text) (λ second second_in.
    IfSome-tested _ _ (IsCivil text) (λ h.
    let on = date_on n within in
    let is = (Decides-is_civil_text text (calendar_day n) (clock_text hour minute second)).0 h in
    let which = either_letter text (day_text (calendar_day n)) (clock_text hour minute second) is.1 in
    record {
      date = on.0;
      hour = hour;
      minute = minute;
      second = second;
      separator = which.0;
      year_in = rw (← on.1) at is.0;
      hour_in = omega arith;
      minute_in = omega arith;
      second_in = omega arith;
      separator_is = which.1;
      seconds_are = ap (λ z. day_seconds z hour minute second) (sym on.2);
      text_is = which.2 ∙ ap (λ t. t ++ which.0 ++ clock_text hour minute second)
          (ap day_text (sym on.1) ∙ text_of on.0);
    }))))

read_civil_some : (text : List ℕ) (seconds : ℤ) → IsCivil text seconds → IsSome (read_civil text)
unfolding read_civil
read_civil_some text seconds is =
    let here = place_of is.date in
    let hour_in = is.hour_in in
    let minute_in = is.minute_in in
    let second_in = is.second_in in
    let time = clock_text is.hour is.minute is.second in
    let letter = from_letter text (date_text is.date) time is.separator is.separator_is is.text_is in
    let fits : is_civil_text text (day_of is.date) time ≡ true =
    (Decides-is_civil_text text (day_of is.date) time).1 (is.year_in, rw (text_of is.date) letter) in
    IsSome-first_found day_count _ (place (epoch_day is.date)) here.0
    (IsSome-first_minute _ is.hour is.minute (omega arith) (omega arith)
    (IsSome-first_found 61 _ is.second (omega arith)
    (IsSome-tested _ _ (subst (λ day. is_civil_text text day time ≡ true) here.2 fits))))

-- a text of a date and a time, by its front and its rest
front_of : (text front rest : List ℕ) → text ≡ front ++ rest → length front ≡ 19
    → (take 19 text ≡ front) × (drop 19 text ≡ rest)
front_of text front rest is long = rw (is, ← long) (take-append_seam front rest, drop-append_seam front rest)

front_long : (date : Date) (hour minute second : ℕ) (separator : List ℕ) → pos 0 ≤ℤ date.year
    → (separator ≡ codes "T") ⊎ (separator ≡ codes "t")
    → length (date_text date ++ separator ++ clock_text hour minute second) ≡ 19
front_long date hour minute second separator here (inl upper) =
    rw (date_text-ten date here, clock_text-eight hour minute second, upper) refl
front_long date hour minute second separator here (inr lower) =
    rw (date_text-ten date here, clock_text-eight hour minute second, lower) refl

-- what holds of what is found by two steps
IfSome-option_and_then : {A B : Type 0} (f : A → Option B) (found : Option A) (P : A → Type 0) (Q : B → Type 0)
    → IfSome found P → ((x : A) → P x → IfSome (f x) Q) → IfSome (option_and_then f found) Q
IfSome-option_and_then f None P Q is then = tt
IfSome-option_and_then f (Some x) P Q is then = then x is

IsSome-option_and_then : {A B : Type 0} (f : A → Option B) (found : Option A) → IsSome found → ((x : A) → IsSome (f x))
    → IsSome (option_and_then f found)
IsSome-option_and_then f None some then = cc
IsSome-option_and_then f (Some x) some then = then x

-- a moment that the text is, and its seconds in decimal with the fraction
abbrev pub IsMomentNote : List ℕ → List ℕ → Type 0
IsMomentNote text answer =
    (seconds : ℤ) × (digits : List ℕ) × IsDateTimeText text seconds digits × (answer ≡ epoch_text seconds digits)

moment_of : (text : List ℕ) (seconds offset : ℤ) → IsCivil (take 19 text) seconds
    → IsZone (drop (length (dotted (read_digits (drop 19 text)))) (drop 19 text)) offset
    → IsDateTimeText text (seconds -ℤ offset) (read_digits (drop 19 text))
moment_of text seconds offset civil zone_is =
    let rest = drop 19 text in
    let digits = read_digits rest in
    let zone = drop (length (dotted digits)) rest in
    let time = clock_text civil.hour civil.minute civil.second in
    let whole : text ≡ (date_text civil.date ++ civil.separator ++ time) ++ (dotted digits ++ zone) =
    sym (take-append-drop 19 text) ∙ ap (λ t. t ++ rest) civil.text_is
    ∙ ap (λ t. (date_text civil.date ++ civil.separator ++ time) ++ t) (fraction_split rest) in
    record {
      date = civil.date;
      hour = civil.hour;
      minute = civil.minute;
      second = civil.second;
      offset = offset;
      separator = civil.separator;
      fraction = dotted digits;
      zone = zone;
      year_in = civil.year_in;
      hour_in = civil.hour_in;
      minute_in = civil.minute_in;
      second_in = civil.second_in;
      separator_is = civil.separator_is;
      fraction_is = dotted_is digits (read_digits-digits rest);
      zone_is = zone_is;
      seconds_are = ap (λ z. z -ℤ offset) civil.seconds_are;
      text_is = whole ∙ sym (append_assoc (date_text civil.date ++ civil.separator ++ time) (dotted digits) zone);
    }

pub epoch_of_datetime_is : (text : List ℕ) → IfSome (epoch_of_datetime text) (IsMomentNote text)
unfolding epoch_of_datetime
epoch_of_datetime_is text =
    let zone = drop (length (dotted (read_digits (drop 19 text)))) (drop 19 text) in
    IfSome-option_and_then _ (read_civil (take 19 text)) (IsCivil (take 19 text)) (IsMomentNote text)
    (read_civil_is (take 19 text)) (λ seconds civil.
    IfSome-option_map _ (read_zone zone) (IsZone zone) (IsMomentNote text) (read_zone_is zone) (λ offset zone_is.
    (seconds -ℤ offset, read_digits (drop 19 text), moment_of text seconds offset civil zone_is, refl)))

-- the date and the time of day of a moment, and its zone
civil_of : (text : List ℕ) (seconds : ℤ) (digits : List ℕ) (moment : IsDateTimeText text seconds digits)
    → IsCivil (take 19 text) (civil_seconds moment.date moment.hour moment.minute moment.second)
    × (drop 19 text ≡ moment.fraction ++ moment.zone)
civil_of text seconds digits moment =
    let front = date_text moment.date ++ moment.separator ++ clock_text moment.hour moment.minute moment.second in
    let whole : text ≡ front ++ (moment.fraction ++ moment.zone) = moment.text_is
    ∙ append_assoc front moment.fraction moment.zone in
    let split = front_of text front (moment.fraction ++ moment.zone) whole
    (front_long moment.date moment.hour moment.minute moment.second moment.separator moment.year_in
    moment.separator_is) in (
      record {
        date = moment.date;
        hour = moment.hour;
        minute = moment.minute;
        second = moment.second;
        separator = moment.separator;
        year_in = moment.year_in;
        hour_in = moment.hour_in;
        minute_in = moment.minute_in;
        second_in = moment.second_in;
        separator_is = moment.separator_is;
        seconds_are = refl;
        text_is = split.0;
      },
      split.1,
    )

pub epoch_of_datetime_some : (text : List ℕ) (seconds : ℤ) (digits : List ℕ) → IsDateTimeText text seconds digits
    → IsSome (epoch_of_datetime text)
unfolding epoch_of_datetime
epoch_of_datetime_some text seconds digits moment =
    let civil = civil_of text seconds digits moment in
    let read = fraction_read moment.fraction digits moment.zone moment.offset moment.fraction_is moment.zone_is in
    let zone : drop (length (dotted (read_digits (drop 19 text)))) (drop 19 text) ≡ moment.zone =
    rw (civil.1, read) (drop-append_seam moment.fraction moment.zone) in
    let zone_some : IsSome (read_zone (drop (length (dotted (read_digits (drop 19 text)))) (drop 19 text))) =
    rw zone (read_zone_some moment.zone moment.offset moment.zone_is) in
    IsSome-option_and_then _ (read_civil (take 19 text)) (read_civil_some (take 19 text) _ civil.0)
    (λ z. IsSome-option_map _ _ zone_some)
