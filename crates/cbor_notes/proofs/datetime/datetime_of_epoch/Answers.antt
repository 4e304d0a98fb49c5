use Rattle.std.proofs.Common.{[], refl, ◌≡◌, ◌<◌, ◌∙◌, sym, pos, nat_abs, ◌+ℤ◌, ◌*ℤ◌, FitsSigned, w64, arith}
use Rattle.std.proofs.lemmas.Int.{to_z-of_z}
use Rattle.std.proofs.lemmas.Option.{IfSome_then}
use Rattle.std.specs.Int.{int_div_euclid, int_rem_euclid}
use Rattle.std.specs.String.{string_bytes}
use Rattle.jiff.proofs.Family.{epoch_day_range}
use Rattle.jiff.proofs.SpanFacts.{signed_arith}
use Rattle.jiff.specs.Words.{IsEpochDay, epoch_day}
use Rattle.cbor_notes.proofs.dates.Moments.{day_and_clock, day_fits, four_pieces, moment_found, moment_only}
use Rattle.cbor_notes.proofs.dates.Moments.{moment_text, one_day}
use Rattle.cbor_notes.proofs.dates.DateNotes.{datetime_of_epoch-out, datetime_of_epoch_is, datetime_of_epoch_some}
use Rattle.cbor_notes.proofs.dates.DateNotes.{same_text}
use Rattle.cbor_notes.specs.Date.{datetime_of_epoch}
use Rattle.cbor_notes.proofs.datetime.datetime_of_epoch.Goals as goal

abbrev Parts : goal.In_ok-push-2 → Type 0
Parts c =
    (c.args.seconds ≡ epoch_day c.in-Some.date *ℤ pos 86400 +ℤ pos (nat_abs c.rem_euclid.result))
    × (nat_abs c.rem_euclid.result < 86400)
    × (string_bytes c.push-2.new.self ≡ moment_text c.in-Some.date (nat_abs c.rem_euclid.result))

parts : (c : goal.In_ok-push-2) → Parts c
unfolding moment_text
parts c =
    let fits : FitsSigned w64 c.args.seconds = c.ranges.seconds in
    let q = simp to_z-of_z at c.div_euclid.ensures in
    let r = simp to_z-of_z at c.rem_euclid.ensures.value in
    let clock = day_and_clock c.args.seconds c.div_euclid.result c.rem_euclid.result q r in
    let fits_q : FitsSigned w64 c.div_euclid.result = omega (arith, signed_arith) in
    let fits_r : FitsSigned w64 c.rem_euclid.result = omega (arith, signed_arith) in
    let day : epoch_day c.in-Some.date ≡ c.div_euclid.result = simp to_z-of_z at c.in-Some.ensures.found in
    let first = rw c.in_ok-text.ensures.bytes at c.in_ok-push_date.ensures.text in
    let second = rw (c.in_ok-push.ensures.ascii (omega arith)) at c.in_ok-push.ensures.bytes in
    let third = simp to_z-of_z at c.in_ok-push_clock.ensures.text in
    let fourth = rw (c.in_ok-push-2.ensures.ascii (omega arith)) at c.in_ok-push-2.ensures.bytes in
    (rw day clock.0, clock.1, four_pieces [] _ _ _ _ _ _ _ _ first second third fourth)

pub returns-in_default-clause-only : goal.returns-in_default-clause-only
returns-in_default-clause-only c = λ text is.
    let fits : FitsSigned w64 c.args.seconds = c.ranges.seconds in
    let q = simp to_z-of_z at c.div_euclid.ensures in
    let clock = day_and_clock c.args.seconds c.div_euclid.result (int_rem_euclid c.args.seconds (pos 86400)) q refl in
    let fits_q : FitsSigned w64 c.div_euclid.result = omega (arith, signed_arith) in
    let h = is.hour_in in
    let m = is.minute_in in
    let e = is.second_in in
    let same = one_day c.args.seconds c.div_euclid.result (epoch_day is.date) _ _ clock.0 is.seconds_are clock.1
    (omega arith) in
    let in_range : IsEpochDay c.div_euclid.result = rw (← same.0) (epoch_day_range is.date) in
    let range = simp to_z-of_z at c.in_default.ensures.range in
    let never = range.1 in_range in
    cc

pub returns-clause-found : goal.returns-clause-found
returns-clause-found c = let p = parts c in rw p.2
    (moment_found c.args.seconds c.in-Some.date (nat_abs c.rem_euclid.result) p.0 p.1)

pub returns-clause-only : goal.returns-clause-only
returns-clause-only c = λ text is. let p = parts c in p.2
    ∙ moment_only c.args.seconds c.in-Some.date (nat_abs c.rem_euclid.result) text p.0 p.1 is

pub returns-in_default-clause-value : goal.returns-in_default-clause-value
returns-in_default-clause-value c =
    let fits : FitsSigned w64 c.args.seconds = c.ranges.seconds in
    let q = simp to_z-of_z at c.div_euclid.ensures in
    let fits_q = day_fits c.args.seconds c.div_euclid.result fits q in
    let range = simp to_z-of_z at c.in_default.ensures.range in
    sym (datetime_of_epoch-out c.args.seconds (λ in_range. let never = range.1 (rw q in_range) in cc))

pub returns-clause-value : goal.returns-clause-value
returns-clause-value c =
    let fits : FitsSigned w64 c.args.seconds = c.ranges.seconds in
    let q = simp to_z-of_z at c.div_euclid.ensures in
    let fits_q = day_fits c.args.seconds c.div_euclid.result fits q in
    let day : epoch_day c.in-Some.date ≡ c.div_euclid.result = simp to_z-of_z at c.in-Some.ensures.found in
    let in_range : IsEpochDay (int_div_euclid c.args.seconds (pos 86400)) =
    rw (← q, ← day) (epoch_day_range c.in-Some.date) in
    same_text _ (datetime_of_epoch c.args.seconds)
    (IfSome_then (datetime_of_epoch c.args.seconds) (datetime_of_epoch_is c.args.seconds)
    (λ text is. returns-clause-only c text is))
    (datetime_of_epoch_some c.args.seconds in_range)
