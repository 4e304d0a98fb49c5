use Rattle.std.proofs.Common.{◌≡◌, [], ◌∷◌, ◌++◌, take, ◌∙◌, sym, ap, append-nil, append_assoc, arith}
use Rattle.std.proofs.lemmas.Result.{on_ok_weaker}
use Rattle.std.proofs.lemmas.Str.{IsAscii-take}
use Rattle.std.specs.Str.{IsAscii}
use Rattle.std.specs.String.{string_bytes}
use Rattle.cbor_notes.specs.DateTime.{fraction_text, nine_digits, shown}
use Rattle.cbor_notes.proofs.dates.DateTimeTexts.{fraction_none, fraction_shown, nine_ascii}
use Rattle.cbor_notes.proofs.datetime.push_fraction.Goals as goal

pub returns-then-shown-eq0 : goal.returns-then-shown-eq0
returns-then-shown-eq0 c =
    let none : shown (nine_digits c.args.digits.now) ≡ 0 = ap shown (sym c.nine_digits-nine.ensures)
    ∙ sym c.shown_digits-shown.ensures.count ∙ c.if-shown-eq0.true in
    record { text = rw (fraction_none c.args.digits.now none) (sym (append-nil (string_bytes c.args.text.now))) }

pub push_digits-requires : goal.push_digits-requires
push_digits-requires c =
    let ascii : IsAscii c.nine_digits-nine.result =
    rw c.nine_digits-nine.ensures (nine_ascii c.args.digits.now c.requires) in
    IsAscii-take c.nine_digits-nine.result c.shown_digits-shown.result ascii

pub returns : goal.returns
returns c =
    let digits = c.args.digits.now in
    let count : c.shown_digits-shown.result ≡ shown (nine_digits digits) = c.shown_digits-shown.ensures.count
    ∙ ap shown c.nine_digits-nine.ensures in
    let some : shown (nine_digits digits) ≡ 0 → ⊥ = λ none. c.if-shown-eq0.false (count ∙ none) in
    let dot = rw (c.in_ok-push.ensures.ascii (omega arith)) at c.in_ok-push.ensures.bytes in
    let end : (46 ∷ []) ++ take c.shown_digits-shown.result c.nine_digits-nine.result ≡ fraction_text digits =
    rw (count, c.nine_digits-nine.ensures) (sym (fraction_shown digits some)) in
    record {
      text = on_ok_weaker c.push_digits.result
          (λ q. q ∙ ap (λ t. t ++ take c.shown_digits-shown.result c.nine_digits-nine.result) dot
          ∙ append_assoc (string_bytes c.args.text.now) (46 ∷ [])
          (take c.shown_digits-shown.result c.nine_digits-nine.result)
          ∙ ap (λ t. string_bytes c.args.text.now ++ t) end)
          c.push_digits.ensures.text;
    }
