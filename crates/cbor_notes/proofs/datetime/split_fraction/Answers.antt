use Rattle.std.proofs.Common.{◌<◌, ℕ, List, ◌-◌, ◌∷◌, length, take, drop, ◌∙◌, arith}
use Rattle.std.proofs.lemmas.Bool.Decides.{nat_tests}
use Rattle.cbor_notes.proofs.dates.DateTimeTexts.{dot_first, fraction_only, fraction_read, fraction_some, rest_is}
use Rattle.cbor_notes.proofs.datetime.split_fraction.Goals as goal

abbrev rest : List ℕ → List ℕ
rest text = take (length text - 1) (drop 1 text)

pub returns-then-count-eq0-clause-only : goal.returns-then-count-eq0-clause-only
returns-then-count-eq0-clause-only c = λ fraction digits zone offset fraction_is zone_is whole.
    let text = c.args.text.now in
    let some : 0 < length text = grind (arith, nat_tests) in
    let first = dot_first text some c.if-text-ne46.false in
    let more = fraction_some text (rest text) fraction digits zone offset c.leading_digits-count.result first
    c.leading_digits-count.ensures.count fraction_is zone_is whole in
    absurd (omega (arith, more))

pub returns-clause-found : goal.returns-clause-found
returns-clause-found c =
    let text = c.args.text.now in
    let n = c.leading_digits-count.result in
    let some : 0 < length text = grind (arith, nat_tests) in
    let first = dot_first text some c.if-text-ne46.false in
    let read = fraction_read text (rest text) n first c.leading_digits-count.ensures.count (omega arith) in
    (46 ∷ take n (rest text), read.0, rw (rest_is (rest text) n) read.1)

pub returns-clause-only : goal.returns-clause-only
returns-clause-only c = λ fraction digits zone offset fraction_is zone_is whole.
    let text = c.args.text.now in
    let n = c.leading_digits-count.result in
    let some : 0 < length text = grind (arith, nat_tests) in
    let first = dot_first text some c.if-text-ne46.false in
    let only = fraction_only text (rest text) fraction digits zone offset n first c.leading_digits-count.ensures.count
    fraction_is zone_is whole in
    (only.0, rest_is (rest text) n ∙ only.1)
