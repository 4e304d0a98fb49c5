use Rattle.std.proofs.Common.{◌+◌, ◌*◌, ◌^◌, ◌-◌, sym, ap, ◌∙◌, arith}
use Rattle.std.proofs.Common.{true≢false, lt-ltb}
use lib.Ieee.Nearest.{closest}
use Rattle.cbor_edn_tokens.proofs.Nearest.{front_below, front_above, front_more, front_tie, even_power}
use Rattle.cbor_edn_tokens.proofs.hex_float.nearest.rounded.Goals.{then-twice-unit-2, else-twice-unit-2}
use Rattle.cbor_edn_tokens.proofs.hex_float.nearest.rounded.Goals as goal

pub returns-then-twice-unit-clause-closest : goal.returns-then-twice-unit-clause-closest
returns-then-twice-unit-clause-closest c = λ tail b.
    let f = c.args.front.digits in
    let p = 2 ^ (4 * c.args.front.behind) in
    let unit = c.power_of_two-unit in
    front_below f unit.result (2 ^ (c.args.cut - 1)) p tail (unit.ensures.same ∙ even_power c.args.cut c.requires.1)
    unit.ensures.above b.less c.if-twice-unit.true
    ∙ ap (λ z. closest (f * p + tail) (z * p)) unit.ensures.same

pub returns-then-front-clause-closest : goal.returns-then-front-clause-closest
returns-then-front-clause-closest c = λ tail b.
    let f = c.args.front.digits in
    let p = 2 ^ (4 * c.args.front.behind) in
    let unit = c.power_of_two-unit in
    let even = unit.ensures.same ∙ even_power c.args.cut c.requires.1 in
    elim c.if-twice-unit-2.branch [
      | then-twice-unit-2 w ↦ front_above f unit.result (2 ^ (c.args.cut - 1)) p tail even unit.ensures.above b.less
          w.if-twice-unit-2.true
      | else-twice-unit-2 w ↦ front_more f unit.result (2 ^ (c.args.cut - 1)) p tail even unit.ensures.above b.less
          (omega (arith, w.if-twice-unit-2.false, c.if-twice-unit.false)) (b.some (sym w.value-is ∙ c.if-front.true))
    ] ∙ ap (λ z. closest (f * p + tail) (z * p)) unit.ensures.same

pub returns-else-front-clause-closest : goal.returns-else-front-clause-closest
returns-else-front-clause-closest c = λ tail b.
    let f = c.args.front.digits in
    let p = 2 ^ (4 * c.args.front.behind) in
    let unit = c.power_of_two-unit in
    let even = unit.ensures.same ∙ even_power c.args.cut c.requires.1 in
    elim c.if-twice-unit-2.branch [
      | then-twice-unit-2 w ↦ absurd (true≢false
          (sym (lt-ltb _ _ w.if-twice-unit-2.true) ∙ sym w.value-is ∙ c.if-front.false))
      | else-twice-unit-2 w ↦ front_tie f unit.result (2 ^ (c.args.cut - 1)) p tail even unit.ensures.above b.less
          (omega (arith, w.if-twice-unit-2.false, c.if-twice-unit.false)) (b.none (sym w.value-is ∙ c.if-front.false))
    ] ∙ ap (λ z. closest (f * p + tail) (z * p)) unit.ensures.same
