-- The value and the indicator are those of the definition, or there is no number.
use Rattle.std.proofs.Common.{Ok, refl, sym, ap, ◌∙◌}
use Rattle.cbor_notation.specs.mirror.NotationReading.{read_number}
use Rattle.cbor_notation.proofs.notation.Tokens.{number_found, number_missing}
use Rattle.cbor_notation.proofs.number.read_number.Goals as goal

pub returns-in-Some-clause-gives : goal.returns-in-Some-clause-gives
returns-in-Some-clause-gives c =
    let found = c.in-Some.ensures.found in (
      found.0,
      ap read_number (sym c.rest-rest.ensures)
          ∙ number_found c.rest-rest.result.now c.in-Some.end found.0 c.in-Some.indicator found.2
          ∙ ap (λ rest. Ok ((found.0, c.in-Some.indicator), rest)) (sym c.new.ensures),
      found.1,
    )

pub returns-in-None-clause-gives : goal.returns-in-None-clause-gives
returns-in-None-clause-gives c = (
  refl,
  ap read_number (sym c.rest-rest.ensures) ∙ number_missing c.rest-rest.result.now c.in-None.ensures.none,
)
