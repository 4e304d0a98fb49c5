-- The index is that of the first apostrophe, or there is none.
use Rattle.std.proofs.Common.{◌==◌, ap, sym, ◌∙◌, rules, tests}
use Rattle.std.proofs.lemmas.Iterator.{YieldsList-from_slice}
use Rattle.std.proofs.lemmas.Iterator.Search.{position_from_yields_List}
use Rattle.cbor_notation.specs.mirror.NotationReading.{or_refused}
use Rattle.cbor_diag.proofs.parse.notation.word.find_apostrophe.Goals as goal

pub returns-in-Some-clause-gives : goal.returns-in-Some-clause-gives
returns-in-Some-clause-gives c =
    let found = position_from_yields_List (λ b. b == 39) _ _ c.position.result c.position.ensures.ran
    (YieldsList-from_slice c.args.text.now c.iter.ensures.rest) (λ x b q k. search (rules, tests)) in
    ap or_refused (sym found ∙ c.in-Some.is)

pub returns-in-None-clause-gives : goal.returns-in-None-clause-gives
returns-in-None-clause-gives c =
    let found = position_from_yields_List (λ b. b == 39) _ _ c.position.result c.position.ensures.ran
    (YieldsList-from_slice c.args.text.now c.iter.ensures.rest) (λ x b q k. search (rules, tests)) in
    ap or_refused (sym found ∙ c.in-None.is)
