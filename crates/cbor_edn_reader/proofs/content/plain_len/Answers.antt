-- The first place that passes, or the length.
use Rattle.std.proofs.Common.{rules, tests}
use Rattle.std.proofs.lemmas.Iterator.{YieldsList-from_slice}
use Rattle.std.proofs.lemmas.Iterator.Search.{position_from_yields_List}
use Rattle.cbor_tokens.specs.Token.{is_special}
use Rattle.cbor_tokens.proofs.tokens.TextPlaces.{first_or_length}
use Rattle.cbor_edn_reader.proofs.content.plain_len.Goals as goal

pub returns-clause-same : goal.returns-clause-same
returns-clause-same c =
    let test = is_special c.args.quote in
    let found = position_from_yields_List test _ _ c.position.result c.position.ensures.ran
    (YieldsList-from_slice c.args.text.now c.iter.ensures.rest) (λ x b q k. search (rules, tests)) in
    rw (c.unwrap_or.ensures, found) (first_or_length test c.args.text.now)
