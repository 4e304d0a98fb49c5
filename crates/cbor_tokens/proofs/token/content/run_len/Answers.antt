-- The first place that passes, or the length.
use Rattle.std.proofs.Common.{ℕ, Bool, not, rules, tests}
use Rattle.std.proofs.lemmas.Iterator.{YieldsList-from_slice}
use Rattle.std.proofs.lemmas.Iterator.Search.{position_from_yields_List}
use Rattle.cbor_tokens.specs.Token.{is_digit}
use Rattle.cbor_tokens.proofs.tokens.TextPlaces.{first_or_length}
use Rattle.cbor_tokens.proofs.token.content.run_len.Goals as goal

pub returns-clause-first : goal.returns-clause-first
returns-clause-first c =
    let test : ℕ → Bool = λ b. not (is_digit c.args.comments b) in
    let found = position_from_yields_List test _ _ c.position.result c.position.ensures.ran
    (YieldsList-from_slice c.args.text.now c.iter.ensures.rest) (λ x b q k. search (rules, tests)) in
    rw (c.unwrap_or.ensures, found) (first_or_length test c.args.text.now)
