-- The content from the place on, or none.
use Rattle.std.proofs.Common.{◌∙◌, ap, sym, false, arith}
use Rattle.cbor_tokens.specs.TokenReading.{unquoted}
use Rattle.cbor_tokens.proofs.tokens.TextPlaces.{from_place}
use Rattle.cbor_tokens.proofs.tokens.Quoted.{in_quotes-unquoted, only_quoted, none_quoted, no_backslash}
use Rattle.cbor_tokens.proofs.token.content.quoted_at.Goals as goal
use Rattle.cbor_tokens.proofs.token.content.quoted_at.Goals.{In-Some, In-None}

pub returns-in-Some-clause-found : goal.returns-in-Some-clause-found
returns-in-Some-clause-found c =
    let found = rw c.in-Some.is at c.in_ok-content.ensures.found in
    let within = rw c.in-Some.is at c.in_ok-content.ensures.within in (
      omega (arith, within.1, c.split_at.ensures.back_len),
      in_quotes-unquoted c.args.quote _ _ (from_place (unquoted c.args.quote false) c.args.text.now
          c.split_at.result.1.now c.args.at c.in-Some.len c.in-Some.content.items c.split_at.ensures.back found),
    )

pub returns-in-Some-clause-only : goal.returns-in-Some-clause-only
returns-in-Some-clause-only c =
    let found = rw c.in-Some.is at c.in_ok-content.ensures.found in
    only_quoted c.args.quote _ _ _ (no_backslash c.args.quote c.requires.quote)
    (from_place (unquoted c.args.quote false) c.args.text.now c.split_at.result.1.now c.args.at c.in-Some.len
    c.in-Some.content.items c.split_at.ensures.back found)

pub returns-in-None-clause-none : goal.returns-in-None-clause-none
returns-in-None-clause-none c =
    let none = rw c.in-None.is at c.in_ok-content.ensures.none in
    none_quoted c.args.quote _ (no_backslash c.args.quote c.requires.quote)
    (sym (ap (unquoted c.args.quote false) c.split_at.ensures.back) ∙ none)

pub returns-in-None-clause-only : goal.returns-in-None-clause-only
returns-in-None-clause-only c = λ content rest is. absurd (returns-in-None-clause-none c content rest is)
