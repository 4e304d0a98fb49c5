-- The test of all chunks holds if and only if each length fits its width.
use Rattle.std.proofs.Common.{rules}
use Rattle.std.proofs.lemmas.Iterator.{cases_from_all, YieldsList-from_slice}
use Rattle.cbor_grammar.specs.WellFormed.{IsChunk}
use Rattle.cbor_grammar.proofs.shared.Fitting.{all_tested}
use Rattle.cbor_diag.proofs.syntax.well_formed.chunks_fit.Goals as goal

pub returns : goal.returns
returns g c =
    let chunks = c.args.chunks.now in
    let Fits = IsChunk g.S.DefiniteString.kind in
    let chunk = g.S.DefiniteString.chunk in
    let cases = cases_from_all _ _ _ (λ s. Fits (chunk s)) (λ s. ¬ Fits (chunk s))
    c.all.ensures.ran (YieldsList-from_slice chunks cc) (λ x q k. search rules) (λ x q k. search rules) in
    all_tested Fits chunk chunks _ cases
