-- Strings in chunks are equal if and only if their lists of chunks are.
use Rattle.cbor_grammar.proofs.shared.Compared.{lists_compared}
use Rattle.cbor_diag.proofs.syntax.equal.chunks_equal.Goals as goal

pub returns : goal.returns
returns g c =
    let compared = g.met.S.DefiniteString.compared in
    rw c.eq.ensures (lists_compared _ g.S.DefiniteString.chunk compared c.args.a.now c.args.b.now)
