use Rattle.std.proofs.Common.{T, sym, subst}
use Rattle.cbor_edn_grammar.proofs.Floats.{double_gives}
use Rattle.cbor_edn_tokens.proofs.float.double_of.Goals as goal

pub returns : goal.returns
returns c = double_gives c.args.x c.double.result (subst T (sym c.well_formed.0.1) tt) c.double.ensures.encodes
    c.double.ensures.width
