use Rattle.std.proofs.Common.{T, Some, None, sym, subst}
use Rattle.cbor_edn_grammar.proofs.Floats.{half_gives}
use Rattle.cbor_edn_tokens.proofs.float.half_of.Goals as goal

pub returns-in-Some : goal.returns-in-Some
returns-in-Some c = half_gives c.args.x (Some _) (subst T (sym c.well_formed.0.1) tt) c.in-Some.ensures

pub returns-in-None : goal.returns-in-None
returns-in-None c = half_gives c.args.x None (subst T (sym c.well_formed.0.1) tt) c.in-None.ensures
