use Rattle.std.proofs.Common.{T, sym, subst}
use Rattle.cbor_edn_grammar.proofs.Floats.{shortest_gives}
use Rattle.cbor_edn_tokens.proofs.float.shortest_of.Goals as goal

pub returns : goal.returns
returns c = shortest_gives c.args.x c.shortest.result (subst T (sym c.well_formed.0.1) tt) c.shortest.ensures
