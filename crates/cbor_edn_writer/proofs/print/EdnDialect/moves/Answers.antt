-- A place that does not move keeps its line.
use Rattle.std.proofs.Common.{refl, inl}
use Rattle.cbor_edn_writer.proofs.print.EdnDialect.moves.Goals as goal

pub returns : goal.returns
returns c = record { stays = λ _ left. (c.args.place.now.line, inl refl) }
