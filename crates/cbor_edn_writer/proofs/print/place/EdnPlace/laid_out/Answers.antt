-- Only what is known of the line changes.
use Rattle.std.proofs.Common.{refl, inl}
use Rattle.cbor_edn_writer.proofs.print.place.EdnPlace.laid_out.Goals as goal

pub returns : goal.returns
returns c = (c.in_ok-line.line, inl refl)
