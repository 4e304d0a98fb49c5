-- What is written before the first chunk is the opening of the string.
use Rattle.std.specs.String.{string_bytes}
use Rattle.cbor_notation_writer.proofs.straight.Wrote.{chunk_started}
use Rattle.cbor_notation_writer.proofs.chunks.push_chunk_start.Goals as goal

pub returns-in_ok-opening : goal.returns-in_ok-opening
returns-in_ok-opening g c =
    chunk_started c.start.result g.D.Dialect.leaves c.args.place.now c.args.kind c.args.style c.args.held
    (string_bytes c.args.out.now) (string_bytes c.opening.new.out) (string_bytes c.start.new.out) c.if-held-eq0.true
    c.in_ok-opening.ensures c.start.ensures
