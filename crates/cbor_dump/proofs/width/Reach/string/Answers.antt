-- How far the digits of a string of definite length reach is found from its longest piece.
use Rattle.cbor_dump.proofs.dump.FrontWidths.{string_measured}
use Rattle.cbor_dump.proofs.width.Reach.string.Goals as goal

pub returns-in_ok-content-in-Number-clause-measured : goal.returns-in_ok-content-in-Number-clause-measured
returns-in_ok-content-in-Number-clause-measured c =
    let w = c.in-Number.field-1 in
    let content = c.in_ok-content-in-Number.content in
    rw c.in-Number.is (string_measured c.args.place c.args.head.0 c.in-Number.count w content
    c.args.bytes.now c.in_ok-content-in-Number.rest.now c.args.self.now.widest c.pieces.new.self.widest
    c.longest_piece.result c.in_ok-content-in-Number.ensures.kind (c.in_ok-content-in-Number.ensures.gives w)
    c.longest_piece.ensures.longest c.pieces.ensures)
