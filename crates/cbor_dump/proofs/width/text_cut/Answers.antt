-- A text is cut at the last boundary between characters within the length of a line.
use Rattle.cbor_dump.proofs.dump.Pieces.{floor_is}
use Rattle.cbor_dump.proofs.width.text_cut.Goals as goal

pub returns-clause-cut : goal.returns-clause-cut
returns-clause-cut c =
    let floor = c.floor_char_boundary.ensures in
    floor_is c.args.rest.now c.floor_char_boundary.result c.utf8.rest c.requires floor.bound floor.boundary
    floor.nearest
