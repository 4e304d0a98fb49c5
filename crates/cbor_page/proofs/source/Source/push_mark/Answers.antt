use Rattle.std.proofs.Common.{sym}
use Rattle.cbor_page.proofs.Pieces.{writes_fixed}
use Rattle.cbor_page.proofs.source.Source.push_mark.Goals as goal

pub returns : goal.returns
returns c =
    writes_fixed c.args.self.now c.args.mark c.args.done _ _ c.requires
    (rw (sym c.text.ensures) c.in_ok-extend_from_slice.ensures.items)
