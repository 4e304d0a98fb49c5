-- An item that is well formed at its level is so at the outermost one.
use Rattle.std.proofs.Common.{subst}
use Rattle.cbor_diag.specs.View.{items_view}
use Rattle.cbor_grammar.specs.WellFormed.{WellFormedItems}
use Rattle.cbor_notation_writer.proofs.text.Scalars.{drop_here}
use Rattle.cbor_edn_grammar.proofs.Levels.{well_above}
use Rattle.cbor_edn.proofs.read.pieces.encoded.Goals as goal

pub push_bytes-requires : goal.push_bytes-requires
push_bytes-requires c =
    let i = c.items.invariant in
    let here = drop_here c.deref-item-items.result.now _ _ c.items-test.true c.item-item.is in
    let well = subst (λ vs. WellFormedItems i.level (items_view vs)) here i.well in
    well_above 1 i.level _ i.low well.0
