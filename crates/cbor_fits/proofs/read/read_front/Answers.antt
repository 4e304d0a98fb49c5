-- The item at the front, by the clauses of `parse_bytes_partial`.
use Rattle.std.proofs.Common.{Ok, Some, IfSome, subst, ap, ◌∙◌}
use Rattle.std.proofs.lemmas.List.{take_rest}
use Rattle.cbor_grammar.specs.Facts.{BeginsWithItem}
use Rattle.cbor_diag.specs.View.{view as item_view}
use Rattle.cbor_fits.proofs.Decodes.{front_found, front_cut, front_fault}
use Rattle.cbor_fits.proofs.read.read_front.Goals as goal

pub returns-in-Ok-Some : goal.returns-in-Ok-Some
returns-in-Ok-Some c =
    let b = c.args.bytes.now in
    let i = c.in-Ok-Some in
    ap (λ rest. Some (item_view i.item, rest)) (take_rest b i.used)
    ∙ front_found b (item_view i.item) i.used
    (subst (λ o. IfSome o (λ x. BeginsWithItem b (item_view x.0) x.1)) i.field-0-is i.ensures.found)

pub returns-in-Ok-None : goal.returns-in-Ok-None
returns-in-Ok-None c =
    front_cut c.args.bytes.now (c.parse_bytes_partial.ensures.cut (c.in-Ok-None.is ∙ ap Ok c.in-Ok-None.field-0-is))

pub returns-in_default : goal.returns-in_default
returns-in_default c =
    front_fault c.args.bytes.now _ (c.in-Err.ensures.fault c.in_default.not-Memory)
