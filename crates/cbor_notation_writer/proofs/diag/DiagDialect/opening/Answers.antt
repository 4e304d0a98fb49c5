-- An indefinite length is one without a width.
use Rattle.std.proofs.Common.{◌≡◌, codes, ap, sym, subst, ◌∙◌}
use Rattle.std.specs.String.{string_bytes}
use Rattle.cbor_grammar.specs.NotationText.{opened}
use Rattle.cbor_notation_writer.specs.declared.parts.Container.TheVariants.{Array, Map}
use Rattle.cbor_notation_writer.specs.Dialect.{Wrote}
use Rattle.cbor_notation_writer.specs.mirror.DiagLeaves.{opening}
use Rattle.cbor_notation_writer.proofs.straight.Texts.{width_left}
use Rattle.cbor_notation_writer.proofs.straight.Wrote.{appends_wrote}
use Rattle.cbor_notation_writer.proofs.diag.DiagDialect.opening.Goals as goal

pub returns-in-Array : goal.returns-in-Array
returns-in-Array c =
    let l = c.args.style in
    let old = string_bytes c.args.out.now in
    let new = string_bytes c.push_opening.new.out in
    let count = c.in-Array.count in
    let width = c.width.ensures 0 ∙ width_left count 0 in
    subst (λ k. Wrote c.push_opening.result old new (λ t. t ≡ opening k l)) (sym c.in-Array.is)
    (appends_wrote c.push_opening.result old new (opened l (codes "[") c.width.result)
    (λ t. t ≡ opening (Array count) l) (ap (opened l (codes "[")) width) c.push_opening.ensures)

pub returns-in-Map : goal.returns-in-Map
returns-in-Map c =
    let l = c.args.style in
    let old = string_bytes c.args.out.now in
    let new = string_bytes c.push_opening-in-Map.new.out in
    let count = c.in-Map.count in
    let width = c.width-in-Map.ensures 0 ∙ width_left count 0 in
    subst (λ k. Wrote c.push_opening-in-Map.result old new (λ t. t ≡ opening k l)) (sym c.in-Map.is)
    (appends_wrote c.push_opening-in-Map.result old new (opened l (codes "{") c.width-in-Map.result)
    (λ t. t ≡ opening (Map count) l) (ap (opened l (codes "{")) width) c.push_opening-in-Map.ensures)
