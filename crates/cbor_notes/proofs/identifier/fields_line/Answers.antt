use Rattle.std.proofs.Common.{ap, append_assoc, ◌∙◌}
use Rattle.cbor_notes.specs.Identifier as spec
use Rattle.cbor_notes.proofs.identifier.fields_line.Goals as goal

-- the pieces of the format are joined from the right
pub returns : goal.returns
returns c =
    let name = c.version_name-name.ensures.name ∙ ap spec.version_name c.get_version.ensures in
    let variant = c.variant_name-variant.ensures.name ∙ ap spec.variant_name c.get_variant.ensures in
    record { text = simp append_assoc (simp (variant, name, c.get_version_num-number.ensures) at c.format.ensures.ok) }
