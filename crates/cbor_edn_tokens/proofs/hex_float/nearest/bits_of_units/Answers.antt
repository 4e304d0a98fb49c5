use Rattle.std.proofs.Common.{◌∙◌, ◌+◌, ◌*◌, ap, ap₂, min}
use lib.Ieee.{of_bits}
use Rattle.cbor_edn_tokens.specs.mirror.Front.{format_of}
use Rattle.cbor_edn_tokens.proofs.Nearest.{units_bits}
use Rattle.cbor_edn_tokens.proofs.hex_float.nearest.bits_of_units.Goals as goal

pub returns-clause-bits : goal.returns-clause-bits
returns-clause-bits c =
    let f = format_of c.args.format in
    ap (of_bits f) (c.min.ensures ∙ ap₂ (λ h top. min (c.args.scale * h + c.args.kept) top) c.hidden.ensures
    c.infinity.ensures)
    ∙ units_bits f c.args.kept c.args.scale c.requires.kept c.requires.normal
