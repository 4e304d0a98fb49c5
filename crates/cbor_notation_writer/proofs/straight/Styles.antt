-- With the limit of `cbor_view` (`one_line_limit`), the style that `style_within` gives a container by its estimated
-- length is that of the definition (`container_style`).
use Rattle.std.proofs.Common.{◌≡◌, ℕ, refl}
use Rattle.cbor_grammar.specs.declared.layout.Layout.{Layout}
use Rattle.cbor_grammar.specs.declared.layout.Layout.TheVariants.{Compact, Pretty}
use Rattle.cbor_grammar.specs.Estimate.{one_line_limit}
use Rattle.cbor_grammar.specs.NotationText.{container_style}
use Rattle.cbor_notation_writer.specs.Dialect.{style_within}

pub one_line_style : (layout : Layout) (size : ℕ)
    → style_within one_line_limit layout size ≡ container_style layout size
one_line_style Compact size = refl
one_line_style (Pretty indent) size = refl
