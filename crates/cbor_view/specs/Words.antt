-- The word of each form, as an argument of the filter.
use Rattle.std.specs.Prelude.{ℕ, List, codes}
use Rattle.cbor_diag.specs.declared.conversion.form.Source.{Source}
use Rattle.cbor_diag.specs.declared.conversion.form.Source.TheVariants as source
use Rattle.cbor_diag.specs.declared.conversion.form.To.{To}
use Rattle.cbor_diag.specs.declared.conversion.form.To.TheVariants as target

abbrev pub source_word : Source → List ℕ
source_word source.Bytes = codes "bytes"
source_word source.Hex = codes "hex"
source_word source.Diag = codes "diag"

abbrev pub target_word : To → List ℕ
target_word target.Bytes = codes "bytes"
target_word target.Hex = codes "hex"
target_word target.Diag = codes "diag"
target_word target.Pretty = codes "pretty"
