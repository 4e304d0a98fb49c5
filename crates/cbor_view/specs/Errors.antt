-- The text of each error of a run of the filter.
use Rattle.std.specs.Prelude.{ℕ, List, codes}
use Rattle.cbor_diag.specs.Refusals as refusals
use Rattle.cbor_view.specs.declared.error.ViewError.{ViewError}
use Rattle.cbor_view.specs.declared.error.ViewError.TheVariants.{Item, Read, Write}

abbrev pub text_of : ViewError → List ℕ
text_of (Item e) = refusals.text_of e
text_of Read = codes "cannot read the input"
text_of Write = codes "cannot write the output"
