use Rattle.std.proofs.Common.{◌∙◌, ap, length}
use Rattle.cbor_notes.proofs.dates.DateTexts.{date_text-ten}
use Rattle.cbor_notes.proofs.date.text_date.Goals as goal

pub returns-in_err-as_array-clause-only : goal.returns-in_err-as_array-clause-only
returns-in_err-as_array-clause-only c = λ date is.
    let ten = ap length (is.1 ∙ date_text-ten date is.0) in
    absurd (c.in_err-as_array.ensures.cases (ap length c.as_bytes.ensures.value ∙ ten))
