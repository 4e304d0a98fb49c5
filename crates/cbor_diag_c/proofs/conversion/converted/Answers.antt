use Rattle.std.proofs.Common.{subst, sym}
use Rattle.cbor_diag_c.specs.declared.form.Form.{Form}
use Rattle.cbor_diag_c.specs.Outputs.{RefusedAs, IsNoOutput}
use Rattle.cbor_diag_c.proofs.conversion.converted.Goals as goal

pub returns-in-Text-clause-refused : goal.returns-in-Text-clause-refused
returns-in-Text-clause-refused c =
    subst (λ (from : Form). RefusedAs c.edn_to.result (IsNoOutput from c.args.to c.args.input.now)) (sym c.in-Text.is)
    (c.edn_to.ensures.refused c.in-Text.field-0)
