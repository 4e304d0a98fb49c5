-- A text that is not read is no notation.
use Rattle.std.proofs.Common.{◌≡◌, ◌≢◌, rules, ◌-◌, arith, Ok}
use Rattle.cbor_grammar.specs.declared.error.Error.TheVariants as refusal
use Rattle.cbor_diag.specs.View.{view}
use Rattle.cbor_diag.proofs.notation.PublicReader.{text_is, given, no_notation}
use Rattle.cbor_diag.proofs.parse.notation.fault.diag_fault.Goals as goal

pub returns-in-Ok-clause-none : goal.returns-in-Ok-clause-none
returns-in-Ok-clause-none c =
    let is : c.new-rest.result ≡ c.args.text.now = first_of (cc, search rules) in (
      view c.in-Ok.field-0,
      text_is 128 c.args.text.now (Ok c.in-Ok.field-0)
          (given c.args.text.now c.new-rest.result (Ok c.in-Ok.field-0) is c.in-Ok.ensures.gives),
    )

pub returns : goal.returns
returns c =
    let is : c.new-rest.result ≡ c.args.text.now = first_of (cc, search rules) in
    let real : c.in-Err.error ≢ refusal.Memory = first_of (search rules, cc) in
    let no = no_notation c.args.text.now c.new-rest.result c.in-Err.error is real c.in-Err.ensures.gives in
    record { none = tt; every_item = λ i read. absurd (no.none i read); fault = (no, omega arith); refused = tt }
