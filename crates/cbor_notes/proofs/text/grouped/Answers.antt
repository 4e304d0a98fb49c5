use Rattle.std.proofs.Common.{◌≡◌, string_bytes, arith}
use Rattle.std.proofs.lemmas.Grind.{common_steps}
use Rattle.cbor_notes.specs.Text as spec
use Rattle.cbor_notes.proofs.texts.Groups.{number_is_grouped}
use Rattle.cbor_notes.proofs.text.grouped.Goals as goal

pub returns-clause-by_three : goal.returns-clause-by_three
returns-clause-by_three c =
    let is : string_bytes c.push_grouped.new.text ≡ spec.grouped c.args.number c.args.negative =
    grind (arith, common_steps) in
    number_is_grouped c.args.number c.args.negative (string_bytes c.push_grouped.new.text) (omega arith) is
