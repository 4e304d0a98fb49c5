use Rattle.std.proofs.Common.{false, arith}
use Rattle.std.proofs.lemmas.Fmt.{hex_one_digit, hex_two_digits}
use Rattle.std.proofs.lemmas.Grind.{common_steps}
use Rattle.cbor_notes.proofs.text.push_code.Goals as goal
use Rattle.cbor_notes.proofs.text.push_code.Goals.{then-code-ge16+in_ok-push, else-code-ge16}

pub returns : goal.returns
returns c = elim c.if-code-ge16.branch [
  | then-code-ge16+in_ok-push w ↦
      grind (arith, common_steps, hex_two_digits false c.args.code)
  | else-code-ge16 w ↦
      grind (arith, common_steps, hex_one_digit false c.args.code)
]
