use Rattle.std.proofs.Common.{rules, ◌≡◌, ◌↔◌, Some}
use Rattle.cbor_diag_c.specs.Answers.{IfLength}
use Rattle.cbor_diag_c.specs.Violations.{rules_of, KeepsBy}
use Rattle.cbor_diag_c.proofs.Told.{kept_if_told}
use Rattle.cbor_diag_c.proofs.violations.cbor_diag_violation.Goals as goal

-- src/violations.rt:91:1
pub returns-in-Ok-clause-kept : goal.returns-in-Ok-clause-kept
returns-in-Ok-clause-kept c =
    let is : rules_of c.args.rules ≡ Some c.in-Some.rules = search rules in
    let told : IfLength c.told.result (λ n. (n ≡ 0) ↔ KeepsBy c.args.rules c.args.input.now) =
    kept_if_told c.args.rules c.args.input.now c.in-Some.rules c.in-Ok.found c.told.result c.told.new.place
    c.told.new.detail is c.in-Ok.ensures.none c.told.ensures.told in
    search rules
