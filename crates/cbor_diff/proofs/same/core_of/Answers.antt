-- Bytes that violate the rules of valid items have no core deterministic encoding.
use Rattle.std.proofs.Common.{sym, ◌∙◌}
use Rattle.cbor_diff.proofs.Cores.{core_valid}
use Rattle.cbor_diff.proofs.same.core_of.Goals as goal

pub returns-in-Some : goal.returns-in-Some
returns-in-Some c = record {
  some = tt;
  none = λ e core again.
      let none = c.in_ok-violation_of.ensures.none.1 (core_valid c.args.items.now core again) in
      let wrong = sym c.in-Some.is ∙ none in
      absurd cc;
}
