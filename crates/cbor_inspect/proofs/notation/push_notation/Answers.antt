use Rattle.std.proofs.Common.{◌∙◌, ℕ, Result, IfErr, sym, subst}
use Rattle.cbor_paths.specs.declared.end.End.{End}
use Rattle.cbor_paths.specs.Ends.{StopsSo}
use Rattle.cbor_inspect.proofs.notation.push_notation.Goals as goal
use Rattle.cbor_inspect.proofs.notation.push_notation.Goals.{in-Some, in_default}

pub returns-in-Err-clause-ends : goal.returns-in-Err-clause-ends
returns-in-Err-clause-ends c =
    elim c.match-show.branch [
      | in-Some w ↦ subst (λ (r : Result ℕ End). IfErr r (StopsSo c.args.bytes.now))
          (sym w.found-is ∙ c.in-Err.is) (w.push_named-found.ensures.ends)
      | in_default w ↦ subst (λ (r : Result ℕ End). IfErr r (StopsSo c.args.bytes.now))
          (sym w.found-is ∙ c.in-Err.is) (w.push_edn-found.ensures.ends)
    ]
