-- Before the first bytes all of an item is still to come, as in a `Progress` that is new.
use Rattle.std.proofs.Common.{◌≡◌, ℕ, List, [], ◌++◌, Result, Ok, Err, sym, subst, rules}
use Rattle.std.specs.Prelude.{Option, Some, None, IfErr}
use Rattle.cbor_grammar.specs.WellFormed.{deepest}
use Rattle.cbor_bytes.specs.declared.skip.Stop.{Stop}
use Rattle.cbor_bytes.specs.declared.skip.Stop.TheVariants as stops
use Rattle.cbor_bytes.specs.declared.skip.progress.Progress.{Progress}
use Rattle.cbor_bytes.specs.mirror.Skipping.{skip_item}
use Rattle.cbor_bytes.specs.mirror.Scanned.{StopsAt, StopsAfter, WaitsAfter}
use Rattle.cbor_bytes.proofs.skip.scanner.after_more.Goals as goal

stops_after : (p : Progress) (b : List ℕ) (r : Result ℕ Stop) → IfErr r (λ stop. StopsAt p (skip_item deepest) b stop)
    → IfErr r (StopsAfter (Some p) b)
stops_after p b (Ok after) s = tt
stops_after p b (Err stops.Cut) s = s
stops_after p b (Err (stops.Fault error after)) s = s

none_came : (progress : Option Progress) (b : List ℕ) → progress ≡ None → WaitsAfter progress b → b ≡ []
none_came None b e w = w
none_came (Some p) b e w = absurd cc

pub returns-in-Some-clause-stops : goal.returns-in-Some-clause-stops
returns-in-Some-clause-stops c = λ fed waits.
    stops_after c.after_more.new.self (fed ++ c.args.bytes.now) c.after_more.result
    (c.after_more.ensures.stops fed (rw c.in-Some.is at waits))

pub returns-clause-stops : goal.returns-clause-stops
returns-clause-stops c = λ fed waits.
    let b = c.args.bytes.now in
    let p = c.after_more-scanned.new.self in
    let r = c.after_more-scanned.result in
    let none : c.args.progress.now ≡ None = search rules in
    subst (λ (z : List ℕ). IfErr r (StopsAfter (Some p) (z ++ b))) (sym (none_came c.args.progress.now fed none waits))
    (stops_after p ([] ++ b) r (c.after_more-scanned.ensures.stops [] c.new-begun.ensures))
