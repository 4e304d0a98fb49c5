-- After the head of a container its parts are still to come; any other item is skipped by then.
use Rattle.std.proofs.Common.{◌≡◌, ℕ, ◌-◌, List, Some, subst, arith}
use Rattle.std.specs.Prelude.{Option}
use Rattle.std.proofs.lemmas.Result.{IfOk-weaker, IfErr-weaker}
use Rattle.cbor_bytes.specs.declared.skip.to_come.ToCome.{ToCome}
use Rattle.cbor_grammar.specs.WellFormed.{deepest, levels_left}
use Rattle.cbor_bytes.specs.mirror.Skipping.{Goes, skip_item, skip_parts, begun}
use Rattle.cbor_bytes.proofs.skipping.Skips.{goes_then, stops_then}
use Rattle.cbor_bytes.proofs.skip.after_item.Goals as goal

opens : (level left : ℕ) (begins : Option ToCome) (parts : ToCome) (b rest : List ℕ) → left ≡ levels_left level
    → begins ≡ Some parts → Goes (skip_item left) (begun (left - 1) begins) b rest
    → Goes (skip_item (levels_left level)) (skip_parts (deepest - level) parts) b rest
opens level left begins parts b rest levels is goes =
    let below : levels_left level - 1 ≡ deepest - level = omega arith in
    let at = subst (λ (l : ℕ). Goes (skip_item l) (begun (l - 1) begins) b rest) levels goes in
    subst (λ (l : ℕ). Goes (skip_item (levels_left level)) (skip_parts l parts) b rest) below (rw is at at)

pub returns-in-Some-clause-goes : goal.returns-in-Some-clause-goes
returns-in-Some-clause-goes c =
    let head = opens c.args.level c.from.result c.in_ok-parts.parts c.in-Some.parts c.args.bytes.now
    c.in_ok-parts.rest.now (omega arith) c.in-Some.is c.in_ok-parts.ensures.goes in
    IfOk-weaker c.after_parts.result _ _ (λ rest goes. goes_then head goes) c.after_parts.ensures.goes

pub returns-in-Some-clause-stops : goal.returns-in-Some-clause-stops
returns-in-Some-clause-stops c =
    let head = opens c.args.level c.from.result c.in_ok-parts.parts c.in-Some.parts c.args.bytes.now
    c.in_ok-parts.rest.now (omega arith) c.in-Some.is c.in_ok-parts.ensures.goes in
    IfErr-weaker c.after_parts.result _ _ (λ stop stops. stops_then stop head stops) c.after_parts.ensures.stops
