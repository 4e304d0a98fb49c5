-- Skipping parts goes on after each of them, and stops where a part does. A part is skipped once all that its head
-- opens is.
use Rattle.std.proofs.Common.{◌≡◌, ℕ, ◌+◌, ◌-◌, List, length, Some, refl, sym, ap, subst, arith}
use Rattle.std.specs.Prelude.{Option}
use Rattle.std.proofs.lemmas.List.{length-append}
use Rattle.std.proofs.lemmas.Result.{err_from_is_err_and}
use Rattle.cbor_bytes.specs.declared.skip.to_come.ToCome.{ToCome}
use Rattle.cbor_grammar.specs.WellFormed.{deepest}
use Rattle.cbor_bytes.specs.mirror.Skipping.{Goes, StopsSo, frame_of, skip_item, skip_parts, begun}
use Rattle.cbor_bytes.proofs.skipping.Skips.{goes_here, goes_then, stops_then}
use Rattle.cbor_bytes.proofs.skipping.SkippedParts.{frame_ends, part_fails, part_whole}
use Rattle.cbor_bytes.proofs.skip.+after_parts.Goals as goal

-- a part that opens a container goes on with the parts of that
enters : (level left : ℕ) (begins : Option ToCome) (inner : ToCome) (b rest : List ℕ) → left ≡ deepest - level
    → begins ≡ Some inner → Goes (skip_item left) (begun (left - 1) begins) b rest
    → Goes (skip_item (deepest - level)) (skip_parts (deepest - (level + 1)) inner) b rest
enters level left begins inner b rest levels is goes =
    let below : deepest - level - 1 ≡ deepest - (level + 1) = omega arith in
    let at = subst (λ (l : ℕ). Goes (skip_item l) (begun (l - 1) begins) b rest) levels goes in
    subst (λ (l : ℕ). Goes (skip_item (deepest - level)) (skip_parts l inner) b rest) below (rw is at at)

pub parts-init : goal.parts-init
parts-init t c = record { goes = goes_here c.args.bytes.now (λ b. refl); shorter = omega arith }

pub returns-in-Some-clause-goes : goal.returns-in-Some-clause-goes
returns-in-Some-clause-goes t c =
    goes_then c.parts.invariant.goes (frame_ends (deepest - c.args.level) (frame_of c.parts.parts) c.parts.rest.now
    c.in-Some.after.now (sym c.in-Some.ensures))

pub returns-in-Some-clause-shorter : goal.returns-in-Some-clause-shorter
returns-in-Some-clause-shorter t c =
    let ends = frame_ends (deepest - c.args.level) (frame_of c.parts.parts) c.parts.rest.now c.in-Some.after.now
    (sym c.in-Some.ensures) in
    omega (arith, ap length ends.parts, length-append ends.over c.in-Some.after.now, c.parts.invariant.shorter)

pub returns-in_err-inner-clause-stops : goal.returns-in_err-inner-clause-stops
returns-in_err-inner-clause-stops t c =
    let p = err_from_is_err_and c.from_residual.result c.from_residual.ensures.1 in
    let stop = c.in_err-inner.field-0.0 in
    let levels : c.from.result ≡ deepest - c.args.level = omega arith in
    let part = subst (λ (l : ℕ). StopsSo (skip_item l) c.parts.rest.now stop) levels c.in_err-inner.ensures.stops in
    rw (p.1, p.2) (stops_then stop c.parts.invariant.goes
    (part_fails (deepest - c.args.level) c.parts.parts c.parts.rest.now stop c.in_default.ensures part))

pub returns-in_err-rest-clause-stops : goal.returns-in_err-rest-clause-stops
returns-in_err-rest-clause-stops t c =
    let p = err_from_is_err_and c.from_residual-in_err-rest.result c.from_residual-in_err-rest.ensures.1 in
    let stop = c.in_err-rest.field-0.0 in
    let part = enters c.args.level c.from.result c.in_ok-inner.inner c.in-Some-inner.inner c.parts.rest.now
    c.in_ok-inner.after.now (omega arith) c.in-Some-inner.is c.in_ok-inner.ensures.goes in
    rw (p.1, p.2) (stops_then stop c.parts.invariant.goes
    (part_fails (deepest - c.args.level) c.parts.parts c.parts.rest.now stop c.in_default.ensures
    (stops_then stop part c.in_err-rest.ensures.stops)))

pub parts-preserved-in-Some-inner : goal.parts-preserved-in-Some-inner
parts-preserved-in-Some-inner t c =
    let part = enters c.args.level c.from.result c.in_ok-inner.inner c.in-Some-inner.inner c.parts.rest.now
    c.in_ok-inner.after.now (omega arith) c.in-Some-inner.is c.in_ok-inner.ensures.goes in
    record {
      goes = goes_then c.parts.invariant.goes (part_whole (deepest - c.args.level) c.parts.parts
          c.after_part-parts.result c.parts.rest.now c.in_ok-rest.rest.now c.in_default.ensures
          c.after_part-parts.ensures (omega (arith, c.in_ok-rest.ensures.shorter, c.in_ok-inner.ensures.shorter))
          (goes_then part c.in_ok-rest.ensures.goes));
      shorter = omega (arith, c.in_ok-rest.ensures.shorter, c.in_ok-inner.ensures.shorter, c.parts.invariant.shorter);
    }

pub parts-preserved : goal.parts-preserved
parts-preserved t c =
    let levels : c.from.result ≡ deepest - c.args.level = omega arith in
    let at = subst (λ (l : ℕ). Goes (skip_item l) (begun (l - 1) c.in_ok-inner.inner) c.parts.rest.now
    c.in_ok-inner.after.now) levels c.in_ok-inner.ensures.goes in
    record {
      goes = goes_then c.parts.invariant.goes (part_whole (deepest - c.args.level) c.parts.parts
          c.after_part-parts.result c.parts.rest.now c.in_ok-inner.after.now c.in_default.ensures
          c.after_part-parts.ensures c.in_ok-inner.ensures.shorter (rw c.in_default-inner.is at at));
      shorter = omega (arith, c.in_ok-inner.ensures.shorter, c.parts.invariant.shorter);
    }
