-- Scanning goes on from part to part over the open containers, and pauses where a part does.
use Rattle.std.proofs.Common.{◌≡◌, ◌-◌, length, subst, arith}
use Rattle.std.proofs.lemmas.Result.{err_from_is_err_and}
use Rattle.cbor_bytes.proofs.skipping.Scans.{pauses_then}
use Rattle.cbor_bytes.specs.mirror.Scanning.{skip_from}
use Rattle.cbor_bytes.specs.mirror.Skipping.{Goes, skip_item, begun, skip_open}
use Rattle.cbor_grammar.specs.WellFormed.{deepest}
use Rattle.cbor_bytes.proofs.skipping.Skips.{goes_then}
use Rattle.cbor_bytes.proofs.skipping.SkippedParts.{last_ends, open_ends, whole_goes, opens_goes}
use Rattle.cbor_bytes.proofs.skip.containers.Containers.after_item.Goals as goal

pub returns-in_default-pop-clause-goes : goal.returns-in_default-pop-clause-goes
returns-in_default-pop-clause-goes c =
    last_ends c.turns.self.outer c.turns.top c.turns.rest.now c.in-Some.after.now c.turns.invariant.goes
    (c.pop.ensures.none c.in_default-pop.is) c.in-Some.ensures

pub turns-preserved-in-Some : goal.turns-preserved-in-Some
turns-preserved-in-Some c = record {
  goes = open_ends c.turns.self.outer c.pop.new.self c.in-Some-pop.«open» c.turns.top c.turns.rest.now
      c.in-Some.after.now
      c.turns.invariant.goes c.in-Some-pop.ensures.some c.in-Some.ensures;
}

pub returns-in_err-rest-clause-pauses : goal.returns-in_err-rest-clause-pauses
returns-in_err-rest-clause-pauses c =
    let p = err_from_is_err_and c.from_residual.result c.from_residual.ensures.1 in
    rw (p.1, p.2) (pauses_then (skip_from c.after_part.new.self.outer c.after_part.new.self.top)
    (skip_open c.args.self.now.outer c.args.self.now.top)
    (skip_open c.turns.self.outer c.turns.top) c.args.bytes.now c.turns.rest.now c.in_err-rest.field-0.0
    c.turns.invariant.goes c.in_err-rest.ensures.pauses)

pub turns-preserved-in-Some-parts : goal.turns-preserved-in-Some-parts
turns-preserved-in-Some-parts c =
    let outer = c.turns.self.outer in
    let top = c.turns.top in
    let rest = c.turns.rest.now in
    let after = c.in-Ok.after.now in
    let parts = c.in-Some-parts.parts in
    let levels : c.from.result - c.len.result ≡ deepest - length outer = omega arith in
    let part = subst (λ l. Goes (skip_item l) (begun (l - 1) c.in-Ok.parts) rest after) levels c.in-Ok.ensures.goes in
    let next = opens_goes outer top c.after_part-top.result parts rest after c.in_default.ensures
    c.after_part-top.ensures
    c.in-Ok.ensures.shorter (rw c.in-Some-parts.is at part) in
    record { goes = goes_then c.turns.invariant.goes (rw c.push.ensures next) }

pub turns-preserved : goal.turns-preserved
turns-preserved c =
    let outer = c.turns.self.outer in
    let top = c.turns.top in
    let rest = c.turns.rest.now in
    let after = c.in-Ok.after.now in
    let levels : c.from.result - c.len.result ≡ deepest - length outer = omega arith in
    let part = subst (λ l. Goes (skip_item l) (begun (l - 1) c.in-Ok.parts) rest after) levels c.in-Ok.ensures.goes in
    let next = whole_goes outer top c.after_part-top.result rest after c.in_default.ensures c.after_part-top.ensures
    c.in-Ok.ensures.shorter (rw c.in_default-parts.is at part) in
    record { goes = goes_then c.turns.invariant.goes next }

pub turns-preserved-in_default-read_part : goal.turns-preserved-in_default-read_part
turns-preserved-in_default-read_part c = record { goes = goes_then c.turns.invariant.goes c.in_ok-rest.ensures.goes }
