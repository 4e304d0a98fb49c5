-- The way goes on from container to container, up to the innermost item.
use Rattle.std.proofs.Common.{sym, subst, arith}
use Rattle.cbor_trace.specs.declared.part.Spot.{Spot}
use Rattle.cbor_trace.proofs.Carried.{IsCarried, first_carried, next_carried}
use Rattle.cbor_trace.proofs.Ways.{IsOnWay, way_begins, way_goes, way_ends, way_only, no_part, that_part}
use Rattle.cbor_trace.proofs.walk.innermost.Goals as goal

pub returns-in_default-clause-way : goal.returns-in_default-clause-way
returns-in_default-clause-way c =
    way_ends c.args.bytes.now c.args.at c.levels.spot c.levels.invariant.0
    (no_part c.args.bytes.now c.args.at c.levels.spot c.in_default.ensures.every_part)

pub returns-in_default-clause-only : goal.returns-in_default-clause-only
returns-in_default-clause-only c =
    way_only c.args.bytes.now c.args.at c.levels.spot c.levels.invariant.0
    (no_part c.args.bytes.now c.args.at c.levels.spot c.in_default.ensures.every_part)

pub returns-in_default-clause-whole : goal.returns-in_default-clause-whole
returns-in_default-clause-whole c = λ i n h lt. c.levels.invariant.1.whole i n (h.1, h.2) lt

pub levels-init : goal.levels-init
levels-init c =
    subst (λ (s : Spot). IsOnWay c.args.bytes.now c.args.at s × IsCarried c.args.bytes.now c.args.at s)
    (sym c.outermost-spot.ensures) (way_begins c.args.bytes.now c.args.at, first_carried c.args.bytes.now c.args.at)

pub levels-preserved : goal.levels-preserved
levels-preserved c =
    subst (λ (s : Spot). IsOnWay c.args.bytes.now c.args.at s × IsCarried c.args.bytes.now c.args.at s)
    (sym c.of_part-spot.ensures) (
      way_goes c.args.bytes.now c.args.at c.levels.spot c.in-Some.part c.levels.invariant.0 c.in-Some.ensures.part
          (that_part c.args.bytes.now c.args.at c.levels.spot c.in-Some.part c.in-Some.ensures.every_part),
      next_carried c.args.bytes.now c.args.at c.levels.spot c.in-Some.part (λ i. omega (arith, c.type_inv.bytes i))
          c.in-Some.ensures.part c.levels.invariant.1,
    )
