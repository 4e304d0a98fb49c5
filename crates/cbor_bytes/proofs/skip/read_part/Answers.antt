-- After a head what it opens is still to come, or the item is skipped whole.
use Rattle.std.proofs.Common.{◌-◌, ap, sym, ◌∙◌}
use Rattle.std.specs.Prelude.{option_map}
use Rattle.std.proofs.lemmas.Result.{err_from_is_err_and}
use Rattle.cbor_bytes.specs.mirror.Skipping.{frame_of}
use Rattle.cbor_bytes.proofs.skipping.Skips.{goes_then, stops_then}
use Rattle.cbor_bytes.proofs.skipping.SkippedParts.{opened_goes}
use Rattle.cbor_bytes.proofs.skip.read_part.Goals as goal

pub returns-in-Some-clause-goes : goal.returns-in-Some-clause-goes
returns-in-Some-clause-goes c =
    goes_then c.in_ok-head.ensures.goes (opened_goes (c.args.levels - 1) c.in_ok-head.head c.in-Some.parts
    c.in_ok-head.rest.now (ap (option_map frame_of) (sym c.in-Some.is) ∙ c.new.ensures))

pub returns-in_err-rest-clause-stops : goal.returns-in_err-rest-clause-stops
returns-in_err-rest-clause-stops c =
    let p = err_from_is_err_and c.from_residual-in_err-rest.result c.from_residual-in_err-rest.ensures.1 in
    rw (p.1, p.2) (stops_then c.in_err-rest.field-0.0 c.in_ok-head.ensures.goes
    (c.in_err-rest.ensures.stops (c.args.levels - 1)))

pub returns-clause-goes : goal.returns-clause-goes
returns-clause-goes c = goes_then c.in_ok-head.ensures.goes (c.in_ok-rest.ensures.goes (c.args.levels - 1))
