-- After a part, or after a head that opens a container, what is due is still the same item.
use Rattle.std.proofs.Common.{◌≡◌, ◌-◌, ℕ, length, ap, sym, subst, arith, ◌∙◌}
use Rattle.std.specs.Prelude.{option_map}
use Rattle.std.proofs.lemmas.List.{length-append}
use Rattle.std.proofs.lemmas.Result.{IfOk-weaker, IfErr-weaker}
use Rattle.cbor_bytes.specs.declared.skip.Stop.TheVariants as stops
use Rattle.cbor_grammar.specs.WellFormed.{deepest}
use Rattle.cbor_bytes.specs.mirror.Skipping.{Goes, StopsSo, skip_item, skip_body, frame_of}
use Rattle.cbor_bytes.proofs.skipping.Skips.{goes_then}
use Rattle.cbor_bytes.proofs.skipping.SkippedParts.{part_stops, whole_goes, opens_goes, opened_goes}
use Rattle.cbor_bytes.proofs.skipping.ScannedParts.{string_pauses, part_waits}
use Rattle.cbor_bytes.proofs.skip.containers.Containers.after_part.Goals as goal

pub returns-in-Err-Cut-clause-pauses : goal.returns-in-Err-Cut-clause-pauses
returns-in-Err-Cut-clause-pauses c =
    let outer = c.args.self.now.outer in
    let b = c.args.bytes.now in
    let levels : c.from.result - c.len.result ≡ deepest - length outer = omega arith in
    let cut = subst (λ (l : ℕ). StopsSo (skip_item l) b stops.Cut) levels
    (rw c.in-Err-Cut.field-0-is at c.in-Err-Cut.ensures.stops) in
    part_waits outer c.args.self.now.top b c.requires cut (c.in-Err-Cut.ensures.few c.in-Err-Cut.field-0-is)

pub returns-in-Err-Fault-clause-pauses : goal.returns-in-Err-Fault-clause-pauses
returns-in-Err-Fault-clause-pauses c =
    let outer = c.args.self.now.outer in
    let b = c.args.bytes.now in
    let i = c.in-Err-Fault in
    let levels : c.from.result - c.len.result ≡ deepest - length outer = omega arith in
    let stop = subst (λ (l : ℕ). StopsSo (skip_item l) b (stops.Fault i.error i.after)) levels
    (rw i.field-0-is at i.ensures.stops) in
    part_stops outer c.args.self.now.top b (stops.Fault i.error i.after) c.requires stop

pub returns-in-Some-clause-goes : goal.returns-in-Some-clause-goes
returns-in-Some-clause-goes c =
    let outer = c.args.self.now.outer in
    let b = c.args.bytes.now in
    let rest = c.in-Ok.read.1.now in
    let parts = c.in-Some.parts in
    let levels : c.from.result - c.len.result ≡ deepest - length outer = omega arith in
    let head = subst (λ (l : ℕ). Goes (skip_item l) (skip_body (l - 1) c.in-Ok.read.0) b rest) levels
    c.in-Ok.ensures.goes in
    let part = goes_then head (opened_goes (deepest - length outer - 1) c.in-Ok.read.0 parts rest
    (ap (option_map frame_of) (sym c.in-Some.is) ∙ c.new.ensures)) in
    rw c.push.ensures (opens_goes outer c.args.self.now.top c.after_part-next.result parts b rest c.requires
    c.after_part-next.ensures c.in-Ok.ensures.shorter part)

pub returns-clause-goes : goal.returns-clause-goes
returns-clause-goes c =
    let outer = c.args.self.now.outer in
    let b = c.args.bytes.now in
    let r = c.in-Ok.read.1.now in
    let levels : c.from.result - c.len.result ≡ deepest - length outer = omega arith in
    let head = subst (λ (l : ℕ). Goes (skip_item l) (skip_body (l - 1) c.in-Ok.read.0) b r) levels
    c.in-Ok.ensures.goes in
    IfOk-weaker c.after_atom_due.result _ _ (λ rest body. whole_goes outer c.args.self.now.top
    c.after_part-next.result b rest.now c.requires c.after_part-next.ensures
    (omega (arith, ap length body.parts, length-append body.over rest.now, c.in-Ok.ensures.shorter))
    (goes_then head body)) (c.after_atom_due.ensures.goes (deepest - length outer - 1))

pub returns-clause-pauses : goal.returns-clause-pauses
returns-clause-pauses c =
    let outer = c.args.self.now.outer in
    let b = c.args.bytes.now in
    let r = c.in-Ok.read.1.now in
    let left = deepest - length outer - 1 in
    let levels : c.from.result - c.len.result ≡ deepest - length outer = omega arith in
    let head = subst (λ (l : ℕ). Goes (skip_item l) (skip_body (l - 1) c.in-Ok.read.0) b r) levels
    c.in-Ok.ensures.goes in
    IfErr-weaker c.after_atom_due.result _ _ (λ pause pauses. string_pauses outer c.args.self.now.top
    c.after_part-next.result (skip_body left c.in-Ok.read.0) b r pause c.requires
    c.after_part-next.ensures c.in-Ok.ensures.shorter head pauses) (c.after_atom_due.ensures.pauses left)
