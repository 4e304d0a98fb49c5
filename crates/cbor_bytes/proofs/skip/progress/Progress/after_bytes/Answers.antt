-- What is due of an item ends in these bytes, or what is left of it is due after them.
use Rattle.std.proofs.Common.{refl}
use Rattle.cbor_bytes.proofs.skipping.Scans.{pauses_then}
use Rattle.cbor_grammar.specs.Reading.{◌>>=◌}
use Rattle.cbor_bytes.specs.mirror.Skipping.{skip_open}
use Rattle.cbor_bytes.specs.mirror.Scanning.{skip_due, skip_from}
use Rattle.cbor_bytes.specs.mirror.Scanned.{skip_rest}
use Rattle.cbor_bytes.proofs.skipping.Skips.{goes_then, goes_within}
use Rattle.cbor_bytes.proofs.skipping.ScannedParts.{pauses_open}
use Rattle.cbor_bytes.proofs.skip.progress.Progress.after_bytes.Goals as goal

pub returns-in-Err-clause-stops : goal.returns-in-Err-clause-stops
returns-in-Err-clause-stops c =
    let s = c.args.self.now.containers in
    c.pause.ensures (skip_rest c.args.self.now) c.args.bytes.now (pauses_open s.outer s.top
    (skip_due c.args.self.now.due) c.args.bytes.now c.in-Err.pause c.in-Err.ensures.pauses)

pub returns-in-Ok-after_item-clause-whole : goal.returns-in-Ok-after_item-clause-whole
returns-in-Ok-after_item-clause-whole c =
    let s = c.args.self.now.containers in
    let due = goes_within (λ r. r >>= skip_open s.outer s.top) c.in-Ok.ensures.goes in
    (c.in-Ok-after_item.rest.now, goes_then due c.in-Ok-after_item.ensures.goes, refl)

pub returns-in-Err-after_item-clause-stops : goal.returns-in-Err-after_item-clause-stops
returns-in-Err-after_item-clause-stops c =
    let s = c.args.self.now.containers in
    let n = c.after_item.new.self in
    let due = goes_within (λ r. r >>= skip_open s.outer s.top) c.in-Ok.ensures.goes in
    c.pause-in-Err-after_item.ensures (skip_rest c.args.self.now) c.args.bytes.now
    (pauses_then (skip_from n.outer n.top) (skip_rest c.args.self.now) (skip_open s.outer s.top) c.args.bytes.now
    c.in-Ok.rest.now c.in-Err-after_item.pause due c.in-Err-after_item.ensures.pauses)
