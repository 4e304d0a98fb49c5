-- The item ends in the bytes that were fed and these, or what is left of it is due after all of them.
use Rattle.std.proofs.Common.{[], ◌∷◌, ◌++◌, length, get_or, refl, ap, ◌∙◌, arith}
use Rattle.std.proofs.lemmas.List.{length-append}
use Rattle.std.proofs.lemmas.Result.{IfOk-weaker, IfErr-weaker}
use Rattle.cbor_grammar.specs.WellFormed.{deepest}
use Rattle.cbor_bytes.specs.mirror.Skipping.{skip_item}
use Rattle.cbor_bytes.specs.mirror.Scanned.{skip_rest}
use Rattle.cbor_bytes.proofs.skipping.Progresses.{ends_within, shows_within, all_waits, byte_ends, byte_shows}
use Rattle.cbor_bytes.proofs.skipping.Progresses.{behind_within, byte_waits, rest_ends, rest_stops}
use Rattle.cbor_bytes.proofs.skip.progress.Progress.after_more.Goals as goal

pub held-init : goal.held-init
held-init c = record { seen = λ fed w. (fed, refl, w); within = omega arith }

pub returns-in_default-clause-stops : goal.returns-in_default-clause-stops
returns-in_default-clause-stops c = λ fed w.
    let s = c.held.invariant.seen fed w in
    all_waits (skip_item deepest) (skip_rest c.held.self) s.0 c.held.self.held c.held.rest.now (fed ++ c.args.bytes.now)
    s.2 s.1 c.in_default.len_below

pub returns-in-Ok-clause-whole : goal.returns-in-Ok-clause-whole
returns-in-Ok-clause-whole c = λ fed w.
    let s = c.held.invariant.seen fed w in
    byte_ends (skip_item deepest) (skip_rest c.held.self) s.0 c.held.self.held c.held.rest.now
    (fed ++ c.args.bytes.now) s.2 s.1 c.in-len1-up.len_at_least c.as_slice.result.now
    (c.as_slice.ensures ∙ c.with-held.ensures) c.in-Ok.over c.in-Ok.ensures.whole

pub held-preserved : goal.held-preserved
held-preserved c = record {
  seen = λ fed w.
      let s = c.held.invariant.seen fed w in
      let v = rw c.in-Err-Cut.field-0-is at c.in-Err-Cut.ensures.stops in
      byte_waits (skip_item deepest) (skip_rest c.held.self) s.0 c.held.self.held c.held.rest.now
      (fed ++ c.args.bytes.now) s.2 s.1 c.in-len1-up.len_at_least c.as_slice.result.now
      (c.as_slice.ensures ∙ c.with-held.ensures) (skip_rest c.after_bytes.new.self) c.after_bytes.new.self.held v;
  within = omega (arith, c.held.invariant.within, behind_within c.held.rest.now);
}

pub returns-in-Err-Fault-clause-stops : goal.returns-in-Err-Fault-clause-stops
returns-in-Err-Fault-clause-stops c = λ fed w.
    let s = c.held.invariant.seen fed w in
    let i = c.in-Err-Fault in
    byte_shows (skip_item deepest) (skip_rest c.held.self) s.0 c.held.self.held c.held.rest.now
    (fed ++ c.args.bytes.now) s.2 s.1 c.in-len1-up.len_at_least c.as_slice.result.now
    (c.as_slice.ensures ∙ c.with-held.ensures) i.error i.after (rw i.field-0-is at i.ensures.stops)

pub overflow_add-result : goal.overflow_add-result
overflow_add-result c =
    let b = c.as_slice.result.now in
    let whole = c.in-Ok.ensures.whole in
    omega (
      arith,
      ends_within b c.in-Ok.over whole,
      behind_within c.held.rest.now,
      c.held.invariant.within,
      ap length (c.as_slice.ensures ∙ c.with-held.ensures),
      length-append c.held.self.held (get_or c.held.rest.now 0 0 ∷ []),
    )

pub overflow_add-after : goal.overflow_add-after
overflow_add-after c =
    let b = c.as_slice.result.now in
    let i = c.in-Err-Fault in
    let shown = rw i.field-0-is at i.ensures.stops in
    omega (
      arith,
      shows_within b i.error i.after shown,
      behind_within c.held.rest.now,
      c.held.invariant.within,
      ap length (c.as_slice.ensures ∙ c.with-held.ensures),
      length-append c.held.self.held (get_or c.held.rest.now 0 0 ∷ []),
    )

pub returns-clause-whole : goal.returns-clause-whole
returns-clause-whole c = λ fed w.
    let s = c.held.invariant.seen fed w in
    IfOk-weaker c.after_bytes-2.result _ _ (λ after ends. rest_ends (skip_item deepest) (skip_rest c.held.self) s.0
    c.held.self.held c.held.rest.now (fed ++ c.args.bytes.now) s.2 s.1 (omega arith) after ends)
    c.after_bytes-2.ensures.whole

pub returns-clause-stops : goal.returns-clause-stops
returns-clause-stops c = λ fed w.
    let s = c.held.invariant.seen fed w in
    IfErr-weaker c.after_bytes-2.result _ _ (λ stop stopped. rest_stops (skip_item deepest) (skip_rest c.held.self) s.0
    c.held.self.held c.held.rest.now (fed ++ c.args.bytes.now) s.2 s.1 (omega arith) c.after_bytes-2.new.self stop
    stopped) c.after_bytes-2.ensures.stops
