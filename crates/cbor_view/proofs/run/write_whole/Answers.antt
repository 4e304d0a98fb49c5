use Rattle.std.proofs.Common.{rules, sym, subst}
use Rattle.std.proofs.lemmas.List.{take_rest}
use Rattle.std.proofs.Math.Seq.{take-add}
use Rattle.std.proofs.KnownBytes.{Appends-trans}
use Rattle.std.specs.Io.KnownBytes.{Appends}
use Rattle.cbor_view.proofs.run.write_whole.Goals as goal

pub loop-written-preserved : goal.loop-written-preserved
loop-written-preserved g c =
    let before = c.loop-written.invariant in
    let piece = rw (take_rest c.args.bytes.now c.loop-written.written) at c.in-Ok.ensures.bytes in
    record {
      within = search rules;
      taken = subst (Appends _ _) (sym (take-add c.loop-written.written c.in-Ok.count c.args.bytes.now))
          (Appends-trans _ _ _ _ _ before.taken piece);
      failures = search rules;
    }
