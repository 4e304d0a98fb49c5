use Rattle.std.proofs.Common.{◌+◌, drop, get_or, vec_items, ap, ◌∙◌}
use Rattle.cbor_inputs.specs.declared.loose.Mode.TheVariants.{Apart}
use Rattle.cbor_inputs.specs.Loose.{loose}
use Rattle.cbor_inputs.proofs.LooseLemmas.{loose_turn, keep_step, skip_step}
use Rattle.cbor_inputs.proofs.loose.kept.Goals as goal
use Rattle.cbor_inputs.proofs.loose.kept.Goals.{then-keeps+in_ok-push, else-keeps}

pub text-preserved : goal.text-preserved
text-preserved c =
    let text = c.args.text.now in
    let at = c.text.at in
    let keeps = c.turn-keeps.result.0 in
    let after = c.turn-keeps.result.1 in
    let turn = loose_turn c.text.mode text at keeps after c.text-test.true
    (cc (c.turn-keeps.ensures, c.byte_at.ensures)) in
    elim c.if-keeps.branch [
      | then-keeps+in_ok-push w ↦
          keep_step (vec_items c.text.digits) (vec_items c.if-keeps.digits) keeps (get_or text at 0)
          (loose after (drop (at + 1) text)) (loose c.text.mode (drop at text)) (loose Apart text) c.text.invariant turn
          w.if-keeps.true (ap vec_items w.digits-is ∙ w.in_ok-push.ensures.items)
      | else-keeps w ↦
          skip_step (vec_items c.text.digits) (vec_items c.if-keeps.digits) keeps (get_or text at 0)
          (loose after (drop (at + 1) text)) (loose c.text.mode (drop at text)) (loose Apart text) c.text.invariant turn
          w.if-keeps.false (ap vec_items w.digits-is)
    ]
