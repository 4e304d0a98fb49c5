use Rattle.std.proofs.Common.{ap, sym, ◌∙◌, ◌++◌, string_bytes, arith}
use Rattle.std.proofs.lemmas.Grind.{common_steps}
use Rattle.std.proofs.lemmas.Iterator.{YieldsList-from_chars}
use Rattle.std.proofs.lemmas.Iterator.Consumers.{YieldsList-end}
use Rattle.std.proofs.lemmas.List.{map-id}
use Rattle.std.proofs.lemmas.Result.{err_from_is_err_and}
use Rattle.std.specs.List.{flat_map}
use Rattle.cbor_tokens.specs.Escapes.{shown_char}
use Rattle.cbor_tokens.proofs.texts.Fronts.{front_before}
use Rattle.cbor_tokens.proofs.escapes.hidden.push_shown.Goals as goal

-- the loop has gone over the characters of the text
pub returns : goal.returns
returns c =
    let t = YieldsList-end (YieldsList-from_chars c.args.text.now c.utf8.text cc) c.loop-character.yielded _
    c.loop-character.yielded_by _ _ c.in-None.is c.next.ensures.steps in
    c.loop-character.invariant ∙ ap (λ written. string_bytes c.args.out.now ++ flat_map shown_char written)
    (sym (map-id c.loop-character.yielded) ∙ t.0)

pub returns-in_err-push_shown_char : goal.returns-in_err-push_shown_char
returns-in_err-push_shown_char c =
    let p = err_from_is_err_and c.from_residual.result c.from_residual.ensures.1 in
    rw p.1 (front_before _ (string_bytes c.loop-character.out) _ _ c.loop-character.invariant
    c.in_err-push_shown_char.ensures)

pub loop-character-preserved : goal.loop-character-preserved
loop-character-preserved c = grind (arith, common_steps)
