-- Where scanning pauses in a string, which is the one item without parts that has content.
use Rattle.std.proofs.Common.{sym, subst}
use Rattle.std.proofs.lemmas.Result.{IfErr-weaker}
use Rattle.cbor_bytes.specs.mirror.Scanning.{Pauses, skip_due}
use Rattle.cbor_grammar.specs.declared.head.ItemHead.{ItemHead}
use Rattle.cbor_bytes.specs.mirror.Skipping.{skip_body}
use Rattle.cbor_bytes.proofs.skip.due.after_atom_due.Goals as goal

pub returns-in-String-clause-pauses : goal.returns-in-String-clause-pauses
returns-in-String-clause-pauses c = λ left. IfErr-weaker c.after_string_due.result _ _ (λ pause pauses.
    subst (λ (h : ItemHead). Pauses skip_due (skip_body left h) c.args.bytes.now pause) (sym c.in-String.is)
    pauses)
    (c.after_string_due.ensures.pauses left)
