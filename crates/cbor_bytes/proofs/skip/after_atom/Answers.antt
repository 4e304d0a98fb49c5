-- Where skipping stops in a string, which is the one item without parts that has content.
use Rattle.std.proofs.Common.{sym, subst}
use Rattle.std.proofs.lemmas.Result.{IfErr-weaker}
use Rattle.cbor_grammar.specs.declared.head.ItemHead.{ItemHead}
use Rattle.cbor_bytes.specs.mirror.Skipping.{StopsSo, skip_body}
use Rattle.cbor_bytes.proofs.skip.after_atom.Goals as goal

pub returns-in-String-clause-stops : goal.returns-in-String-clause-stops
returns-in-String-clause-stops c = λ left. IfErr-weaker c.after_string.result _ _ (λ stop stops.
    subst (λ (h : ItemHead). StopsSo (skip_body left h) c.args.bytes.now stop) (sym c.in-String.is)
    stops)
    (c.after_string.ensures.stops left)
