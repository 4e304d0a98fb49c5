-- The contract of the encoding: it is the only strict one, is read back, and tells items apart.
use Rattle.std.proofs.Common.{◌++◌, ap, sym, subst, ◌∙◌}
use Rattle.cbor_diag.specs.View.{view}
use Rattle.cbor_grammar.specs.Written.{encoded, resolve}
use Rattle.cbor_grammar.specs.Bytes.{any, strict, Spells}
use Rattle.cbor_grammar.proofs.bytes.Strict.{strict_any, strict_encoded, strict_only, encoded-resolve}
use Rattle.cbor_grammar.proofs.bytes.Resolved.{written_alike, resolved_alike}
use Rattle.cbor_diag.proofs.syntax.DataItem.to_bytes.Goals as goal

pub returns-in_err-push_bytes-clause-alike : goal.returns-in_err-push_bytes-clause-alike
returns-in_err-push_bytes-clause-alike c =
    let i = view c.args.self.now in
    λ other well. (written_alike i other c.requires well, resolved_alike i other)

pub returns-clause-strictly : goal.returns-clause-strictly
returns-clause-strictly c =
    let i = view c.args.self.now in
    let written = c.in_ok-push_bytes.ensures.bytes ∙ ap (λ x. x ++ encoded i) c.new-out.ensures.items in
    subst (λ x. Spells strict 1 x (resolve i)) (sym written) (strict_encoded 1 i c.requires)

pub returns-clause-no_other : goal.returns-clause-no_other
returns-clause-no_other c =
    let i = view c.args.self.now in
    let written = c.in_ok-push_bytes.ensures.bytes ∙ ap (λ x. x ++ encoded i) c.new-out.ensures.items in
    λ b spelled. strict_only 1 b (resolve i) spelled ∙ encoded-resolve i ∙ sym written

pub returns-clause-read_back : goal.returns-clause-read_back
returns-clause-read_back c =
    let i = view c.args.self.now in
    let written = c.in_ok-push_bytes.ensures.bytes ∙ ap (λ x. x ++ encoded i) c.new-out.ensures.items in
    subst (λ x. Spells any 1 x (resolve i)) (sym written)
    (strict_any 1 (encoded i) (resolve i) (strict_encoded 1 i c.requires))

pub returns-clause-alike : goal.returns-clause-alike
returns-clause-alike c =
    let i = view c.args.self.now in
    λ other well. (written_alike i other c.requires well, resolved_alike i other)
