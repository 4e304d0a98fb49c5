-- A text without an escape is written as it is.
use Rattle.std.proofs.Common.{sym, subst, ◌∙◌}
use Rattle.std.specs.String.{string_bytes}
use Rattle.cbor_tokens.specs.Appends.{Appends}
use Rattle.cbor_tokens.proofs.texts.Appending.{appends_of}
use Rattle.cbor_tokens.proofs.escaping.Unescaped.{unescaped_text}
use Rattle.cbor_tokens.proofs.escapes.push_escaped.Goals as goal

pub returns-then-not-may_have_escapes : goal.returns-then-not-may_have_escapes
returns-then-not-may_have_escapes c =
    let text = c.args.text.now in
    let old = string_bytes c.args.out.now in
    let new = string_bytes c.push_str.new.self in
    let same = unescaped_text text c.utf8.text (sym c.may_have_escapes.ensures ∙ c.if-not-may_have_escapes.true) in
    subst (λ x. Appends c.push_str.result old new x) (sym same)
    (appends_of c.push_str.result old new text c.push_str.ensures.bytes)
