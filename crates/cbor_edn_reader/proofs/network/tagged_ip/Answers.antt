use Rattle.std.proofs.Common.{◌+◌, ◌-◌, ◌++◌, Option, Some, refl, ap, ◌∙◌, append_assoc, arith}
use Rattle.std.proofs.lemmas.Result.{err_from_is_err_and}
use Rattle.cbor_grammar.specs.declared.width.IntegerWidth.TheVariants.{Unknown}
use Rattle.cbor_grammar.specs.Item.{Item, tagged}
use Rattle.cbor_grammar.specs.Written.{encoded, encoded_head}
use Rattle.cbor_edn_grammar.specs.Address.{ip_tag}
use Rattle.cbor_edn_grammar.specs.Reading.{◌>>=◌}
use Rattle.cbor_edn_grammar.proofs.Turns.{refused_step}
use Rattle.cbor_edn_tokens.proofs.Addresses.{tagged_ip_none, tagged_ip_left}
use Rattle.cbor_edn_reader.proofs.network.tagged_ip.Goals as goal

pub returns-then-inner-gt-DEEPEST : goal.returns-then-inner-gt-DEEPEST
returns-then-inner-gt-DEEPEST c = tagged_ip_none (129 - c.args.inner) c.args.content.now (omega arith)

pub returns-in_err-ip_item : goal.returns-in_err-ip_item
returns-in_err-ip_item c =
    let p = err_from_is_err_and c.from_residual-in_err-ip_item.result c.from_residual-in_err-ip_item.ensures.1 in
    let is = tagged_ip_left (129 - c.args.inner) (129 - (c.args.inner + 1)) c.args.content.now (omega arith) in
    rw (p.1, p.2, is) (refused_step c.in_err-ip_item.field-0.0 _
    (λ i. Some (tagged (ip_tag c.args.content.now) Unknown i))
    c.in_err-ip_item.ensures)

pub returns : goal.returns
returns c =
    let is = tagged_ip_left (129 - c.args.inner) (129 - (c.args.inner + 1)) c.args.content.now (omega arith) in
    let tag = ip_tag c.args.content.now in
    let d = c.in_ok-ip_item.ensures in (
      tagged tag Unknown d.0,
      is ∙ ap (λ (r : Option Item). r >>= λ i. Some (tagged tag Unknown i)) d.1,
      d.2 ∙ ap (λ b. b ++ encoded d.0) (c.in_ok-push_head.ensures
          ∙ ap (λ t. c.args.out.now.items ++ encoded_head 6 t Unknown) c.ip_tag.ensures)
          ∙ append_assoc c.args.out.now.items (encoded_head 6 tag Unknown) (encoded d.0),
      refl,
    )
