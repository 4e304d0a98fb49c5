use Rattle.std.proofs.Common.{◌≡◌, ◌+◌, ◌-◌, Option, Some, sym, ap, subst, ◌∙◌, arith}
use Rattle.cbor_diag.specs.View.{view}
use Rattle.cbor_grammar.specs.WellFormed.{WellFormed}
use Rattle.std.proofs.lemmas.Result.{err_from_is_err_and}
use Rattle.cbor_grammar.specs.declared.width.IntegerWidth.TheVariants.{Unknown}
use Rattle.cbor_grammar.specs.Item.{Item, tagged}
use Rattle.cbor_edn_grammar.specs.Reading.{◌>>=◌}
use Rattle.cbor_edn_grammar.proofs.Turns.{refused_step}
use Rattle.cbor_edn_reader.proofs.Dates.{tagged_none, tagged_left}
use Rattle.cbor_edn.proofs.date.tagged_date.Goals as goal

pub returns-then-inner-gt-DEEPEST-clause-gives : goal.returns-then-inner-gt-DEEPEST-clause-gives
returns-then-inner-gt-DEEPEST-clause-gives c = tagged_none (129 - c.args.inner) c.args.content.now (omega arith)

pub returns-in_err-item-clause-gives : goal.returns-in_err-item-clause-gives
returns-in_err-item-clause-gives c =
    let p = err_from_is_err_and c.from_residual.result c.from_residual.ensures.1 in
    let is = tagged_left (129 - c.args.inner) (129 - (c.args.inner + 1)) c.args.content.now (omega arith) in
    rw (p.1, p.2, is) (refused_step c.in_err-item.field-0.0 _ (λ i. Some (tagged 1 Unknown i))
    c.in_err-item.ensures.gives)

pub returns-clause-gives : goal.returns-clause-gives
returns-clause-gives c =
    let is = tagged_left (129 - c.args.inner) (129 - (c.args.inner + 1)) c.args.content.now (omega arith) in
    is ∙ ap (λ (r : Option Item). r >>= λ i. Some (tagged 1 Unknown i)) c.in_ok-item.ensures.gives
    ∙ ap Some (sym c.in_ok-found.ensures.is)

pub returns-clause-well : goal.returns-clause-well
returns-clause-well c =
    let level : c.args.inner + 1 - 1 ≡ c.args.inner - 1 + 1 = omega arith in
    c.in_ok-found.ensures.well (c.args.inner - 1) (omega arith)
    (subst (λ l. WellFormed l (view c.in_ok-item.item)) level c.in_ok-item.ensures.well)
