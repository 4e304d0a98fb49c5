use Rattle.std.proofs.Common.{List, ℕ, sym, ap, ◌∙◌}
use Rattle.cbor_edn_grammar.specs.Float.{is_decimal}
use Rattle.cbor_edn_grammar.proofs.Floats.{some_decimal}
use Rattle.cbor_edn_tokens.proofs.float.is_decimal_word.Goals as goal

pub returns-clause-some : goal.returns-clause-some
returns-clause-some c = λ t.
    some_decimal c.args.word.now (ap (λ (p : List ℕ × List ℕ). is_decimal p.0) (sym c.digits_and_width.ensures)
    ∙ sym c.is_decimal.ensures ∙ t)
