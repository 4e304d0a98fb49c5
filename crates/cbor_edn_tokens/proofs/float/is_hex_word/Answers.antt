use Rattle.std.proofs.Common.{List, ℕ, sym, ap, ◌∙◌}
use Rattle.cbor_edn_grammar.specs.HexFloat.{is_hex}
use Rattle.cbor_edn_tokens.proofs.HexFloats.{some_hex}
use Rattle.cbor_edn_tokens.proofs.float.is_hex_word.Goals as goal

pub returns-clause-some : goal.returns-clause-some
returns-clause-some c = λ t.
    some_hex c.args.word.now (ap (λ (p : List ℕ × List ℕ). is_hex p.0) (sym c.name_and_width.ensures)
    ∙ sym c.is_hex.ensures ∙ t)
