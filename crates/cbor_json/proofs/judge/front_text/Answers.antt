-- The text of the item is one that the dialect has for it.
use Rattle.std.proofs.Common.{ℕ, List, ◌++◌, Bor, Result, Ok, ap, ◌∙◌}
use Rattle.cbor_grammar.specs.declared.error.Error.{Error}
use Rattle.cbor_grammar.specs.Reading.{read_item}
use Rattle.cbor_notation_writer.specs.Dialect.{anywhere}
use Rattle.cbor_notation_writer.proofs.straight.Located.{written_plain}
use Rattle.cbor_json.specs.JsonLeaves.{json_leaves}
use Rattle.cbor_json.proofs.judge.front_text.Goals as goal

pub returns-clause-written : goal.returns-clause-written
returns-clause-written c =
    let gave : Result (Bor (List ℕ)) Error = Ok c.in_ok-rest.rest in
    let place = c.new-place.result in
    let bytes = c.args.bytes.now in
    let w = written_plain json_leaves (anywhere json_leaves) (λ p left q at. at) gave (λ rest. rest.now) place bytes
    (read_item 128 bytes) _ _ c.in_ok-rest.ensures.written in (
      w.0,
      w.1,
      w.2,
      record { place = place; outermost = c.new-place.ensures.outermost; written = w.3 },
      w.4 ∙ ap (λ x. x ++ w.2) c.in_ok-text.ensures.bytes,
    )
