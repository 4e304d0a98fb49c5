-- The name of a key is a text that the dialect has for the key.
use Rattle.std.proofs.Common.{ℕ, List, Bor, Result, Ok}
use Rattle.cbor_grammar.specs.declared.error.Error.{Error}
use Rattle.cbor_grammar.specs.mirror.AtLevel.{read_at}
use Rattle.cbor_notation_writer.specs.Dialect.{anywhere}
use Rattle.cbor_notation_writer.proofs.straight.Located.{written_plain}
use Rattle.cbor_json.specs.JsonLeaves.{json_leaves}
use Rattle.cbor_json.proofs.walk.push_name.Goals as goal

pub returns-in-Ok-push-clause-written : goal.returns-in-Ok-push-clause-written
returns-in-Ok-push-clause-written c =
    let gave : Result (Bor (List ℕ)) Error = Ok c.in-Ok.rest in
    written_plain json_leaves (anywhere json_leaves) (λ p left q at. at) gave (λ rest. rest.now) c.args.place.now
    c.args.bytes.now (read_at c.args.place.now.level c.args.bytes.now) _ _ c.in-Ok.ensures.printed
