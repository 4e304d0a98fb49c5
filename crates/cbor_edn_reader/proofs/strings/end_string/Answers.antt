use Rattle.std.proofs.Common.{Option, Some, ap, refl}
use Rattle.cbor_grammar.specs.Item.{Chunk, atom, string}
use Rattle.cbor_edn_grammar.specs.Reading.{◌>>=◌}
use Rattle.cbor_edn_reader.proofs.strings.end_string.Goals as goal

pub returns-in_ok-end_chunk-in-Some : goal.returns-in_ok-end_chunk-in-Some
returns-in_ok-end_chunk-in-Some c =
    let d = c.in_ok-end_chunk-in-Some.ensures in (
      atom (string c.args.kind d.0),
      rw c.in-Some.is (ap (λ (r : Option Chunk). r >>= λ chunk. Some (atom (string c.args.kind chunk))) d.1),
      d.2,
      refl,
    )
