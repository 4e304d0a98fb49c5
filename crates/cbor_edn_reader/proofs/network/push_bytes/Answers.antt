use Rattle.std.proofs.Common.{Option, Some, ap, refl}
use Rattle.cbor_grammar.specs.declared.strings.StringKind.TheVariants.{Bytes}
use Rattle.cbor_grammar.specs.Item.{Chunk, atom, string}
use Rattle.cbor_edn_grammar.specs.Reading.{◌>>=◌}
use Rattle.cbor_edn_reader.proofs.network.push_bytes.Goals as goal

pub returns : goal.returns
returns c =
    let d = c.in_ok-push_chunk.ensures in (
      atom (string Bytes d.0),
      ap (λ (r : Option Chunk). r >>= λ chunk. Some (atom (string Bytes chunk))) d.1,
      d.2,
      refl,
    )
