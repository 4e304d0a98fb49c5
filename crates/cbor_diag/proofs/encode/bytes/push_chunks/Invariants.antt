-- What is written, the encoding of the chunks that are left and the break are the whole string.
use Rattle.std.proofs.Common.{◌≡◌, [], ◌∷◌, ◌++◌, map, drop}
use Rattle.std.specs.Io.{StartsWith}
use Rattle.std.specs.List.{AllByRecursion, flat_map}
use Rattle.cbor_grammar.specs.StringKind.{major_of}
use Rattle.cbor_grammar.specs.WellFormed.{IsChunk}
use Rattle.cbor_grammar.specs.Head.{break_byte}
use Rattle.cbor_grammar.specs.Written.{encoded_chunk, encoded_chunks}
use Rattle.cbor_diag.proofs.encode.bytes.push_chunks.Given as goal

abbrev pub invariant-chunks : goal.invariant-chunks
invariant-chunks g l =
    let kind = g.S.DefiniteString.kind in
    let rest = map g.S.DefiniteString.chunk (drop l.chunk-index l.chunks) in
    record {
      written : l.out.items ++ (flat_map (encoded_chunk (major_of kind)) rest ++ break_byte ∷ []) ≡ l.fn.out.items
          ++ encoded_chunks (major_of kind) (map g.S.DefiniteString.chunk l.chunks);
      well : AllByRecursion (IsChunk kind) rest;
      begins : StartsWith l.out.items l.fn.out.items;
    }
