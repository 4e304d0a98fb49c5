use Rattle.std.proofs.Common.{◌≡◌, ◌++◌, drop, map}
use Rattle.std.specs.List.{flat_map}
use Rattle.cbor_grammar.specs.Item.{Chunk}
use Rattle.cbor_grammar.specs.Strings.{byte_chunk}
use Rattle.cbor_inspect.proofs.raw.joined_bytes.Given as goal

-- what was joined, and the contents that are left, are those of all chunks
abbrev pub invariant-chunks : goal.invariant-chunks
invariant-chunks l = l.joined.items ++ flat_map (λ (c : Chunk). c.bytes) (map byte_chunk (drop l.chunk-index l.chunks))
    ≡ flat_map (λ (c : Chunk). c.bytes) (map byte_chunk l.chunks)
