-- What is written and the text of the chunks that are left are the text of all chunks.
use Rattle.std.proofs.Common.{◌≡◌, ◌++◌, true, map, drop}
use Rattle.std.specs.Io.{StartsWith}
use Rattle.std.specs.String.{string_bytes}
use Rattle.cbor_grammar.specs.NotationText.{string_text}
use Rattle.cbor_notation_writer.proofs.text.Scalars.{members_left}
use Rattle.cbor_notation_writer.proofs.members.push_chunks.Given as goal

abbrev pub invariant-chunks : goal.invariant-chunks
invariant-chunks g l =
    let chunk = g.S.DefiniteString.chunk in
    let texts = map (λ s. string_text g.S.DefiniteString.kind l.context.encoding s.bytes) in
    let style = l.style in
    record {
      written : string_bytes l.out ++ members_left style l.first (texts (map chunk (drop l.chunk-index l.chunks)))
          ≡ string_bytes l.initial.out ++ members_left style true (texts (map chunk l.chunks));
      begins : StartsWith (string_bytes l.out) (string_bytes l.fn.out);
    }
