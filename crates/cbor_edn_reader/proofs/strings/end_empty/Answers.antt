use Rattle.std.proofs.Common.{◌+◌, ◌≤◌, [], length, refl, arith}
use Rattle.cbor_grammar.specs.Item.{atom, chunked_string}
use Rattle.cbor_edn_reader.proofs.NoChunks.{no_content, no_chunks_written}
use Rattle.cbor_edn_reader.proofs.strings.end_empty.Goals as goal

pub returns : goal.returns
returns c =
    let old = c.args.out.now.items in
    let le : length old ≤ c.args.place + 1 = omega (arith, c.len.ensures, c.args.out.now.ok.0) in (
      atom (chunked_string c.args.kind []),
      no_content c.args.kind c.args.place old le,
      no_chunks_written c.args.kind c.args.place old _ _ le (rw c.major.ensures at c.in_ok-put_open.ensures)
          c.in_ok-push.ensures.items,
      refl,
    )
