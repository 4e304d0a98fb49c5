use Rattle.std.proofs.Common.{◌≡◌, ◌++◌, ◌∷◌, [], length, map, arith}
use Rattle.std.proofs.lemmas.Result.{err_from_is_err_and}
use Rattle.std.proofs.lemmas.List.{map_push}
use Rattle.cbor_grammar.specs.Reading.{later, read_chunks}
use Rattle.cbor_grammar.proofs.turns.ChunkLoops.{chunk_fails, more_chunk, chunk_wants, no_more_chunk}
use Rattle.cbor_bytes.proofs.strings.read_chunks.Goals as goal

pub returns-in_err-chunk-clause-gives : goal.returns-in_err-chunk-clause-gives
returns-in_err-chunk-clause-gives g c =
    let p = err_from_is_err_and c.from_residual.result c.from_residual.ensures.1 in
    let i = c.chunks.invariant in
    let b = c.args.bytes.now in
    let total = later c.args.turns.now (read_chunks (length b) g.S.DefiniteString.kind b) in
    rw (p.1, p.2, c.rise.ensures) (chunk_fails c.in_err-chunk.field-0.0 g.S.DefiniteString.kind
    (map g.S.DefiniteString.chunk c.chunks.chunks.items) c.chunks.turns i.bound c.chunks.rest.now total i.enough
    c.in_err-chunk.ensures.gives i.so_far)

pub returns-in_err-push-clause-gives : goal.returns-in_err-push-clause-gives
returns-in_err-push-clause-gives g c =
    let p = err_from_is_err_and c.from_residual-in_err-push.result c.from_residual-in_err-push.ensures.1 in
    let i = c.chunks.invariant in
    let front = map g.S.DefiniteString.chunk c.chunks.chunks.items in
    let gave = rw c.in-Some.is at c.in_ok-chunk.ensures.gives in
    let b = c.args.bytes.now in
    let total = later c.args.turns.now (read_chunks (length b) g.S.DefiniteString.kind b) in
    let wants =
    chunk_wants g.S.DefiniteString.kind front c.chunks.turns i.bound c.chunks.rest.now
    (g.S.DefiniteString.chunk c.in-Some.chunk)
    c.in_ok-chunk.after.now total gave c.in_ok-chunk.ensures.shorter i.enough i.so_far in
    rw (p.1, p.2, c.rise.ensures) wants

pub returns-in_default-clause-gives : goal.returns-in_default-clause-gives
returns-in_default-clause-gives g c =
    let i = c.chunks.invariant in
    let b = c.args.bytes.now in
    let total = later c.args.turns.now (read_chunks (length b) g.S.DefiniteString.kind b) in
    rw c.rise.ensures (no_more_chunk g.S.DefiniteString.kind (map g.S.DefiniteString.chunk c.chunks.chunks.items)
    c.chunks.turns i.bound c.chunks.rest.now c.in_ok-chunk.after.now total
    (rw c.in_default.is at c.in_ok-chunk.ensures.gives) c.in_ok-chunk.ensures.shorter i.enough i.so_far)

pub chunks-preserved : goal.chunks-preserved
chunks-preserved g c =
    let i = c.chunks.invariant in
    let read = c.chunks.chunks.items in
    let b = c.args.bytes.now in
    let total = later c.args.turns.now (read_chunks (length b) g.S.DefiniteString.kind b) in
    let pushed : map g.S.DefiniteString.chunk c.push.new.self.items ≡ map g.S.DefiniteString.chunk read
    ++ g.S.DefiniteString.chunk c.in-Some.chunk ∷ [] =
    rw c.in_ok-push.ensures.items (map_push _ read c.in-Some.chunk) in
    let next = more_chunk g.S.DefiniteString.kind (map g.S.DefiniteString.chunk read) c.chunks.turns i.bound
    c.chunks.rest.now (g.S.DefiniteString.chunk c.in-Some.chunk) c.in_ok-chunk.after.now total
    (rw c.in-Some.is at c.in_ok-chunk.ensures.gives) c.in_ok-chunk.ensures.shorter i.enough i.so_far in
    record {
      bound = next.0;
      enough = next.1;
      so_far = rw (pushed, c.rise.ensures) next.2;
      falls = omega (arith, c.in_ok-chunk.ensures.shorter);
      rises = omega arith;
    }
