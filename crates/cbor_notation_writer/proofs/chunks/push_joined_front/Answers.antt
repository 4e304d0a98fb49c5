-- What is appended from bytes is the text of the bytes of all chunks, or reading the chunks fails the same.
use Rattle.std.proofs.Common.{◌≡◌, List, ℕ, ◌++◌, Result, Ok, Err, OnErr, ap, refl, sym, subst, ◌∙◌}
use Rattle.std.proofs.lemmas.Result.{err_from_is_err_and}
use Rattle.std.specs.Io.{StartsWith}
use Rattle.std.specs.String.{string_bytes}
use Rattle.cbor_grammar.specs.declared.strings.StringKind.TheVariants.{Bytes}
use Rattle.cbor_grammar.specs.Item.{atom, chunked_string}
use Rattle.cbor_grammar.specs.mirror.StringView.{borrowed_chunk}
use Rattle.cbor_tokens.proofs.texts.Appending.{begins_same}
use Rattle.cbor_bytes.proofs.reading.Readings.{fails_then, ok_then}
use Rattle.cbor_bytes.proofs.reading.ChunksRead.{none_read, one_read, all_read, not_read}
use Rattle.cbor_notation_writer.specs.Dialect.{joined, located}
use Rattle.cbor_notation_writer.proofs.straight.ChunkTexts.{joined_more, joined_written}
use Rattle.cbor_notation_writer.proofs.chunks.push_joined_front.Goals as goal

-- after an error nothing was written before
begun : {T E : Type 0} (r : Result T E) (old mid new : List ℕ) → mid ≡ old → StartsWith new mid
    → OnErr r (StartsWith new old)
begun (Ok x) old mid new same h = tt
begun (Err e) old mid new same h = subst (StartsWith new) same h

pub chunks-init : goal.chunks-init
chunks-init g c = record {
  read = none_read Bytes c.args.bytes.now;
  together = c.new-joined.ensures.items;
  same = refl;
}

pub returns-in_err-chunk-clause-refused : goal.returns-in_err-chunk-clause-refused
returns-in_err-chunk-clause-refused g c =
    let p = err_from_is_err_and c.from_residual.result c.from_residual.ensures.1 in
    let e = c.in_err-chunk.field-0.0 in
    rw (p.1, p.2) (fails_then e _ _ (not_read Bytes c.args.bytes.now c.chunks.rest.now e
    c.chunks.invariant.read c.in_err-chunk.ensures.gives))

pub returns-in_err-chunk-clause-begun : goal.returns-in_err-chunk-clause-begun
returns-in_err-chunk-clause-begun g c =
    begun c.from_residual.result (string_bytes c.args.out.now) (string_bytes c.chunks.out) (string_bytes c.chunks.out)
    c.chunks.invariant.same (begins_same (string_bytes c.chunks.out))

pub returns-in_err-string-clause-begun : goal.returns-in_err-string-clause-begun
returns-in_err-string-clause-begun g c =
    begun c.from_residual-in_err-string.result (string_bytes c.args.out.now) (string_bytes c.chunks.out)
    (string_bytes c.string.new.out) c.chunks.invariant.same c.in_err-string.ensures

pub returns-in_err-extend_from_slice-clause-begun : goal.returns-in_err-extend_from_slice-clause-begun
returns-in_err-extend_from_slice-clause-begun g c =
    begun c.from_residual-in_err-extend_from_slice.result (string_bytes c.args.out.now) (string_bytes c.chunks.out)
    (string_bytes c.chunks.out) c.chunks.invariant.same (begins_same (string_bytes c.chunks.out))

pub returns-in_default-clause-printed : goal.returns-in_default-clause-printed
returns-in_default-clause-printed g c =
    let i = c.chunks.invariant in
    let after = c.in_ok-chunk.after.now in
    let cs = i.read.chunks in
    let whole = all_read Bytes c.args.bytes.now c.chunks.rest.now after i.read
    (rw c.in_default.is at c.in_ok-chunk.ensures.gives) c.in_ok-chunk.ensures.shorter in
    let w = c.in_ok-string.ensures in
    let text = joined_written (located g.D.Dialect.leaves g.D.Dialect.becomes)
    (c.args.place.now, c.args.bytes.now) (string_bytes c.args.out.now)
    (string_bytes c.string.new.out) cs c.deref.result.now c.requires.joins
    (c.deref.ensures.value ∙ i.together)
    (w.0, w.1, w.2 ∙ ap (λ x. x ++ w.0) i.same) in
    (atom (chunked_string Bytes cs), ok_then _ (cs, after) _ whole, text.0, text.1, text.2)

pub chunks-preserved : goal.chunks-preserved
chunks-preserved g c =
    let i = c.chunks.invariant in
    let chunk = borrowed_chunk c.in-Some.field-0-1 c.in-Some.content in
    record {
      read = one_read Bytes c.args.bytes.now c.chunks.rest.now chunk c.in_ok-chunk.after.now i.read
          (rw c.in-Some.is at c.in_ok-chunk.ensures.gives) c.in_ok-chunk.ensures.shorter;
      together = c.in_ok-extend_from_slice.ensures.items
          ∙ ap (λ x. x ++ c.as_bytes.result.now) i.together
          ∙ ap (λ x. (joined i.read.chunks).bytes ++ x) c.as_bytes.ensures.bytes
          ∙ sym (joined_more i.read.chunks chunk);
      same = i.same;
    }
