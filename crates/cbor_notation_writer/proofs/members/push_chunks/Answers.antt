-- What is appended for a string in chunks is its text, which keeps the kind where there are none.
use Rattle.std.proofs.Common.{◌≡◌, ◌+◌, List, ℕ, [], ◌∷◌, ◌++◌, map, length, drop, eqb, false, sym, ap, ◌∙◌}
use Rattle.std.proofs.lemmas.List.{drop_all, length-map}
use Rattle.std.specs.String.{string_bytes}
use Rattle.cbor_grammar.specs.Item.{Chunk}
use Rattle.cbor_grammar.specs.StringKind.{no_chunks}
use Rattle.cbor_grammar.specs.NotationText.{string_text, chunks_listed}
use Rattle.cbor_grammar.specs.mirror.StringView.{bytes_of}
use Rattle.cbor_tokens.proofs.texts.Appending.{begins_after_member, appends_last}
use Rattle.cbor_notation_writer.proofs.text.Scalars.{drop_here, member_more, members_end, chunks_written}
use Rattle.cbor_grammar.proofs.text.Parts.{bracketed_written}
use Rattle.cbor_notation_writer.proofs.members.push_chunks.Goals as goal

pub chunks-preserved : goal.chunks-preserved
chunks-preserved g c =
    let kind = g.S.DefiniteString.kind in
    let encoding = c.args.context.now.encoding in
    let begun_at = string_bytes c.push_start.new.out in
    let all = c.args.chunks.now in
    let i = c.chunks.chunk-index in
    let here : drop i all ≡ c.chunk-item.result ∷ drop (i + 1) all =
    drop_here all i c.chunk-item.result c.chunks-test.true c.chunk-item.is in
    let content = c.content.result in
    let written = c.in_ok-push_string.ensures
    ∙ ap (λ k. begun_at ++ string_text k encoding (bytes_of content)) c.content.ensures.kind
    ∙ ap (λ b. begun_at ++ string_text kind encoding b) c.content.ensures.bytes in
    let begun = begins_after_member (string_bytes c.args.out.now) (string_bytes c.chunks.out)
    (string_bytes c.push_start.new.out)
    (string_bytes c.push_string.new.out) (string_bytes c.push_end.new.out) _ _ _ c.chunks.invariant.begins
    c.in_ok-push_start.ensures c.in_ok-push_string.ensures c.in_ok-push_end.ensures in
    record {
      written = member_more c.chunks_style-style.result c.chunks.first _ _ (string_bytes c.chunks.out)
          (string_bytes c.push_start.new.out) (string_bytes c.push_string.new.out) (string_bytes c.push_end.new.out) _
          c.in_ok-push_start.ensures written c.in_ok-push_end.ensures (rw here at c.chunks.invariant.written);
      begins = begun;
    }

pub returns : goal.returns
returns g c =
    let kind = g.S.DefiniteString.kind in
    let all = c.args.chunks.now in
    let cs = map g.S.DefiniteString.chunk all in
    let out = string_bytes c.args.out.now in
    let l = c.chunks_style-style.result in
    let none : drop c.chunks.chunk-index all ≡ [] = drop_all c.chunks.chunk-index all c.chunks-test.false in
    let f : Chunk → List ℕ = λ s. string_text kind c.args.context.now.encoding s.bytes in
    let whole = members_end l c.chunks.first (string_bytes c.chunks.out) _ _ (rw none at c.chunks.invariant.written) in
    let some : eqb (length cs) 0 ≡ false = rw length-map (sym c.is_empty.ensures ∙ c.if-is_empty.false) in
    appends_last c.push_closing.result out (string_bytes c.chunks.out) (string_bytes c.push_closing.new.out) _ _
    c.chunks.invariant.begins
    (λ e. bracketed_written l _ _ _ out (string_bytes c.push_opening.new.out) (string_bytes c.chunks.out)
    (string_bytes c.push_closing.new.out)
    c.in_ok-push_opening.ensures whole e ∙ ap (λ t. out ++ t) (sym (chunks_written l (no_chunks kind) f cs some))
    ∙ ap (λ k. out ++ chunks_listed k (no_chunks kind) (map f cs)) c.chunks_style-style.ensures)
    c.push_closing.ensures
