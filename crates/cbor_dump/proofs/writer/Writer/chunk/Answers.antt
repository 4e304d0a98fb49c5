-- The lines of a chunk are its head and its content, one deeper.
use Rattle.std.proofs.Common.{[], ◌∷◌, ℕ, length, ap, subst, ◌∙◌}
use Rattle.std.proofs.lemmas.Result.{on_ok_weaker}
use Rattle.cbor_grammar.specs.declared.argument.Argument.TheVariants.{Number}
use Rattle.cbor_dump.specs.Dump.{string_content_lines}
use Rattle.cbor_grammar.specs.declared.head.ItemHead.TheVariants as item_head
use Rattle.cbor_dump.specs.mirror.Dumped.{context_view, line_of_head, Wrote}
use Rattle.cbor_grammar.specs.mirror.StringView.{bytes_of, kind_of}
use Rattle.cbor_dump.proofs.dump.Walks.{wrote_then}
use Rattle.cbor_dump.proofs.writer.Writer.chunk.Goals as goal

pub returns : goal.returns
returns c =
    let content = c.args.chunk.0 in
    let w = c.args.chunk.1 in
    let p = context_view c.args.context.now in
    let same = ap (λ k. line_of_head p.depth (item_head.String k (Number (length c.as_bytes.result.now) w)))
    c.kind.ensures
    ∙ ap (λ (n : ℕ). line_of_head p.depth (item_head.String (kind_of content) (Number n w)))
    (ap length c.as_bytes.ensures.bytes) in
    let head = subst (λ l. Wrote c.args.self.now c.head_line.new.self (l ∷ [])) same c.in_ok-head_line.ensures in
    on_ok_weaker c.string_content.result
    (wrote_then c.args.self.now c.head_line.new.self c.string_content.new.self _
    (string_content_lines (kind_of content) p (bytes_of content)) head)
    c.string_content.ensures
