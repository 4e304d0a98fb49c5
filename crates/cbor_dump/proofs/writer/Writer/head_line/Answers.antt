-- The line of a head has its few bytes, and its comment.
use Rattle.std.proofs.Common.{[], ◌∷◌, List, ℕ, OnOk, ap, subst, ◌∙◌}
use Rattle.cbor_dump.specs.Dump.{head_line}
use Rattle.cbor_dump.specs.mirror.Dumped.{Wrote, head_bytes}
use Rattle.cbor_dump.specs.mirror.ShownLines.{comment_text}
use Rattle.cbor_dump.proofs.dump.HeadLines.{head_few, head_is}
use Rattle.cbor_dump.proofs.writer.Writer.head_line.Goals as goal

pub line-requires : goal.line-requires
line-requires c = record {
  depth = c.requires.depth;
  few = head_few c.args.head c.args.bytes.now c.in_default.not-Simple c.requires.bytes;
}

pub returns-in_default : goal.returns-in_default
returns-in_default c =
    let line = head_line c.args.depth in
    let bytes = head_is c.args.head c.args.bytes.now c.in_default.not-Simple c.requires.bytes in
    let same = ap (λ (b : List ℕ). line b (comment_text c.of.result)) bytes
    ∙ ap (line (head_bytes c.args.head)) (c.of.ensures c.requires.bytes) in
    subst (λ l. OnOk c.line.result (Wrote c.args.self.now c.line.new.self (l ∷ []))) same c.line.ensures
