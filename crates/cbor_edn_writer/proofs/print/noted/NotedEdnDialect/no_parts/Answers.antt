-- A note is before what is written.
use Rattle.std.proofs.Common.{◌≡◌}
use Rattle.std.specs.String.{string_bytes}
use Rattle.cbor_grammar.specs.StringKind.{no_chunks}
use Rattle.cbor_edn_writer.proofs.writing.Appended.{after_wrote, wrote_one}
use Rattle.cbor_edn_writer.proofs.print.noted.NotedEdnDialect.no_parts.Goals as goal

pub returns : goal.returns
returns c =
    let mid = string_bytes c.push_before.new.out in
    let new = string_bytes c.push_no_parts.new.out in
    after_wrote c.push_no_parts.result c.args.place.now (λ t. t ≡ no_chunks c.args.kind)
    (string_bytes c.args.out.now) mid new c.in_ok-push_before.ensures
    (wrote_one c.push_no_parts.result mid new (no_chunks c.args.kind) c.push_no_parts.ensures)
