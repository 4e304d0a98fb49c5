-- A note is before what is written.
use Rattle.std.proofs.Common.{◌≡◌}
use Rattle.std.specs.String.{string_bytes}
use Rattle.cbor_edn_writer.specs.EdnLeaves.{edn_opening}
use Rattle.cbor_edn_writer.proofs.writing.Appended.{after_wrote, wrote_one}
use Rattle.cbor_edn_writer.proofs.print.noted.NotedEdnDialect.opening.Goals as goal

pub returns : goal.returns
returns c =
    let mid = string_bytes c.push_before.new.out in
    let new = string_bytes c.push_opening.new.out in
    let core = edn_opening c.args.container c.args.style in
    after_wrote c.push_opening.result c.args.place.now (λ t. t ≡ core) (string_bytes c.args.out.now) mid new
    c.in_ok-push_before.ensures (wrote_one c.push_opening.result mid new core c.push_opening.ensures)
