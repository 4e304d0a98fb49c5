-- A note is before what is written.
use Rattle.std.proofs.Common.{◌≡◌, ◌++◌, codes, subst}
use Rattle.std.specs.String.{string_bytes}
use Rattle.cbor_tokens.specs.Appends.{Appends}
use Rattle.cbor_grammar.specs.NotationText.{number}
use Rattle.cbor_edn_writer.specs.EdnLeaves.{marked}
use Rattle.cbor_edn_writer.proofs.writing.Appended.{after_wrote, wrote_one}
use Rattle.cbor_edn_writer.proofs.print.noted.NotedEdnDialect.tag.Goals as goal

pub returns : goal.returns
returns c =
    let mid = string_bytes c.push_before.new.out in
    let new = string_bytes c.push_tag.new.out in
    let core = number c.args.tag (marked c.args.place.now.style.widths c.args.tag c.args.width) ++ codes "(" in
    after_wrote c.push_tag.result c.args.place.now (λ t. t ≡ core) (string_bytes c.args.out.now) mid new
    c.in_ok-push_before.ensures
    (wrote_one c.push_tag.result mid new core
    (subst (λ w. Appends c.push_tag.result mid new (number c.args.tag w ++ codes "(")) c.shown_width.ensures
    c.push_tag.ensures))
