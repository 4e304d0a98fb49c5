-- What is written has no note of a caller.
use Rattle.std.proofs.Common.{◌++◌, codes, subst}
use Rattle.std.specs.String.{string_bytes}
use Rattle.cbor_tokens.specs.Appends.{Appends}
use Rattle.cbor_grammar.specs.NotationText.{number}
use Rattle.cbor_edn_writer.specs.EdnLeaves.{marked}
use Rattle.cbor_edn_writer.proofs.writing.Appended.{after_nothing}
use Rattle.cbor_edn_writer.proofs.print.EdnDialect.tag.Goals as goal

pub returns : goal.returns
returns c =
    let old = string_bytes c.args.out.now in
    let new = string_bytes c.push_tag.new.out in
    let core = number c.args.tag (marked c.args.place.now.style.widths c.args.tag c.args.width) ++ codes "(" in
    after_nothing c.push_tag.result c.args.place.now core old new
    (subst (λ w. Appends c.push_tag.result old new (number c.args.tag w ++ codes "(")) c.shown_width.ensures
    c.push_tag.ensures)
