-- What is after items in a byte string.
use Rattle.std.proofs.Common.{◌++◌, ◌∷◌, [], codes, append_assoc}
use Rattle.std.specs.String.{string_bytes}
use Rattle.cbor_grammar.specs.NotationText.{last_line}
use Rattle.cbor_edn_writer.specs.EdnLeaves.{embedded_mark}
use Rattle.cbor_edn_writer.proofs.writing.Appended.{appends_both}
use Rattle.cbor_edn_writer.proofs.print.lists.push_close.Goals as goal

pub returns-in_ok-push_closing-in-Embedded : goal.returns-in_ok-push_closing-in-Embedded
returns-in_ok-push_closing-in-Embedded c =
    rw c.in-Embedded.is (appends_both c.push_embedded_end.result (string_bytes c.args.out.now)
    (string_bytes c.push_closing-in-Embedded.new.out) (string_bytes c.push_embedded_end.new.out)
    (last_line c.args.style ++ 62 ∷ []) (codes ">" ++ embedded_mark c.in-Embedded.len) _
    c.in_ok-push_closing-in-Embedded.ensures c.push_embedded_end.ensures
    (append_assoc (last_line c.args.style) (62 ∷ []) (codes ">" ++ embedded_mark c.in-Embedded.len)))
