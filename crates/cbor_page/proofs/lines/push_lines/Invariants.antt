-- the lines so far are written
use Rattle.std.proofs.Common.{vec_items}
use Rattle.cbor_page.specs.declared.source.Done.{Done}
use Rattle.cbor_page.specs.Written.{Writes}
use Rattle.cbor_page.proofs.lines.push_lines.Given as goal

abbrev nothing : Done
nothing = record { text = 0; bytes = 0 }

abbrev pub invariant-lines : goal.invariant-lines
invariant-lines l = Writes l.source nothing l.done (vec_items l.initial.out) (vec_items l.out)
