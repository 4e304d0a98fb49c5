-- The width found from bytes is the width of the dump of their item.
use Rattle.std.proofs.Common.{max, ap, sym, ◌∙◌}
use Rattle.cbor_dump.specs.Dump.{top}
use Rattle.cbor_grammar.specs.WellFormed.{levels_left}
use Rattle.cbor_dump.proofs.dump.Widths.{item_reach}
use Rattle.cbor_dump.proofs.width.dump_width.Goals as goal

pub returns-clause-width : goal.returns-clause-width
returns-clause-width c =
    let m = c.in_ok-rest.ensures.measured in
    (m.0, m.1, m.2 ∙ ap (max 0) (sym (item_reach (levels_left c.args.level) top 0 m.0)))
