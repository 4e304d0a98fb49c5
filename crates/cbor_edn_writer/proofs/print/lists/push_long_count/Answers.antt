-- A gap is after the indicator.
use Rattle.std.specs.String.{string_bytes}
use Rattle.cbor_grammar.specs.NotationText.{indicator}
use Rattle.cbor_edn_writer.specs.EdnLeaves.{gap}
use Rattle.cbor_edn_writer.proofs.writing.Appended.{appends_both, gap_more}
use Rattle.cbor_edn_writer.proofs.print.lists.push_long_count.Goals as goal

pub returns-in_ok-push_indicator-in_default : goal.returns-in_ok-push_indicator-in_default
returns-in_ok-push_indicator-in_default c =
    appends_both c.push_gap.result (string_bytes c.args.out.now) (string_bytes c.push_indicator.new.out)
    (string_bytes c.push_gap.new.out) (indicator c.args.width) (gap c.args.style) _
    c.in_ok-push_indicator-in_default.ensures c.push_gap.ensures
    (gap_more c.args.style c.args.width c.in_default.not-Unknown c.in_default.not-Zero)
