use Rattle.std.proofs.Common.{◌+◌}
use Rattle.cbor_grammar.specs.WellFormed.{levels_left}
use Rattle.cbor_notation_writer.specs.Dialect.{TextsOf}
use Rattle.cbor_edn_writer.specs.EdnLeaves.{edn_leaves}
use Rattle.cbor_edn_writer.proofs.writing.Opened.{by_the_rule}
use Rattle.cbor_edn_writer.proofs.laws.shown_by_the_rule.Goals as goal

pub returns : goal.returns
returns c = λ opened level tag p b t low.
    by_the_rule opened level tag (TextsOf edn_leaves (levels_left (level + 1))) p b t low
