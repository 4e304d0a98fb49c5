use Rattle.std.proofs.Common.{◌≡◌, ◌+◌, ◌*◌, ◌≤◌, length, ◌⊎◌}
use Rattle.cbor_grammar.specs.WellFormed.{deepest, levels_left}
use Rattle.cbor_grammar.specs.Answer.{MayWantMemory}
use Rattle.cbor_grammar.specs.Reading.{later, counted_item}
use Rattle.cbor_grammar.specs.mirror.Counting.{resume}
use Rattle.cbor_diag.specs.mirror.Stack.{frames}
use Rattle.cbor_diag.proofs.parse.binary.read_item.Given as goal

-- Each turn takes bytes, or closes a container.
abbrev pub decreases-turns : goal.decreases-turns
decreases-turns l = 2 * length l.rest + length l.stack

abbrev pub invariant-turns : goal.invariant-turns
invariant-turns l = record {
  so_far : later l.turns (resume (levels_left l.level) (frames l.stack) l.rest)
      ≡ later l.initial.turns (counted_item (levels_left l.level) l.bytes);
  level : l.level + length l.stack ≤ deepest + 1;
  falls : l.turns + 2 * length l.rest + length l.stack ≤ l.initial.turns + 2 * length l.bytes;
  rises : l.initial.turns ≤ l.turns;
  opened : ((length l.stack ≡ 0) × (l.rest ≡ l.bytes)) ⊎ ((1 ≤ length l.stack) × MayWantMemory l.bytes);
}
