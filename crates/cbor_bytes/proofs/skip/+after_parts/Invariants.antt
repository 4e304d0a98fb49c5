-- Each container that is entered leaves one level less. Skipping the parts that are left is skipping all of them.
use Rattle.std.proofs.Common.{◌≤◌, ◌-◌, length}
use Rattle.cbor_grammar.specs.WellFormed.{deepest}
use Rattle.cbor_bytes.specs.mirror.Skipping.{Goes, skip_parts}
use Rattle.cbor_bytes.proofs.skip.+after_parts.Given as goal

abbrev pub decreases-after_parts : goal.decreases-after_parts
decreases-after_parts l = deepest - l.level

abbrev pub invariant-parts : goal.invariant-parts
invariant-parts l = record {
  goes : Goes (skip_parts (deepest - l.level) l.fn.parts) (skip_parts (deepest - l.level) l.parts) l.bytes l.rest;
  shorter : length l.rest ≤ length l.bytes;
}

abbrev pub decreases-parts : goal.decreases-parts
decreases-parts l = length l.rest
