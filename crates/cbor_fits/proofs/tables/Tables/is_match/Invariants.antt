-- The patterns that are left decide.
use Rattle.std.proofs.Common.{◌≡◌, drop}
use Rattle.cbor_fits.specs.Tables.{is_match_of}
use Rattle.cbor_fits.proofs.tables.Tables.is_match.Given as goal

abbrev pub invariant-patterns : goal.invariant-patterns
invariant-patterns l =
    is_match_of l.node (drop l.pattern-index l.self.patterns.now) l.text ≡ is_match_of l.node l.self.patterns.now l.text
