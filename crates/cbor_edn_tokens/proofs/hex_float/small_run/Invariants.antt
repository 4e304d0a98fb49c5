use Rattle.std.proofs.Common.{◌≡◌, ◌<◌, ◌^◌, length}
use Rattle.cbor_edn_grammar.specs.HexFloat.{small_run}
use Rattle.cbor_edn_tokens.proofs.hex_float.small_run.Given as goal

abbrev pub invariant-digits : goal.invariant-digits
invariant-digits l = record {
  same : small_run l.number l.rest ≡ small_run 0 l.digits;
  less : l.number < 2 ^ 20;
}

abbrev pub decreases-digits : goal.decreases-digits
decreases-digits l = length l.rest
