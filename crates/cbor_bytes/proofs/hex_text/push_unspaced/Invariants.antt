-- What is written and the rest without its spaces are the whole line without its spaces.
use Rattle.std.proofs.Common.{◌≡◌, ◌≢◌, ◌<◌, ◌++◌, length, slice_index}
use Rattle.cbor_tokens.specs.Uncommented.{unspaced}
use Rattle.cbor_bytes.proofs.hex_text.push_unspaced.Given as goal

abbrev pub invariant-runs : goal.invariant-runs
invariant-runs l = record {
  written : l.out.items ++ unspaced l.rest ≡ l.fn.out.items ++ unspaced l.line;
  no_space : 0 < length l.rest → slice_index l.rest 0 ≢ 32;
}

abbrev pub decreases-runs : goal.decreases-runs
decreases-runs l = length l.rest
