-- What a `Split` (the pairs that an entry of a map takes and leaves) stands for in `Fits.antt`.
use Rattle.std.specs.Prelude.{map}
use Rattle.cbor_fits.specs.Fits as spec
use Rattle.cbor_fits.specs.Rests.{pair_view_of}
use Rattle.cbor_fits.specs.declared.split.Split.{Split}

abbrev pub split_view : Split → spec.Split
split_view s = record { left = map pair_view_of s.left.items; least = s.least; most = s.most; all_taken = s.all_taken }
