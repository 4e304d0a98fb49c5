-- A sort keeps how many pairs there are.
use Rattle.std.proofs.Common.{◌≡◌, subst, length, arith}
use Rattle.std.proofs.lemmas.List.Sorted.{length_permutation}
use Rattle.cbor_reencode.specs.mirror.Chosen.{FitsHeld}
use Rattle.cbor_reencode.proofs.encoder.Encoder.push_sorted.Goals as goal

pub count_width-width-requires : goal.count_width-width-requires
count_width-width-requires c =
    let moved = length_permutation c.args.pairs.now.items c.sort_pairs.new.pairs.items c.sort_pairs.ensures in
    let len : length c.args.pairs.now.items ≡ c.len.result =
    omega (arith, moved, c.len.ensures, c.sort_pairs.new.pairs.ok.0) in
    subst (λ k. FitsHeld c.args.count k) len c.requires
