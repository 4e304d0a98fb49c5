use Rattle.std.proofs.Common.{Option, Some, ap, refl}
use Rattle.cbor_grammar.specs.Item.{Item}
use Rattle.cbor_edn_grammar.specs.Address.{pair_of}
use Rattle.cbor_edn_grammar.specs.Reading.{◌>>=◌}
use Rattle.cbor_edn_reader.proofs.Adds.{pair_written}
use Rattle.cbor_edn_reader.proofs.network.prefix_array.Goals as goal

pub returns : goal.returns
returns c =
    let d = c.in_ok-push_bytes.ensures in (
      pair_of c.args.bits d.0,
      ap (λ (r : Option Item). r >>= λ i. Some (pair_of c.args.bits i)) (rw c.used.ensures.is at d.1),
      pair_written c.args.out.now.items c.push_head.new.out.items c.push_head-2.new.out.items _ c.args.bits d.0
          c.in_ok-push_head.ensures c.in_ok-push_head-2.ensures d.2,
      refl,
    )
