-- Each item is written before those that are left.
use Rattle.std.proofs.Common.{◌≡◌, ℕ, List, length, subst, arith}
use Rattle.cbor_reencode.specs.mirror.Rewritten.{Sequence}
use Rattle.cbor_reencode.proofs.Containers.{sequence_end, sequence_more}
use Rattle.cbor_reencode.proofs.encoder.Encoder.items.Goals as goal

pub items-init : goal.items-init
items-init c = record {
  more = λ new s. subst (λ (x : List ℕ). Sequence c.args.self.rules c.args.bytes.now x new) c.new-out.ensures.items s;
}

pub items-preserved : goal.items-preserved
items-preserved c = record {
  more = λ new s. c.items.invariant.more new (sequence_more c.args.self.rules c.items.rest.now c.in_ok-rest.rest.now
      c.items.out.items c.push_item.new.out.items new c.in_ok-rest.ensures.writes s);
}

pub returns : goal.returns
returns c =
    let none : length c.items.rest.now ≡ 0 = grind (arith, c.is_empty.ensures, c.items-test.false) in
    c.items.invariant.more c.items.out.items
    (sequence_end c.args.self.rules c.items.rest.now c.items.out.items none)
