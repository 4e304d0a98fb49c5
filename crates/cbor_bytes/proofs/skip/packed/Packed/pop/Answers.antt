-- What is removed is the last of the list.
use Rattle.std.proofs.Common.{◌-◌, arith, sym, ◌∙◌}
use Rattle.cbor_bytes.proofs.skipping.OpenStacks.{stack_pop}
use Rattle.cbor_bytes.proofs.skip.packed.Packed.pop.Goals as goal

pub returns-clause-some : goal.returns-clause-some
returns-clause-some c =
    let s = c.self.inside in
    let i = c.self.invariant in
    sym c.self.view_is ∙ stack_pop s.kinds s.counts s.len i.1 i.2 (s.len - 1) _ _ c.of.result (omega arith) i.0
    c.of.ensures
