-- The count of open containers is the length of their list.
use Rattle.std.proofs.Common.{length, ap, sym, ◌∙◌}
use Rattle.cbor_bytes.proofs.skipping.OpenStacks.{stack_len}
use Rattle.cbor_bytes.proofs.skip.packed.Packed.len.Goals as goal

pub returns-clause-count : goal.returns-clause-count
returns-clause-count c =
    let s = c.self.inside in
    let i = c.self.invariant in
    sym (stack_len s.kinds s.counts s.len i.1 i.2 i.0) ∙ ap length c.self.view_is
