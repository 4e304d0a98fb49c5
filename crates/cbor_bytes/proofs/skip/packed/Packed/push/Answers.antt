-- What is opened becomes the last of the list, for which there is room.
use Rattle.std.proofs.Common.{◌<◌, ◌∷◌, [], ◌++◌, List, length, ap, arith, ◌∙◌}
use Rattle.std.proofs.lemmas.List.{length-set}
use Rattle.cbor_bytes.specs.declared.skip.to_come.ToCome.{ToCome}
use Rattle.cbor_bytes.proofs.skipping.OpenStacks.{stack_len, stack_push}
use Rattle.cbor_bytes.proofs.skip.packed.Packed.push.Goals as goal

pub bounds-self-inside-self-inside : goal.bounds-self-inside-self-inside
bounds-self-inside-self-inside c =
    let s = c.self.inside in
    let i = c.self.invariant in
    omega (arith, stack_len s.kinds s.counts s.len i.1 i.2 i.0, ap length c.self.view_is)

pub bounds-self-inside-self-inside-2 : goal.bounds-self-inside-self-inside-2
bounds-self-inside-self-inside-2 c =
    let s = c.self.inside in
    let i = c.self.invariant in
    omega (arith, stack_len s.kinds s.counts s.len i.1 i.2 i.0, ap length c.self.view_is)

pub invariant_of-self : goal.invariant_of-self
invariant_of-self c =
    let s = c.self.inside in
    let i = c.self.invariant in
    let below : s.len < 128 =
    omega (arith, stack_len s.kinds s.counts s.len i.1 i.2 i.0, ap length c.self.view_is) in (
      omega arith,
      length-set s.kinds s.len c.split-kind.result.0 ∙ i.1,
      length-set s.counts s.len c.split-kind.result.1 ∙ i.2,
    )

pub returns : goal.returns
returns c =
    let s = c.self.inside in
    let i = c.self.invariant in
    let below : s.len < 128 =
    omega (arith, stack_len s.kinds s.counts s.len i.1 i.2 i.0, ap length c.self.view_is) in
    stack_push s.kinds s.counts s.len i.1 i.2 c.split-kind.result.0 c.split-kind.result.1 c.args.«open»
    c.split-kind.ensures
    below
    ∙ ap (λ (ts : List ToCome). ts ++ c.args.«open» ∷ []) c.self.view_is
