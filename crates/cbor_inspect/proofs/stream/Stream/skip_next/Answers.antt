use Rattle.std.proofs.Common.{◌≡◌, [], drop, ap, sym, ◌∙◌, inl, inr, rules}
use Rattle.cbor_paths.proofs.EndLemmas.{passes_one, one_shorter}
use Rattle.cbor_bytes.specs.declared.skip.answer.Extent.TheVariants as extent
use Rattle.cbor_inspect.proofs.StreamLemmas.{one_passed, later_passed, begins_so}
use Rattle.cbor_inspect.proofs.stream.Stream.skip_next.Goals as goal

pub returns-in-Cut-clause-one : goal.returns-in-Cut-clause-one
returns-in-Cut-clause-one c = λ one.
    let first = c.items.invariant.first one in
    let same : c.args.self.now ≡ c.scan.new.self = sym first ∙ sym c.scan.ensures.same in
    inl same

pub returns-in-Fault-clause-one : goal.returns-in-Fault-clause-one
returns-in-Fault-clause-one c = λ one.
    let first = c.items.invariant.first one in
    let same : c.args.self.now ≡ c.scan.new.self = sym first ∙ sym c.scan.ensures.same in
    inl same

pub returns-clause-one : goal.returns-clause-one
returns-clause-one c = λ one. inl (sym (c.items.invariant.first one))

pub returns-then-one-clause-one : goal.returns-then-one-clause-one
returns-then-one-clause-one c = λ one.
    inr (passes_one c.args.self.now c.scan.new.self c.pass.new.self c.in-Item.len
    (c.scan.ensures.same ∙ c.items.invariant.first one) c.in-Item.ensures.begins c.pass.ensures)

pub returns-then-one-clause-full : goal.returns-then-one-clause-full
returns-then-one-clause-full c = λ full. (
  c.if-one.true,
  one_shorter c.args.self.now c.pass.new.self (passes_one c.args.self.now c.scan.new.self c.pass.new.self c.in-Item.len
      (c.scan.ensures.same ∙ c.items.invariant.first c.if-one.true) c.in-Item.ensures.begins c.pass.ensures),
)

pub returns-then-one-clause-items : goal.returns-then-one-clause-items
returns-then-one-clause-items c =
    let same = c.scan.ensures.same in
    one_passed c.args.self.now c.items.self c.pass.new.self c.in-Item.len c.items.invariant.items
    (rw same at c.in-Item.ensures.begins) (c.pass.ensures ∙ ap (drop c.in-Item.len) same)

pub returns-in-Cut-clause-clean : goal.returns-in-Cut-clause-clean
returns-in-Cut-clause-clean c = λ one. (
  λ e. let bad : ⊥ = cc e in absurd bad,
  λ whole.
      let some : c.items.self ≡ [] → ⊥ = search rules in
      let front = begins_so c.args.self.now c.items.self c.items.invariant.later some whole in
      let only = rw c.scan.ensures.same at c.in-Cut.ensures.only in
      let bad : ⊥ = cc (only (extent.Item front.0) front.1) in absurd bad,
)

pub returns-in-Fault-clause-clean : goal.returns-in-Fault-clause-clean
returns-in-Fault-clause-clean c = λ one. (
  λ e. let bad : ⊥ = cc e in absurd bad,
  λ whole.
      let some : c.items.self ≡ [] → ⊥ = search rules in
      let front = begins_so c.args.self.now c.items.self c.items.invariant.later some whole in
      let only = rw c.scan.ensures.same at c.in-Fault.ensures.only in
      let bad : ⊥ = cc (only (extent.Item front.0) front.1) in absurd bad,
)

pub items-preserved : goal.items-preserved
items-preserved c =
    let same = c.scan.ensures.same in
    let some : c.items.self ≡ [] → ⊥ = search rules in
    let is = c.pass.ensures ∙ ap (drop c.in-Item.len) same in
    record {
      items = one_passed c.args.self.now c.items.self c.pass.new.self c.in-Item.len c.items.invariant.items
          (rw same at c.in-Item.ensures.begins) is;
      later = later_passed c.args.self.now c.items.self c.pass.new.self c.in-Item.len c.items.invariant.later some
          (rw same at c.in-Item.ensures.only) is;
      first = λ one. let bad : ⊥ = cc in absurd bad;
    }
