use Rattle.std.proofs.Common.{◌≡◌, [], sym, ◌∙◌, inl, inr, rules}
use Rattle.cbor_paths.proofs.EndLemmas.{passes_one}
use Rattle.cbor_bytes.specs.declared.skip.answer.Extent.TheVariants as extent
use Rattle.cbor_inspect.proofs.Rfc8949Lemmas.{scanned_passed_8949, begins_so_8949, later_passed_8949, none_8949}
use Rattle.cbor_inspect.proofs.stream.Stream.check_next.Goals as goal

pub returns-in-Some-clause-refused : goal.returns-in-Some-clause-refused
returns-in-Some-clause-refused c = λ all whole.
    let some : c.items.self ≡ [] → ⊥ = search rules in
    absurd (none_8949 c.args.self.now c.items.self c.scan.new.self c.in-Item.len c.in-Some.at
    c.items.invariant.later some c.scan.ensures.same c.in-Item.ensures.only c.in-Some.ensures.some whole)

pub returns-in-Cut-clause-refused : goal.returns-in-Cut-clause-refused
returns-in-Cut-clause-refused c = λ all whole.
    let some : c.items.self ≡ [] → ⊥ = search rules in
    let front = begins_so_8949 c.args.self.now c.items.self c.scan.new.self c.items.invariant.later some
    c.scan.ensures.same whole in
    let bad : ⊥ = cc (c.in-Cut.ensures.only (extent.Item front.length) front.begins) in absurd bad

pub returns-in-Fault-clause-refused : goal.returns-in-Fault-clause-refused
returns-in-Fault-clause-refused c = λ all whole.
    let some : c.items.self ≡ [] → ⊥ = search rules in
    let front = begins_so_8949 c.args.self.now c.items.self c.scan.new.self c.items.invariant.later some
    c.scan.ensures.same whole in
    let bad : ⊥ = cc (c.in-Fault.ensures.only (extent.Item front.length) front.begins) in absurd bad

pub returns-then-one-clause-items : goal.returns-then-one-clause-items
returns-then-one-clause-items c =
    scanned_passed_8949 c.args.self.now c.items.self c.scan.new.self c.pass.new.self c.in-Item.len
    c.items.invariant.items c.scan.ensures.same c.in-None.ensures.none c.pass.ensures

pub items-preserved : goal.items-preserved
items-preserved c =
    let some : c.items.self ≡ [] → ⊥ = search rules in
    record {
      items = scanned_passed_8949 c.args.self.now c.items.self c.scan.new.self c.pass.new.self c.in-Item.len
          c.items.invariant.items c.scan.ensures.same c.in-None.ensures.none c.pass.ensures;
      later = later_passed_8949 c.args.self.now c.items.self c.scan.new.self c.pass.new.self c.in-Item.len
          c.items.invariant.later some c.scan.ensures.same c.in-Item.ensures.only c.pass.ensures;
      first = λ one. let bad : ⊥ = cc in absurd bad;
    }

pub returns-in-Some-clause-one : goal.returns-in-Some-clause-one
returns-in-Some-clause-one c = λ one. inl (sym (c.items.invariant.first one) ∙ sym c.scan.ensures.same)

pub returns-in-Cut-clause-one : goal.returns-in-Cut-clause-one
returns-in-Cut-clause-one c = λ one. inl (sym (c.items.invariant.first one) ∙ sym c.scan.ensures.same)

pub returns-in-Fault-clause-one : goal.returns-in-Fault-clause-one
returns-in-Fault-clause-one c = λ one. inl (sym (c.items.invariant.first one) ∙ sym c.scan.ensures.same)

pub returns-clause-one : goal.returns-clause-one
returns-clause-one c = λ one. inl (sym (c.items.invariant.first one))

pub returns-then-one-clause-one : goal.returns-then-one-clause-one
returns-then-one-clause-one c = λ one.
    inr (passes_one c.args.self.now c.scan.new.self c.pass.new.self c.in-Item.len
    (c.scan.ensures.same ∙ c.items.invariant.first one) c.in-Item.ensures.begins c.pass.ensures)
