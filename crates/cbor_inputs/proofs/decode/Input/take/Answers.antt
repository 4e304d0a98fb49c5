use Rattle.std.proofs.Common.{◌≡◌, [], refl, rules}
use Rattle.cbor_paths.specs.declared.end.End.TheVariants as end
use Rattle.cbor_inputs.proofs.decode.Input.take.Goals as goal

pub returns-else-eq-2-clause-why : goal.returns-else-eq-2-clause-why
returns-else-eq-2-clause-why c =
    let other : c.skip_items-shown.result.end ≡ end.Done → ⊥ = search rules in
    let ends = rw c.deref.ensures.value at c.skip_items-shown.ensures.ends in
    (refl, c.in_ok-bytes.bytes.items, c.in_ok-bytes.ensures.ok, other, ends)
