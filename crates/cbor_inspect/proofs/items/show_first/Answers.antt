use Rattle.std.proofs.Common.{◌≡◌, length, rules, vec_items}
use Rattle.cbor_inspect.specs.Shows.{steps_of}
use Rattle.cbor_inspect.proofs.OutputLemmas.{first_appended, whole_appended, no_steps}
use Rattle.cbor_inspect.proofs.items.show_first.Goals as goal

pub returns-then-is_empty-clause-written : goal.returns-then-is_empty-clause-written
returns-then-is_empty-clause-written c =
    let zero : length (steps_of c.args.show.now) ≡ 0 = search rules in
    let none = no_steps (steps_of c.args.show.now) zero in
    whole_appended c.args.show.now c.args.bytes.now _ _ c.push_front.result none c.push_front.ensures.written

pub returns-else-is_empty-clause-written : goal.returns-else-is_empty-clause-written
returns-else-is_empty-clause-written c =
    let some : length (steps_of c.args.show.now) ≡ 0 → ⊥ = search rules in
    first_appended c.args.show.now c.args.bytes.now (vec_items c.args.out.now) (vec_items c.push_part.new.out)
    c.push_part.result some c.push_part.ensures.item
    c.push_part.ensures.written
