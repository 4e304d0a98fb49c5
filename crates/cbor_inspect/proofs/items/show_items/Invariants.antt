-- What was written is the output of the items so far.
use Rattle.std.proofs.Common.{◌≡◌, ℕ, List, [], ◌++◌, ◌-◌, ◌≤◌, length, take, drop, vec_items, IsTrue}
use Rattle.cbor_paths.specs.Sequence.{IsShownOfFirst}
use Rattle.cbor_inspect.specs.declared.form.Form.TheVariants as Form
use Rattle.cbor_inspect.specs.Shows.{Shows, steps_of}
use Rattle.cbor_inspect.proofs.items.show_items.Given as goal

abbrev pub invariant-items : goal.invariant-items
invariant-items l = record {
  within : l.used ≤ length l.bytes;
  output : (written : List ℕ) × (vec_items l.out ≡ vec_items l.initial.out ++ written)
      × IsShownOfFirst (Shows l.show) l.bytes written (drop l.used l.bytes);
  own : l.show.style.form ≡ Form.Bytes → steps_of l.show ≡ []
      → vec_items l.out ≡ vec_items l.initial.out ++ take l.used l.bytes;
  first : IsTrue l.show.one → l.used ≡ 0;
}

abbrev pub decreases-items : goal.decreases-items
decreases-items l = length l.bytes - l.used
