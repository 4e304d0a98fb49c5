use Rattle.std.proofs.Common.{◌≡◌, ◌++◌, subst, sym, rules, is_ok}
use Rattle.cbor_inspect.specs.Shows.{Shows}
use Rattle.cbor_paths.specs.Sequence.{IsShownOfFirst, ItemsThen}
use Rattle.cbor_paths.proofs.Sequences.{shown_later, came_later}
use Rattle.cbor_inspect.specs.Rfc8949.{ItemsThen8949}
use Rattle.cbor_inspect.proofs.Rfc8949Lemmas.{came_later_8949, checked_if_came}
use Rattle.cbor_inspect.proofs.StreamLemmas.{still_scanned, shown_if_came, passed_if_came}
use Rattle.cbor_inspect.proofs.stream.Stream.push.Goals as goal

pub invariant_of-self : goal.invariant_of-self
invariant_of-self c =
    let inside = c.self.inside in
    still_scanned inside.scanner inside.scanned inside.start inside.kept.items c.args.bytes.now
    c.extend_from_slice.new.self.items (is_ok c.extend_from_slice.result) c.if-self-eq0.true c.self.invariant
    c.extend_from_slice.ensures.items

pub returns-then-self-eq0-clause-joined : goal.returns-then-self-eq0-clause-joined
returns-then-self-eq0-clause-joined c = λ show came written.
    shown_if_came c.extend_from_slice.result (Shows show) came written c.args.self.now c.args.bytes.now _ (search rules)

pub returns-then-self-eq0-clause-passed : goal.returns-then-self-eq0-clause-passed
returns-then-self-eq0-clause-passed c = λ came items.
    passed_if_came c.extend_from_slice.result came items c.args.self.now c.args.bytes.now _ (search rules)

pub returns-clause-passed : goal.returns-clause-passed
returns-clause-passed c = λ came items h.
    let is : c.extend_from_slice-2.new.self.items ≡ c.args.self.now ++ c.args.bytes.now = search rules in
    subst (λ x. ItemsThen (came ++ c.args.bytes.now) items x) (sym is)
    (came_later came c.args.bytes.now items c.args.self.now h)

pub returns-clause-joined : goal.returns-clause-joined
returns-clause-joined c = λ show came written h.
    let is : c.extend_from_slice-2.new.self.items ≡ c.args.self.now ++ c.args.bytes.now = search rules in
    subst (λ x. IsShownOfFirst (Shows show) (came ++ c.args.bytes.now) written x) (sym is)
    (shown_later (Shows show) came c.args.bytes.now written c.args.self.now h)

pub returns-then-self-eq0-clause-checked : goal.returns-then-self-eq0-clause-checked
returns-then-self-eq0-clause-checked c = λ came items.
    checked_if_came c.extend_from_slice.result came items c.args.self.now c.args.bytes.now _ (search rules)

pub returns-clause-checked : goal.returns-clause-checked
returns-clause-checked c = λ came items h.
    let is : c.extend_from_slice-2.new.self.items ≡ c.args.self.now ++ c.args.bytes.now = search rules in
    subst (λ x. ItemsThen8949 (came ++ c.args.bytes.now) items x) (sym is)
    (came_later_8949 came c.args.bytes.now items c.args.self.now h)
