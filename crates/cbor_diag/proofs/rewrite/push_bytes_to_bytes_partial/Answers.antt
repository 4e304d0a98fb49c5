-- The bytes begin with an item, are cut or have a fault, and that one of the three is returned.
use Rattle.std.proofs.Common.{ℕ, List, Err, refl, arith}
use Rattle.cbor_grammar.specs.declared.error.Error.{Error}
use Rattle.cbor_grammar.specs.declared.error.Error.TheVariants as refusal
use Rattle.cbor_grammar.specs.Refused.{Fault}
use Rattle.cbor_grammar.specs.Answer.{Outcome, spelled, cut, fault, IsOutcome, OneOutcome, GaveText}
use Rattle.cbor_grammar.specs.Written.{encoded}
use Rattle.cbor_grammar.proofs.bytes.ExactlyOne.{one_outcome}
use Rattle.cbor_grammar.proofs.bytes.Outcomes.{same}
use Rattle.cbor_diag.proofs.rewrite.push_bytes_to_bytes_partial.Goals as goal

gave_fault : (b : List ℕ) (e : Error) (old new : List ℕ) (o : Outcome) → OneOutcome 1 b → Fault 1 b e
    → IsOutcome 1 b o → GaveText encoded (Err e) old new o
gave_fault b refusal.Memory old new o one is h = tt
gave_fault b e old new o one is h = same b (fault e) o one is h

pub returns-in_err-push_encoding-in-Item-clause-one_of_three
    : goal.returns-in_err-push_encoding-in-Item-clause-one_of_three
returns-in_err-push_encoding-in-Item-clause-one_of_three c =
    one_outcome 1 128 c.args.bytes.now refl (λ i. omega (arith, c.type_inv.bytes i))

pub returns-in_ok-push_encoding-in-Item-clause-exact : goal.returns-in_ok-push_encoding-in-Item-clause-exact
returns-in_ok-push_encoding-in-Item-clause-exact c = λ o h.
    let b = c.args.bytes.now in
    let found = c.in-Item.ensures.item in
    let one = one_outcome 1 128 b refl (λ i. omega (arith, c.type_inv.bytes i)) in (
      found.0,
      same b (spelled found.0 c.in-Item.len) o one (found.1.1, found.1.2) h,
      c.in_ok-push_encoding-in-Item.ensures.bytes found.0 found.1.2,
    )

pub returns-in_ok-push_encoding-in-Item-clause-one_of_three
    : goal.returns-in_ok-push_encoding-in-Item-clause-one_of_three
returns-in_ok-push_encoding-in-Item-clause-one_of_three c =
    one_outcome 1 128 c.args.bytes.now refl (λ i. omega (arith, c.type_inv.bytes i))

pub returns-in-Cut-clause-exact : goal.returns-in-Cut-clause-exact
returns-in-Cut-clause-exact c = λ o h.
    let b = c.args.bytes.now in
    same b cut o (one_outcome 1 128 b refl (λ i. omega (arith, c.type_inv.bytes i))) (c.in-Cut.ensures.cut.0 refl) h

pub returns-in-Cut-clause-one_of_three : goal.returns-in-Cut-clause-one_of_three
returns-in-Cut-clause-one_of_three c =
    one_outcome 1 128 c.args.bytes.now refl (λ i. omega (arith, c.type_inv.bytes i))

pub returns-in-Fault-clause-exact : goal.returns-in-Fault-clause-exact
returns-in-Fault-clause-exact c = λ o h.
    let b = c.args.bytes.now in
    let one = one_outcome 1 128 b refl (λ i. omega (arith, c.type_inv.bytes i)) in
    gave_fault b c.in-Fault.error c.args.out.now.items c.args.out.now.items o one c.in-Fault.ensures.fault h

pub returns-in-Fault-clause-one_of_three : goal.returns-in-Fault-clause-one_of_three
returns-in-Fault-clause-one_of_three c =
    one_outcome 1 128 c.args.bytes.now refl (λ i. omega (arith, c.type_inv.bytes i))
