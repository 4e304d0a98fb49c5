-- The bytes begin with an item, are truncated or are malformed, and that one of the three is returned.
use Rattle.std.proofs.Common.{refl, subst, arith}
use Rattle.std.specs.String.{string_bytes}
use Rattle.cbor_grammar.specs.Answer.{cut}
use Rattle.cbor_grammar.specs.Reading.{Fails, read_item}
use Rattle.cbor_grammar.proofs.bytes.ExactlyOne.{one_outcome}
use Rattle.cbor_grammar.proofs.bytes.Outcomes.{same}
use Rattle.cbor_grammar.proofs.bytes.Shorter.{item_shorter}
use Rattle.cbor_grammar.proofs.straight.PublicCalls.{begins_so, front_fault, front_cut_so}
use Rattle.cbor_edn_writer.proofs.writing.Calls.{gave_edn, gave_fault}
use Rattle.cbor_edn_writer.proofs.write.push_bytes_to_edn_noted_partial.Goals as goal

pub overflow_sub-result : goal.overflow_sub-result
overflow_sub-result c =
    let p = c.in-Ok.ensures.written in
    omega (arith, item_shorter 128 c.args.bytes.now p.0 c.in-Ok.rest.now p.1)

pub returns-in-Ok-clause-found : goal.returns-in-Ok-clause-found
returns-in-Ok-clause-found c =
    let p = c.in-Ok.ensures.written in (
      p.0,
      begins_so c.args.bytes.now p.0 c.in-Ok.rest.now (λ i. omega (arith, c.type_inv.bytes i)) p.1,
      (p.2, p.3, p.4),
    )

pub returns-in-Ok-clause-exact : goal.returns-in-Ok-clause-exact
returns-in-Ok-clause-exact c =
    let p = c.in-Ok.ensures.written in
    let b = c.args.bytes.now in
    λ o h. gave_edn c.args.noted.style c.args.noted.notes.now b c.in-Ok.rest.now p.0 (string_bytes c.args.out.now)
    (string_bytes c.push_front.new.out)
    o (λ i. omega (arith, c.type_inv.bytes i)) (one_outcome 1 128 b refl (λ i. omega (arith, c.type_inv.bytes i))) p.1
    (p.2, p.3, p.4) h

pub returns-in-Ok-clause-one_of_three : goal.returns-in-Ok-clause-one_of_three
returns-in-Ok-clause-one_of_three c =
    one_outcome 1 128 c.args.bytes.now refl (λ i. omega (arith, c.type_inv.bytes i))

pub returns-in-CutShort-clause-cut : goal.returns-in-CutShort-clause-cut
returns-in-CutShort-clause-cut c =
    let b = c.args.bytes.now in
    λ _. front_cut_so b (λ i. omega (arith, c.type_inv.bytes i))
    (subst (λ e. Fails e (read_item 128 b)) c.in-CutShort.is c.in-Err.ensures.refused)

pub returns-in-CutShort-clause-exact : goal.returns-in-CutShort-clause-exact
returns-in-CutShort-clause-exact c =
    let b = c.args.bytes.now in
    let here = front_cut_so b (λ i. omega (arith, c.type_inv.bytes i))
    (subst (λ e. Fails e (read_item 128 b)) c.in-CutShort.is c.in-Err.ensures.refused) in
    λ o h. same b cut o (one_outcome 1 128 b refl (λ i. omega (arith, c.type_inv.bytes i))) here h

pub returns-in-CutShort-clause-one_of_three : goal.returns-in-CutShort-clause-one_of_three
returns-in-CutShort-clause-one_of_three c =
    one_outcome 1 128 c.args.bytes.now refl (λ i. omega (arith, c.type_inv.bytes i))

pub returns-in_default : goal.returns-in_default
returns-in_default c =
    let b = c.args.bytes.now in
    let one = one_outcome 1 128 b refl (λ i. omega (arith, c.type_inv.bytes i)) in
    record {
      found = tt;
      cut = λ e. absurd cc;
      fault = front_fault b c.in-Err.error (λ i. omega (arith, c.type_inv.bytes i)) c.in_default.not-CutShort
          c.in-Err.ensures.refused;
      exact = λ o h. gave_fault c.args.noted.style c.args.noted.notes.now b c.in-Err.error (string_bytes c.args.out.now)
          (string_bytes c.push_front.new.out) o (λ i. omega (arith, c.type_inv.bytes i)) one
          c.in_default.not-CutShort c.in-Err.ensures.refused h;
      one_of_three = one;
      cut_unchanged = λ e. absurd cc;
      unchanged = c.in-Err.ensures.unchanged;
    }
