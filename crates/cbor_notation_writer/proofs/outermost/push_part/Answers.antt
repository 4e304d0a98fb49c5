-- The bytes begin with an item, are cut or have a fault, and that one of the three is returned.
use Rattle.std.proofs.Common.{refl, subst, arith}
use Rattle.std.specs.String.{string_bytes}
use Rattle.cbor_grammar.specs.Answer.{cut}
use Rattle.cbor_notation_writer.specs.mirror.Straight.{text_in}
use Rattle.cbor_grammar.specs.Reading.{Fails, read_item}
use Rattle.cbor_grammar.proofs.bytes.ExactlyOne.{one_outcome}
use Rattle.cbor_grammar.proofs.bytes.Outcomes.{same}
use Rattle.cbor_grammar.proofs.bytes.Shorter.{item_shorter}
use Rattle.cbor_grammar.proofs.straight.PublicCalls.{begins_so, front_fault, front_cut_so, gave_text, gave_fault}
use Rattle.cbor_notation_writer.proofs.outermost.push_part.Goals as goal

pub overflow_sub-result : goal.overflow_sub-result
overflow_sub-result c =
    let p = c.in-Ok.ensures.printed in
    omega (arith, item_shorter 128 c.args.bytes.now p.0 c.in-Ok.rest.now p.1)

pub returns-in-Ok-clause-found : goal.returns-in-Ok-clause-found
returns-in-Ok-clause-found c =
    let p = c.in-Ok.ensures.printed in (
      p.0,
      begins_so c.args.bytes.now p.0 c.in-Ok.rest.now (λ i. omega (arith, c.type_inv.bytes i)) p.1,
      p.2,
    )

pub returns-in-Ok-clause-exact : goal.returns-in-Ok-clause-exact
returns-in-Ok-clause-exact c =
    let p = c.in-Ok.ensures.printed in
    let b = c.args.bytes.now in
    λ o h. gave_text (text_in c.args.layout) b c.in-Ok.rest.now p.0 (string_bytes c.args.out.now)
    (string_bytes c.push_outermost_front.new.out) o (λ i. omega (arith, c.type_inv.bytes i))
    (one_outcome 1 128 b refl (λ i. omega (arith, c.type_inv.bytes i))) p.1 p.2 h

pub returns-in-Ok-clause-one_of_three : goal.returns-in-Ok-clause-one_of_three
returns-in-Ok-clause-one_of_three c =
    one_outcome 1 128 c.args.bytes.now refl (λ i. omega (arith, c.type_inv.bytes i))

pub returns-in-CutShort-clause-cut : goal.returns-in-CutShort-clause-cut
returns-in-CutShort-clause-cut c =
    let b = c.args.bytes.now in
    λ _. front_cut_so b (λ i. omega (arith, c.type_inv.bytes i))
    (subst (λ e. Fails e (read_item 128 b)) c.in-CutShort.is c.in-Err.ensures.refused)

pub returns-in-CutShort-clause-exact : goal.returns-in-CutShort-clause-exact
returns-in-CutShort-clause-exact c =
    let b = c.args.bytes.now in
    let here = front_cut_so b (λ i. omega (arith, c.type_inv.bytes i))
    (subst (λ e. Fails e (read_item 128 b)) c.in-CutShort.is c.in-Err.ensures.refused) in
    λ o h. same b cut o (one_outcome 1 128 b refl (λ i. omega (arith, c.type_inv.bytes i))) here h

pub returns-in-CutShort-clause-one_of_three : goal.returns-in-CutShort-clause-one_of_three
returns-in-CutShort-clause-one_of_three c =
    one_outcome 1 128 c.args.bytes.now refl (λ i. omega (arith, c.type_inv.bytes i))

pub returns-in_default : goal.returns-in_default
returns-in_default c =
    let b = c.args.bytes.now in
    let one = one_outcome 1 128 b refl (λ i. omega (arith, c.type_inv.bytes i)) in
    record {
      found = tt;
      cut = λ e. absurd cc;
      fault = front_fault b c.in-Err.error (λ i. omega (arith, c.type_inv.bytes i)) c.in_default.not-CutShort
          c.in-Err.ensures.refused;
      exact = λ o h. gave_fault (text_in c.args.layout) b c.in-Err.error (string_bytes c.args.out.now)
          (string_bytes c.push_outermost_front.new.out) o (λ i. omega (arith, c.type_inv.bytes i)) one
          c.in_default.not-CutShort c.in-Err.ensures.refused h;
      one_of_three = one;
      cut_unchanged = λ e. absurd cc;
      unchanged = c.in-Err.ensures.unchanged;
    }
