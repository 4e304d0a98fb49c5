-- The bytes begin with an item, are cut or have a fault, and that one of the three is returned.
use Rattle.std.proofs.Common.{ap, refl, subst, ◌∙◌, ◌++◌, arith}
use Rattle.std.specs.String.{string_bytes}
use Rattle.cbor_grammar.specs.Answer.{cut}
use Rattle.cbor_grammar.specs.Reading.{Fails, read_item}
use Rattle.cbor_grammar.proofs.bytes.ExactlyOne.{one_outcome}
use Rattle.cbor_grammar.proofs.bytes.Outcomes.{same}
use Rattle.cbor_grammar.proofs.bytes.Shorter.{item_shorter}
use Rattle.cbor_grammar.proofs.straight.PublicCalls.{begins_so, front_cut_so}
use Rattle.cbor_json.specs.Written.{Judges, Tells}
use Rattle.cbor_json.proofs.writing.Calls.{outcome_is, gave_fault}
use Rattle.cbor_json.proofs.write.push_bytes_to_json_partial.Goals as goal

pub overflow_sub-result : goal.overflow_sub-result
overflow_sub-result c =
    let p = c.in-Ok.ensures.judged in omega (arith, item_shorter 128 c.args.bytes.now p.0 c.in-Ok.found.1.now p.1)

pub returns-in_ok-push_str-in-Text-clause-found : goal.returns-in_ok-push_str-in-Text-clause-found
returns-in_ok-push_str-in-Text-clause-found c =
    let p = c.in-Ok.ensures.judged in (
      p.0,
      begins_so c.args.bytes.now p.0 c.in-Ok.found.1.now (λ i. omega (arith, c.type_inv.bytes i)) p.1,
      (
        string_bytes c.in-Text.text,
        subst (λ x. Judges c.args.style x p.0) c.in-Text.is p.2,
        c.in_ok-push_str-in-Text.ensures.bytes ∙ ap (λ x. string_bytes c.args.out.now ++ x) c.as_str.ensures.value,
      ),
    )

pub returns-in_ok-push_str-in-Text-clause-exact : goal.returns-in_ok-push_str-in-Text-clause-exact
returns-in_ok-push_str-in-Text-clause-exact c =
    let p = c.in-Ok.ensures.judged in
    let b = c.args.bytes.now in
    λ o h. (
      p.0,
      outcome_is b c.in-Ok.found.1.now p.0 o (λ i. omega (arith, c.type_inv.bytes i))
          (one_outcome 1 128 b refl (λ i. omega (arith, c.type_inv.bytes i))) p.1 h,
      (
        string_bytes c.in-Text.text,
        subst (λ x. Judges c.args.style x p.0) c.in-Text.is p.2,
        c.in_ok-push_str-in-Text.ensures.bytes ∙ ap (λ x. string_bytes c.args.out.now ++ x) c.as_str.ensures.value,
      ),
    )

pub returns-in_ok-push_str-in-Text-clause-one_of_three : goal.returns-in_ok-push_str-in-Text-clause-one_of_three
returns-in_ok-push_str-in-Text-clause-one_of_three c =
    one_outcome 1 128 c.args.bytes.now refl (λ i. omega (arith, c.type_inv.bytes i))

pub returns-in_err-push_str-in-Text-clause-one_of_three : goal.returns-in_err-push_str-in-Text-clause-one_of_three
returns-in_err-push_str-in-Text-clause-one_of_three c =
    one_outcome 1 128 c.args.bytes.now refl (λ i. omega (arith, c.type_inv.bytes i))

pub returns-in-SameKeys-clause-one_of_three : goal.returns-in-SameKeys-clause-one_of_three
returns-in-SameKeys-clause-one_of_three c =
    one_outcome 1 128 c.args.bytes.now refl (λ i. omega (arith, c.type_inv.bytes i))

pub returns-in-SameKeys-clause-exact : goal.returns-in-SameKeys-clause-exact
returns-in-SameKeys-clause-exact c =
    let p = c.in-Ok.ensures.judged in
    let b = c.args.bytes.now in
    λ o h. (
      p.0,
      _,
      outcome_is b c.in-Ok.found.1.now p.0 o (λ i. omega (arith, c.type_inv.bytes i))
          (one_outcome 1 128 b refl (λ i. omega (arith, c.type_inv.bytes i))) p.1 h,
      subst (λ x. Judges c.args.style x p.0) c.in-SameKeys.is p.2,
    )

pub returns-in-CutShort-clause-cut : goal.returns-in-CutShort-clause-cut
returns-in-CutShort-clause-cut c =
    let b = c.args.bytes.now in
    λ _. front_cut_so b (λ i. omega (arith, c.type_inv.bytes i))
    (subst (λ e. Fails e (read_item 128 b)) c.in-CutShort.is c.in-Err.ensures.refused)

pub returns-in-CutShort-clause-exact : goal.returns-in-CutShort-clause-exact
returns-in-CutShort-clause-exact c =
    let b = c.args.bytes.now in
    let here = front_cut_so b (λ i. omega (arith, c.type_inv.bytes i))
    (subst (λ e. Fails e (read_item 128 b)) c.in-CutShort.is c.in-Err.ensures.refused) in
    λ o h. same b cut o (one_outcome 1 128 b refl (λ i. omega (arith, c.type_inv.bytes i))) here h

pub returns-in-CutShort-clause-one_of_three : goal.returns-in-CutShort-clause-one_of_three
returns-in-CutShort-clause-one_of_three c =
    one_outcome 1 128 c.args.bytes.now refl (λ i. omega (arith, c.type_inv.bytes i))

pub returns-in_default : goal.returns-in_default
returns-in_default c =
    let b = c.args.bytes.now in
    let one = one_outcome 1 128 b refl (λ i. omega (arith, c.type_inv.bytes i)) in
    record {
      found = tt;
      cut = λ e. absurd cc;
      exact = λ o h. gave_fault c.args.style b c.in-Err.error (string_bytes c.args.out.now)
          (string_bytes c.args.out.now) o (λ i. omega (arith, c.type_inv.bytes i)) one
          c.in_default.not-CutShort c.in-Err.ensures.refused h;
      one_of_three = one;
      places = tt;
      cut_unchanged = λ e. refl;
      unchanged = refl;
    }

pub returns-in-NotKept-clause-places : goal.returns-in-NotKept-clause-places
returns-in-NotKept-clause-places c = subst (Tells c.args.bytes.now) c.in-NotKept.is c.in-Ok.ensures.tells

pub returns-in-NotKept-clause-one_of_three : goal.returns-in-NotKept-clause-one_of_three
returns-in-NotKept-clause-one_of_three c =
    one_outcome 1 128 c.args.bytes.now refl (λ i. omega (arith, c.type_inv.bytes i))

pub returns-in-NotKept-clause-exact : goal.returns-in-NotKept-clause-exact
returns-in-NotKept-clause-exact c =
    let p = c.in-Ok.ensures.judged in
    let b = c.args.bytes.now in
    λ o h. (
      p.0,
      _,
      outcome_is b c.in-Ok.found.1.now p.0 o (λ i. omega (arith, c.type_inv.bytes i))
          (one_outcome 1 128 b refl (λ i. omega (arith, c.type_inv.bytes i))) p.1 h,
      subst (λ x. Judges c.args.style x p.0) c.in-NotKept.is p.2,
    )
