-- An item that ends within the first bytes is read in them.
use Rattle.std.proofs.Common.{◌≡◌, ℕ, ◌+◌, ◌-◌, List, length, take, drop, Ok, sym, ap, inl, inr, ◌∙◌, arith}
use Rattle.std.proofs.lemmas.Bool.{cases_lt}
use Rattle.cbor_grammar.specs.Reading.{read_item}
use Rattle.cbor_grammar.specs.WellFormed.{levels_left}
use Rattle.cbor_grammar.proofs.bytes.Shorter.{item_shorter}
use Rattle.cbor_trace.proofs.Ends.{read_more, read_front}
use Rattle.cbor_trace.proofs.Values.{no_value}
use Rattle.cbor_trace.proofs.part.after_within.Goals as goal

pub returns-in_default-clause-none : goal.returns-in_default-clause-none
returns-in_default-clause-none c = λ i rest reads.
    let left = levels_left c.args.level in
    let b = c.args.bytes.now in
    let m = c.min.result in
    let sum : c.args.level + left ≡ 129 = omega arith in
    let none = ap (read_item left) (sym c.split_at.ensures.front) ∙ c.in_default.ensures.none.1 in
    elim (cases_lt (c.args.most + length rest) (length b)) [
      | inl lt ↦ lt
      | inr ge ↦
          let f = read_front c.args.level left sum m b i rest (λ k. omega (arith, c.type_inv.bytes k)) reads
          (omega (arith, c.min.ensures)) in
          absurd (no_value (read_item left (take m b)) (i, f.0) c.in_default.ensures.none.0 none f.1)
    ]

pub overflow_sub-front : goal.overflow_sub-front
overflow_sub-front c =
    omega (
      arith,
      item_shorter (levels_left c.args.level) c.split_at.result.0.now c.in-Some.ensures.some.0
          c.in-Some.unread.now c.in-Some.ensures.some.1,
    )

pub returns-clause-some : goal.returns-clause-some
returns-clause-some c =
    let left = levels_left c.args.level in
    let b = c.args.bytes.now in
    let m = c.min.result in
    let unread = c.in-Some.unread.now in
    let sum : c.args.level + left ≡ 129 = omega arith in
    let len : length c.split_at.result.0.now ≡ m = c.split_at.ensures.front_len in
    let read = read_more c.args.level left sum m b c.in-Some.ensures.some.0 unread (omega (arith, c.min.ensures))
    (λ k. omega (arith, c.type_inv.bytes k))
    (ap (read_item left) (sym c.split_at.ensures.front) ∙ c.in-Some.ensures.some.1) in
    let back = c.split_at-2.ensures.back ∙ ap (λ (n : ℕ). drop (n - length unread) b) len in (
      c.in-Some.ensures.some.0,
      read ∙ ap (λ (r : List ℕ). Ok (c.in-Some.ensures.some.0, r)) (sym back),
      omega (arith, c.min.ensures, c.split_at-2.ensures.back_len, len),
    )
