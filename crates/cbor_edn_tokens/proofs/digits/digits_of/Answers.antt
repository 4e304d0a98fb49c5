-- The digits are what the turns give, one after the other.
use Rattle.std.proofs.Common.{List, ℕ, Some, ap}
use Rattle.cbor_edn_grammar.specs.Reading.{Read, ◌>>=◌}
use Rattle.cbor_edn_grammar.proofs.Turns.{turn_last, turn_more}
use Rattle.cbor_edn_tokens.proofs.digits.digits_of.Goals as goal

pub returns-then-not-more : goal.returns-then-not-more
returns-then-not-more c =
    let i = c.digits.invariant in
    let t = rw c.if-not-more.true at c.in_ok-more.ensures.gives in
    rw t.2 (ap (λ (r : Read (List ℕ)). r >>= λ x. Some x.0) (turn_last _ _ _ _ _ i.enough i.so_far t.1))

pub digits-preserved : goal.digits-preserved
digits-preserved c =
    let i = c.digits.invariant in
    let t = rw c.if-not-more.false at c.in_ok-more.ensures.gives in
    let next = turn_more _ _ _ _ _ i.enough i.so_far t.1 (c.in_ok-more.ensures.shorter c.if-not-more.false) in
    record { bound = next.0; enough = next.1; so_far = rw t.2 next.2 }
