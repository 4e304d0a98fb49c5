-- A head more is passed.
use Rattle.std.proofs.Common.{sym}
use Rattle.cbor_inside.proofs.Heads.{heads_more, heads_fail, heads_end, none_left, some_left}
use Rattle.cbor_inside.proofs.strict.is_strict.Goals as goal

pub heads-preserved : goal.heads-preserved
heads-preserved c =
    let i = c.heads.invariant in
    let m = heads_more i.bound c.heads.rest.now c.in-Some.after.now _ i.enough c.in-Some.ensures.next
    c.in-Some.ensures.shorter i.so_far in
    record { bound = m.0; enough = m.1; so_far = m.2 }

pub returns-in-None : goal.returns-in-None
returns-in-None c =
    let i = c.heads.invariant in
    sym (heads_fail i.bound c.heads.rest.now _
    (some_left c.heads.rest.now c.is_empty.result c.is_empty.ensures c.heads-test.true)
    c.in-None.ensures.next i.so_far)

pub returns : goal.returns
returns c =
    let i = c.heads.invariant in
    sym (heads_end i.bound c.heads.rest.now _
    (none_left c.heads.rest.now c.is_empty.result c.is_empty.ensures c.heads-test.false)
    i.so_far)
