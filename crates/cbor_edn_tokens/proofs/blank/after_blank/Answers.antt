-- Each turn passes a space or a comment, and none is left at the end.
use Rattle.std.proofs.Common.{arith}
use Rattle.cbor_edn_tokens.proofs.Blanks.{blank_more, blank_end}
use Rattle.cbor_edn_tokens.proofs.blank.after_blank.Goals as goal

pub spaces-preserved : goal.spaces-preserved
spaces-preserved c =
    let i = c.spaces.invariant in
    let next = blank_more c.args.slashes _ _ _ _ i.enough c.in-Some.ensures.gives c.in-Some.ensures.shorter i.so_far in
    record {
      bound = next.0;
      enough = next.1;
      so_far = next.2;
      room = omega (arith, c.in-Some.ensures.shorter, i.room);
    }

pub returns-in-None-clause-gives : goal.returns-in-None-clause-gives
returns-in-None-clause-gives c =
    blank_end c.args.slashes _ _ _ c.in-None.ensures.gives c.spaces.invariant.so_far
