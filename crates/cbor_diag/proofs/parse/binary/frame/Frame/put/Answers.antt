use Rattle.std.proofs.Common.{length, refl}
use Rattle.cbor_diag.specs.declared.syntax.DataItem.{DataItem}
use Rattle.cbor_diag.proofs.turns.Frames.{item_joins, pair_joins}
use Rattle.cbor_bytes.proofs.bytes.Remaining.{left_less, left_pushed}
use Rattle.cbor_diag.proofs.parse.binary.frame.Frame.put.Goals as goal

pub returns-in_ok-push-in-Array-clause-put : goal.returns-in_ok-push-in-Array-clause-put
returns-in_ok-push-in-Array-clause-put c =
    let held = c.in-Array.content.items in
    let len = c.in-Array.len in
    let part = c.args.part in
    rw (
      c.in_ok-push-in-Array.ensures.items,
      item_joins held part,
      left_pushed len held part,
      left_less len (length held),
      c.in-Array.is,
    ) refl

pub returns-in_ok-push-in-Some-clause-put : goal.returns-in_ok-push-in-Some-clause-put
returns-in_ok-push-in-Some-clause-put c =
    let held = c.in-Map.content.items in
    let len = c.in-Map.len in
    let p : DataItem × DataItem = (c.in-Some.key, c.args.part) in
    rw (
      c.in-Some.ensures.after,
      c.in-Map.is,
      ← c.in-Some.ensures.value,
      c.in_ok-push-in-Some.ensures.items,
      pair_joins held p,
      left_pushed len held p,
    ) refl
