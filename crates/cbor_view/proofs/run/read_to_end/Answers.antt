use Rattle.std.proofs.Common.{◌≡◌, ℕ, ◌+◌, List, ◌++◌, Option, rules, length, take, drop, sym, ap, subst, ◌∙◌}
use Rattle.std.proofs.lemmas.List.{take_at, places}
use Rattle.std.proofs.Math.Seq.{take-add}
use Rattle.std.specs.Io.KnownBytes.{Consumes}
use Rattle.std.proofs.KnownBytes.{Consumes-trans}
use Rattle.cbor_view.proofs.run.read_to_end.Goals as goal

-- the filled front grows by what was read after it
filled_more : (a b c : Option (List ℕ)) (xs ys : List ℕ) (filled n : ℕ) → take filled ys ≡ take filled xs
    → Consumes a b (take filled xs) → Consumes b c (take n (drop filled ys)) → Consumes a c (take (filled + n) ys)
filled_more a b c xs ys filled n front before read =
    subst (Consumes a c) (sym (take-add filled n ys ∙ ap (λ l. l ++ take n (drop filled ys)) front))
    (Consumes-trans a b c _ _ before read)

pub loop-bytes-preserved : goal.loop-bytes-preserved
loop-bytes-preserved g c =
    let before = c.loop-bytes.invariant in
    let read = c.in_ok-count.ensures in
    let ys = c.read_after.new.bytes in
    let front : take c.loop-bytes.filled ys ≡ take c.loop-bytes.filled c.loop-bytes.bytes.items =
    cc (c.read_after.ensures.filled, c.as_mut_slice.ensures.value, c.make_room.ensures.filled) in
    let whole : take c.make_room.new.bytes.len (ys ++ drop (length ys) c.make_room.new.bytes.items) ≡ ys =
    take_at ys _ _ (search (rules, places)) in
    record {
      within = search rules;
      given = rw whole (filled_more _ _ _ _ ys _ _ front before.given read.read);
      failures = search rules;
    }
