-- A key that was put has its place, and the others keep theirs.
use Rattle.std.proofs.Common.{Some}
use Rattle.std.proofs.lemmas.Map.Text.{btree_map_updates_str}
use Rattle.cbor_rules.proofs.keys.Keys.see.Goals as goal

pub returns-in-Ok-clause-placed : goal.returns-in-Ok-clause-placed
returns-in-Ok-clause-placed c =
    rw c.in-Some.is (λ i q. btree_map_updates_str c.args.key.bytes.now c.in-Some.places c.insert.new.self
    (Some c.args.key.place) c.in-Ok.ensures.updates q i)
