-- A binary search finds a place in places that are in order if and only if it is one of them.
use Rattle.std.proofs.Common.{◌∙◌}
use Rattle.cbor_inside.proofs.Places.{found_is}
use Rattle.cbor_inside.proofs.inside.Inside.opens.Goals as goal

pub returns-else-self : goal.returns-else-self
returns-else-self c up =
    rw c.if-self.false
    (c.is_ok.ensures.value
    ∙ found_is c.args.self.named.now c.args.start c.binary_search.result c.binary_search.ensures.position up)
