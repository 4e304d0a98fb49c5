use Rattle.std.proofs.Common.{◌∷◌, []}
use Rattle.std.proofs.lemmas.List.{reverse-append}
use Rattle.cbor_diag.proofs.parse.binary.stack.Stack.open.Goals as goal

pub returns-clause-opened : goal.returns-clause-opened
returns-clause-opened c = rw (c.in_ok-push.ensures.items, ← c.self.view_is)
    (reverse-append c.self.inside.«open».items (c.args.container ∷ []))
