use Rattle.std.proofs.Common.{length, ap, arith}
use Rattle.std.proofs.lemmas.List.{length-reverse}
use Rattle.cbor_diag.proofs.parse.binary.stack.Stack.depth.Goals as goal

pub returns : goal.returns
returns c =
    let opens = c.self.inside.«open» in
    omega (arith, length-reverse opens.items, opens.ok.0, ap length c.self.view_is)
