use Rattle.std.proofs.Common.{◌≡◌, ◌<◌, ◌%◌, get_or, arith}
use Rattle.std.proofs.lemmas.Grind.{common_steps}
use Rattle.cbor_notes.specs.Base58.{characters}
use Rattle.cbor_notes.proofs.bases.Base58Lemmas.{base58_step, characters_ascii}
use Rattle.cbor_notes.proofs.base58_text.+push_digits.Goals as goal

pub returns : goal.returns
returns t c =
    let n = c.args.number in
    let step = base58_step n (omega arith) in
    let ascii : get_or characters (n % 58) 0 < 128 = characters_ascii (n % 58) in
    let digit : c.from.result ≡ get_or characters (n % 58) 0 = c.from.ensures in
    grind (arith, common_steps)
