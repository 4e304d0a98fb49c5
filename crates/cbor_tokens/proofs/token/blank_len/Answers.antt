-- What is left is a rest of the text.
use Rattle.std.proofs.Common.{true}
use Rattle.cbor_tokens.proofs.tokens.Blanks.{blank_left}
use Rattle.cbor_tokens.proofs.tokens.TextPlaces.{rest_place}
use Rattle.cbor_tokens.proofs.token.blank_len.Goals as goal

pub returns-clause-rest : goal.returns-clause-rest
returns-clause-rest c =
    let left = blank_left true c.args.text.now in
    rw c.after_blank.ensures.gives (rest_place c.args.text.now left.0 _ left.1)
