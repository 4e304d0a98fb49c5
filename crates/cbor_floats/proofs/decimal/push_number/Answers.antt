-- That text is appended.
use Rattle.cbor_floats.proofs.Decimals.{appended}
use Rattle.cbor_floats.proofs.decimal.push_number.Goals as goal

pub returns : goal.returns
returns c =
    appended c.push_str.result _ _ _ c.args.x c.push_str.ensures.bytes c.number_text.ensures
