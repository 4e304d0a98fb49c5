use Rattle.std.specs.String.{string_bytes}
use Rattle.std.proofs.lemmas.Result.{IfOk-weaker}
use Rattle.cbor_notes.proofs.texts.AddressLemmas.{ipv6_text-std, ShortensFirstLongestRun-ipv6_text}
use Rattle.cbor_notes.proofs.address.ipv6_text.Goals as goal

text : goal.returns-clause-text
text c =
    rw (← (ipv6_text-std c.args.octets.now c.told-octets c.fits-octets), ← c.from.ensures) c.to_string.ensures.ok

pub returns-clause-text : goal.returns-clause-text
returns-clause-text c = text c

pub returns-clause-shortened : goal.returns-clause-shortened
returns-clause-shortened c =
    IfOk-weaker _ _ _ (λ t. ShortensFirstLongestRun-ipv6_text c.args.octets.now (string_bytes t)) (text c)
