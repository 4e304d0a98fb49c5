use Rattle.cbor_notes.proofs.texts.AddressLemmas.{ipv4_text-std}
use Rattle.cbor_notes.proofs.address.ipv4_text.Goals as goal

pub returns : goal.returns
returns c =
    record { text = rw (← (ipv4_text-std c.args.octets.now c.told-octets), ← c.from.ensures) c.to_string.ensures.ok }
