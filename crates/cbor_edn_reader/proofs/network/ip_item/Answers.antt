use Rattle.std.proofs.Common.{◌+◌, ◌-◌, arith}
use Rattle.std.proofs.lemmas.List.{take_rest}
use Rattle.cbor_edn_tokens.proofs.Addresses.{prefix_left}
use Rattle.cbor_edn_reader.proofs.network.ip_item.Goals as goal

pub returns : goal.returns
returns c =
    let is = prefix_left (129 - c.args.inner) c.args.content.now c.in-Some.end (omega arith) c.in-Some.ensures.at in
    rw (is, ← c.is_ipv6-six.ensures, ← take_rest c.args.content.now (c.in-Some.end + 1)) c.prefix_item.ensures
