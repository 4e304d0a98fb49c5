use Rattle.std.proofs.Common.{◌+◌, ◌-◌, ◌∙◌}
use Rattle.std.proofs.lemmas.List.{take_rest}
use Rattle.cbor_edn_grammar.specs.Address.{tagged_ip}
use Rattle.cbor_edn_reader.proofs.Adds.{quoted_read}
use Rattle.cbor_edn_reader.proofs.network.read_tagged_ip.Goals as goal

pub returns-clause-reads : goal.returns-clause-reads
returns-clause-reads c =
    let d = c.in_ok-string.ensures in
    let rest = c.rest-rest.result.now in (
      d.0,
      quoted_read (tagged_ip (129 - c.args.inner))
          c.args.text.now rest c.new.result c.in-Some.end d.0 c.rest-rest.ensures
          c.in-Some.ensures.at d.1 (c.new.ensures ∙ take_rest rest (c.in-Some.end + 1)),
      d.2,
      d.3,
    )
