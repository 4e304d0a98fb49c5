use Rattle.cbor_edn_reader.proofs.PlainQuoted.{quoted_plain}
use Rattle.cbor_edn_reader.proofs.content.plain_quoted.Goals as goal

pub returns-clause-gives : goal.returns-clause-gives
returns-clause-gives c =
    quoted_plain c.args.quote c.plain_len.result c.args.text.now _ _ _ c.plain_len.ensures.same
    c.split_at.ensures.front c.split_at.ensures.back c.in_ok-after.ensures.gives
