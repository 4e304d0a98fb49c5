use Rattle.std.proofs.Common.{◌<◌, length, arith}
use Rattle.std.proofs.lemmas.Bool.Decides.{nat_tests}
use Rattle.cbor_edn_writer.proofs.writing.Elements.{one_fits, rest_whole}
use Rattle.cbor_edn_writer.proofs.print.elements.elements_text.Goals as goal

pub split_at-requires : goal.split_at-requires
split_at-requires c =
    let some : 0 < length c.args.bytes.now = grind (arith, nat_tests) in
    one_fits (length c.args.bytes.now) c.in-Some.size c.if-bytes-size-ne0.false some

pub push_more-requires-clause-whole : goal.push_more-requires-clause-whole
push_more-requires-clause-whole c =
    rest_whole (length c.args.bytes.now) c.in-Some.size (length c.split_at.result.1.now) c.if-bytes-size-ne0.false
    c.split_at.ensures.back_len
