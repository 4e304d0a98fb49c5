-- A text of an item by RFC 8949 is read back as its bytes.
use Rattle.cbor_edn_writer.specs.Written.{line_style}
use Rattle.cbor_edn_writer.proofs.writing.Edn.{kept}
use Rattle.cbor_edn_writer.proofs.write.bytes_to_edn.Goals as goal

pub returns-clause-lossless : goal.returns-clause-lossless
returns-clause-lossless c = λ i is. kept line_style c.args.bytes.now i c.whole_text.result _
    c.whole_text.ensures.every_item is
