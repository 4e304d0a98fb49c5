use Rattle.cbor_edn_writer.proofs.back.Lines.{items_back}
use Rattle.cbor_edn_writer.proofs.laws.lines_back.Goals as goal

pub returns : goal.returns
returns c = items_back
