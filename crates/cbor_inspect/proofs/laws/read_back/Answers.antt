use Rattle.cbor_inspect.proofs.Lines.{items_read_back, bytes_read_back}
use Rattle.cbor_inspect.proofs.laws.read_back.Goals as goal

pub returns-clause-items : goal.returns-clause-items
returns-clause-items c = items_read_back

pub returns-clause-bytes : goal.returns-clause-bytes
returns-clause-bytes c = bytes_read_back
