use Rattle.cbor_inspect.proofs.rfc8949.fault_8949.Goals as goal

pub returns-clause-none : goal.returns-clause-none
returns-clause-none c = c.two_byte_simple.ensures.none c.requires.0 c.requires.1
