use Rattle.cbor_inputs.proofs.decode.Input.decode.Goals as goal

pub returns-in-Diag-clause-one : goal.returns-in-Diag-clause-one
returns-in-Diag-clause-one c = rw c.in-Diag.is c.bytes_of_diag.ensures.one

pub returns-in-Diag-clause-refused : goal.returns-in-Diag-clause-refused
returns-in-Diag-clause-refused c = rw c.in-Diag.is c.bytes_of_diag.ensures.refused
