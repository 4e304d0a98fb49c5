use Rattle.cbor_diag.specs.Output.{output_of}
use Rattle.cbor_view.proofs.Sequences.{one_written}
use Rattle.cbor_view.proofs.run_seq.append_first.Goals as goal

pub returns-clause-output : goal.returns-clause-output
returns-clause-output c =
    let found = rw c.in-Some.is at c.in_ok-used.ensures.found in (
      output_of c.args.to found.0,
      one_written c.args.to c.args.bytes.now c.in-Some.used found.0 found.1.2,
      found.2,
    )
