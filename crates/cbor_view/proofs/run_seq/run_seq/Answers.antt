use Rattle.std.proofs.Common.{[], refl}
use Rattle.std.proofs.KnownBytes.{Appends-nil}
use Rattle.cbor_view.proofs.Sequences.{none_written, had_some, memory_passed}
use Rattle.cbor_view.specs.Counting.{inner_of}
use Rattle.cbor_view.proofs.run_seq.run_seq.Goals as goal

pub returns-in_err-all-clause-out_of_memory : goal.returns-in_err-all-clause-out_of_memory
returns-in_err-all-clause-out_of_memory g c =
    let all = had_some (g.R.Read.remaining (inner_of c.args.input.now)) in
    memory_passed c.from_residual.result c.read_to_end.result c.in_err-all.field-0.0 c.from_residual.ensures.1
    c.in_err-all.was c.read_to_end.ensures.out_of_memory
    (λ none. (all.0, [], all.0, all.1, none, none_written c.args.to all.0, (Appends-nil _, refl)))
