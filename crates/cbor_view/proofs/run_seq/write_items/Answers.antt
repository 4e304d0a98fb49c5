use Rattle.std.proofs.Common.{drop, ◌++◌}
use Rattle.std.proofs.lemmas.List.{take_rest}
use Rattle.cbor_view.proofs.Sequences.{more_written, writes_more, same_end, end_refused, end_memory, end_write}
use Rattle.cbor_view.proofs.run_seq.write_items.Goals as goal

pub returns-in_err-end-clause-refused : goal.returns-in_err-end-clause-refused
returns-in_err-end-clause-refused g c =
    let before = c.sequence.invariant.before in
    let r = c.write_block-used.result.1 in
    let block = c.write_block-used.ensures.written in
    let same = same_end c.from_residual.result r c.in_err-end.field-0.0 c.from_residual.ensures.1 c.in_err-end.was in
    rw same (end_refused g.W.Write.contents c.args.output.now c.sequence.output c.write_block-used.new.output c.args.to
    c.args.bytes.now before.0 c.sequence.rest.now block.0 (drop c.write_block-used.result.0 c.sequence.rest.now)
    before.1 before.2 block.1 r block.2 c.write_block-used.ensures.refused)

pub returns-in_err-end-clause-out_of_memory : goal.returns-in_err-end-clause-out_of_memory
returns-in_err-end-clause-out_of_memory g c =
    let before = c.sequence.invariant.before in
    let r = c.write_block-used.result.1 in
    let block = c.write_block-used.ensures.written in
    let same = same_end c.from_residual.result r c.in_err-end.field-0.0 c.from_residual.ensures.1 c.in_err-end.was in
    rw same (end_memory g.W.Write.contents c.args.output.now c.sequence.output c.write_block-used.new.output c.args.to
    c.args.bytes.now before.0 c.sequence.rest.now block.0 (drop c.write_block-used.result.0 c.sequence.rest.now)
    before.1 before.2 block.1 r block.2)

pub returns-in_err-end-clause-write_failed : goal.returns-in_err-end-clause-write_failed
returns-in_err-end-clause-write_failed g c =
    let before = c.sequence.invariant.before in
    let r = c.write_block-used.result.1 in
    let block = c.write_block-used.ensures.written in
    let same = same_end c.from_residual.result r c.in_err-end.field-0.0 c.from_residual.ensures.1 c.in_err-end.was in
    rw same (end_write g.W.Write.contents c.args.output.now c.sequence.output c.write_block-used.new.output c.args.to
    c.args.bytes.now before.0 c.sequence.rest.now block.0 (drop c.write_block-used.result.0 c.sequence.rest.now)
    before.1 before.2 block.1 r block.2)

pub sequence-preserved : goal.sequence-preserved
sequence-preserved g c =
    let before = c.sequence.invariant.before in
    let block = rw c.in_ok-end.was at c.write_block-used.ensures.written in
    record {
      before = (
        before.0 ++ block.0,
        rw take_rest (more_written c.args.to c.args.bytes.now before.0 c.sequence.rest.now block.0
            (drop c.write_block-used.result.0 c.sequence.rest.now) before.1 block.1),
        writes_more g.W.Write.contents c.args.output.now c.sequence.output c.write_block-used.new.output
            before.0 block.0 before.2 block.2,
      );
    }
