use Rattle.std.proofs.Common.{◌++◌, append_assoc, vec_items}
use Rattle.cbor_inspect.specs.Shows.{Shows}
use Rattle.cbor_paths.proofs.Sequences.{more_shown}
use Rattle.cbor_inspect.proofs.stream.Stream.show_next.Goals as goal

pub returns-else-show-clause-written : goal.returns-else-show-clause-written
returns-else-show-clause-written c =
    let first = c.in-Ok.ensures.written in
    let others = c.show_others-else-show.ensures.written in (
      first.0 ++ others.0,
      cc (first.1, others.1, append_assoc (vec_items c.args.out.now) first.0 others.0),
      more_shown (Shows c.args.show.now) c.args.self.now first.0 c.show_scanned.new.self others.0
          c.show_others-else-show.new.self first.2 others.2,
    )
