use Rattle.cbor_paths.proofs.Sequences.{items_then}
use Rattle.cbor_paths.proofs.Fronts.{rest_of_items, sequence_with}
use Rattle.cbor_inspect.proofs.stream.Stream.skip.Goals as goal

pub returns-clause-joined : goal.returns-clause-joined
returns-clause-joined c = λ came before passed.
    let more = c.skip_next.ensures.items in (
      more.0,
      items_then came before more.0 c.args.self.now c.skip_next.new.self passed more.1,
      λ all.
          let clean = c.skip_next.ensures.clean all in (
            λ done. sequence_with came c.args.self.now before passed (clean.0 done),
            λ whole. clean.1 (rest_of_items came c.args.self.now before whole.0 passed whole.1),
          ),
    )
