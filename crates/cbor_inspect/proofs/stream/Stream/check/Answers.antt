use Rattle.cbor_inspect.proofs.Rfc8949Lemmas.{items_then_8949, rest_of_items_8949, sequence_with_8949}
use Rattle.cbor_inspect.proofs.stream.Stream.check.Goals as goal

pub returns-clause-joined : goal.returns-clause-joined
returns-clause-joined c = λ came before passed.
    let more = c.check_next.ensures.items in (
      more.0,
      items_then_8949 came before more.0 c.args.self.now c.check_next.new.self passed more.1,
      λ all. (
        λ done. sequence_with_8949 came c.args.self.now before passed (c.check_next.ensures.clean all done),
        λ whole. c.check_next.ensures.refused all
            (rest_of_items_8949 came c.args.self.now before whole.0 passed whole.1),
      ),
    )
