use Rattle.cbor_inspect.specs.Shows.{Shows}
use Rattle.cbor_paths.proofs.Sequences.{more_shown}
use Rattle.cbor_inspect.proofs.stream.Stream.show.Goals as goal

pub returns-clause-joined : goal.returns-clause-joined
returns-clause-joined c = λ came before shown.
    let next = c.show_next.ensures.written in (
      next.0,
      next.1,
      more_shown (Shows c.args.show.now) came before c.args.self.now next.0 c.show_next.new.self shown next.2,
    )
