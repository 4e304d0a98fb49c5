-- The place where an error cuts the text back is a boundary between characters.
use Rattle.cbor_tokens.proofs.texts.Appending.{cut_back}
use Rattle.cbor_notation_writer.proofs.outermost.push_outermost.Goals as goal

pub truncate-requires : goal.truncate-requires
truncate-requires g c = λ _. (cut_back c.args.out.now c.push_front.new.out c.len-start.result c.len-start.ensures
    c.in-Err.ensures.begun).0
