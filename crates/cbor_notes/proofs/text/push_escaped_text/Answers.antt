use Rattle.cbor_tokens.proofs.texts.Fronts.{cut_point}
use Rattle.cbor_notes.proofs.text.push_escaped_text.Goals as goal

pub cut_after_error-requires : goal.cut_after_error-requires
cut_after_error-requires c =
    let written = c.write_escaped_text-answer in
    cut_point c.args.escaped.now written.new.escaped _ written.result c.len-len.result c.len-len.ensures written.ensures
