use Rattle.cbor_edn_grammar.proofs.Floats.{single_read, single_refused}
use Rattle.cbor_edn_tokens.proofs.float.single_of.Goals as goal

pub returns-in-Ok : goal.returns-in-Ok
returns-in-Ok c = single_read c.args.text.now _ c.in-Ok.ensures

pub returns-in-Err-TooLarge : goal.returns-in-Err-TooLarge
returns-in-Err-TooLarge c = single_refused c.args.text.now _ c.in-Err-TooLarge.ensures

pub returns-in-Err : goal.returns-in-Err
returns-in-Err c = single_refused c.args.text.now _ c.in-Err.ensures
