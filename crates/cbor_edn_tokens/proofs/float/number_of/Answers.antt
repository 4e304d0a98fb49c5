use Rattle.cbor_edn_grammar.proofs.Floats.{number_found, number_none}
use Rattle.cbor_edn_tokens.proofs.float.number_of.Goals as goal

pub returns-in-Ok : goal.returns-in-Ok
returns-in-Ok c = number_found c.args.text.now _ c.in-Ok.ensures

pub returns-in-Err-TooLarge : goal.returns-in-Err-TooLarge
returns-in-Err-TooLarge c = number_none c.args.text.now _ c.in-Err-TooLarge.ensures

pub returns-in-Err : goal.returns-in-Err
returns-in-Err c = number_none c.args.text.now _ c.in-Err.ensures
