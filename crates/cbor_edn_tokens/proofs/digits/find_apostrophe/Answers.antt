-- The first place that is found is that of the first apostrophe.
use Rattle.cbor_edn_tokens.proofs.Apostrophe.{first_apostrophe}
use Rattle.cbor_edn_tokens.proofs.digits.find_apostrophe.Goals as goal

pub returns-clause-at : goal.returns-clause-at
returns-clause-at c = first_apostrophe c.args.text.now c.memchr.result c.memchr.ensures
