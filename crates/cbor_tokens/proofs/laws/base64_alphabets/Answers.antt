use Rattle.std.proofs.Common.{refl}
use Rattle.cbor_tokens.proofs.laws.base64_alphabets.Goals as goal

pub returns-clause-standard : goal.returns-clause-standard
returns-clause-standard c = refl

pub returns-clause-url_safe : goal.returns-clause-url_safe
returns-clause-url_safe c = refl

pub returns-clause-standard_engine : goal.returns-clause-standard_engine
returns-clause-standard_engine c = λ bytes. refl

pub returns-clause-url_safe_engine : goal.returns-clause-url_safe_engine
returns-clause-url_safe_engine c = λ bytes. refl
