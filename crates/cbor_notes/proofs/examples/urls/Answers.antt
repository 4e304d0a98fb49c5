use Rattle.std.proofs.Common.{refl}
use Rattle.url.proofs.OnLiterals.{url_on_literals}
use Rattle.cbor_notes.proofs.examples.urls.Goals as goal

pub returns-clause-absolute : goal.returns-clause-absolute
unfolding url_on_literals
returns-clause-absolute c = refl

pub returns-clause-relative : goal.returns-clause-relative
unfolding url_on_literals
returns-clause-relative c = refl
