use Rattle.std.proofs.Common.{◌≡◌}
use Rattle.cbor_tokens.specs.Base64.{standard, url_safe}
use Rattle.cbor_tokens.proofs.bases.Base64Digits.{found_either, none_from, url_safe_chosen, standard_chosen}
use Rattle.cbor_tokens.proofs.base64_text.base64_any_decode.Goals as goal

pub returns-clause-found : goal.returns-clause-found
returns-clause-found c = found_either _ _ c.args.digits.now _ c.decode.ensures.found

pub returns-clause-only_url_safe : goal.returns-clause-only_url_safe
returns-clause-only_url_safe c = λ bytes all is.
    c.decode.ensures.only bytes all (url_safe_chosen c.args.digits.now bytes _ c.is_standard_only.ensures all is)

pub returns-clause-only_standard : goal.returns-clause-only_standard
returns-clause-only_standard c = λ bytes all is.
    c.decode.ensures.only bytes all (standard_chosen c.args.digits.now bytes _ c.is_standard_only.ensures all is)

pub returns-clause-none : goal.returns-clause-none
returns-clause-none c =
    none_from _ _ (λ bytes. c.args.digits.now ≡ url_safe bytes) (λ bytes. c.args.digits.now ≡ standard bytes)
    (returns-clause-only_url_safe c) (returns-clause-only_standard c)
