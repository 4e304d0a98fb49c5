-- Where no keys are one, only memory stops bytes that keep the rules.
use Rattle.std.proofs.lemmas.Result.{err_from_is_err_and}
use Rattle.cbor_reencode.proofs.Kept.{none_lasts}
use Rattle.cbor_reencode.proofs.keys.reencoded.Goals as goal

pub returns-in_err-check_keys-clause-kept : goal.returns-in_err-check_keys-clause-kept
returns-in_err-check_keys-clause-kept c = λ keeps apart.
    let p = err_from_is_err_and c.from_residual.result c.from_residual.ensures.1 in
    rw (p.1, p.2) (c.in_err-check_keys.ensures.found (none_lasts c.args.rules c.args.bytes.now keeps) apart)
