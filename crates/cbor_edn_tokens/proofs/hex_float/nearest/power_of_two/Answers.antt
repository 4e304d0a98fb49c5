use Rattle.std.proofs.Common.{◌≡◌, ◌*◌, ◌^◌, ◌%◌, ◌≤◌, lit<, pow_mono, shl_exact, arith}
use Rattle.cbor_edn_tokens.proofs.hex_float.nearest.power_of_two.Goals as goal

pub returns-clause-most : goal.returns-clause-most
returns-clause-most c =
    let k = c.args.exponent in
    let whole : (1 * 2 ^ k) % 2 ^ 64 ≡ 1 * 2 ^ k = shl_exact {a = 1} 1 k 64 (lit< tt) (omega (arith, c.requires)) in
    let most : 2 ^ k ≤ 2 ^ 62 = pow_mono {i = k} {j = 62} c.requires in
    omega (arith, whole, most)
