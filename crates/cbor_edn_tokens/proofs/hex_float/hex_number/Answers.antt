use Rattle.std.proofs.Common.{◌+◌, sym}
use Rattle.cbor_edn_grammar.specs.HexFloat.{with_exponent}
use Rattle.cbor_edn_tokens.proofs.HexFloats.{rest_is, number_is}
use Rattle.cbor_edn_tokens.proofs.hex_float.hex_number.Goals as goal

pub returns-clause-finds : goal.returns-clause-finds
returns-clause-finds c =
    let digits = c.in-Some.digits.now in
    let end = c.in-Some-find_p.end in
    let found = c.in_ok-found.ensures.finds in
    let places = c.in_ok-found.found.1 in
    let negative = c.is_negative.result in
    let below = c.is_negative-2.result in
    let size = c.in_ok-size.size in (
      with_exponent negative found.0 places below size,
      number_is c.args.text.now digits _ end found.0 places size negative below (sym c.in-Some.ensures)
          (sym c.in-Some-find_p.ensures.at) (rest_is digits (end + 1)) found.1 c.in_ok-size.ensures.gives
          c.is_negative.ensures c.is_negative-2.ensures,
      c.with_exponent.ensures.is found.0 found.2,
    )
