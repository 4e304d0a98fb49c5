-- The decimal digits of a value up to 2 ^ 64 (`decimal`), with an indicator or nothing after them, are a number with
-- this value and this indicator (`IsNumber`).
use Rattle.std.proofs.Common.{ℕ, ◌^◌, ◌≤◌, List, ◌++◌, Option, refl, sym, arith}
use Rattle.std.proofs.lemmas.Fmt.{decimal_is_IsNumeral_wide}
use Rattle.std.specs.Fmt.{decimal}
use Rattle.cbor_tokens.specs.Token.{Indicates, IsNumber}
use Rattle.cbor_tokens.specs.Token.{decimal_base}

pub decimal_IsNumber : (v : ℕ) (after : List ℕ) (indicator : Option ℕ) → v ≤ 2 ^ 64 → Indicates after indicator
    → IsNumber (decimal v ++ after) v indicator
decimal_IsNumber v after indicator le is =
    let n = decimal_is_IsNumeral_wide v (omega arith) in
    record {
      base = decimal_base;
      digits = decimal v;
      after = after;
      text_is = refl;
      digits_are = (n.0, sym n.1);
      after_is =
          is;
    }
