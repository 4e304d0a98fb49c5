-- For `hex_float.rt` and `hex_float/nearest.rt`: which numbers a `Front` (leading hex digits, and how many follow;
-- `IsFront`) and a `HexNumber` (`IsNumber`) stand for, and how large their fields are.
use Rattle.std.specs.Prelude.{◌≡◌, ℕ, ◌+◌, ◌*◌, ◌^◌, ◌<◌, ◌≤◌, true, false, Option, Some, Result, Ok, Err}
use Rattle.std.specs.Float.Ieee as ieee
use Rattle.cbor_edn_grammar.specs.HexFloat.{Dyadic}
use Rattle.cbor_edn_grammar.specs.declared.error.Stop.{Stop}
use Rattle.cbor_edn_grammar.specs.Reading.{Refuses}
use Rattle.cbor_edn_tokens.specs.declared.hex_float.HexNumber.{HexNumber}
use Rattle.cbor_edn_tokens.specs.declared.hex_float.nearest.Format.{Format}
use Rattle.cbor_edn_tokens.specs.declared.hex_float.nearest.Format.TheVariants.{Single, Double}
use Rattle.cbor_edn_tokens.specs.declared.hex_float.nearest.Front.{Front}

-- the format by its name in IEEE 754
abbrev pub format_of : Format → ieee.Format
format_of Single = ieee.binary32
format_of Double = ieee.binary64

-- what the digits behind the front are: below 16 to their count, and zero only if each of them is
pub record Behind (front : Front) (tail : ℕ) : Type 0 where
  pub less : tail < 2 ^ (4 * front.behind)
  pub some : front.more ≡ true → 0 < tail
  pub none : front.more ≡ false → tail ≡ 0

-- the number n has this front
pub record IsFront (front : Front) (n : ℕ) : Type 0 where
  pub tail : ℕ
  pub behind : Behind front tail
  pub number : n ≡ front.digits * 2 ^ (4 * front.behind) + tail

-- the front is below 2 ^ 60, and if there are digits behind it, not below 2 ^ 56
pub record FitsFront (front : Front) : Type 0 where
  pub digits : front.digits < 2 ^ 60
  pub long : 0 < front.behind → 2 ^ 56 ≤ front.digits

-- what was found is the front of the number that there is
abbrev pub Finds : Result Front Stop → Option ℕ → Type 0
Finds (Ok front) number = (n : ℕ) × (number ≡ Some n) × IsFront front n
Finds (Err e) number = Refuses e number

-- the same with how many digits are after the point
abbrev pub FindsDigits : Result (Front × ℕ) Stop → Option (ℕ × ℕ) → Type 0
FindsDigits (Ok x) number = (n : ℕ) × (number ≡ Some (n, x.1)) × IsFront x.0 n
FindsDigits (Err e) number = Refuses e number

-- a number by the front of its digits
pub record IsNumber (x : HexNumber) (number : Dyadic) : Type 0 where
  pub negative : x.negative ≡ number.negative
  pub digits : IsFront x.digits number.digits
  pub up : x.up ≡ number.up
  pub down : x.down ≡ number.down

pub record FitsNumber (x : HexNumber) : Type 0 where
  pub digits : FitsFront x.digits
  pub up : x.up < 2 ^ 67
  pub down : x.down < 2 ^ 67

-- what was found is the number that there is
abbrev pub FindsNumber : Result HexNumber Stop → Option Dyadic → Type 0
FindsNumber (Ok x) number = (d : Dyadic) × (number ≡ Some d) × IsNumber x d
FindsNumber (Err e) number = Refuses e number
