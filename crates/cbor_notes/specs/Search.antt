-- `first_found` applies a function to 0, 1 and so on, below a limit, and returns the first result that is not `None`.
-- `first_minute` does the same for the hours and minutes of a day. The definitions of dates read texts by these
-- searches.
use Rattle.std.specs.Prelude.{ℕ, zero, suc, Option, None}
use Rattle.std.specs.Option.{option_or}

-- what is found for the first number, from 0 on and below n, for which anything is
unfoldable pub first_found : {X : Type 0} → ℕ → (ℕ → Option X) → Option X
first_found zero look = None
first_found (suc n) look = option_or (first_found n look) (look n)

-- what is found for the first hour and minute of a day for which anything is
unfoldable pub first_minute : {X : Type 0} → (ℕ → ℕ → Option X) → Option X
first_minute look = first_found 24 (λ hour. first_found 60 (λ minute. look hour minute))
