-- For all crates: what memory holds after a call that appends (`Appends`; `AppendsText`, for texts). After `Ok` it
-- holds the old bytes and then the appended ones. After an error it begins with the old bytes.
use Rattle.std.specs.Prelude.{◌≡◌, ℕ, List, ◌++◌, Result, MatchResult}
use Rattle.std.specs.Io.{StartsWith}
use Rattle.std.specs.String.{string_bytes}
use Rattle.std.specs.declared.string.String.{String}

-- After `Ok` the new bytes are the old ones and then `tail`; after an error they begin with the old ones, and
-- a part of `tail` may follow.
abbrev pub Appends : {T E : Type 0} → Result T E → List ℕ → List ℕ → List ℕ → Type 0
Appends result old new tail = MatchResult result (λ _. new ≡ old ++ tail) (λ _. StartsWith new old)

-- the same of texts
abbrev pub AppendsText : {T E Z : Type 0} → Result T E → String Z → String Z → List ℕ → Type 0
AppendsText result old new text = Appends result (string_bytes old) (string_bytes new) text
