-- The errors of the C call `cbor_diag_page` (`IsNoPage`): memory ran out, the flags are unknown, no type has the given
-- name, or the given file of names has an error.
use Rattle.std.specs.Prelude.{◌≡◌, ◌≢◌, ◌⊎◌, ℕ, ◌<◌, List, []}
use Rattle.cbor_diag_c.specs.Answers.{no_form, no_type, wrong_names}

-- Memory ran out, there are no such flags, no type has the name that is given, or the file of names that is given has
-- an error.
abbrev pub IsNoPage : List ℕ → List ℕ → ℕ → ℕ → Type 0
IsNoPage kind names flags n =
    (n ≡ 1)
    ⊎ ((n ≡ no_form) × (3 < flags))
    ⊎ ((n ≡ no_type) × (kind ≢ []))
    ⊎ ((n ≡ wrong_names) × (names ≢ []))
