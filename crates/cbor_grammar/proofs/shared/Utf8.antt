-- `is_utf8` returns true for bytes that are UTF-8 (`IsUtf8`), and false for all other bytes.
use Rattle.std.proofs.Common.{◌≡◌, ℕ, Bool, true, false, List, refl}
use Rattle.std.specs.Str.{IsUtf8, is_utf8}
use Rattle.std.proofs.lemmas.Str.{IsUtf8-from_is_utf8, is_utf8-from_IsUtf8}

test_fails : (t : Bool) → ¬ (t ≡ true) → t ≡ false
test_fails true h = absurd (h refl)
test_fails false h = refl

pub utf8_fails : (b : List ℕ) → ¬ (IsUtf8 b) → is_utf8 b ≡ false
utf8_fails b h = test_fails (is_utf8 b) (λ e. h (IsUtf8-from_is_utf8 b e))

pub utf8_passes : (b : List ℕ) → IsUtf8 b → is_utf8 b ≡ true
utf8_passes b h = is_utf8-from_IsUtf8 b h

-- both outcomes of the test
pub ruleset utf8_tests = (utf8_fails, utf8_passes)
