-- For `Cursor::skip_blank` and `Cursor::take_comma`: `skip_blank` skips nothing if the next byte is above 32 (a space)
-- and is not `/`. `after_space` finds nothing if the next byte is above 32.
use Rattle.std.proofs.Common.{◌≡◌, ◌≢◌, ◌==◌, ℕ, ◌<◌, List, ◌∷◌, None, true, false, nat_le}
use Rattle.std.proofs.Common.{suc, length, refl, arith}
use Rattle.std.proofs.lemmas.Bool.Decides.{nat_tests}
use Rattle.cbor_tokens.specs.Token.{is_whitespace}
use Rattle.cbor_notation.specs.mirror.NotationReading.{skip_blank, after_space}

not_white : (b : ℕ) → 32 < b → is_whitespace b ≡ false
not_white b high = grind (arith, nat_tests)

pub no_blank : (b : ℕ) (text : List ℕ) → 32 < b → b ≢ 47 → skip_blank (b ∷ text) ≡ b ∷ text
no_blank b text high other =
    let white = not_white b high in
    let slash : (b == 47) ≡ false = grind (arith, nat_tests) in
    rw (white, slash) refl

pub no_space : (close b : ℕ) (text : List ℕ) → 32 < b → after_space close (b ∷ text) ≡ None
no_space close b text high =
    let white = not_white b high in
    let some : nat_le 1 (suc (length text)) ≡ true = grind (arith, nat_tests) in
    rw (white, some) refl
