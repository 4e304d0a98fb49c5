-- If decoding the digits of hex with comments (`uncommented`) fails, the text has no other error (`IsHexRefused`),
-- unless memory ran out. If the digits decode to bytes (`decode_of`), decoding fails only if memory runs out, and each
-- error of the text is one of these bytes.
use Rattle.std.proofs.Common.{◌≡◌, ℕ, ◌%◌, List, length, Result, Ok, ◌⊎◌, inl, inr, arith, subst}
use Rattle.std.specs.List.{AllPass}
use Rattle.hex.specs.Hex.{decode_of, is_hex_digit}
use Rattle.hex.proofs.HexLemmas.{decode_of-ok, decode_of-same}
use Rattle.cbor_grammar.specs.declared.error.Error.{Error}
use Rattle.cbor_grammar.specs.declared.error.Error.TheVariants as refusal
use Rattle.cbor_grammar.specs.Answer.{GaveRefusal, IsRefused}
use Rattle.cbor_tokens.specs.Uncommented.{uncommented}
use Rattle.cbor_grammar.specs.HexText.{IsHexRefused}

-- what the error of some digits means
abbrev NoBytes : List ℕ → Error → Type 0
NoBytes s f =
    (f ≡ refusal.Memory) ⊎ (f ≡ refusal.OddHex) × (length s % 2 ≡ 1) ⊎ (f ≡ refusal.BadHex) × (length s % 2 ≡ 0)
    × ¬ (AllPass is_hex_digit s)

-- for digits that have bytes, the only error is out of memory
pub digits_want_memory : (s b : List ℕ) (f : Error) → NoBytes s f → decode_of s ≡ Ok b → f ≡ refusal.Memory
digits_want_memory s b f (inl m) h = m
digits_want_memory s b f (inr (inl w)) h = let even = (decode_of-ok s b h).0 in absurd (omega (arith, w.1))
digits_want_memory s b f (inr (inr w)) h = absurd (w.2 (decode_of-ok s b h).1)

-- an error of the digits is the text's
pub digits_refused : (text : List ℕ) (f e : Error) → NoBytes (uncommented text) f → IsHexRefused text e
    → (f ≡ e) ⊎ (f ≡ refusal.Memory)
digits_refused text f refusal.OddHex (inl m) odd = inr m
digits_refused text f refusal.OddHex (inr (inl w)) odd = inl w.0
digits_refused text f refusal.OddHex (inr (inr w)) odd = absurd (omega (arith, w.1))
digits_refused text f refusal.BadHex (inl m) bad = inr m
digits_refused text f refusal.BadHex (inr (inl w)) bad = absurd (omega (arith, w.1, bad.0))
digits_refused text f refusal.BadHex (inr (inr w)) bad = inl w.0
digits_refused text f e r w = inr (digits_want_memory (uncommented text) w.0 f r w.1)

-- for a text whose digits have bytes, each error is the bytes'
pub bytes_refused : {X : Type 0} (text b : List ℕ) (result : Result X Error) → decode_of (uncommented text) ≡ Ok b
    → ((e : Error) → IsRefused 1 b e → GaveRefusal result e) → (e : Error) → IsHexRefused text e → GaveRefusal result e
bytes_refused text b result h gave refusal.OddHex odd = let even =
    (decode_of-ok (uncommented text) b h).0 in absurd (omega (arith, odd))
bytes_refused text b result h gave refusal.BadHex bad = absurd (bad.1 (decode_of-ok (uncommented text) b h).1)
bytes_refused text b result h gave e w = gave e
    (subst (λ (x : List ℕ). IsRefused 1 x e) (decode_of-same (uncommented text) w.0 b w.1 h) w.2)
