-- For the code of `read_negative_number`, which holds each number past 2 ^ 64 as 2 ^ 64 + 1 (`capped`): this changes no
-- result, if the number after the `-` is not 0. One less than the number the code holds (`with_width`) gives the same
-- value or error as the definition.
use Rattle.std.proofs.Common.{◌≡◌, ℕ, suc, zero, ◌-◌, ◌≢◌, Option, Ok}
use Rattle.std.proofs.Common.{List}
use Rattle.std.proofs.Common.{ap, ◌∙◌, sym, arith}
use Rattle.std.proofs.lemmas.Grind.{common_steps}
use Rattle.cbor_grammar.specs.declared.width.IntegerWidth.{IntegerWidth}
use Rattle.cbor_grammar.specs.declared.error.Error.{Error}
use Rattle.cbor_grammar.specs.declared.error.Error.TheVariants as refusal
use Rattle.cbor_grammar.specs.Reading.{◌>>=◌, Fails}
use Rattle.cbor_tokens.specs.Token.{capped}
use Rattle.cbor_notation.specs.mirror.NotationReading.{read_number, with_width, negative_number, read_negative_number}

-- one less than a capped number has the width of one less than the number, or none
less_capped : (m : ℕ) (indicator : Option ℕ) → with_width (capped (suc m) - 1) indicator ≡ with_width m indicator
less_capped m indicator = grind (arith, common_steps)

capped_negative : (value n : ℕ) (indicator : Option ℕ) → n ≡ capped value → n ≢ 0
    → with_width (n - 1) indicator ≡ negative_number value indicator
capped_negative zero n indicator e some = absurd (some e)
capped_negative (suc m) n indicator e some = ap (λ (k : ℕ). with_width (k - 1) indicator) e ∙ less_capped m indicator

module _ (text rest : List ℕ) (value n : ℕ) (indicator : Option ℕ)
    (read : read_number text ≡ Ok ((value, indicator), rest)) (is : n ≡ capped value) (some : n ≢ 0) where
  there : read_negative_number text ≡ (with_width (n - 1) indicator >>= λ x. Ok (x, rest))
  there = ap (λ r. r >>= λ x. negative_number x.0.0 x.0.1 >>= λ n. Ok (n, x.1)) read
      ∙ ap (λ r. r >>= λ x. Ok (x, rest)) (sym (capped_negative value n indicator is some))

  pub negative_read : (x : ℕ × IntegerWidth) → with_width (n - 1) indicator ≡ Ok x
      → read_negative_number text ≡ Ok (x, rest)
  negative_read x e = there ∙ ap (λ r. r >>= λ x. Ok (x, rest)) e

  pub negative_fails : (e : Error) → Fails e (with_width (n - 1) indicator) → Fails e (read_negative_number text)
  negative_fails refusal.Memory h = tt
  negative_fails e h = there ∙ ap (λ r. r >>= λ x. Ok (x, rest)) h
