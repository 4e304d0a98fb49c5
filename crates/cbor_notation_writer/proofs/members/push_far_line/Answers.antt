-- A new line far from the left has as many blanks as its indent.
use Rattle.std.proofs.Common.{◌≡◌, ℕ, suc, ◌+◌, ◌-◌, ◌≤◌, ◌∷◌, ◌++◌, slice_range, replicate, take, refl, ap, ◌∙◌, arith}
use Rattle.std.specs.String.{string_bytes}
use Rattle.std.proofs.lemmas.List.{take-replicate}
use Rattle.std.proofs.lemmas.Str.{IsCharBoundary-from_ascii}
use Rattle.cbor_tokens.proofs.texts.HexLemmas.{IsAscii-from_test}
use Rattle.cbor_notation_writer.proofs.members.push_far_line.Goals as goal

-- a line feed and some of the blanks after it
line_cut : (n : ℕ) → n ≤ 64 → slice_range {X = ℕ} (10 ∷ replicate 64 32) 0 (1 + n) ≡ 10 ∷ replicate n 32
line_cut n h =
    let from_start : 1 + n - 0 ≡ suc n = omega arith in
    ap (λ (k : ℕ). take k (10 ∷ replicate 64 32)) from_start
    ∙ ap (λ blanks. 10 ∷ blanks) (take-replicate {X = ℕ} n 64 32 h)

pub range-requires-clause-end_boundary : goal.range-requires-clause-end_boundary
range-requires-clause-end_boundary c = IsCharBoundary-from_ascii (10 ∷ replicate 64 32) (1 + c.min-near.result)
    (IsAscii-from_test (10 ∷ replicate 64 32) refl) (omega (arith, c.min-near.ensures))

pub blanks-init : goal.blanks-init
blanks-init c = c.in_ok-push_str.ensures.bytes
    ∙ ap (λ t. string_bytes c.args.out.now ++ t)
    (c.range.ensures.value ∙ line_cut c.min-near.result (omega (arith, c.min-near.ensures)))
