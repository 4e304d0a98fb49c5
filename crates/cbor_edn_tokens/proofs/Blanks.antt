-- For the loop of `after_blank`, which passes one space or comment in each turn: `after_spaces` returns the same text
-- after a turn as before. If no space or comment is next, this text is what is left.
use Rattle.std.proofs.Common.{◌≡◌, ℕ, zero, suc, ◌<◌, ◌≤◌, List, length, Some, None, Bool, ap, ◌∙◌, arith}
use Rattle.cbor_edn_grammar.specs.Blank.{after_space, or_here, after_spaces}

pub blank_more : (slashes : Bool) (n : ℕ) (text rest total : List ℕ) → length text ≤ n
    → Some rest ≡ after_space slashes text → length rest < length text → after_spaces slashes n text ≡ total
    → (m : ℕ) × (length rest ≤ m) × (after_spaces slashes m rest ≡ total)
unfolding after_spaces
blank_more slashes zero text rest total room found shorter so_far = absurd (omega arith)
blank_more slashes (suc n) text rest total room found shorter so_far =
    (n, omega arith, ap (or_here (after_spaces slashes n) text) found ∙ so_far)

pub blank_end : (slashes : Bool) (n : ℕ) (text total : List ℕ) → None ≡ after_space slashes text
    → after_spaces slashes n text ≡ total → text ≡ total
unfolding after_spaces
blank_end slashes zero text total none so_far = so_far
blank_end slashes (suc n) text total none so_far = ap (or_here (after_spaces slashes n) text) none ∙ so_far
