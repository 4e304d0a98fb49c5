-- For `find_apostrophe`: the index that a search with `memchr` finds (`IsFirstByte`) is the index of the first
-- apostrophe (`position`). If the search finds none, the text has no apostrophe.
use Rattle.std.proofs.Common.{◌≡◌, ℕ, ◌<◌, ◌==◌, Bool, true, false, List, length, get_or, position, Option, Some, None}
use Rattle.std.proofs.Common.{refl, sym, ap, ◌∙◌, arith}
use Rattle.std.specs.List.{position_or_len}
use Rattle.std.proofs.lemmas.Bool.{cond-true, cond-false, lt-ltb, le-ltb}
use Rattle.std.proofs.lemmas.List.Sums.{position_or_len_is}
use Rattle.memchr.specs.Find.{IsFirstByte, is_byte}

abbrev is_apostrophe : ℕ → Bool
is_apostrophe b = b == 39

fails : (b : Bool) → ¬ (b ≡ true) → b ≡ false
fails true wrong = absurd (wrong refl)
fails false wrong = refl

pub first_apostrophe : (text : List ℕ) (found : Option ℕ) → IsFirstByte (is_byte 39) text found
    → found ≡ position (λ b. b == 39) text
first_apostrophe text None none =
    let at : position_or_len is_apostrophe text ≡ length text =
    position_or_len_is is_apostrophe text (length text) 0 (omega arith)
    (λ k lt. fails (is_apostrophe (get_or text k 0)) (none k (omega arith) lt)) (λ lt. absurd (omega arith)) in
    sym (cond-false _ _ None (le-ltb (position_or_len is_apostrophe text) (length text) (omega (arith, at))))
first_apostrophe text (Some k) first =
    let high : k < length text = first.0.high in
    let at : position_or_len is_apostrophe text ≡ k =
    position_or_len_is is_apostrophe text k 0 (omega arith)
    (λ j lt. fails (is_apostrophe (get_or text j 0)) (first.0.before j (omega arith) lt)) (λ lt. first.1) in
    sym (cond-true _ _ None (lt-ltb (position_or_len is_apostrophe text) (length text) (omega (arith, at)))
    ∙ ap Some at)
