-- For `read_quoted`, which adds the content before the first quote or backslash at once: turns of `content_turn` take
-- the same bytes one by one, and the later turns give the same whole result.
use Rattle.std.proofs.Common.{◌≡◌, ℕ, ◌<◌, ◌==◌, Bool, true, false, List, [], ◌∷◌, ◌++◌, length, take, drop}
use Rattle.std.proofs.Common.{Some, None, suc, refl, sym, ap, subst, ◌∙◌, append_assoc, arith}
use Rattle.std.proofs.lemmas.List.{take-append-drop}
use Rattle.cbor_edn_grammar.specs.Reading.{Read, turns}
use Rattle.cbor_edn_grammar.specs.Quoted.{plain_len, content_turn}
use Rattle.cbor_edn_grammar.proofs.Turns.{onto}
use Rattle.cbor_edn_grammar.proofs.Pieces.{Taken, taken_nothing, taken_then, taken_turn}

abbrev plain : ℕ → List ℕ → List ℕ
plain quote text = take (plain_len quote text) text

plain_byte : (quote b : ℕ) (text : List ℕ) (ends escapes : Bool) → (b == quote) ≡ ends → (b == 92) ≡ escapes
    → Taken (content_turn quote) (plain quote text) (plain quote text)
    → Taken (content_turn quote) (plain quote (b ∷ text)) (plain quote (b ∷ text))
plain_byte quote b text true escapes end escape more = rw end taken_nothing
plain_byte quote b text false true end escape more = rw (end, escape) taken_nothing
plain_byte quote b text false false end escape more =
    let one : Taken (content_turn quote) (b ∷ []) (b ∷ []) =
    taken_turn (omega arith) (λ rest. rw (end, escape) refl) in
    let longer : plain_len quote (b ∷ text) ≡ suc (plain_len quote text) = rw (end, escape) (omega arith) in
    subst (λ n. Taken (content_turn quote) (take n (b ∷ text)) (take n (b ∷ text))) (sym longer) (taken_then one more)

plain_taken : (quote : ℕ) (text : List ℕ) → Taken (content_turn quote) (plain quote text) (plain quote text)
plain_taken quote [] = taken_nothing
plain_taken quote (b ∷ text) = plain_byte quote b text (b == quote) (b == 92) refl refl (plain_taken quote text)

onto_both : (first second : List ℕ) (read : Read (List ℕ))
    → onto (first ++ second) read ≡ onto first (onto second read)
onto_both first second None = refl
onto_both first second (Some r) = ap (λ xs. Some (xs, r.1)) (append_assoc first second r.0)

-- where that content is taken at once, the later turns give what they give after its turns
pub plain_more : (quote n : ℕ) (front text : List ℕ) (total : Read (List ℕ)) → length text < n
    → onto front (turns (content_turn quote) n text) ≡ total
    → (m : ℕ) × (length (drop (plain_len quote text) text) < m)
    × (onto (front ++ take (plain_len quote text) text)
    (turns (content_turn quote) m (drop (plain_len quote text) text)) ≡ total)
plain_more quote n front text total enough so_far =
    let rest = drop (plain_len quote text) text in
    let whole = take-append-drop (plain_len quote text) text in
    let next = (plain_taken quote text).goes n rest (omega (arith, enough, ap length whole)) in (
      next.0,
      next.1,
      onto_both front (plain quote text) (turns (content_turn quote) next.0 rest)
          ∙ ap (onto front) (sym next.2 ∙ ap (turns (content_turn quote) n) whole) ∙ so_far,
    )
