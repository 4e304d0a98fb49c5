-- For `end_at` and `after_within`: an item at a spot ends where the rest that `read_item` leaves begins, and nowhere if
-- `read_item` fails (`EndsAt`). An item that is read in some first bytes is also read in all bytes, and an item that
-- ends within some first bytes is read in these alone.
use Rattle.std.proofs.Common.{◌≡◌, ℕ, ◌+◌, ◌-◌, ◌≤◌, List, ◌++◌, length, take, drop, Ok, Err, sym, ap, ◌∙◌}
use Rattle.std.proofs.Common.{append_assoc, arith}
use Rattle.std.proofs.Math.Seq.{take-append-add}
use Rattle.std.proofs.lemmas.List.{length-append, length-drop, length-take-le, take-append-drop, drop_at}
use Rattle.cbor_grammar.specs.declared.error.Error.{Error}
use Rattle.cbor_grammar.specs.Item.{Item}
use Rattle.cbor_grammar.specs.Answer.{spelled}
use Rattle.cbor_grammar.specs.Reading.{read_item}
use Rattle.cbor_grammar.specs.WellFormed.{deepest, levels_left}
use Rattle.cbor_grammar.proofs.bytes.Heads.{IsBytes, IsBytes-drop, IsBytes-take}
use Rattle.cbor_grammar.proofs.bytes.Found.{item_takes}
use Rattle.cbor_grammar.proofs.bytes.ExactlyOne.{outcome_reads}
use Rattle.cbor_grammar.proofs.bytes.FoundAgain.{spelled_level, item_again}
use Rattle.cbor_grammar.proofs.bytes.Outcomes.{found_outcome}
use Rattle.cbor_grammar.proofs.bytes.Shorter.{item_shorter}
use Rattle.cbor_trace.specs.declared.part.Spot.{Spot}
use Rattle.cbor_trace.specs.Around.{EndsAt}
use Rattle.cbor_trace.proofs.Values.{same_read, no_value}

module _ (b : List ℕ) (s : Spot) where
  pub no_deeper : (end : ℕ) → EndsAt b s end → s.level ≤ deepest
  no_deeper end h = spelled_level s.level _ h.1 h.3.1

  -- what is read of an item that ends there
  reads : (end : ℕ) (h : EndsAt b s end)
      → read_item (levels_left s.level) (drop s.start b) ≡ Ok (h.1, drop h.2 (drop s.start b))
  reads end h = outcome_reads s.level (levels_left s.level) (drop s.start b) (spelled h.1 h.2)
      (omega (arith, no_deeper end h)) h.3

  pub no_end : (end : ℕ) (e : Error) → read_item (levels_left s.level) (drop s.start b) ≡ Err e → EndsAt b s end → ⊥
  no_end end e fails h =
      no_value (read_item (levels_left s.level) (drop s.start b)) (h.1, drop h.2 (drop s.start b)) e fails (reads end h)

  pub one_end : (end : ℕ) (i : Item) (rest : List ℕ) → read_item (levels_left s.level) (drop s.start b) ≡ Ok (i, rest)
      → EndsAt b s end → length b - length rest ≡ end
  one_end end i rest is h =
      let same = ap length (same_read (read_item (levels_left s.level) (drop s.start b)) i h.1 rest
      (drop h.2 (drop s.start b)) is (reads end h)) in
      omega (arith, same, length-drop h.2 (drop s.start b), length-drop s.start b, h.0, h.3.0, h.4)

  pub that_end : (i : Item) (rest : List ℕ) → IsBytes b → s.start ≤ length b → s.level ≤ deepest
      → read_item (levels_left s.level) (drop s.start b) ≡ Ok (i, rest) → EndsAt b s (length b - length rest)
  that_end i rest fits start level is =
      let found = found_outcome s.level (levels_left s.level) (drop s.start b) i rest (omega (arith, level))
      (IsBytes-drop s.start b fits) is in
      let shorter = item_shorter (levels_left s.level) (drop s.start b) i rest is in (
        start,
        i,
        length (drop s.start b) - length rest,
        found,
        omega (arith, shorter, length-drop s.start b, start),
      )

-- ---- an item in some first bytes

module _ (level left : ℕ) (sum : level + left ≡ 129) where
  -- An item of some first bytes is read with the bytes behind them, too.
  pub read_more : (m : ℕ) (b : List ℕ) (i : Item) (unread : List ℕ) → m ≤ length b → IsBytes b
      → read_item left (take m b) ≡ Ok (i, unread) → read_item left b ≡ Ok (i, drop (m - length unread) b)
  read_more m b i unread le fits e =
      let t = item_takes level left (take m b) i unread sum (IsBytes-take m b fits) e in
      let len : m ≡ length t.front + length unread =
      sym (length-take-le m b le) ∙ ap length t.parts ∙ length-append t.front unread in
      let parts : b ≡ t.front ++ (unread ++ drop m b) =
      sym (take-append-drop m b) ∙ ap (λ (x : List ℕ). x ++ drop m b) t.parts
      ∙ append_assoc t.front unread (drop m b) in
      let rest : drop (m - length unread) b ≡ unread ++ drop m b =
      ap (drop (m - length unread)) parts
      ∙ drop_at t.front (unread ++ drop m b) (m - length unread) (omega (arith, len)) in
      ap (read_item left) parts ∙ item_again level left t.front i (unread ++ drop m b) sum t.spells
      ∙ ap (λ (r : List ℕ). Ok (i, r)) (sym rest)

  -- An item that ends within some first bytes is read in them.
  pub read_front : (n : ℕ) (b : List ℕ) (i : Item) (r : List ℕ) → IsBytes b → read_item left b ≡ Ok (i, r)
      → length b ≤ n + length r → (s : List ℕ) × (read_item left (take n b) ≡ Ok (i, s))
  read_front n b i r fits e le =
      let t = item_takes level left b i r sum fits e in
      let len : length b ≡ length t.front + length r = ap length t.parts ∙ length-append t.front r in
      let more = n - length t.front in
      let all : n ≡ length t.front + more = omega (arith, len, le) in
      let front : take n b ≡ t.front ++ take more r =
      ap (take n) t.parts ∙ ap (λ (k : ℕ). take k (t.front ++ r)) all ∙ take-append-add t.front r more in
      (take more r, ap (read_item left) front ∙ item_again level left t.front i (take more r) sum t.spells)
