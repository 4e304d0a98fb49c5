-- For `items.rt`: reading one item decides `is_item`, and the loop over items in `is_sequence` returns what the
-- definition returns.
use Rattle.std.proofs.Common.{◌≡◌, ℕ, zero, suc, ◌+◌, ◌≤◌, List, [], ◌∷◌, length, Bool, true, false, ◌==◌, ◌&&◌}
use Rattle.std.proofs.Common.{Ok, Err, refl, sym, ap, ◌∙◌, arith, nat_le}
use Rattle.std.proofs.lemmas.Bool.Decides.{nat_tests}
use Rattle.cbor_grammar.specs.declared.error.Error.{Error}
use Rattle.cbor_grammar.specs.Embedded.{if_whole, embedded_at, sequence_of, sequence_at}
use Rattle.cbor_grammar.specs.Item.{Item}
use Rattle.cbor_grammar.specs.Reading.{read_item}
use Rattle.cbor_grammar.specs.WellFormed.{deepest, levels_left}
use Rattle.cbor_grammar.proofs.bytes.Shorter.{item_shorter}
use Rattle.cbor_inside.specs.Rule.{is_empty, is_found, is_item, is_sequence}

empty_is : (b : List ℕ) → (length b == 0) ≡ is_empty b
empty_is [] = refl
empty_is (x ∷ b) = some_is (length b)
  where
    some_is : (n : ℕ) → (suc n == 0) ≡ false
    some_is n = grind (arith, nat_tests)

within : (level : ℕ) → level ≤ 128 → nat_le level deepest ≡ true
within level low = grind (arith, nat_tests, low)

-- ---- one item

whole_is : (i : Item) (rest : List ℕ) → is_found (if_whole (Ok (i, rest))) ≡ is_empty rest
whole_is i [] = refl
whole_is i (x ∷ rest) = refl

pub one_read : (level : ℕ) (b rest : List ℕ) (i : Item) (none : Bool) → level ≤ 128
    → read_item (levels_left (level + 1)) b ≡ Ok (i, rest) → none ≡ (length rest == 0) → none ≡ is_item level b
one_read level b rest i none low found is =
    is ∙ empty_is rest ∙ sym (whole_is i rest) ∙ ap (λ r. is_found (if_whole r)) (sym found)
    ∙ sym (ap (λ t. t && is_found (embedded_at (levels_left (level + 1)) b)) (within level low))

pub none_read : (level : ℕ) (b : List ℕ) (e : Error) → level ≤ 128
    → read_item (levels_left (level + 1)) b ≡ Err e → false ≡ is_item level b
none_read level b e low fails =
    ap (λ r. is_found (if_whole r)) (sym fails)
    ∙ sym (ap (λ t. t && is_found (embedded_at (levels_left (level + 1)) b)) (within level low))

-- ---- a sequence

-- reading on from here, the same is left as of all bytes
pub record Leaves (left : ℕ) (rest b : List ℕ) : Type 0 where
  pub steps : ℕ
  pub enough : length rest ≤ steps
  pub same : (sequence_of (read_item left) steps rest).1 ≡ (sequence_at left b).1

pub leaves_all : (left : ℕ) (b : List ℕ) → Leaves left b b
leaves_all left b = record { steps = length b; enough = omega arith; same = refl }

step : (left steps : ℕ) (i : Item) (rest after b : List ℕ) → read_item left rest ≡ Ok (i, after)
    → length rest ≤ steps → (sequence_of (read_item left) steps rest).1 ≡ (sequence_at left b).1 → Leaves left after b
unfolding sequence_of
step left zero i rest after b found enough same = absurd (omega (arith, item_shorter left rest i after found))
step left (suc n) i rest after b found enough same =
    record {
      steps = n;
      enough = omega (arith, item_shorter left rest i after found);
      same = rw found at same;
    }

pub leaves_more : (left : ℕ) (i : Item) (rest after b : List ℕ) → read_item left rest ≡ Ok (i, after)
    → Leaves left rest b → Leaves left after b
leaves_more left i rest after b found l = step left l.steps i rest after b found l.enough l.same

stops : (left steps : ℕ) (rest b : List ℕ) (e : Error) → read_item left rest ≡ Err e
    → (sequence_of (read_item left) steps rest).1 ≡ (sequence_at left b).1 → rest ≡ (sequence_at left b).1
unfolding sequence_of
stops left zero rest b e fails same = same
stops left (suc n) rest b e fails same = rw fails at same

pub all_items : (level : ℕ) (b rest : List ℕ) (e : Error) (none : Bool) → level ≤ 128
    → read_item (levels_left (level + 1)) rest ≡ Err e → Leaves (levels_left (level + 1)) rest b
    → none ≡ (length rest == 0) → none ≡ is_sequence level b
all_items level b rest e none low fails l is =
    let left = levels_left (level + 1) in
    is ∙ empty_is rest ∙ ap is_empty (stops left l.steps rest b e fails l.same)
    ∙ sym (ap (λ t. t && is_empty (sequence_at left b).1) (within level low))
