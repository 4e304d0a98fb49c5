-- For the loop of `left_after_sequence`: it takes from the budget the estimated length of all items that can be read
-- from the front of the bytes (`sequence_at`), one item in each turn (`SequenceSoFar`).
use Rattle.std.proofs.Common.{◌≡◌, ℕ, zero, suc, ◌+◌, ◌-◌, ◌≤◌, List, length, Some, None, Ok, Err, refl, ap, arith}
use Rattle.cbor_grammar.specs.declared.error.Error.{Error}
use Rattle.cbor_notation_writer.specs.declared.ahead.Ahead.{Ahead}
use Rattle.cbor_grammar.specs.Embedded.{and_then, sequence_of, sequence_at}
use Rattle.cbor_grammar.specs.Estimate.{estimated_length, estimated_items}
use Rattle.cbor_grammar.specs.Item.{Item}
use Rattle.cbor_grammar.specs.Reading.{Read, read_item}
use Rattle.cbor_notation_writer.specs.mirror.Ahead.{Estimates, front_read}
use Rattle.cbor_grammar.proofs.bytes.Shorter.{item_shorter}

-- After the items so far this is left of the budget, and these bytes.
abbrev pub SequenceSoFar : ℕ → ℕ → List ℕ → ℕ → List ℕ → Type 0
SequenceSoFar budget levels b left rest = (n : ℕ) × (length rest ≤ n)
    × (left - estimated_items (sequence_of (read_item levels) n rest).0
    ≡ budget - estimated_items (sequence_at levels b).0)

pub nothing_yet : (budget levels : ℕ) (b : List ℕ) → SequenceSoFar budget levels b budget b
nothing_yet budget levels b = (length b, omega arith, refl)

-- the next item, and those after it
next_item : (levels n : ℕ) (b : List ℕ) (i : Item) (after : List ℕ) → read_item levels b ≡ Ok (i, after) → length b ≤ n
    → (m : ℕ) × (length after ≤ m) × (estimated_items (sequence_of (read_item levels) n b).0
    ≡ estimated_length i + 2 + estimated_items (sequence_of (read_item levels) m after).0)
unfolding sequence_of
next_item levels zero b i after e le = absurd (omega (arith, item_shorter levels b i after e))
next_item levels (suc n) b i after e le =
    let all : Read Item → ℕ = λ r. estimated_items (and_then (sequence_of (read_item levels) n) b r).0 in
    (n, omega (arith, item_shorter levels b i after e), ap all e)

pub one_more_item : (budget levels : ℕ) (b : List ℕ) (left : ℕ) (rest : List ℕ) (i : Item) (after : List ℕ) (a : Ahead)
    → SequenceSoFar budget levels b left rest → read_item levels rest ≡ Ok (i, after)
    → Estimates (Some a) left (front_read rest) → SequenceSoFar budget levels b (a.left - 2) after
one_more_item budget levels b left rest i after a so_far read finds =
    let next = next_item levels so_far.0 rest i after read so_far.1 in
    let found = finds levels i after read in
    (next.0, next.1, omega (arith, next.2, found.0, found.1, so_far.2))

pub item_takes_rest : (budget levels : ℕ) (b : List ℕ) (left : ℕ) (rest : List ℕ) (i : Item) (after : List ℕ)
    → SequenceSoFar budget levels b left rest → read_item levels rest ≡ Ok (i, after)
    → Estimates None left (front_read rest) → 0 ≡ budget - estimated_items (sequence_at levels b).0
item_takes_rest budget levels b left rest i after so_far read finds =
    let next = next_item levels so_far.0 rest i after read so_far.1 in
    let found : left ≤ estimated_length i = finds levels i after read in
    omega (arith, next.2, found, so_far.2)

last_item : (levels n : ℕ) (b : List ℕ) (e : Error) → read_item levels b ≡ Err e
    → estimated_items (sequence_of (read_item levels) n b).0 ≡ 0
unfolding sequence_of
last_item levels zero b e fails = refl
last_item levels (suc n) b e fails =
    let all : Read Item → ℕ = λ r. estimated_items (and_then (sequence_of (read_item levels) n) b r).0 in ap all fails

pub no_more_items : (budget levels : ℕ) (b : List ℕ) (left : ℕ) (rest : List ℕ) (e : Error)
    → SequenceSoFar budget levels b left rest → read_item levels rest ≡ Err e
    → left ≡ budget - estimated_items (sequence_at levels b).0
no_more_items budget levels b left rest e so_far fails =
    omega (arith, so_far.2, last_item levels so_far.0 rest e fails)
