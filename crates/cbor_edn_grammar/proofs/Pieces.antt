-- In the definitions of EDN, turns take a text whole, whatever follows the text (`Taken`): this holds for the empty
-- text, for a text that one turn takes, and for two such texts joined. If a last turn comes after such a text,
-- `repeated` returns the values of the text and then those of the last turn.
use Rattle.std.proofs.Common.{◌≡◌, ℕ, zero, suc, ◌<◌, List, [], ◌++◌, length, Option, Some, None, Bool, true}
use Rattle.std.proofs.Common.{false, refl, sym, ap, ◌∙◌, append_assoc, length-append, arith}
use Rattle.cbor_edn_grammar.specs.Reading.{Read, ◌>>=◌, with_later, turns, repeated}
use Rattle.cbor_edn_grammar.proofs.Turns.{onto}

abbrev pub Turn : Type 0
Turn = List ℕ → Option (List ℕ × Bool × List ℕ)

-- Whatever follows the text, turns take all of it, give these values, and go on after it.
pub record Taken (turn : Turn) (text found : List ℕ) : Type 0 where
  pub goes : (n : ℕ) (rest : List ℕ) → length (text ++ rest) < n
      → (m : ℕ) × (length rest < m) × (turns turn n (text ++ rest) ≡ onto found (turns turn m rest))

onto_nothing : (read : Read (List ℕ)) → read ≡ onto [] read
onto_nothing None = refl
onto_nothing (Some r) = refl

onto_both : (first second : List ℕ) (read : Read (List ℕ))
    → onto first (onto second read) ≡ onto (first ++ second) read
onto_both first second None = refl
onto_both first second (Some r) = ap (λ xs. Some (xs, r.1)) (sym (append_assoc first second r.0))

pub taken_nothing : {turn : Turn} → Taken turn [] []
taken_nothing {turn} = record { goes = λ n rest room. (n, room, onto_nothing (turns turn n rest)) }

pub taken_then : {turn : Turn} {text more found next : List ℕ} → Taken turn text found → Taken turn more next
    → Taken turn (text ++ more) (found ++ next)
taken_then {turn} {text} {more} {found} {next} h k = record {
  goes = λ n rest room.
      let joined = append_assoc text more rest in
      let a = h.goes n (more ++ rest) (omega (arith, ap length joined)) in
      let b = k.goes a.0 rest a.1 in (
        b.0,
        b.1,
        ap (turns turn n) joined ∙ a.2 ∙ ap (onto found) b.2 ∙ onto_both found next (turns turn b.0 rest),
      );
}

one_turn : (turn : Turn) (text found : List ℕ) → 0 < length text
    → ((rest : List ℕ) → turn (text ++ rest) ≡ Some (found, true, rest)) → (n : ℕ) (rest : List ℕ)
    → length (text ++ rest) < n
    → (m : ℕ) × (length rest < m) × (turns turn n (text ++ rest) ≡ onto found (turns turn m rest))
unfolding turns
one_turn turn text found some is zero rest room = absurd (omega arith)
one_turn turn text found some is (suc m) rest room =
    (m, omega (arith, length-append text rest), ap (λ t. t >>= with_later (turns turn m)) (is rest))

-- one turn takes all of the text
pub taken_turn : {turn : Turn} {text found : List ℕ} → 0 < length text
    → ((rest : List ℕ) → turn (text ++ rest) ≡ Some (found, true, rest)) → Taken turn text found
taken_turn {turn} {text} {found} some is = record { goes = one_turn turn text found some is }

last_turn : (turn : Turn) (n : ℕ) (text last rest : List ℕ) → length text < n → turn text ≡ Some (last, false, rest)
    → turns turn n text ≡ Some (last, rest)
unfolding turns
last_turn turn zero text last rest room is = absurd (omega arith)
last_turn turn (suc n) text last rest room is = ap (λ t. t >>= with_later (turns turn n)) is

-- a text that turns take, and one last turn
pub taken_all : {turn : Turn} {text found : List ℕ} → Taken turn text found → (after last rest : List ℕ)
    → turn after ≡ Some (last, false, rest) → repeated turn (text ++ after) ≡ Some (found ++ last, rest)
taken_all {turn} {text} {found} h after last rest is =
    let a = h.goes (suc (length (text ++ after))) after (omega arith) in
    a.2 ∙ ap (onto found) (last_turn turn a.0 after last rest a.1 is)
