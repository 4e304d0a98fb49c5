-- The result of reading EDN (`Read`): a value and the text after it, or nothing. A text is the list of its bytes in
-- UTF-8. `Gives` says that a function returned such a result, unless memory ran out.
use Rattle.std.specs.Prelude.{◌≡◌, ℕ, zero, suc, List, [], ◌∷◌, ◌++◌, length, drop, Option, Some, None, Result, Ok}
use Rattle.std.specs.Prelude.{Err}
use Rattle.std.specs.Prelude.{Bool, true, false, nat_eq, ◌==◌, if◌then◌else◌}
use Rattle.std.specs.List.{starts_with}
use Rattle.cbor_edn_grammar.specs.declared.error.Stop.{Stop}
use Rattle.cbor_edn_grammar.specs.declared.error.Stop.TheVariants as stop

-- a value and the text after it
abbrev pub Read : Type 0 → Type 0
Read X = Option (X × List ℕ)

infixl 10 ◌>>=◌
abbrev pub ◌>>=◌ : {A B : Type 0} → Option A → (A → Option B) → Option B
None >>= f = None
(Some x) >>= f = f x

-- the text after this byte, where the text begins with it
abbrev pub after_byte : ℕ → List ℕ → Option (List ℕ)
after_byte byte [] = None
after_byte byte (b ∷ text) = if b == byte then Some text else None

-- the text after these bytes, where the text begins with them
abbrev pub after_bytes : List ℕ → List ℕ → Option (List ℕ)
after_bytes bytes text = if starts_with nat_eq text bytes then Some (drop (length bytes) text) else None

-- what a turn of `repeated` gives, with the values of the later turns
abbrev pub with_later : {X : Type 0} → (List ℕ → Read (List X)) → List X × Bool × List ℕ → Read (List X)
with_later later (found, true, rest) = later rest >>= λ more. Some (found ++ more.0, more.1)
with_later later (found, false, rest) = Some (found, rest)

-- The values of all turns in order. Each turn gives values, whether a further turn follows, and the text from there on.
-- The number bounds the turns; no text has more of them than it has bytes.
unfoldable pub turns : {X : Type 0} → (List ℕ → Option (List X × Bool × List ℕ)) → ℕ → List ℕ → Read (List X)
turns turn zero text = None
turns turn (suc n) text = turn text >>= with_later (turns turn n)

abbrev pub repeated : {X : Type 0} → (List ℕ → Option (List X × Bool × List ℕ)) → List ℕ → Read (List X)
repeated turn text = turns turn (suc (length text)) text

-- Where a function stops for another reason than memory, there is nothing to read.
abbrev pub Refuses : {Y : Type 0} → Stop → Option Y → Type 0
Refuses stop.Memory read = Unit {0}
Refuses (stop.At expected) read = read ≡ None

-- What a function returned, seen by view, is what reading gives, unless memory ran out.
abbrev pub Gives : {X Y : Type 0} → (X → Y) → Result X Stop → Option Y → Type 0
Gives view (Ok x) read = read ≡ Some (view x)
Gives view (Err e) read = Refuses e read

-- What a turn of a function that adds values to those before gave, unless memory ran out.
abbrev pub TurnGives : {X : Type 0} → Result Bool Stop → List X → List X → List ℕ
    → Option (List X × Bool × List ℕ) → Type 0
TurnGives {X} (Ok more) old new rest turn =
    (found : List X) × (turn ≡ Some (found, more, rest)) × (new ≡ old ++ found)
TurnGives (Err e) old new rest turn = Refuses e turn
