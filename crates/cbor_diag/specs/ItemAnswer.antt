-- Relates the result of a reader of a `DataItem` to the definitions of `cbor_grammar`. `Gave`: a reader of the front of
-- an input returned this outcome (`specs/Answer.antt`). `GaveItem`: a reader of a whole input returned this item.
-- `GaveOrTooDeep`: the same, or an error because the item is nested too deep. In all three, memory may have run out
-- instead.
use Rattle.std.specs.Prelude.{◌≡◌, ◌⊎◌, ℕ, List, Option, Some, None, Result, Ok, Err, MatchResult}
use Rattle.cbor_grammar.specs.declared.error.Error.{Error}
use Rattle.cbor_grammar.specs.declared.error.Error.TheVariants as refusal
use Rattle.cbor_diag.specs.declared.syntax.DataItem.{DataItem}
use Rattle.cbor_grammar.specs.Item.{Item}
use Rattle.cbor_diag.specs.View.{view}
use Rattle.cbor_grammar.specs.Answer.{Outcome, spelled, cut, fault}
use Rattle.cbor_grammar.specs.Notation.{Reads}

-- A reader of the front of an input gave this outcome, or memory ran out.
abbrev pub Gave : Result (Option (DataItem × ℕ)) Error → Outcome → Type 0
Gave (Ok (Some x)) o = o ≡ spelled (view x.0) x.1
Gave (Ok None) o = o ≡ cut
Gave (Err refusal.Memory) o = Unit {0}
Gave (Err e) o = o ≡ fault e

-- A reader of one whole item gave it, or memory ran out.
abbrev pub GaveItem : Result DataItem Error → Item → Type 0
GaveItem result i = MatchResult result (λ x. view x ≡ i) (λ e. e ≡ refusal.Memory)

-- A reader gave this item, or memory ran out, or the item is nested too deep: that is answered exactly where
-- these levels do not read it.
abbrev pub GaveOrTooDeep : ℕ → List ℕ → Result DataItem Error → Item → Type 0
GaveOrTooDeep levels text (Ok x) i = view x ≡ i
GaveOrTooDeep levels text (Err e) i = (e ≡ refusal.Memory) ⊎ ((e ≡ refusal.TooDeep) × ¬ (Reads levels text i))
