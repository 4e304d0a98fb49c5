-- For `cursor.rt`: the text that is still to be read, before and after a method of a `Cursor`. `Takes`: a token was
-- taken, or there is none and the text is unchanged. `TakesComma`: a comma was taken, or the end of a list, or neither
-- is next.
use Rattle.std.specs.Prelude.{◌≡◌, ℕ, List, Option, Some, None, Result, Ok, Err, Bool, true, false}
use Rattle.cbor_grammar.specs.declared.error.Error.{Error}
use Rattle.cbor_grammar.specs.declared.error.Error.TheVariants as refusal
use Rattle.cbor_notation.specs.mirror.NotationReading.{or_refused, after_byte, after_end}

-- A token was taken, and what was found after it is left; or none was found, and nothing changed.
abbrev pub Takes : Bool → List ℕ → List ℕ → Option (List ℕ) → Type 0
Takes true old new found = found ≡ Some new
Takes false old new found = (found ≡ None) × (new ≡ old)

-- A comma was taken, or the end of a list, or neither is next.
abbrev pub TakesComma : Result Bool Error → ℕ → List ℕ → List ℕ → Type 0
TakesComma (Ok true) close old new = (after_end close old ≡ None) × (or_refused (after_byte 44 old) ≡ Ok new)
TakesComma (Ok false) close old new = after_end close old ≡ Some new
TakesComma (Err e) close old new = (after_end close old ≡ None)
    × (e ≡ refusal.Notation) × (or_refused (after_byte 44 old) ≡ Err refusal.Notation)
