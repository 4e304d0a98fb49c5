-- For `encoder.rt`: which widths of heads and floats, and which kinds of length, re-encoding chooses by the rules.
use Rattle.std.specs.Prelude.{◌≡◌, ℕ, if◌then◌else◌, Option, Some, None, IsTrue}
use Rattle.cbor_grammar.specs.declared.width.IntegerWidth.{IntegerWidth}
use Rattle.cbor_grammar.specs.declared.width.FloatWidth.{FloatWidth}
use Rattle.cbor_grammar.specs.declared.width.FloatWidth.TheVariants as float_width
use Rattle.cbor_grammar.specs.declared.argument.Argument.{Argument}
use Rattle.cbor_grammar.specs.declared.argument.Argument.TheVariants.{Number, Indefinite}
use Rattle.cbor_grammar.specs.Head.{FitsStated, shortest}
use Rattle.cbor_floats.specs.Preferred.{widened, FitsWidth}
use Rattle.cbor_floats.specs.declared.float.EncodedFloat.{EncodedFloat}
use Rattle.cbor_floats.specs.declared.float.EncodedFloat.TheVariants.{Half, Single, Double}
use Rattle.cbor_rules.specs.declared.rules.Rules.{Rules}

abbrev pub chosen_width : Rules → ℕ → IntegerWidth → IntegerWidth
chosen_width rules n w = if rules.shortest_heads then shortest n else w

-- of a container that held this many
abbrev pub chosen_count : Rules → Argument → ℕ → Option IntegerWidth
chosen_count rules (Number n w) held = Some (chosen_width rules held w)
chosen_count rules Indefinite held = if rules.definite_lengths then Some (shortest held) else None

-- the width of a count can hold this one
abbrev pub FitsHeld : Argument → ℕ → Type 0
FitsHeld (Number n w) held = FitsStated w held
FitsHeld Indefinite held = Unit {0}

-- the same float, as it is unless the rules ask for the shortest width
pub record IsChosen (rules : Rules) (float chosen : EncodedFloat) : Type 0 where
  pub fits : FitsWidth chosen
  pub same : widened chosen ≡ widened float
  pub kept : ¬ (IsTrue rules.shortest_floats) → chosen ≡ float

abbrev pub float_width_of : EncodedFloat → FloatWidth
float_width_of (Half bits) = float_width.Sixteen
float_width_of (Single bits) = float_width.ThirtyTwo
float_width_of (Double bits) = float_width.SixtyFour
