-- For `argument.rt`: the number in an `Argument`, if there is one (`argument_count`), and the `Argument` that is left
-- of a length after some members are there (`left_of`).
use Rattle.std.specs.Prelude.{ℕ, ◌-◌, Option, Some, None}
use Rattle.cbor_grammar.specs.declared.argument.Argument.{Argument}
use Rattle.cbor_grammar.specs.declared.argument.Argument.TheVariants.{Number, Indefinite}

-- the number, where there is one
abbrev pub argument_count : Argument → Option ℕ
argument_count (Number n w) = Some n
argument_count Indefinite = None

-- how many members are still to come of such a length where `held` are there
abbrev pub left_of : Argument → ℕ → Argument
left_of (Number n w) held = Number (n - held) w
left_of Indefinite held = Indefinite
