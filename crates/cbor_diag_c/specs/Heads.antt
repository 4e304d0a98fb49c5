-- The results of the C call `cbor_diag_head` for the head or the break at the front of bytes: its length, its kind and
-- its argument (`IsHeadOf`), or the number of the error if there is neither (`IsNoHeadBy`).
use Rattle.std.specs.Prelude.{◌≡◌, ℕ, ◌+◌, List, length, Ok, Err, Some, None}
use Rattle.std.specs.Prelude.{◌⊎◌}
use Rattle.cbor_floats.specs.Value.{value_of}
use Rattle.cbor_grammar.specs.declared.argument.Argument.{Argument}
use Rattle.cbor_grammar.specs.declared.argument.Argument.TheVariants.{Number, Indefinite}
use Rattle.cbor_grammar.specs.declared.error.Error.{Error}
use Rattle.cbor_grammar.specs.declared.head.ItemHead.{ItemHead}
use Rattle.cbor_grammar.specs.declared.head.ItemHead.TheVariants as item_head
use Rattle.cbor_grammar.specs.declared.strings.StringKind.TheVariants.{Bytes, Text}
use Rattle.cbor_grammar.specs.Reading.{read_head, after_break}
use Rattle.cbor_grammar.specs.Refusals.{number_of}
use Rattle.cbor_grammar.specs.WellFormed.{FitsFloat}
use Rattle.cbor_rules.specs.Keeps.{float_of}
use Rattle.cbor_diag_c.specs.declared.heads.Head.{Head}

-- the bits of a float fit its width
abbrev pub FitsHead : ItemHead → Type 0
FitsHead (item_head.Float bits w) = FitsFloat w bits
FitsHead h = Unit {0}

-- of a kind, with this argument and no indefinite length
abbrev pub IsNumbered : ℕ → ℕ → Head → Type 0
IsNumbered kind n told = (told.kind ≡ kind) × (told.indefinite ≡ 0) × (told.argument ≡ n)

-- of a kind, with this length or count
abbrev pub IsCounted : ℕ → Argument → Head → Type 0
IsCounted kind (Number n w) told = IsNumbered kind n told
IsCounted kind Indefinite told = (told.kind ≡ kind) × (told.indefinite ≡ 1) × (told.argument ≡ 0)

-- What is told of a head: its major type, or 8 for a float, and its argument.
abbrev pub IsToldOf : ItemHead → Head → Type 0
IsToldOf (item_head.Integer n w) told = IsNumbered 0 n told
IsToldOf (item_head.Negative n w) told = IsNumbered 1 n told
IsToldOf (item_head.String Bytes a) told = IsCounted 2 a told
IsToldOf (item_head.String Text a) told = IsCounted 3 a told
IsToldOf (item_head.Array a) told = IsCounted 4 a told
IsToldOf (item_head.Map a) told = IsCounted 5 a told
IsToldOf (item_head.Tag n w) told = IsNumbered 6 n told
IsToldOf (item_head.Simple n) told = IsNumbered 7 n told
IsToldOf (item_head.Float bits w) told =
    IsNumbered 8 bits told × (told.number ≡ value_of (float_of bits w))

-- The head that the grammar reads at the front takes so many bytes, and this is told of it; or a break is there.
abbrev pub IsHeadOf : List ℕ → ℕ → Head → Type 0
IsHeadOf b n told =
    ((h : ItemHead) × (rest : List ℕ) × (read_head b ≡ Ok (h, rest)) × (n + length rest ≡ length b) × IsToldOf h told)
    ⊎ ((rest : List ℕ) × (after_break b ≡ Some rest) × (n ≡ 1) × IsNumbered 9 0 told)

-- the grammar reads no head there, for this error, and there is no break
abbrev pub IsNoHead : List ℕ → Error → Type 0
IsNoHead b e = (read_head b ≡ Err e) × (after_break b ≡ None)

-- the same by the number of the error
abbrev pub IsNoHeadBy : List ℕ → ℕ → Type 0
IsNoHeadBy b n = (e : Error) × (n ≡ number_of e) × IsNoHead b e
