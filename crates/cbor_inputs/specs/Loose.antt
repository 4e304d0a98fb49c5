-- `loose`: the characters of pasted hex that are read as digits. It leaves out blanks, line ends, commas, comments, the
-- prefixes `0x`, `\x` and `\\x`, and `:` between bytes. It keeps every character after the first digit of a byte, so the
-- two digits of a byte have to stand side by side. Comments are those of EDN (`# ..`, `/ .. /`), C (`// ..`, `/* .. */`),
-- assemblers (`; ..`) and SQL (`-- ..`). `#` begins one anywhere; the others begin where no digit is right before, and
-- `;` also right before a blank or a line end. A comment that does not end keeps a `/`, which is no digit.
use Rattle.std.specs.Prelude.{ℕ, ◌==◌, ◌&&◌, ◌||◌, Bool, true, false, List, [], ◌∷◌, if◌then◌else◌}
use Rattle.hex.specs.Hex.{is_hex_digit}
use Rattle.cbor_inputs.specs.declared.loose.Mode.{Mode}
use Rattle.cbor_inputs.specs.declared.loose.Mode.TheVariants as mode

-- the first character, or 0
abbrev pub first_of : List ℕ → ℕ
first_of [] = 0
first_of (b ∷ bs) = b

-- blanks, line ends and commas
abbrev pub is_gap : ℕ → Bool
is_gap b = (b == 32) || ((b == 9) || ((b == 13) || ((b == 10) || (b == 44))))

-- whether a character begins a comment up to the end of the line: `#`, `;`, `//` or `--`
abbrev pub begins_line_comment : Bool → ℕ → ℕ → Bool
begins_line_comment beside b next =
    (b == 35)
    || (((b == 59) && ((if beside then false else true) || (is_gap next || (next == 0))))
    || ((if beside then false else true) && (((b == 47) && (next == 47)) || ((b == 45) && (next == 45)))))

-- whether a character outside of comments and prefixes is kept, and where the text is after it
abbrev pub plain_turn : Bool → ℕ → ℕ → Bool × Mode
plain_turn beside b next =
    if is_gap b then (false, mode.Apart)
    else if begins_line_comment beside b next then (false, mode.Comment)
    else if (b == 47) && (if beside then false else true) then (false, if next == 42 then mode.Opening else mode.Slashes)
    else if (b == 92) && (next == 92) then (false, mode.Apart)
    else if (next == 120) && ((b == 92) || ((b == 48) && (if beside then false else true))) then (false, mode.Prefix)
    else if (b == 58) && (beside && is_hex_digit next) then (false, mode.Apart)
    else (true, mode.Half)

-- the same wherever the text is
abbrev pub turn_of : Mode → ℕ → ℕ → Bool × Mode
turn_of mode.Comment b next = (false, if b == 10 then mode.Apart else mode.Comment)
turn_of mode.Prefix b next = (false, mode.Apart)
turn_of mode.Slashes b next = (false, if b == 47 then mode.Apart else mode.Slashes)
turn_of mode.Opening b next = (false, mode.Block)
turn_of mode.Block b next = (false, if (b == 42) && (next == 47) then mode.Prefix else mode.Block)
turn_of mode.Half b next = (true, mode.Beside)
turn_of mode.Apart b next = plain_turn false b next
turn_of mode.Beside b next = plain_turn true b next

-- the character, if it is kept, before what is kept of the rest
abbrev pub kept_before : Bool → ℕ → List ℕ → List ℕ
kept_before true b kept = b ∷ kept
kept_before false b kept = kept

-- what is kept at the end of a text: a `/` of a comment that does not end
abbrev pub unended : Mode → List ℕ
unended mode.Apart = []
unended mode.Half = []
unended mode.Beside = []
unended mode.Comment = []
unended mode.Prefix = []
unended mode.Slashes = 47 ∷ []
unended mode.Opening = 47 ∷ []
unended mode.Block = 47 ∷ []

-- what is kept of a text
abbrev pub loose : Mode → List ℕ → List ℕ
loose m [] = unended m
loose m (b ∷ bs) =
    kept_before (turn_of m b (first_of bs)).0 b (loose (turn_of m b (first_of bs)).1 bs)
