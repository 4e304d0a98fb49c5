-- The results of the C calls `cbor_diag_reencode`, which re-encodes items by a set of rules (`IsAgainBy`), and
-- `cbor_diag_reencode_fault`, which says why it cannot (`IsToldWhyNotBy`). `BreaksBy`: the input violates a rule that
-- re-encoding cannot repair.
use Rattle.std.specs.Prelude.{◌≡◌, ◌⊎◌, ℕ, List, Some, None, length}
use Rattle.cbor_rules.specs.declared.rules.Rules.{Rules}
use Rattle.cbor_rules.specs.declared.kind.Violation.{Violation}
use Rattle.cbor_rules.specs.FirstViolation.{first_violation}
use Rattle.cbor_rules.specs.Keeps.{KeepsRules}
use Rattle.cbor_reencode.specs.declared.error.ReencodeError.{ReencodeError}
use Rattle.cbor_reencode.specs.declared.error.ReencodeError.TheVariants as reencode_error
use Rattle.cbor_reencode.specs.Reencoded.{IsReencoded, lasting, FixesKeys, KeysOnce}
use Rattle.cbor_diag_c.specs.Answers.{written}
use Rattle.cbor_messages.specs.Kinds.{kind_number}
use Rattle.cbor_diag_c.specs.Violations.{rules_of, IsTold}
use Rattle.cbor_diag_c.specs.Places.{no_place}

-- A text of this length, and the buffer after it was written.
abbrev pub IsWrittenText : List ℕ → List ℕ → List ℕ → ℕ → Type 0
IsWrittenText text old new n = (n ≡ length text) × (new ≡ written text old)

-- The items of the input, encoded again so that they keep the rules: their length, and the buffer after it.
abbrev pub IsAgain : Rules → List ℕ → List ℕ → List ℕ → ℕ → Type 0
IsAgain rules input old new n =
    (again : List ℕ) × IsReencoded rules input again × KeepsRules rules again × IsWrittenText again old new n

abbrev pub IsAgainBy : ℕ → List ℕ → List ℕ → List ℕ → ℕ → Type 0
IsAgainBy number input old new n =
    (rules : Rules) × (rules_of number ≡ Some rules) × IsAgain rules input old new n

-- The input keeps the rules of this number, and no two keys of a map are one, where the rules do not say so themselves.
abbrev pub StaysBy : ℕ → List ℕ → Type 0
StaysBy number input =
    (rules : Rules) × (rules_of number ≡ Some rules) × KeepsRules rules input × (FixesKeys rules ⊎ KeysOnce input)

-- the input breaks a rule that no choice of widths, lengths and order keeps, or is no items
abbrev pub Breaks : Rules → List ℕ → Type 0
Breaks rules input = (violation : Violation) × (first_violation (lasting rules) input ≡ Some violation)

abbrev pub BreaksBy : ℕ → List ℕ → Type 0
BreaksBy number input = (rules : Rules) × (rules_of number ≡ Some rules) × Breaks rules input

-- ---- why there is no encoding

-- The error that the input has. Where it breaks a rule that no choice keeps, that is the first such violation.
abbrev pub IsWhyNot : Rules → List ℕ → ReencodeError → Type 0
IsWhyNot rules input e =
    ((violation : Violation) × (e ≡ reencode_error.Violation violation) × (first_violation (lasting rules) input
    ≡ Some violation))
    ⊎ (first_violation (lasting rules) input ≡ None)

-- What is told of an error: the number of what is wrong, its place and its detail. What was written is not there.
abbrev pub IsToldWhy : ReencodeError → ℕ → ℕ → ℕ → Type 0
IsToldWhy reencode_error.Memory n place detail = ⊥
IsToldWhy (reencode_error.Violation violation) n place detail = IsTold (Some violation) n place detail
IsToldWhy (reencode_error.KeyTwice first second) n place detail = (n ≡ 15) × (place ≡ second) × (detail ≡ first)
IsToldWhy (reencode_error.Written violation) n place detail =
    (n ≡ kind_number violation.kind) × (place ≡ no_place) × (detail ≡ no_place)

-- 0 is told where there is an encoding, and otherwise of the error that the input has.
abbrev pub IsToldWhyNot : Rules → List ℕ → ℕ → ℕ → ℕ → Type 0
IsToldWhyNot rules input n place detail =
    ((n ≡ 0) × (place ≡ no_place) × (detail ≡ no_place)
    × (again : List ℕ) × IsReencoded rules input again × KeepsRules rules again)
    ⊎ ((e : ReencodeError) × IsWhyNot rules input e × IsToldWhy e n place detail)

abbrev pub IsToldWhyNotBy : ℕ → List ℕ → ℕ → ℕ → ℕ → Type 0
IsToldWhyNotBy number input n place detail =
    (rules : Rules) × (rules_of number ≡ Some rules) × IsToldWhyNot rules input n place detail
