-- Which bytes keep rules (`KeepsWithKeys`) and what violates them (`IsViolation`), if keys are compared by value, and
-- not by their bytes alone: 1 and 1_0 are the same key.
use Rattle.std.specs.Prelude.{◌≡◌, ◌⊎◌, ℕ, IsTrue, List, Option, Some, None}
use Rattle.cbor_rules.specs.declared.rules.Rules.{Rules}
use Rattle.cbor_rules.specs.declared.kind.Violation.{Violation}
use Rattle.cbor_rules.specs.declared.kind.ViolationKind.TheVariants.{KeyTwice}
use Rattle.cbor_rules.specs.FirstViolation.{first_violation}
use Rattle.cbor_rules.specs.Keeps.{KeepsRules}
use Rattle.cbor_reencode.specs.Reencoded.{KeysOnce}

-- The bytes are items that keep the rules, and where these ask for distinct keys, no two keys of a map are one.
abbrev pub KeepsWithKeys : Rules → List ℕ → Type 0
KeepsWithKeys rules b = KeepsRules rules b × (IsTrue rules.distinct_keys → KeysOnce b)

-- The violation says that a key is one with another, and two keys of a map are one.
abbrev pub IsKeyAgain : List ℕ → Violation → Type 0
IsKeyAgain b violation = (first : ℕ) × (violation.kind ≡ KeyTwice first) × ¬ (KeysOnce b)

-- The first violation of the rules, or nothing. First come the violations where keys are compared by their bytes. If
-- there is none, and the rules ask for distinct keys, it is that two keys are one. Which two it names is not said here.
abbrev pub IsViolation : Rules → List ℕ → Option Violation → Type 0
IsViolation rules b None = (first_violation rules b ≡ None) × (IsTrue rules.distinct_keys → KeysOnce b)
IsViolation rules b (Some violation) =
    (first_violation rules b ≡ Some violation)
    ⊎ ((first_violation rules b ≡ None) × IsTrue rules.distinct_keys × IsKeyAgain b violation)
