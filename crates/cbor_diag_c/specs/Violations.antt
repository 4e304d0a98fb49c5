-- The sets of rules by their numbers in C (`rules_of`), and what C gets of the first violation of such a set: its kind,
-- its place and a detail (`IsFoundBy`). `KeepsBy`: the input keeps the rules. `TakesMemoryBy`: a check of the rules
-- takes memory.
use Rattle.std.specs.Prelude.{◌≡◌, ◌⊎◌, ℕ, List, Option, Some, None, IsTrue}
use Rattle.std.specs.Prelude.{◌==◌, if◌then◌else◌}
use Rattle.cbor_grammar.specs.Refusals.{number_of}
use Rattle.cbor_rules.specs.declared.rules.Rules.{Rules}
use Rattle.cbor_rules.specs.declared.rules.TheConstants.Rules.{RFC_8949, VALID, PREFERRED, CORE, LENGTH_FIRST, CTAP2}
use Rattle.cbor_rules.specs.declared.rules.TheConstants.Rules.{DCBOR}
use Rattle.cbor_rules.specs.declared.kind.Violation.{Violation}
use Rattle.cbor_rules.specs.declared.kind.ViolationKind.{ViolationKind}
use Rattle.cbor_rules.specs.declared.kind.ViolationKind.TheVariants as kind
use Rattle.cbor_reencode.specs.OneKey.{IsViolation, KeepsWithKeys}
use Rattle.cbor_messages.specs.Kinds.{kind_number}
use Rattle.cbor_diag_c.specs.Places.{no_place}

-- the set of rules with this number
abbrev pub rules_of : ℕ → Option Rules
rules_of number =
    if number == 0 then Some RFC_8949
    else if number == 1 then Some VALID
    else if number == 2 then Some PREFERRED
    else if number == 3 then Some CORE
    else if number == 4 then Some LENGTH_FIRST
    else if number == 5 then Some CTAP2
    else if number == 6 then Some DCBOR
    else None

-- what else is told: the number of the error for which there is no item, or the place of the other key
abbrev pub detail_of : ViolationKind → ℕ
detail_of (kind.NoItem e) = number_of e
detail_of (kind.KeyOrder previous) = previous
detail_of (kind.KeyTwice first) = first
detail_of _ = no_place

-- what is told of the first violation, if there is one
abbrev pub IsTold : Option Violation → ℕ → ℕ → ℕ → Type 0
IsTold None n place detail = (n ≡ 0) × (place ≡ no_place) × (detail ≡ no_place)
IsTold (Some b) n place detail = (n ≡ kind_number b.kind) × (place ≡ b.place) × (detail ≡ detail_of b.kind)

-- what is told of what breaks the rules of this number first
abbrev pub IsFoundBy : ℕ → List ℕ → ℕ → ℕ → ℕ → Type 0
IsFoundBy number input n place detail =
    (rules : Rules) × (rules_of number ≡ Some rules)
    × (found : Option Violation) × IsViolation rules input found × IsTold found n place detail

-- The input is items one after the other that keep the rules of this number, and where these ask for distinct keys, no
-- two keys of a map are one.
abbrev pub KeepsBy : ℕ → List ℕ → Type 0
KeepsBy number input = (rules : Rules) × (rules_of number ≡ Some rules) × KeepsWithKeys rules input

-- to check the rules takes memory
abbrev pub TakesMemory : Rules → Type 0
TakesMemory rules = IsTrue rules.nfc ⊎ IsTrue rules.distinct_keys

abbrev pub TakesMemoryBy : ℕ → Type 0
TakesMemoryBy number = (rules : Rules) × (rules_of number ≡ Some rules) × TakesMemory rules
