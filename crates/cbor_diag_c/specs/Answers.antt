-- A C call returns a length (`IfLength`), or minus the number of an error (`IfError`). The file has the numbers of the
-- errors from 11 on, the texts of all errors (`IsTextOf`), and a buffer after a text was written to it (`written`).
use Rattle.std.specs.Prelude.{◌≡◌, ◌⊎◌, ⊤, ℕ, ◌+◌, ◌<◌, ℤ, pos, negsuc, List, ◌++◌, length, take, drop, codes}
use Rattle.cbor_grammar.specs.declared.error.Error.{Error}
use Rattle.cbor_grammar.specs.Refusals.{text_of, number_of}

-- a fact of the length that was returned
abbrev pub IfLength : ℤ → (ℕ → Type 0) → Type 0
IfLength (pos n) Fact = Fact n
IfLength (negsuc n) Fact = ⊤

-- a fact of the error's number that was returned with a minus
abbrev pub IfError : ℤ → (ℕ → Type 0) → Type 0
IfError (pos n) Fact = ⊤
IfError (negsuc n) Fact = Fact (n + 1)

-- a fact of the length that was returned, or one of the error's number
abbrev pub IfReturned : ℤ → (ℕ → Type 0) → (ℕ → Type 0) → Type 0
IfReturned (pos n) Length Number = Length n
IfReturned (negsuc n) Length Number = Number (n + 1)

-- The buffer after a text was written to it: as much of the text as fits it, and then what it held before.
abbrev pub written : List ℕ → List ℕ → List ℕ
written text buffer = take (length buffer) text ++ drop (length text) buffer

-- what is returned for the number of no form
abbrev pub no_form : ℕ
no_form = 11

-- what is returned for the number of no set of rules
abbrev pub no_rules : ℕ
no_rules = 12

-- what is returned for items that have no encoding by the rules
abbrev pub not_encodable : ℕ
not_encodable = 13

-- what is returned for two keys of a map that become the same in JSON
abbrev pub same_keys : ℕ
same_keys = 14

-- what is returned for what JSON does not keep
abbrev pub not_kept : ℕ
not_kept = 15

-- what is returned for a path that leads to no part of an item
abbrev pub no_part : ℕ
no_part = 16

-- what is returned for a name of no type
abbrev pub no_type : ℕ
no_type = 17

-- what is returned for an input that has none of the forms
abbrev pub not_recognized : ℕ
not_recognized = 18

-- what is returned for a file of names that has an error
abbrev pub wrong_names : ℕ
wrong_names = 19

-- what is returned for a text of CDDL that has an error
abbrev pub wrong_cddl : ℕ
wrong_cddl = 20

-- what is returned for bytes that are no schema
abbrev pub wrong_schema : ℕ
wrong_schema = 21

-- what is returned for an item that takes too many steps to match
abbrev pub too_much_work : ℕ
too_much_work = 22

-- no error has this number
abbrev pub IsNoError : ℕ → Type 0
IsNoError n = (n ≡ 0) ⊎ (too_much_work < n)

-- what the error of this number says
abbrev pub IsTextOf : ℕ → List ℕ → Type 0
IsTextOf n text =
    ((e : Error) × (n ≡ number_of e) × (text ≡ text_of e))
    ⊎ ((n ≡ no_form) × (text ≡ codes "no such form"))
    ⊎ ((n ≡ no_rules) × (text ≡ codes "no such rules"))
    ⊎ ((n ≡ not_encodable) × (text ≡ codes "no encoding of the items keeps the rules"))
    ⊎ ((n ≡ same_keys) × (text ≡ codes "two keys of a map become the same in JSON"))
    ⊎ ((n ≡ not_kept) × (text ≡ codes "JSON does not keep all of the item"))
    ⊎ ((n ≡ no_part) × (text ≡ codes "the path leads to no part of the item"))
    ⊎ ((n ≡ no_type) × (text ≡ codes "no such type"))
    ⊎ ((n ≡ not_recognized) × (text ≡ codes "neither hex, EDN, base 64 nor bytes of items"))
    ⊎ ((n ≡ wrong_names) × (text ≡ codes "the file of names has an error"))
    ⊎ ((n ≡ wrong_cddl) × (text ≡ codes "the CDDL has an error"))
    ⊎ ((n ≡ wrong_schema) × (text ≡ codes "the bytes are no schema"))
    ⊎ ((n ≡ too_much_work) × (text ≡ codes "matching takes too many steps, or is nested too deeply"))
    ⊎ (IsNoError n × (text ≡ codes "no such error"))

-- this number was returned
abbrev pub IsLength : ℕ → ℤ → Type 0
IsLength k (pos n) = n ≡ k
IsLength k (negsuc n) = ⊥

-- minus this number was returned
abbrev pub IsMinus : ℕ → ℤ → Type 0
IsMinus k (pos n) = ⊥
IsMinus k (negsuc n) = n + 1 ≡ k
