-- The errors of the C calls for schemas: a text of CDDL gives no schema (`IsNoSchema`), or items are not checked by a
-- schema (`IsNotChecked`). `AreWithin`: the places of the parts of a message are within the message.
use Rattle.std.specs.Prelude.{◌≡◌, ◌⊎◌, ℕ, ◌≤◌}
use Rattle.cbor_grammar.specs.Refusals.{number_of}
use Rattle.cbor_diag_c.specs.Answers.{wrong_cddl, wrong_schema, too_much_work}
use Rattle.cbor_diag_c.specs.declared.misfits.CheckError.{CheckError}
use Rattle.cbor_diag_c.specs.declared.misfits.CheckError.TheVariants.{Cbor, Schema, Work}
use Rattle.cbor_diag_c.specs.declared.misfits.MisfitParts.{MisfitParts}

-- memory ran out, or the text of CDDL has an error
abbrev pub IsNoSchema : ℕ → Type 0
IsNoSchema n = (n ≡ 1) ⊎ (n ≡ wrong_cddl)

-- the number of the error for which items are not checked
abbrev pub check_error : CheckError → ℕ
check_error (Cbor e) = number_of e
check_error Schema = wrong_schema
check_error Work = too_much_work

-- The bytes are no item or memory ran out, by the number of the error; the schema is none; or matching takes too many
-- steps.
abbrev pub IsNotChecked : ℕ → Type 0
IsNotChecked n = (e : CheckError) × (n ≡ check_error e)

-- the parts are in a message of this length
abbrev pub AreWithin : MisfitParts → ℕ → Type 0
AreWithin told n =
    ((told.expected ≤ told.expected_end) × (told.expected_end ≤ n))
    × ((told.rule ≤ told.rule_end) × (told.rule_end ≤ n))
    × ((told.found ≤ told.found_end) × (told.found_end ≤ n))
    × ((told.path ≤ told.path_end) × (told.path_end ≤ n))
