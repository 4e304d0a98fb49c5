-- The results of the C calls that convert an input between two forms, given by their numbers: the length of the output
-- and the buffer after it (`IsWhole`), or why there is no output (`IsWhy`; `IsOutputFault`, with its place).
-- `Forms.antt` defines the conversion.
use Rattle.std.specs.Prelude.{◌≡◌, ◌⊎◌, ℕ, List, length}
use Rattle.cbor_json.specs.declared.error.JsonError.{JsonError}
use Rattle.cbor_diag_c.specs.declared.form.Form.{Form}
use Rattle.cbor_diag_c.specs.Forms.{form_number, IsNoForm, IsConversion}
use Rattle.cbor_diag_c.specs.Outputs.{IsNoOutput, IsTold, error_number}
use Rattle.cbor_diag_c.specs.Answers.{no_form, written}
use Rattle.cbor_diag_c.specs.Places.{no_place}

-- A conversion with an output of this length, and the buffer after it.
abbrev pub IsWhole : ℕ → ℕ → List ℕ → List ℕ → List ℕ → ℕ → Type 0
IsWhole from to input old new n =
    (whole : List ℕ) × IsConversion from to input whole × (n ≡ length whole) × (new ≡ written whole old)

-- there is an output
abbrev pub IsConverted : ℕ → ℕ → List ℕ → Type 0
IsConverted from to input = (whole : List ℕ) × IsConversion from to input whole

-- why there is none
abbrev pub IsRefusal : ℕ → ℕ → List ℕ → JsonError → Type 0
IsRefusal from to input e =
    (f t : Form) × (from ≡ form_number f) × (to ≡ form_number t) × IsNoOutput f t input e

-- the number of no form, for a number that none has
abbrev pub IsFormless : ℕ → ℕ → ℕ → Type 0
IsFormless from to n = (n ≡ no_form) × (IsNoForm from ⊎ IsNoForm to)

-- why there is no conversion, by the error's number, out of memory aside
abbrev pub IsWhy : ℕ → ℕ → List ℕ → ℕ → Type 0
IsWhy from to input n =
    ((e : JsonError) × (n ≡ error_number e) × IsRefusal from to input e) ⊎ IsFormless from to n

-- the same with what is told of where
abbrev pub IsOutputFault : ℕ → ℕ → List ℕ → ℕ → ℕ → ℕ → Type 0
IsOutputFault from to input n place detail =
    ((e : JsonError) × IsTold e n place detail × IsRefusal from to input e)
    ⊎ (IsFormless from to n × (place ≡ no_place) × (detail ≡ no_place))
