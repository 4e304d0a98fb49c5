-- The results of the C calls `cbor_diag_fault_path` and `cbor_diag_fault_message`. Only an input that is not an item
-- has a path that is not empty (`IsFaultPath`), or a message other than the words of `Words.antt` (`IsFaultMessage`).
use Rattle.std.specs.Prelude.{◌≡◌, ◌⊎◌, ℕ, List, []}
use Rattle.cbor_grammar.specs.declared.error.Error.{Error}
use Rattle.cbor_diag_c.specs.declared.form.Form.{Form}
use Rattle.cbor_diag_c.specs.Forms.{form_number, IsNoForm, IsRefusedIn}
use Rattle.cbor_diag_c.specs.Answers.{no_form}
use Rattle.cbor_diag_c.specs.Words.{IsWords}

-- the input is no item in the form of this number
abbrev pub IsNoItemIn : ℕ → List ℕ → Type 0
IsNoItemIn from input = (f : Form) × (e : Error) × (from ≡ form_number f) × IsRefusedIn f input e

-- a path is written only for an input that is no item
abbrev pub IsFaultPath : ℕ → List ℕ → List ℕ → Type 0
IsFaultPath from input path = (path ≡ []) ⊎ IsNoItemIn from input

-- the words of the fault's text, or more words, of an input that is no item
abbrev pub IsFaultMessage : ℕ → List ℕ → List ℕ → Type 0
IsFaultMessage from input message = IsWords from input message ⊎ IsNoItemIn from input

-- out of memory, or the number of no form
abbrev pub IsMemoryOrNoForm : ℕ → ℕ → Type 0
IsMemoryOrNoForm from n = (n ≡ 1) ⊎ ((n ≡ no_form) × IsNoForm from)
