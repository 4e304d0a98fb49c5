-- The number of a form (`form_number`) is not one that no form has (`IsNoForm`), and no plain form but bytes has the
-- number 0. If an input in the form 0 is refused, the number of the error is not that of memory (1).
use Rattle.std.proofs.Common.{◌≡◌, ◌≢◌, ℕ, List, true, false, refl, arith}
use Rattle.cbor_grammar.specs.declared.error.Error.{Error}
use Rattle.cbor_grammar.specs.declared.error.Error.TheVariants as refusal
use Rattle.cbor_grammar.specs.Facts.{IsNoItem}
use Rattle.cbor_grammar.specs.Refusals.{number_of}
use Rattle.cbor_diag.specs.declared.conversion.form.Source.TheVariants as source
use Rattle.cbor_diag.specs.declared.conversion.form.To.{To}
use Rattle.cbor_diag.specs.declared.conversion.form.To.TheVariants as target
use Rattle.cbor_diag_c.specs.declared.form.Form.{Form}
use Rattle.cbor_diag_c.specs.declared.form.Form.TheVariants as form
use Rattle.cbor_diag_c.specs.declared.form.Text.TheVariants as text
use Rattle.cbor_diag_c.specs.Forms.{form_number, read_as, IsNoForm, IsRefusedIn}

-- the number of a form is not one of no form
pub known : (n : ℕ) (f : Form) → n ≡ form_number f → IsNoForm n → ⊥
known n (form.Plain target.Bytes) is past = omega arith
known n (form.Plain target.Hex) is past = omega arith
known n (form.Plain target.Diag) is past = omega arith
known n (form.Plain target.Pretty) is past = omega arith
known n (form.Text (text.Edn false)) is past = omega arith
known n (form.Text (text.Edn true)) is past = omega arith
known n (form.Text (text.Json false)) is past = omega arith
known n (form.Text (text.Json true)) is past = omega arith
known n (form.Text text.Html) is past = omega arith

-- 0 is the number of bytes
pub other_number : (f : To) → read_as f ≢ source.Bytes → form_number (form.Plain f) ≢ 0
other_number target.Bytes other is = absurd (other refl)
other_number target.Hex other is = omega arith
other_number target.Diag other is = omega arith
other_number target.Pretty other is = omega arith

-- the number of memory is no reason for which bytes are no item
not_memory : (b : List ℕ) (e : Error) → IsNoItem b e → number_of e ≢ 1
not_memory b refusal.Memory h is = absurd h
not_memory b refusal.CutShort h is = omega arith
not_memory b refusal.Head h is = omega arith
not_memory b refusal.Utf8 h is = omega arith
not_memory b refusal.TooDeep h is = omega arith
not_memory b refusal.Remaining h is = omega arith
not_memory b refusal.OddHex h is = absurd h
not_memory b refusal.BadHex h is = absurd h
not_memory b refusal.Notation h is = absurd h
not_memory b refusal.PastWidth h is = absurd h

pub bytes_refusal : (f : Form) (b : List ℕ) (e : Error) → form_number f ≡ 0 → IsRefusedIn f b e → number_of e ≢ 1
bytes_refusal (form.Plain target.Bytes) b e zero h is = not_memory b e h is
bytes_refusal (form.Plain target.Hex) b e zero h is = omega arith
bytes_refusal (form.Plain target.Diag) b e zero h is = omega arith
bytes_refusal (form.Plain target.Pretty) b e zero h is = omega arith
bytes_refusal (form.Text (text.Edn false)) b e zero h is = omega arith
bytes_refusal (form.Text (text.Edn true)) b e zero h is = omega arith
bytes_refusal (form.Text (text.Json false)) b e zero h is = omega arith
bytes_refusal (form.Text (text.Json true)) b e zero h is = omega arith
bytes_refusal (form.Text text.Html) b e zero h is = omega arith

pub ruleset number_laws = (known, bytes_refusal)
