-- If the bytes of an item have no text in a form (`IsNoText`), their input has no output for the same error
-- (`IsNoOutput`). This holds for inputs in bytes, hex, diagnostic notation and EDN, out of memory aside. A reason for
-- which there is no JSON is such an error (`of_json`).
use Rattle.std.proofs.Common.{◌≡◌, ◌≢◌, ℕ, List, Bool, Ok, refl, inr, IsUtf8}
use Rattle.hex.specs.Hex.{decode_of}
use Rattle.cbor_tokens.specs.Uncommented.{uncommented}
use Rattle.cbor_grammar.specs.declared.error.Error.{Error}
use Rattle.cbor_grammar.specs.declared.error.Error.TheVariants as refusal
use Rattle.cbor_grammar.specs.Item.{Item}
use Rattle.cbor_grammar.specs.Written.{encoded}
use Rattle.cbor_diag.specs.declared.conversion.form.Source.TheVariants as source
use Rattle.cbor_diag.specs.declared.conversion.form.To.TheVariants as target
use Rattle.cbor_diag.specs.Output.{Reads}
use Rattle.cbor_json.specs.declared.error.JsonError.{JsonError}
use Rattle.cbor_json.specs.declared.error.JsonError.TheVariants.{Cbor, NotKept, SameKeys}
use Rattle.cbor_json.specs.Written.{IsNoJson}
use Rattle.cbor_diag_c.specs.declared.form.Form.TheVariants as form
use Rattle.cbor_diag_c.specs.declared.form.Text.{Text}
use Rattle.cbor_diag_c.specs.declared.form.Text.TheVariants as text
use Rattle.cbor_diag_c.specs.Forms.{IsEdn, json_style}
use Rattle.cbor_diag_c.specs.Outputs.{IsNoText, IsNoOutput, IsTextErrorOf}
use Rattle.cbor_diag_c.proofs.Refusals.{hex_refused}

-- what JSON has no text for, out of memory aside
pub of_json : (strict : Bool) (b : List ℕ) (e : JsonError) → e ≢ Cbor refusal.Memory
    → IsNoJson (json_style strict) b e → IsNoText (text.Json strict) b e
of_json strict b (Cbor refusal.Memory) other h = absurd (other refl)
of_json strict b (Cbor refusal.CutShort) other h = h
of_json strict b (Cbor refusal.Head) other h = h
of_json strict b (Cbor refusal.Utf8) other h = h
of_json strict b (Cbor refusal.TooDeep) other h = h
of_json strict b (Cbor refusal.Remaining) other h = h
of_json strict b (Cbor refusal.OddHex) other h = h
of_json strict b (Cbor refusal.BadHex) other h = h
of_json strict b (Cbor refusal.Notation) other h = h
of_json strict b (Cbor refusal.PastWidth) other h = h
of_json strict b (NotKept lost) other h = h
of_json strict b (SameKeys clash) other h = h

pub ruleset text_laws = (of_json)

-- an input in bytes has these
pub of_bytes : (t : Text) (b : List ℕ) (e : JsonError) → IsNoText t b e
    → IsNoOutput (form.Plain target.Bytes) (form.Text t) b e
of_bytes t b (Cbor e) h = h
of_bytes (text.Json strict) b (NotKept lost) h = (b, refl, h)
of_bytes (text.Json strict) b (SameKeys clash) h = (b, refl, h)
of_bytes (text.Edn pretty) b (NotKept lost) h = absurd h
of_bytes (text.Edn pretty) b (SameKeys clash) h = absurd h
of_bytes text.Html b (NotKept lost) h = absurd h
of_bytes text.Html b (SameKeys clash) h = absurd h

-- the digits of one in hex stand for these
pub of_hex : (t : Text) (input b : List ℕ) (e : JsonError) → IsUtf8 input → decode_of (uncommented input) ≡ Ok b
    → IsNoText t b e → IsNoOutput (form.Plain target.Hex) (form.Text t) input e
of_hex t input b (Cbor e) utf8 digits h = inr (utf8, hex_refused input b e digits h)
of_hex (text.Json strict) input b (NotKept lost) utf8 digits h = (b, (utf8, digits), h)
of_hex (text.Json strict) input b (SameKeys clash) utf8 digits h = (b, (utf8, digits), h)
of_hex (text.Edn pretty) input b (NotKept lost) utf8 digits h = absurd h
of_hex (text.Edn pretty) input b (SameKeys clash) utf8 digits h = absurd h
of_hex text.Html input b (NotKept lost) utf8 digits h = absurd h
of_hex text.Html input b (SameKeys clash) utf8 digits h = absurd h

pub ruleset hex_laws = (of_hex)

cbor_memory : (e : Error) → e ≡ refusal.Memory → Cbor e ≡ Cbor refusal.Memory
cbor_memory e is = cc

-- an item that was read has no error but those of JSON
pub of_diag : (t : Text) (input : List ℕ) (i j : Item) (e : JsonError) → e ≢ Cbor refusal.Memory
    → Reads source.Diag input i → IsNoText t (encoded i) e → IsTextErrorOf t j e
    → IsNoOutput (form.Plain target.Diag) (form.Text t) input e
of_diag (text.Json strict) input i j (Cbor e) other reads h of = absurd (other (cbor_memory e of))
of_diag (text.Edn pretty) input i j (Cbor e) other reads h of = absurd (other of)
of_diag text.Html input i j (Cbor e) other reads h of = absurd (other of)
of_diag (text.Json strict) input i j (NotKept lost) other reads h of = (encoded i, (i, reads, refl), h)
of_diag (text.Json strict) input i j (SameKeys clash) other reads h of = (encoded i, (i, reads, refl), h)
of_diag (text.Edn pretty) input i j (NotKept lost) other reads h of = absurd h
of_diag (text.Edn pretty) input i j (SameKeys clash) other reads h of = absurd h
of_diag text.Html input i j (NotKept lost) other reads h of = absurd h
of_diag text.Html input i j (SameKeys clash) other reads h of = absurd h

pub of_pretty : (t : Text) (input : List ℕ) (i j : Item) (e : JsonError) → e ≢ Cbor refusal.Memory
    → Reads source.Diag input i → IsNoText t (encoded i) e → IsTextErrorOf t j e
    → IsNoOutput (form.Plain target.Pretty) (form.Text t) input e
of_pretty (text.Json strict) input i j (Cbor e) other reads h of = absurd (other (cbor_memory e of))
of_pretty (text.Edn pretty) input i j (Cbor e) other reads h of = absurd (other of)
of_pretty text.Html input i j (Cbor e) other reads h of = absurd (other of)
of_pretty (text.Json strict) input i j (NotKept lost) other reads h of = (encoded i, (i, reads, refl), h)
of_pretty (text.Json strict) input i j (SameKeys clash) other reads h of = (encoded i, (i, reads, refl), h)
of_pretty (text.Edn pretty) input i j (NotKept lost) other reads h of = absurd h
of_pretty (text.Edn pretty) input i j (SameKeys clash) other reads h of = absurd h
of_pretty text.Html input i j (NotKept lost) other reads h of = absurd h
of_pretty text.Html input i j (SameKeys clash) other reads h of = absurd h

pub ruleset plain_laws = (of_bytes, of_diag, of_pretty)

pub of_edn : (from t : Text) (input : List ℕ) (i j : Item) (e : JsonError) → e ≢ Cbor refusal.Memory
    → IsEdn input i → IsNoText t (encoded i) e → IsTextErrorOf t j e
    → IsNoOutput (form.Text from) (form.Text t) input e
of_edn from (text.Json strict) input i j (Cbor e) other is h of = absurd (other (cbor_memory e of))
of_edn from (text.Edn pretty) input i j (Cbor e) other is h of = absurd (other of)
of_edn from text.Html input i j (Cbor e) other is h of = absurd (other of)
of_edn from (text.Json strict) input i j (NotKept lost) other is h of = (encoded i, (i, is, refl), h)
of_edn from (text.Json strict) input i j (SameKeys clash) other is h of = (encoded i, (i, is, refl), h)
of_edn from (text.Edn pretty) input i j (NotKept lost) other is h of = absurd h
of_edn from (text.Edn pretty) input i j (SameKeys clash) other is h of = absurd h
of_edn from text.Html input i j (NotKept lost) other is h of = absurd h
of_edn from text.Html input i j (SameKeys clash) other is h of = absurd h

pub ruleset edn_laws = (of_edn)
