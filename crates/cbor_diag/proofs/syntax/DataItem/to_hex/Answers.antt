-- What is promised of the dump: its lines, digits, column and notes, and that it is read back.
use Rattle.std.proofs.Common.{◌≡◌, List, ℕ, Ok, ◌∙◌, ◌+◌, ap, sym, subst}
use Rattle.std.proofs.lemmas.Result.{err_from_is_err_and}
use Rattle.cbor_notes.specs.Columns.{IsColumn}
use Rattle.cbor_tokens.specs.Uncommented.{uncommented}
use Rattle.cbor_notes.specs.Layout.{width_of}
use Rattle.cbor_dump.specs.Dump.{lines}
use Rattle.cbor_grammar.specs.HexText.{IsHexOf}
use Rattle.cbor_grammar.specs.Reading.{Fails, read_item}
use Rattle.cbor_diag.specs.View.{view}
use Rattle.cbor_grammar.specs.Written.{resolve}
use Rattle.cbor_dump.proofs.dump.PublicDumps.{dump_one_line, dump_one_column, dump_digits, dump_read_back}
use Rattle.cbor_dump.proofs.dump.ResolvedDumps.{dump_of_encoded, encoded_fails}
use Rattle.cbor_grammar.proofs.shared.EmbeddedItems.{embeds_exactly, rejects_exactly}
use Rattle.cbor_diag.proofs.syntax.DataItem.to_hex.Goals as goal

pub returns-clause-text : goal.returns-clause-text
returns-clause-text c =
    let i = view c.args.self.now in
    let d = c.in_ok-text.ensures.dumped in
    let bytes = c.deref.ensures.value ∙ c.in_ok-bytes.ensures.bytes in
    d.2 ∙ dump_of_encoded i d.0 c.in_ok-text.field-0-1.now c.requires
    (subst (λ (b : List ℕ). read_item 128 b ≡ Ok (d.0, c.in_ok-text.field-0-1.now)) bytes d.1)

pub returns-in_err-text-clause-refused : goal.returns-in_err-text-clause-refused
returns-in_err-text-clause-refused c =
    let i = view c.args.self.now in
    let p = err_from_is_err_and c.from_residual-in_err-text.result c.from_residual-in_err-text.ensures.1 in
    let e = c.in_err-text.field-0.0 in
    let bytes = c.deref.ensures.value ∙ c.in_ok-bytes.ensures.bytes in
    rw p.1 (p.2 ∙ encoded_fails i e c.requires
    (subst (λ (b : List ℕ). Fails e (read_item 128 b)) bytes c.in_err-text.ensures.refused))

pub returns-clause-digits : goal.returns-clause-digits
returns-clause-digits c =
    let i = view c.args.self.now in
    ap uncommented (returns-clause-text c) ∙ dump_digits i c.requires

pub returns-clause-read_back : goal.returns-clause-read_back
returns-clause-read_back c =
    let i = view c.args.self.now in
    subst (λ x. IsHexOf x (resolve i)) (sym (returns-clause-text c)) (dump_read_back i c.requires)

pub returns-clause-one_column : goal.returns-clause-one_column
returns-clause-one_column c =
    let i = view c.args.self.now in
    subst (IsColumn (width_of (lines i) + 1)) (sym (returns-clause-text c)) (dump_one_column i c.requires)

pub returns-clause-one_line : goal.returns-clause-one_line
returns-clause-one_line c = dump_one_line (view c.args.self.now) c.requires

pub returns-in_err-bytes-clause-one_line : goal.returns-in_err-bytes-clause-one_line
returns-in_err-bytes-clause-one_line c = dump_one_line (view c.args.self.now) c.requires

pub returns-in_err-text-clause-one_line : goal.returns-in_err-text-clause-one_line
returns-in_err-text-clause-one_line c = dump_one_line (view c.args.self.now) c.requires

pub returns-clause-embedded : goal.returns-clause-embedded
returns-clause-embedded c = embeds_exactly

pub returns-in_err-bytes-clause-embedded : goal.returns-in_err-bytes-clause-embedded
returns-in_err-bytes-clause-embedded c = embeds_exactly

pub returns-in_err-text-clause-embedded : goal.returns-in_err-text-clause-embedded
returns-in_err-text-clause-embedded c = embeds_exactly

pub returns-clause-not_embedded : goal.returns-clause-not_embedded
returns-clause-not_embedded c = rejects_exactly

pub returns-in_err-bytes-clause-not_embedded : goal.returns-in_err-bytes-clause-not_embedded
returns-in_err-bytes-clause-not_embedded c = rejects_exactly

pub returns-in_err-text-clause-not_embedded : goal.returns-in_err-text-clause-not_embedded
returns-in_err-text-clause-not_embedded c = rejects_exactly
