use Rattle.std.proofs.Common.{ap, arith, inl, inr, Some}
use Rattle.cbor_tokens.proofs.bases.Base32Alphabet.{standard_letter, standard_figure, standard_other, hex_letter}
use Rattle.cbor_tokens.proofs.bases.Base32Alphabet.{hex_figure}
use Rattle.cbor_tokens.proofs.bases.Base32Alphabet.{hex_other, standard_letter_at, standard_figure_at, hex_letter_at}
use Rattle.cbor_tokens.proofs.base32.Alphabet.value.Goals as goal

pub returns-in-50-to-55-clause-found : goal.returns-in-50-to-55-clause-found
returns-in-50-to-55-clause-found c = rw c.in-Standard.is
    (omega arith, standard_figure_at c.args.digit (omega arith) (omega arith))

pub returns-in-50-to-55-clause-only : goal.returns-in-50-to-55-clause-only
returns-in-50-to-55-clause-only c = λ value small is.
    let there = rw c.in-Standard.is at is in
    ap Some (standard_figure value c.args.digit small there (omega arith) (omega arith))

pub returns-in-65-to-90-clause-found : goal.returns-in-65-to-90-clause-found
returns-in-65-to-90-clause-found c = rw c.in-Standard.is
    (omega arith, standard_letter_at c.args.digit (omega arith) (omega arith))

pub returns-in-65-to-90-clause-only : goal.returns-in-65-to-90-clause-only
returns-in-65-to-90-clause-only c = λ value small is.
    let there = rw c.in-Standard.is at is in
    ap Some (standard_letter value c.args.digit small there (omega arith) (omega arith))

pub returns-in_default-clause-only : goal.returns-in_default-clause-only
returns-in_default-clause-only c = λ value small is.
    let there = rw c.in-Standard.is at is in
    elim (standard_other value c.args.digit small there)
    [ inl w ↦ absurd (omega (arith, w.0, w.1)) | inr w ↦ absurd (omega (arith, w.0, w.1)) ]

pub returns-in_default-2-clause-only : goal.returns-in_default-2-clause-only
returns-in_default-2-clause-only c = λ value small is.
    let there = rw c.in-Standard.is at is in
    elim (standard_other value c.args.digit small there)
    [ inl w ↦ absurd (omega (arith, w.0, w.1)) | inr w ↦ absurd (omega (arith, w.0, w.1)) ]

pub returns-in_default-3-clause-only : goal.returns-in_default-3-clause-only
returns-in_default-3-clause-only c = λ value small is.
    let there = rw c.in-Standard.is at is in
    elim (standard_other value c.args.digit small there)
    [ inl w ↦ absurd (omega (arith, w.0, w.1)) | inr w ↦ absurd (omega (arith, w.0, w.1)) ]

pub returns-in-48-to-57-clause-only : goal.returns-in-48-to-57-clause-only
returns-in-48-to-57-clause-only c = λ value small is.
    let there = rw c.in-ExtendedHex.is at is in
    ap Some (hex_figure value c.args.digit small there (omega arith) (omega arith))

pub returns-in-65-to-86-clause-found : goal.returns-in-65-to-86-clause-found
returns-in-65-to-86-clause-found c = rw c.in-ExtendedHex.is
    (omega arith, hex_letter_at c.args.digit (omega arith) (omega arith))

pub returns-in-65-to-86-clause-only : goal.returns-in-65-to-86-clause-only
returns-in-65-to-86-clause-only c = λ value small is.
    let there = rw c.in-ExtendedHex.is at is in
    ap Some (hex_letter value c.args.digit small there (omega arith) (omega arith))

pub returns-in_default-digit-clause-only : goal.returns-in_default-digit-clause-only
returns-in_default-digit-clause-only c = λ value small is.
    let there = rw c.in-ExtendedHex.is at is in
    elim (hex_other value c.args.digit small there)
    [ inl w ↦ absurd (omega (arith, w.0, w.1)) | inr w ↦ absurd (omega (arith, w.0, w.1)) ]

pub returns-in_default-digit-2-clause-only : goal.returns-in_default-digit-2-clause-only
returns-in_default-digit-2-clause-only c = λ value small is.
    let there = rw c.in-ExtendedHex.is at is in
    elim (hex_other value c.args.digit small there)
    [ inl w ↦ absurd (omega (arith, w.0, w.1)) | inr w ↦ absurd (omega (arith, w.0, w.1)) ]

pub returns-in_default-digit-3-clause-only : goal.returns-in_default-digit-3-clause-only
returns-in_default-digit-3-clause-only c = λ value small is.
    let there = rw c.in-ExtendedHex.is at is in
    elim (hex_other value c.args.digit small there)
    [ inl w ↦ absurd (omega (arith, w.0, w.1)) | inr w ↦ absurd (omega (arith, w.0, w.1)) ]
