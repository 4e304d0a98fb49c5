use Rattle.std.proofs.Common.{◌≡◌, ◌++◌, replicate, map, slice_index, append_assoc, ◌∙◌, arith}
use Rattle.std.specs.Int.Digits.{digits_of, number_from_digits}
use Rattle.std.specs.String.{string_bytes}
use Rattle.cbor_notes.specs.Base58.{base58_of, characters, leading_zeros}
use Rattle.cbor_notes.proofs.bases.Base58Lemmas.{from_be_bytes-digits}
use Rattle.cbor_notes.proofs.base58_text.push_base58.Goals as goal

pub returns : goal.returns
unfolding base58_of
returns c =
    let number : c.from_be_bytes.result ≡ number_from_digits 256 c.args.bytes.now = c.from_be_bytes.ensures
    ∙ from_be_bytes-digits c.args.bytes.now c.told-bytes in
    let zeros : c.loop.counter ≡ leading_zeros c.args.bytes.now = omega (arith, c.leading_zeros-end.ensures.count) in
    let written : string_bytes c.loop.text ≡ string_bytes c.args.text.now ++ replicate (leading_zeros c.args.bytes.now)
    49 = rw (← zeros) c.loop.invariant in
    let joined = append_assoc (string_bytes c.args.text.now) (replicate (leading_zeros c.args.bytes.now) 49)
    (map (slice_index characters) (digits_of 58 (number_from_digits 256 c.args.bytes.now))) in
    record { text = rw (← joined, ← written, ← number) c.push_digits.ensures.text }
