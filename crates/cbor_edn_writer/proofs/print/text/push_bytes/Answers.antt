-- The width may be after the bytes.
use Rattle.std.proofs.Common.{◌∷◌, [], ◌++◌, length, ap, append_assoc}
use Rattle.std.specs.String.{string_bytes}
use Rattle.hex.specs.Hex.{encode_lower}
use Rattle.cbor_edn_writer.specs.EdnLeaves.{length_mark}
use Rattle.cbor_edn_writer.proofs.writing.Appended.{appends_both}
use Rattle.cbor_edn_writer.proofs.print.text.push_bytes.Goals as goal

pub returns : goal.returns
returns c =
    let hex = encode_lower c.args.bytes.now in
    let mark = length_mark (length c.args.bytes.now) c.args.width in
    appends_both c.push_length_mark.result (string_bytes c.args.out.now) (string_bytes c.push_quoted.new.out)
    (string_bytes c.push_length_mark.new.out) (104 ∷ 39 ∷ (hex ++ 39 ∷ [])) mark _ c.in_ok-push_quoted.ensures
    c.push_length_mark.ensures (ap (λ x. 104 ∷ 39 ∷ x) (append_assoc hex (39 ∷ []) mark))
