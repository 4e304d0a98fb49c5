use Rattle.std.proofs.Common.{◌≡◌, ◌<◌, [], ◌∷◌, length, sym, ap, ◌∙◌, ◌++◌, take, get_or, arith}
use Rattle.std.proofs.lemmas.Grind.{common_steps}
use Rattle.std.proofs.lemmas.List.{append-nil, take_more}
use Rattle.hex.specs.Hex.{encode_lower, encode_with, lower_digits}
use Rattle.hex.proofs.HexLemmas.{length-encode_with}
use Rattle.cbor_tokens.proofs.texts.HexLemmas.{byte_more}
use Rattle.cbor_notes.proofs.text.put_hex.Goals as goal

pub loop-byte-init : goal.loop-byte-init
unfolding encode_with
loop-byte-init c = record { written = sym (append-nil c.args.out.now); len = omega arith }

pub loop-byte-preserved : goal.loop-byte-preserved
loop-byte-preserved c =
    let i = c.loop-byte.byte-index in
    let bytes = c.args.bytes.now in
    let byte = get_or bytes i 0 in
    let more = byte_more c.args.out.now c.loop-byte.out (take i bytes) byte c.loop-byte.invariant.written in
    let two : length (encode_lower (byte ∷ [])) ≡ 2 = length-encode_with lower_digits (byte ∷ []) in
    let here : i < length bytes = omega arith in
    record {
      written = c.push_hex.ensures ∙ more ∙ ap (λ x. c.args.out.now ++ encode_lower x) (sym (take_more bytes i 0 here));
      len = grind (arith, common_steps);
    }
