use Rattle.std.proofs.Common.{◌≡◌, [], ◌∷◌, ◌++◌, take, get_or}
use Rattle.std.specs.String.{string_bytes}
use Rattle.std.specs.List.{flat_map}
use Rattle.hex.specs.Hex.{encode_lower}
use Rattle.cbor_tokens.specs.Ascii.{colon}
use Rattle.cbor_notes.proofs.address.mac_text.Given as goal

-- the first octet is written, and those so far after it, each with its colon
abbrev pub invariant-loop-octet : goal.invariant-loop-octet
invariant-loop-octet l =
    string_bytes l.text ≡ encode_lower (get_or l.octets 0 0 ∷ [])
    ++ flat_map (λ octet. colon ∷ encode_lower (octet ∷ [])) (take l.octet-index l.octet-items)
