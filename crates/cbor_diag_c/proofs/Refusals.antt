-- If bytes have a fault with an error, they are no item, with that error (`IsNoItem`). If the bytes that hex stands for
-- are no item with an error, the hex is refused with it (`IsHexRefused`). If the first `end` bytes have a fault and
-- fewer bytes are truncated, the place of the fault is `end - 1`.
use Rattle.std.proofs.Common.{◌≡◌, ◌+◌, ◌-◌, ◌<◌, ℕ, List, take, Ok, refl}
use Rattle.hex.specs.Hex.{decode_of}
use Rattle.cbor_tokens.specs.Uncommented.{uncommented}
use Rattle.cbor_grammar.specs.declared.error.Error.{Error}
use Rattle.cbor_grammar.specs.declared.error.Error.TheVariants as refusal
use Rattle.cbor_grammar.specs.Facts.{HasFault, IsCut, IsNoItem}
use Rattle.cbor_bytes.specs.Extent.{FaultEnds}
use Rattle.cbor_grammar.specs.HexText.{IsHexRefused}
use Rattle.cbor_grammar.proofs.bytes.Outcomes.{fault_refusal}
use Rattle.cbor_places.specs.Fault.{ShowsFirst}
use Rattle.cbor_places.proofs.FaultPlaces.{last_shows}

pub refused : (b : List ℕ) (e : Error) → HasFault b e → IsNoItem b e
refused b e h = fault_refusal 1 b e h

-- the last of the bytes that have it is before none that does
pub fault_place : (b : List ℕ) (e : Error) (end : ℕ) → FaultEnds b e end → ((n : ℕ) → n < end → IsCut (take n b))
    → ShowsFirst b e (end - 1 + 1)
fault_place b e end shown cuts = last_shows b e end (end - 1) (shown, cuts) refl

pub hex_refused : (text b : List ℕ) (e : Error) → decode_of (uncommented text) ≡ Ok b → IsNoItem b e
    → IsHexRefused text e
hex_refused text b refusal.Memory d h = absurd h
hex_refused text b refusal.CutShort d h = (b, d, h)
hex_refused text b refusal.Head d h = (b, d, h)
hex_refused text b refusal.Utf8 d h = (b, d, h)
hex_refused text b refusal.TooDeep d h = (b, d, h)
hex_refused text b refusal.Remaining d h = (b, d, h)
hex_refused text b refusal.OddHex d h = absurd h
hex_refused text b refusal.BadHex d h = absurd h
hex_refused text b refusal.Notation d h = absurd h
hex_refused text b refusal.PastWidth d h = absurd h
