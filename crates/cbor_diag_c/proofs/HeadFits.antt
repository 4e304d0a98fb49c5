-- The bits of a float that was read fit its width.
use Rattle.std.proofs.Common.{◌≡◌, ℕ, List, Ok}
use Rattle.cbor_grammar.proofs.bytes.Heads.{IsBytes}
use Rattle.cbor_grammar.specs.declared.head.ItemHead.{ItemHead}
use Rattle.cbor_grammar.specs.declared.head.ItemHead.TheVariants as item_head
use Rattle.cbor_grammar.specs.Reading.{read_head}
use Rattle.cbor_bytes.proofs.reading.Readings.{float_fits}
use Rattle.cbor_diag_c.specs.Heads.{FitsHead}

pub head_fits : (b rest : List ℕ) (h : ItemHead) → IsBytes b → read_head b ≡ Ok (h, rest) → FitsHead h
head_fits b rest (item_head.Float bits w) fits e = float_fits b rest bits w fits e
head_fits b rest (item_head.Integer n w) fits e = tt
head_fits b rest (item_head.Negative n w) fits e = tt
head_fits b rest (item_head.String kind a) fits e = tt
head_fits b rest (item_head.Array a) fits e = tt
head_fits b rest (item_head.Map a) fits e = tt
head_fits b rest (item_head.Tag n w) fits e = tt
head_fits b rest (item_head.Simple n) fits e = tt
