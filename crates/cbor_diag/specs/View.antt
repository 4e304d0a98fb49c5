-- `view`: the item of the definitions (`specs/Item.antt` of `cbor_grammar`) that a `DataItem` of the code stands for.
use Rattle.std.specs.Prelude.{List, map}
use Rattle.cbor_grammar.specs.Item as spec
use Rattle.cbor_grammar.specs.Item.{Item, Items, Pairs}
use Rattle.cbor_grammar.specs.declared.strings.StringKind.TheVariants.{Bytes, Text}
use Rattle.cbor_diag.specs.declared.syntax.DataItem.{DataItem, fold-DataItem}
use Rattle.cbor_diag.specs.declared.syntax.DataItem.TheOpen.{DataItem-F}
use Rattle.cbor_grammar.specs.Item.{items_of, pairs_of}
use Rattle.cbor_grammar.specs.Strings.{byte_chunk, text_chunk}

-- one level, with each item inside already seen
abbrev pub view_step : DataItem-F Item → Item
view_step (DataItem-F.Integer n w) = spec.atom (spec.integer n w)
view_step (DataItem-F.Negative n w) = spec.atom (spec.negative n w)
view_step (DataItem-F.ByteString s) = spec.atom (spec.string Bytes (byte_chunk s))
view_step (DataItem-F.TextString s) = spec.atom (spec.string Text (text_chunk s))
view_step (DataItem-F.IndefiniteByteString v) = spec.atom (spec.chunked_string Bytes (map byte_chunk v.items))
view_step (DataItem-F.IndefiniteTextString v) = spec.atom (spec.chunked_string Text (map text_chunk v.items))
view_step (DataItem-F.Array v w) = spec.array (items_of v.items) w
view_step (DataItem-F.Map v w) = spec.map (pairs_of v.items) w
view_step (DataItem-F.Tag t w v) = spec.tagged t.0 w v.value
view_step (DataItem-F.Float b w) = spec.atom (spec.float b w)
view_step (DataItem-F.Simple s) = spec.atom (spec.simple s.0)

-- the item that a data item is
abbrev pub view : DataItem → Item
view = fold-DataItem Item view_step

abbrev pub items_view : List DataItem → Items
items_view is = items_of (map view is)

abbrev pub pairs_view : List (DataItem × DataItem) → Pairs
pairs_view ps = pairs_of (map (λ p. (view p.0, view p.1)) ps)
