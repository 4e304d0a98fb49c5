-- Which items are the same: those with the same fields, widths included. `==` tests this.
use Rattle.std.specs.Prelude.{Bool, true, false, ◌&&◌, nat_eq, Option, Some, None}
use Rattle.std.specs.Cmp.Lexicographic.{pointwise}
use Rattle.cbor_grammar.specs.declared.width.IntegerWidth.{IntegerWidth}
use Rattle.cbor_grammar.specs.declared.width.IntegerWidth.TheVariants.{Unknown, Zero, Eight, Sixteen, ThirtyTwo}
use Rattle.cbor_grammar.specs.declared.width.IntegerWidth.TheVariants.{SixtyFour}
use Rattle.cbor_grammar.specs.declared.width.FloatWidth.{FloatWidth}
use Rattle.cbor_grammar.specs.declared.width.FloatWidth.TheVariants as float_width
use Rattle.cbor_grammar.specs.Item as spec
use Rattle.cbor_grammar.specs.Item.{Chunk, Atom, integer, negative, string, chunked_string, float, simple, Item, atom}
use Rattle.cbor_grammar.specs.Item.{array, tagged, Items, no_items, item, Pairs, no_pairs, pair}
use Rattle.cbor_grammar.specs.declared.strings.StringKind.TheVariants.{Bytes, Text}

abbrev pub same_width : IntegerWidth → IntegerWidth → Bool
same_width Unknown Unknown = true
same_width Zero Zero = true
same_width Eight Eight = true
same_width Sixteen Sixteen = true
same_width ThirtyTwo ThirtyTwo = true
same_width SixtyFour SixtyFour = true
same_width v w = false

abbrev pub same_float_width : FloatWidth → FloatWidth → Bool
same_float_width float_width.Unknown float_width.Unknown = true
same_float_width float_width.Sixteen float_width.Sixteen = true
same_float_width float_width.ThirtyTwo float_width.ThirtyTwo = true
same_float_width float_width.SixtyFour float_width.SixtyFour = true
same_float_width v w = false

-- the widths of two counts; an indefinite length has none
abbrev pub same_count : Option IntegerWidth → Option IntegerWidth → Bool
same_count None None = true
same_count (Some v) (Some w) = same_width v w
same_count v w = false

abbrev pub same_chunk : Chunk → Chunk → Bool
same_chunk c d = pointwise nat_eq c.bytes d.bytes && same_width c.width d.width

abbrev pub same_atom : Atom → Atom → Bool
same_atom (integer n v) (integer m w) = nat_eq n m && same_width v w
same_atom (negative n v) (negative m w) = nat_eq n m && same_width v w
same_atom (string Bytes c) (string Bytes d) = same_chunk c d
same_atom (string Text c) (string Text d) = same_chunk c d
same_atom (chunked_string Bytes cs) (chunked_string Bytes ds) = pointwise same_chunk cs ds
same_atom (chunked_string Text cs) (chunked_string Text ds) = pointwise same_chunk cs ds
same_atom (float n v) (float m w) = nat_eq n m && same_float_width v w
same_atom (simple n) (simple m) = nat_eq n m
same_atom a b = false

abbrev mutual
  pub same_item : Item → Item → Bool
  same_item (atom a) (atom b) = same_atom a b
  same_item (array is v) (array js w) = same_items is js && same_count v w
  same_item (spec.map ps v) (spec.map qs w) = same_pairs ps qs && same_count v w
  same_item (tagged t v i) (tagged s w j) = (nat_eq t s && same_width v w) && same_item i j
  same_item i j = false

  pub same_items : Items → Items → Bool
  same_items no_items no_items = true
  same_items (item i is) (item j js) = same_item i j && same_items is js
  same_items is js = false

  pub same_pairs : Pairs → Pairs → Bool
  same_pairs no_pairs no_pairs = true
  same_pairs (pair k v ps) (pair l w qs) = (same_item k l && same_item v w) && same_pairs ps qs
  same_pairs ps qs = false
