-- The rough length of a text on one line, which decides the layout of pretty text.
use Rattle.std.specs.Prelude.{ℕ, ◌+◌, ◌*◌, List, length, sum_by}
use Rattle.std.specs.Fmt.{decimal}
use Rattle.cbor_grammar.specs.declared.width.FloatWidth.{FloatWidth}
use Rattle.cbor_grammar.specs.declared.width.FloatWidth.TheVariants as float_width
use Rattle.cbor_grammar.specs.declared.strings.StringKind.{StringKind}
use Rattle.cbor_grammar.specs.declared.strings.StringKind.TheVariants.{Bytes, Text}
use Rattle.cbor_grammar.specs.Item as spec
use Rattle.cbor_grammar.specs.Item.{Chunk, Atom, integer, negative, string, chunked_string}
use Rattle.cbor_grammar.specs.Item.{float, simple, Item, atom, array, tagged, Items, no_items, item, Pairs, no_pairs}
use Rattle.cbor_grammar.specs.Item.{pair}

-- how many decimal digits a number has
abbrev pub digit_count : ℕ → ℕ
digit_count n = length (decimal n)

-- bytes as digits of base 16
abbrev pub estimated_string : StringKind → Chunk → ℕ
estimated_string Bytes c = 2 * length c.bytes + 4
estimated_string Text c = length c.bytes + 2

abbrev pub estimated_chunks : StringKind → List Chunk → ℕ
estimated_chunks kind cs = sum_by (λ c. estimated_string kind c + 2) cs

abbrev pub estimated_float : FloatWidth → ℕ
estimated_float float_width.Sixteen = 11
estimated_float float_width.ThirtyTwo = 15
estimated_float _ = 23

-- Of a negative integer it is the encoded number whose digits count.
abbrev pub estimated_atom : Atom → ℕ
estimated_atom (integer n w) = digit_count n + 2
estimated_atom (negative n w) = digit_count n + 3
estimated_atom (string kind c) = estimated_string kind c
estimated_atom (chunked_string kind cs) = 4 + estimated_chunks kind cs
estimated_atom (float bits w) = estimated_float w
estimated_atom (simple n) = digit_count n + 8

-- The whole sum. A member of a container counts two more, for what separates it from the next; a map's
-- member is a key with its value.
abbrev mutual
  pub estimated_length : Item → ℕ
  estimated_length (atom a) = estimated_atom a
  estimated_length (array is w) = 4 + estimated_items is
  estimated_length (spec.map ps w) = 4 + estimated_pairs ps
  estimated_length (tagged t w i) = digit_count t + 2 + estimated_length i

  pub estimated_items : Items → ℕ
  estimated_items no_items = 0
  estimated_items (item i is) = estimated_length i + 2 + estimated_items is

  pub estimated_pairs : Pairs → ℕ
  estimated_pairs no_pairs = 0
  estimated_pairs (pair k v ps) = estimated_length k + estimated_length v + 2 + estimated_pairs ps

-- a container that is estimated as this long or longer takes a line for each member
abbrev pub one_line_limit : ℕ
one_line_limit = 60
