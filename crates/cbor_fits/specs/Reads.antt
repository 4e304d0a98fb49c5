-- What the functions of `read.rt` and `read/datum.rt` return: the value of a `DataItem`, the entry of a pair of a map,
-- the item at the front of bytes, and the values of items in sequence.
use Rattle.std.specs.Prelude.{ℕ, List, ◌++◌, Vec, Option, Some, None, Ok, Err}
use Rattle.std.specs.Global.{Global}
use Rattle.cbor_grammar.specs.Item.{Item, Items}
use Rattle.cbor_grammar.specs.Reading.{Read, read_item}
use Rattle.cbor_grammar.specs.WellFormed.{levels_left}
use Rattle.cbor_diag.specs.declared.syntax.DataItem.{DataItem}
use Rattle.cbor_diag.specs.View.{view}
use Rattle.cbor_fits.specs.Value.{Value, list_of}
use Rattle.cbor_fits.specs.Rests.{pair_view}
use Rattle.cbor_fits.specs.Decoded.{Entry, key_bytes, value_of, values_of_items}
use Rattle.cbor_fits.specs.declared.value.Datum.{Datum}

-- the value of an item
abbrev pub datum_value : DataItem → Value
datum_value i = value_of (view i)

-- the entry of a pair
abbrev pub entry_of : DataItem × DataItem → Entry
entry_of p = (key_bytes (view p.0), (datum_value p.0, datum_value p.1))

-- an item at the front of bytes, and the bytes after it
abbrev pub front_item : Read Item → Option (Item × List ℕ)
front_item (Ok x) = Some x
front_item (Err e) = None

abbrev pub front_read : List ℕ → Read Item
front_read b = read_item (levels_left 1) b

abbrev pub front_of : List ℕ → Option (Item × List ℕ)
front_of b = front_item (front_read b)

-- the entry of a key's bytes and a pair
abbrev pub entry_view : Vec ℕ Global × (Datum × Datum) → Entry
entry_view e = (e.0.items, pair_view e.1)

-- the values of items in sequence, and the bytes after them
abbrev pub listed : Items × List ℕ → List Value × List ℕ
listed s = (list_of (values_of_items s.0), s.1)

-- the same with values before
abbrev pub after : List Value → List Value × List ℕ → List Value × List ℕ
after vs s = (vs ++ s.0, s.1)
