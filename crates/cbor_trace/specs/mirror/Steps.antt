-- For `open.rt`: the container that a head opens, before its first part (`opened_by`), and the same container before
-- the next part (`next_of`).
use Rattle.std.specs.Prelude.{ℕ, ◌+◌, Option, Some, None}
use Rattle.cbor_grammar.specs.declared.head.ItemHead.{ItemHead}
use Rattle.cbor_grammar.specs.declared.head.ItemHead.TheVariants as item_head
use Rattle.cbor_trace.specs.declared.open.Open.{Open}
use Rattle.cbor_trace.specs.declared.open.Open.TheVariants.{Array, Key, Value, Tag}

abbrev pub opened_by : ItemHead → Option Open
opened_by (item_head.Array count) = Some (Array count 0)
opened_by (item_head.Map count) = Some (Key count 0)
opened_by (item_head.Tag number width) = Some (Tag number width)
opened_by _ = None

abbrev pub next_of : Open → ℕ → Option Open
next_of (Array count index) start = Some (Array count (index + 1))
next_of (Key count index) start = Some (Value count index start)
next_of (Value count index key) start = Some (Key count (index + 1))
next_of (Tag number width) start = None
