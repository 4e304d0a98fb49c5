-- For code that walks over bytes without a `DataItem`, as for dumps and JSON: what `read_item` of `specs/Reading.antt`
-- returns at a level (`read_at`), and what reading returns after a head at that level (`read_behind`, `body_read`). No
-- public clause names these.
use Rattle.std.specs.Prelude.{ℕ, ◌+◌, List}
use Rattle.cbor_grammar.specs.Item.{Item}
use Rattle.cbor_grammar.specs.declared.head.ItemHead.{ItemHead}
use Rattle.cbor_grammar.specs.Reading.{Read, opened, read_body, counted_item, read_item}
use Rattle.cbor_grammar.specs.WellFormed.{levels_left}

abbrev pub read_at : ℕ → List ℕ → Read Item
read_at level b = read_item (levels_left level) b

-- the same behind a head
abbrev pub read_behind : ℕ → ItemHead → List ℕ → Read Item
read_behind level h b = (read_body (counted_item (levels_left (level + 1))) (opened h) h b).1

-- the same by the levels that are left for what it holds
abbrev pub body_read : ItemHead → List ℕ → ℕ → Read Item
body_read h b levels = (read_body (counted_item levels) (opened h) h b).1
