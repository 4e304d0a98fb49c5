-- The values of the items so far; the entries so far, and those that are left, are in order as all are. A key stands
-- twice in what is read and what is left if it does in all.
use Rattle.std.proofs.Common.{◌≡◌, ◌||◌, [], map, take, drop}
use Rattle.cbor_diag.specs.View.{items_view, pairs_view}
use Rattle.cbor_fits.specs.View.{view}
use Rattle.cbor_fits.specs.Reads.{datum_value, entry_of}
use Rattle.cbor_fits.specs.Decoded.{with_entries, items_have_key_twice, pairs_have_key_twice, a_key_stands_twice}
use Rattle.cbor_fits.proofs.InOrder.{seen}
use Rattle.cbor_fits.proofs.read.datum.Reader.+datum.Given as goal

abbrev pub invariant-data_of-items : goal.invariant-data_of-items
invariant-data_of-items l =
    (map view l.data.items ≡ map datum_value (take l.item-index l.item-items))
    × ((l.self.key_twice || items_have_key_twice (items_view (drop l.item-index l.item-items)))
    ≡ (l.fn.self.key_twice || items_have_key_twice (items_view l.item-items)))

abbrev pub invariant-pairs_of-pairs : goal.invariant-pairs_of-pairs
invariant-pairs_of-pairs l =
    (with_entries (seen l.entries.entries) (map entry_of (drop l.key-index l.key-items))
    ≡ with_entries [] (map entry_of l.key-items))
    × ((l.is_known || a_key_stands_twice (seen l.entries.entries) (map entry_of (drop l.key-index l.key-items)))
    ≡ a_key_stands_twice [] (map entry_of l.key-items))
    × ((l.self.key_twice || pairs_have_key_twice (pairs_view (drop l.key-index l.key-items)))
    ≡ (l.fn.self.key_twice || pairs_have_key_twice (pairs_view l.key-items)))
