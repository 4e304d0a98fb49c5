-- A container has the values of what it holds; each pair is put at its place. A key stands twice in a container if it
-- does in what it holds, or if two of its keys are the same.
use Rattle.std.proofs.Common.{◌+◌, ◌||◌, ◌++◌, ◌∷◌, [], map, drop, is_some, ap, sym, ◌∙◌, refl, arith}
use Rattle.std.proofs.lemmas.List.{at_drop_all, map-append}
use Rattle.cbor_diag.specs.View.{view as item_view, items_view, pairs_view}
use Rattle.cbor_diag.proofs.shared.Views as diag
use Rattle.cbor_fits.specs.View.{view}
use Rattle.cbor_fits.specs.Value as spec
use Rattle.cbor_fits.specs.Value.{values_of, pairs_of}
use Rattle.cbor_fits.specs.Rests.{pair_view}
use Rattle.cbor_fits.specs.Reads.{datum_value, entry_of}
use Rattle.cbor_fits.specs.Decoded.{value_of, in_order, with_entry, with_entries, has_key_twice}
use Rattle.cbor_fits.specs.Decoded.{items_have_key_twice, pairs_have_key_twice, a_key_stands_twice, has_key}
use Rattle.cbor_fits.proofs.Views.{view-Array, view-Map}
use Rattle.cbor_fits.proofs.InOrder.{values_view, entries_view, at_item, one_more, seen, seen-insert, seen-lookup}
use Rattle.cbor_fits.proofs.InOrder.{or_assoc, or_assoc-3, or_false, seen-pairs}
use Rattle.cbor_fits.proofs.InOrder.{stands_twice_so_far}
use Rattle.cbor_fits.proofs.read.datum.Reader.+datum.Goals as goal

pub datum_of-returns-in_ok-data_of-in-Array-clause-value : goal.datum_of-returns-in_ok-data_of-in-Array-clause-value
datum_of-returns-in_ok-data_of-in-Array-clause-value t c =
    let v = c.in-Array.content in
    let is = ap item_view c.in-Array.is ∙ diag.view-Array v c.in-Array.bitwidth in
    view-Array c.in_ok-data_of-in-Array.field-0
    ∙ (ap (λ l. spec.array (values_of l)) c.in_ok-data_of-in-Array.ensures.values
    ∙ (sym (ap spec.array (values_view v.items)) ∙ sym (ap value_of is)))

pub datum_of-returns-in_ok-data_of-in-Array-clause-key_twice :
    goal.datum_of-returns-in_ok-data_of-in-Array-clause-key_twice
datum_of-returns-in_ok-data_of-in-Array-clause-key_twice t c =
    let is = ap item_view c.in-Array.is ∙ diag.view-Array c.in-Array.content c.in-Array.bitwidth in
    c.in_ok-data_of-in-Array.ensures.key_twice ∙ sym (ap (λ i. c.args.self.now.key_twice || has_key_twice i) is)

pub datum_of-returns-in_ok-pairs_of-in-Map-clause-value : goal.datum_of-returns-in_ok-pairs_of-in-Map-clause-value
datum_of-returns-in_ok-pairs_of-in-Map-clause-value t c =
    let v = c.in-Map.content in
    let is = ap item_view c.in-Map.is ∙ diag.view-Map v c.in-Map.bitwidth in
    view-Map c.in_ok-pairs_of-in-Map.field-0
    ∙ (ap (λ l. spec.map (pairs_of l)) c.in_ok-pairs_of-in-Map.ensures.values
    ∙ (sym (ap (λ es. spec.map (pairs_of (in_order es))) (entries_view v.items)) ∙ sym (ap value_of is)))

pub datum_of-returns-in_ok-pairs_of-in-Map-clause-key_twice :
    goal.datum_of-returns-in_ok-pairs_of-in-Map-clause-key_twice
datum_of-returns-in_ok-pairs_of-in-Map-clause-key_twice t c =
    let v = c.in-Map.content in
    let is = ap item_view c.in-Map.is ∙ diag.view-Map v c.in-Map.bitwidth in
    let known = c.args.self.now.key_twice in
    c.in_ok-pairs_of-in-Map.ensures.key_twice
    ∙ (sym (ap (λ es. known || (pairs_have_key_twice (pairs_view v.items) || a_key_stands_twice [] es))
    (entries_view v.items))
    ∙ sym (ap (λ i. known || has_key_twice i) is))

pub data_of-items-preserved : goal.data_of-items-preserved
data_of-items-preserved t c =
    let items = c.deref-item-items.result.now in
    let old = c.items.self.key_twice in
    let x = c.item-item.result in
    let i = c.items.item-index in
    let left = items_have_key_twice (items_view (drop (i + 1) items)) in (
      ap (map view) c.in_ok-push.ensures.items
          ∙ (map-append view c.items.data.items (c.in_ok-datum_of.field-0 ∷ [])
          ∙ ((λ j. c.items.invariant.0 j ++ c.in_ok-datum_of.ensures.value j ∷ [])
          ∙ one_more datum_value items i x (omega arith) c.item-item.is)),
      ap (λ f. f || left) c.in_ok-datum_of.ensures.key_twice
          ∙ (or_assoc old (has_key_twice (item_view x)) left
          ∙ (sym (at_item (λ is. old || items_have_key_twice (items_view is)) items i x (omega arith) c.item-item.is)
          ∙ c.items.invariant.1)),
    )

pub data_of-returns-clause-key_twice : goal.data_of-returns-clause-key_twice
data_of-returns-clause-key_twice t c =
    let items = c.deref-item-items.result.now in
    let old = c.items.self.key_twice in
    or_false old ∙ (sym (at_drop_all (λ is. old || items_have_key_twice (items_view is)) items c.items.item-index
    (omega arith))
    ∙ (c.items.invariant.1
    ∙ ap (λ is. c.args.self.now.key_twice || items_have_key_twice (items_view is)) c.deref-item-items.ensures.value))

pub pairs_of-pairs-init : goal.pairs_of-pairs-init
pairs_of-pairs-init t c =
    let items = c.deref-key-items.result.now in (
      ap (λ es. with_entries (seen es) (map entry_of items)) c.new-entries.ensures.empty,
      ap (λ es. a_key_stands_twice (seen es) (map entry_of items)) c.new-entries.ensures.empty,
      refl,
    )

pub pairs_of-pairs-preserved : goal.pairs_of-pairs-preserved
pairs_of-pairs-preserved t c =
    let es = c.pairs.entries.entries in
    let items = c.deref-key-items.result.now in
    let x = c.pairs-item.result in
    let i = c.pairs.key-index in
    let left = map entry_of (drop (i + 1) items) in
    let nested = pairs_have_key_twice (pairs_view (drop (i + 1) items)) in
    let key = c.in_ok-first.ensures.value in
    let value = c.in_ok-second.ensures.value in
    let bytes = c.in_ok-bytes.ensures in
    let old = c.pairs.self.key_twice in
    let put = ap seen c.in_ok-old.ensures.entries ∙ (seen-insert es c.in_ok-bytes.bytes
    (c.in_ok-first.first, c.in_ok-second.second)
    ∙ (λ j. with_entry (seen es) (bytes j, (key j, value j)))) in
    let known = ap is_some c.in_ok-old.ensures.old ∙ (seen-lookup es c.in_ok-bytes.bytes
    ∙ ap (has_key (seen es)) bytes) in (
      ap (λ e. with_entries e left) put
          ∙ (sym (at_item (λ ps. with_entries (seen es) (map entry_of ps)) items i x (omega arith) c.pairs-item.is)
          ∙ c.pairs.invariant.0),
      ap (λ e. (c.pairs.is_known || c.is_some-is_known.result) || a_key_stands_twice e left) put
          ∙ (stands_twice_so_far (seen es) (entry_of x) left c.pairs.is_known c.is_some-is_known.result
          (c.is_some-is_known.ensures ∙ known)
          ∙ (sym (at_item (λ ps. c.pairs.is_known || a_key_stands_twice (seen es) (map entry_of ps)) items i x
          (omega arith) c.pairs-item.is)
          ∙ c.pairs.invariant.1)),
      (λ j. (c.in_ok-second.ensures.key_twice
          ∙ ap (λ f. f || has_key_twice (item_view x.1)) c.in_ok-first.ensures.key_twice) j || nested)
          ∙ (or_assoc-3 old (has_key_twice (item_view x.0)) (has_key_twice (item_view x.1)) nested
          ∙ (sym (at_item (λ ps. old || pairs_have_key_twice (pairs_view ps)) items i x (omega arith) c.pairs-item.is)
          ∙ c.pairs.invariant.2)),
    )

pub pairs_of-returns-clause-values : goal.pairs_of-returns-clause-values
pairs_of-returns-clause-values t c =
    let es = c.pairs.entries.entries in
    let items = c.deref-key-items.result.now in
    ap (map pair_view) c.in_ok-pairs.ensures ∙ (seen-pairs es
    ∙ (ap (map (λ e. e.1))
    (sym (at_drop_all (λ ps. with_entries (seen es) (map entry_of ps)) items c.pairs.key-index (omega arith))
    ∙ c.pairs.invariant.0)
    ∙ ap (λ ps. in_order (map entry_of ps)) c.deref-key-items.ensures.value))

pub pairs_of-returns-clause-key_twice : goal.pairs_of-returns-clause-key_twice
pairs_of-returns-clause-key_twice t c =
    let es = c.pairs.entries.entries in
    let items = c.deref-key-items.result.now in
    let i = c.pairs.key-index in
    let old = c.pairs.self.key_twice in
    let known = c.pairs.is_known in
    let before = c.args.self.now.key_twice in
    let nested = or_false old ∙ (sym (at_drop_all (λ ps. old || pairs_have_key_twice (pairs_view ps)) items i
    (omega arith)) ∙ c.pairs.invariant.2) in
    let here = or_false known
    ∙ (sym (at_drop_all (λ ps. known || a_key_stands_twice (seen es) (map entry_of ps)) items i (omega arith))
    ∙ c.pairs.invariant.1) in
    (λ j. nested j || here j)
    ∙ (or_assoc before (pairs_have_key_twice (pairs_view items)) (a_key_stands_twice [] (map entry_of items))
    ∙ ap (λ ps. before || (pairs_have_key_twice (pairs_view ps) || a_key_stands_twice [] (map entry_of ps)))
    c.deref-key-items.ensures.value)
