-- What is appended for an item, an array, a map or a tag is its encoding.
use Rattle.std.proofs.Common.{◌≡◌, ℕ, List, ◌++◌, subst, ◌∙◌, append_assoc, arith, Option, Result, rules}
use Rattle.cbor_grammar.specs.declared.width.IntegerWidth.{IntegerWidth}
use Rattle.cbor_tokens.specs.Appends.{Appends}
use Rattle.cbor_grammar.specs.Item.{item_count, pair_count}
use Rattle.cbor_diag.specs.View.{items_view, pairs_view}
use Rattle.cbor_grammar.specs.WellFormed.{WellFormedItems, WellFormedPairs, FitsCount}
use Rattle.cbor_grammar.specs.Written.{encoded_items, encoded_pairs, encoded_open, encoded_close}
use Rattle.cbor_diag.specs.declared.syntax.DataItem.{the_lemmas}
use Rattle.cbor_tokens.proofs.texts.Appending.{begins_still, begins_through, begins_two, appends_after, appends_last}
use Rattle.cbor_diag.proofs.shared.Views.{item_count_view, pair_count_view}
use Rattle.cbor_notation_writer.proofs.text.Scalars.{drop_here}
use Rattle.cbor_diag.proofs.encode.bytes.+push.Goals as goal

-- a container between its opening and its close
module _ (major count counted : ℕ) (same : count ≡ counted) (w : Option IntegerWidth)
    (out opened filled closed members : List ℕ) (opens : opened ≡ out ++ encoded_open major counted w)
    (fills : filled ≡ opened ++ members) where
  whole : filled ++ encoded_close w ≡ out ++ (encoded_open major count w ++ (members ++ encoded_close w))
  whole = rw (fills, opens, same) (simp append_assoc)

  container : {T E : Type 0} (r : Result T E) → Appends r filled closed (encoded_close w)
      → Appends r out closed (encoded_open major count w ++ (members ++ encoded_close w))
  container r closes = appends_last r out filled closed (encoded_close w) _
      (begins_two out opened (encoded_open major counted w) members filled opens fills) (λ e. e ∙ whole) closes

pub push_array-push_open-requires : goal.push_array-push_open-requires
push_array-push_open-requires t c =
    let v = c.args.items.now in
    let counted : item_count (items_view v.items) ≡ c.len.result = omega (arith, item_count_view v.items, v.ok.0) in
    subst (λ n. FitsCount c.args.width n) counted c.requires.1.1

pub push_array-returns : goal.push_array-returns
push_array-returns t c =
    let v = c.args.items.now in
    let counted : item_count (items_view v.items) ≡ c.len.result = omega (arith, item_count_view v.items, v.ok.0) in
    container 4 (item_count (items_view v.items)) c.len.result counted c.args.width c.args.out.now.items
    c.push_open.new.out.items c.push_items.new.out.items c.push_close.new.out.items
    (encoded_items (items_view v.items)) c.in_ok-push_open.ensures c.in_ok-push_items.ensures c.push_close.result
    c.push_close.ensures

pub push_map-push_open-requires : goal.push_map-push_open-requires
push_map-push_open-requires t c =
    let v = c.args.pairs.now in
    let counted : pair_count (pairs_view v.items) ≡ c.len.result = omega (arith, pair_count_view v.items, v.ok.0) in
    subst (λ n. FitsCount c.args.width n) counted c.requires.1.1

pub push_map-returns : goal.push_map-returns
push_map-returns t c =
    let v = c.args.pairs.now in
    let counted : pair_count (pairs_view v.items) ≡ c.len.result = omega (arith, pair_count_view v.items, v.ok.0) in
    container 5 (pair_count (pairs_view v.items)) c.len.result counted c.args.width c.args.out.now.items
    c.push_open.new.out.items c.push_pairs.new.out.items c.push_close.new.out.items
    (encoded_pairs (pairs_view v.items)) c.in_ok-push_open.ensures c.in_ok-push_pairs.ensures c.push_close.result
    c.push_close.ensures

pub push_pairs-push_item-requires-in-pairs : goal.push_pairs-push_item-requires-in-pairs
push_pairs-push_item-requires-in-pairs t c = (
  search (rules, the_lemmas),
  let here = drop_here c.deref-key-items.result.now _ _ c.pairs-test.true c.pairs-item.is in
      let well = subst (λ ps. WellFormedPairs c.pairs.invariant.level (pairs_view ps)) here c.pairs.invariant.well in
      (c.pairs.invariant.level, well.1),
)

pub push_tagged-returns : goal.push_tagged-returns
push_tagged-returns t c =
    appends_after c.push_item.result c.args.out.now.items c.push_head.new.out.items c.push_item.new.out.items _ _
    c.in_ok-push_head.ensures c.push_item.ensures

pub push_pairs-returns-in_err-push_item-2 : goal.push_pairs-returns-in_err-push_item-2
push_pairs-returns-in_err-push_item-2 t c =
    let out = c.args.out.now.items in
    let key = begins_still out c.pairs.out.items _ c.push_item.new.out.items c.pairs.invariant.begins
    c.in_ok-push_item.ensures in
    let begun = begins_through out c.push_item.new.out.items c.push_item-in-pairs.new.out.items
    c.in_err-push_item-2.ensures key in
    search (rules, begun)

pub push_items-push_item-requires : goal.push_items-push_item-requires
push_items-push_item-requires t c = (
  search (rules, the_lemmas),
  let here = drop_here c.deref-item-items.result.now _ _ c.items-test.true c.item-item.is in
      let well = subst (λ vs. WellFormedItems c.items.invariant.level (items_view vs)) here c.items.invariant.well in
      (c.items.invariant.level, well.0),
)

pub push_items-returns-in_err-push_item : goal.push_items-returns-in_err-push_item
push_items-returns-in_err-push_item t c =
    let begun = begins_through c.args.out.now.items c.items.out.items c.push_item.new.out.items
    c.in_err-push_item.ensures c.items.invariant.begins in
    search (rules, begun)

pub push_pairs-push_item-requires : goal.push_pairs-push_item-requires
push_pairs-push_item-requires t c = (
  search (rules, the_lemmas),
  let here = drop_here c.deref-key-items.result.now _ _ c.pairs-test.true c.pairs-item.is in
      let well = subst (λ ps. WellFormedPairs c.pairs.invariant.level (pairs_view ps)) here c.pairs.invariant.well in
      (c.pairs.invariant.level, well.0),
)

pub push_pairs-returns-in_err-push_item : goal.push_pairs-returns-in_err-push_item
push_pairs-returns-in_err-push_item t c =
    let begun = begins_through c.args.out.now.items c.pairs.out.items c.push_item.new.out.items
    c.in_err-push_item.ensures c.pairs.invariant.begins in
    search (rules, begun)
