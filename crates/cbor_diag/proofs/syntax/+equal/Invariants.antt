-- The members that are left are equal if and only if all members are.
use Rattle.std.proofs.Common.{◌≡◌, ◌↔◌, length, drop}
use Rattle.cbor_diag.specs.View.{items_view, pairs_view}
use Rattle.cbor_diag.proofs.syntax.+equal.Given as goal

abbrev pub invariant-equal::members_equal-items : goal.invariant-equal::members_equal-items
invariant-equal::members_equal-items l = record {
  long : length l.item-items ≡ length l.b.items;
  same : (items_view (drop l.index l.item-items) ≡ items_view (drop l.index l.b.items))
      ↔ (items_view l.item-items ≡ items_view l.b.items);
}

abbrev pub invariant-equal::pairs_equal-pairs : goal.invariant-equal::pairs_equal-pairs
invariant-equal::pairs_equal-pairs l = record {
  long : length l.key-items ≡ length l.b.items;
  same : (pairs_view (drop l.index l.key-items) ≡ pairs_view (drop l.index l.b.items))
      ↔ (pairs_view l.key-items ≡ pairs_view l.b.items);
}
