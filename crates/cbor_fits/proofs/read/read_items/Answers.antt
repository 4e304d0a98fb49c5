-- Each turn reads the item at the front; the loop ends where there is none.
use Rattle.std.proofs.Common.{◌≡◌, ◌-◌, ◌++◌, ◌∷◌, [], List, ℕ, length, map, Bor, option_map, ap, sym, ◌∙◌}
use Rattle.std.proofs.Common.{arith}
use Rattle.std.proofs.lemmas.List.{map-append}
use Rattle.cbor_grammar.specs.Item.{Item}
use Rattle.cbor_diag.specs.declared.syntax.DataItem.{DataItem}
use Rattle.cbor_diag.specs.View.{view as item_view}
use Rattle.cbor_fits.specs.View.{view}
use Rattle.cbor_fits.proofs.Decodes.{starts, goes_on, stops, ends, twice_starts, twice_more, twice_stops}
use Rattle.cbor_fits.proofs.Decodes.{twice_ends}
use Rattle.cbor_fits.proofs.read.read_items.Goals as goal

abbrev seen : DataItem × Bor (List ℕ) → Item × List ℕ
seen x = (item_view x.0, x.1.now)

pub items-init : goal.items-init
items-init c =
    let n = length c.args.bytes.now - 0 in
    let all : n ≡ length c.args.bytes.now = omega arith in (
      starts c.args.bytes.now n _ (ap (map view) c.new-data.ensures.items) all,
      twice_starts c.args.bytes.now n c.args.reader.now.key_twice all,
    )

pub returns-in_default-clause-values : goal.returns-in_default-clause-values
returns-in_default-clause-values c =
    sym (c.items.invariant.0 ∙ stops _ c.items.rest.now (map view c.items.data.items)
    (sym (ap (option_map seen) c.in_default.is) ∙ c.in_ok-item.ensures))

pub returns-in_default-clause-key_twice : goal.returns-in_default-clause-key_twice
returns-in_default-clause-key_twice c =
    sym (c.items.invariant.1 ∙ twice_stops _ c.items.rest.now c.items.reader.key_twice
    (sym (ap (option_map seen) c.in_default.is) ∙ c.in_ok-item.ensures))

pub items-preserved : goal.items-preserved
items-preserved c =
    let x : Item × List ℕ = (item_view c.in-Some.item, c.in-Some.after.now) in
    let here = sym (ap (option_map seen) c.in-Some.is) ∙ c.in_ok-item.ensures in
    let more = ap (map view) c.in_ok-push-in-Ok.ensures.items
    ∙ (map-append view c.items.data.items (c.in-Ok.datum ∷ [])
    ∙ ap (λ v. map view c.items.data.items ++ v ∷ []) c.in-Ok.ensures.value) in (
      c.items.invariant.0 ∙ goes_on (length c.args.bytes.now) c.items.counter c.items.rest.now x
          (map view c.items.data.items) (map view c.push.new.self.items) (omega arith) here more,
      c.items.invariant.1 ∙ twice_more (length c.args.bytes.now) c.items.counter c.items.rest.now x
          c.items.reader.key_twice c.datum_of.new.self.key_twice (omega arith) here c.in-Ok.ensures.key_twice,
    )

pub returns-clause-values : goal.returns-clause-values
returns-clause-values c =
    sym (c.items.invariant.0 ∙ ends _ c.items.rest.now (map view c.items.data.items) (omega arith))

pub returns-clause-key_twice : goal.returns-clause-key_twice
returns-clause-key_twice c =
    sym (c.items.invariant.1 ∙ twice_ends _ c.items.rest.now c.items.reader.key_twice (omega arith))
