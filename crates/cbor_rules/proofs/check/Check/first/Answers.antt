-- Reading goes on after each item, and stops where one of them does.
use Rattle.std.proofs.Common.{◌≡◌, ◌<◌, length, sym, arith}
use Rattle.cbor_grammar.specs.WellFormed.{deepest}
use Rattle.cbor_rules.specs.FirstViolation.{first_violation, kept_item}
use Rattle.cbor_rules.proofs.Stops.{found_first, found_within}
use Rattle.cbor_rules.proofs.Turns.{items_stop, items_go, items_end}
use Rattle.cbor_rules.proofs.check.Check.first.Goals as goal

pub items-preserved : goal.items-preserved
items-preserved c =
    let i = c.items.invariant in
    let b = c.args.bytes.now in
    let lt : 0 < length c.items.rest.now = grind (arith, c.is_empty.ensures, c.items-test.true) in
    items_go i.0 c.args.self.now.rules c.args.self.now.len c.items.rest.now (first_violation c.args.self.now.rules b)
    c.in-Some.after.now lt i.1 i.2 c.in-Some.ensures.gives c.in-Some.ensures.shorter

pub returns-in_default-clause-first : goal.returns-in_default-clause-first
returns-in_default-clause-first c =
    let i = c.items.invariant in
    let b = c.args.bytes.now in
    let rules = c.args.self.now.rules in
    let total = c.args.self.now.len in
    let rest = c.items.rest.now in
    let lt : 0 < length rest = grind (arith, c.is_empty.ensures, c.items-test.true) in
    found_first c.after_item.new.stop c.found.result (kept_item deepest rules total rest) (first_violation rules b)
    (λ d e. items_stop i.0 rules total rest (first_violation rules b) d lt i.1 i.2 e) c.in_default.ensures.gives
    c.found.ensures.violation

pub returns-in_default-clause-within : goal.returns-in_default-clause-within
returns-in_default-clause-within c =
    found_within c.args.self.now.alloc c.args.self.now.len (length c.args.bytes.now) c.after_item.new.stop
    c.found.result c.requires.len c.in_default.ensures.within c.found.ensures.violation

pub returns-clause-first : goal.returns-clause-first
returns-clause-first c =
    let i = c.items.invariant in
    let b = c.args.bytes.now in
    let none : length c.items.rest.now ≡ 0 = grind (arith, c.is_empty.ensures, c.items-test.false) in
    let rules = c.args.self.now.rules in
    let total = c.args.self.now.len in
    sym (items_end i.0 rules total c.items.rest.now (first_violation rules b) none i.2)
