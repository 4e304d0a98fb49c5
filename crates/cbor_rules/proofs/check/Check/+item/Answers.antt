-- An item is its head and what follows it; the parts of a container are read one after the other.
use Rattle.std.proofs.Common.{◌<◌, ◌-◌, suc, length, Some, None, Err, refl, sym, ap, ◌∙◌, arith, option_map}
use Rattle.cbor_grammar.specs.WellFormed.{deepest}
use Rattle.cbor_rules.specs.declared.kind.ViolationKind.TheVariants as kind
use Rattle.cbor_grammar.specs.Reading.{one_less}
use Rattle.cbor_rules.specs.FirstViolation as spec
use Rattle.cbor_rules.specs.FirstViolation.{KeyAt, no_places, violation_at, kept_head, kept_parts, kept_item, members}
use Rattle.cbor_rules.specs.FirstViolation.{pairs}
use Rattle.cbor_rules.specs.mirror.Opened.{key_of, places_of, parts_of, kept_key}
use Rattle.cbor_rules.proofs.Stops.{stops, gives_as, key_stops, key_goes}
use Rattle.cbor_rules.proofs.Turns.{item_too_deep, item_stop, item_body, parts_end, parts_stop, parts_refuse, parts_go}
use Rattle.cbor_rules.proofs.check.Check.+item.Goals as goal
use Rattle.cbor_rules.proofs.check.Check.+item.Goals.{after_item-in-Some+in_ok-after-in-Some}
use Rattle.cbor_rules.proofs.check.Check.+item.Goals.{after_item-in-None+in_ok-after-in-None}

pub after_item-returns-then-left-eq0-clause-gives : goal.after_item-returns-then-left-eq0-clause-gives
after_item-returns-then-left-eq0-clause-gives t c =
    let rules = c.args.self.now.rules in
    let total = c.args.self.now.len in
    let b = c.args.bytes.now in
    rw c.stop_at_error.ensures.is (item_too_deep c.args.left rules total b c.if-left-eq0.true
    ∙ ap (λ e. Err (violation_at total b (kind.NoItem e))) (sym c.no_level_left-error.ensures.gives))

pub after_item-returns-in_err-head-clause-gives : goal.after_item-returns-in_err-head-clause-gives
after_item-returns-in_err-head-clause-gives t c =
    let lt : 0 < c.args.left = omega arith in
    let left = c.args.left in
    let rules = c.args.self.now.rules in
    let total = c.args.self.now.len in
    let b = c.args.bytes.now in
    rw c.from_residual.ensures (stops (kept_head rules total (deepest - (left - 1)) b) (kept_item left rules total b)
    c.read_head.new.stop (λ d e. item_stop left rules total b d lt e) c.in_err-head.ensures.gives)

pub after_item-returns-in_err-after-in-Some-clause-gives : goal.after_item-returns-in_err-after-in-Some-clause-gives
after_item-returns-in_err-after-in-Some-clause-gives t c =
    let lt : 0 < c.args.left = omega arith in
    rw c.from_residual-in_err-after-in-Some.ensures (gives_as (Err c.after_parts.new.stop)
    (item_body c.args.left c.args.self.now.rules c.args.self.now.len c.args.bytes.now c.in_ok-head.head
    c.in_ok-head.rest.now (Some (parts_of c.in-Some.parts)) lt c.in_ok-head.ensures.gives c.in-Some.ensures)
    c.in_err-after-in-Some.ensures.gives)

pub after_item-returns-in_err-after-in-None-clause-gives : goal.after_item-returns-in_err-after-in-None-clause-gives
after_item-returns-in_err-after-in-None-clause-gives t c =
    let lt : 0 < c.args.left = omega arith in
    rw c.from_residual-in_err-after-in-None.ensures (gives_as (Err c.after_atom.new.stop)
    (item_body c.args.left c.args.self.now.rules c.args.self.now.len c.args.bytes.now c.in_ok-head.head
    c.in_ok-head.rest.now None lt c.in_ok-head.ensures.gives c.in-None.ensures)
    c.in_err-after-in-None.ensures.gives)

pub after_item-returns-clause-gives : goal.after_item-returns-clause-gives
after_item-returns-clause-gives t c =
    let lt : 0 < c.args.left = omega arith in
    let left = c.args.left in
    let rules = c.args.self.now.rules in
    let total = c.args.self.now.len in
    let b = c.args.bytes.now in
    let head = c.in_ok-head.head in
    let rest = c.in_ok-head.rest.now in
    let read = c.in_ok-head.ensures.gives in
    elim c.match-new.branch [
      | after_item-in-Some+in_ok-after-in-Some w ↦
          rw w.after-is (item_body left rules total b head rest (Some (parts_of w.in-Some.parts)) lt read
          w.in-Some.ensures ∙ w.in_ok-after-in-Some.ensures.gives)
      | after_item-in-None+in_ok-after-in-None w ↦
          rw w.after-is (item_body left rules total b head rest None lt read w.in-None.ensures
          ∙ w.in_ok-after-in-None.ensures.gives)
    ]

pub after_members-returns-in-Some-clause-gives : goal.after_members-returns-in-Some-clause-gives
after_members-returns-in-Some-clause-gives t c =
    let rules = c.args.self.now.rules in
    let total = c.args.self.now.len in
    let b = c.args.bytes.now in
    let read = kept_item c.args.left rules total in
    let i = c.members.invariant.1 in
    parts_end rules total read (members c.members.count) c.members.rest.now
    (kept_parts (suc (length b)) rules total read (members c.args.count) b) i.0 c.in-Some.after.now i.1 i.2
    (sym c.in-Some.ensures.gives)

pub after_members-returns-in_err-rest-clause-gives : goal.after_members-returns-in_err-rest-clause-gives
after_members-returns-in_err-rest-clause-gives t c =
    let rules = c.args.self.now.rules in
    let total = c.args.self.now.len in
    let b = c.args.bytes.now in
    let rest = c.members.rest.now in
    let read = kept_item c.args.left rules total in
    let whole = kept_parts (suc (length b)) rules total read (members c.args.count) b in
    let i = c.members.invariant.1 in
    rw c.from_residual.ensures (stops (read rest) whole c.after_item.new.stop
    (λ d e. parts_stop rules total read (members c.members.count) rest whole i.0 d i.1 i.2
    (sym c.in_default.ensures.gives) e) c.in_err-rest.ensures.gives)

pub after_members-members-preserved : goal.after_members-members-preserved
after_members-members-preserved t c =
    let rules = c.args.self.now.rules in
    let total = c.args.self.now.len in
    let b = c.args.bytes.now in
    let read = kept_item c.args.left rules total in
    let i = c.members.invariant.1 in (
      omega (arith, c.in_ok-rest.ensures.shorter),
      parts_go rules total read (members c.members.count) c.members.rest.now
          (kept_parts (suc (length b)) rules total read (members c.args.count) b) i.0 c.in_ok-rest.rest.now
          (members c.one_less-count.result) i.1 i.2 (sym c.in_default.ensures.gives) c.in_ok-rest.ensures.gives
          (rw c.one_less-count.ensures refl) c.in_ok-rest.ensures.shorter,
    )

pub after_pairs-returns-in-Some-clause-gives : goal.after_pairs-returns-in-Some-clause-gives
after_pairs-returns-in-Some-clause-gives t c =
    let rules = c.args.self.now.rules in
    let total = c.args.self.now.len in
    let b = c.args.bytes.now in
    let read = kept_item c.args.left rules total in
    let i = c.pairs.invariant.2 in
    parts_end rules total read (pairs (option_map key_of c.pairs.last) (places_of c.pairs.keys) c.pairs.count)
    c.pairs.rest.now (kept_parts (suc (length b)) rules total read (pairs None no_places c.args.count) b) i.0
    c.in-Some.after.now i.1 i.2 (sym c.in-Some.ensures.gives)

pub after_pairs-returns-in_err-value-clause-gives : goal.after_pairs-returns-in_err-value-clause-gives
after_pairs-returns-in_err-value-clause-gives t c =
    let rules = c.args.self.now.rules in
    let total = c.args.self.now.len in
    let b = c.args.bytes.now in
    let rest = c.pairs.rest.now in
    let read = kept_item c.args.left rules total in
    let whole = kept_parts (suc (length b)) rules total read (pairs None no_places c.args.count) b in
    let i = c.pairs.invariant.2 in
    rw c.from_residual.ensures (stops (read rest) whole c.after_item.new.stop
    (λ d e. parts_stop rules total read
    (pairs (option_map key_of c.pairs.last) (places_of c.pairs.keys) c.pairs.count) rest whole i.0 d i.1 i.2
    (sym c.in_default.ensures.gives) e) c.in_err-value.ensures.gives)

pub after_pairs-returns-then-not-keeps_key-clause-gives : goal.after_pairs-returns-then-not-keeps_key-clause-gives
after_pairs-returns-then-not-keeps_key-clause-gives t c =
    let rules = c.args.self.now.rules in
    let total = c.args.self.now.len in
    let b = c.args.bytes.now in
    let rest = c.pairs.rest.now in
    let value = c.in_ok-value.value.now in
    let read = kept_item c.args.left rules total in
    let whole = kept_parts (suc (length b)) rules total read (pairs None no_places c.args.count) b in
    let last = option_map key_of c.pairs.last in
    let seen = places_of c.pairs.keys in
    let i = c.pairs.invariant.2 in
    stops (kept_key rules last seen (record { place = c.place.result; bytes = c.front.result.now })) whole
    c.keeps_key.new.stop
    (λ d e. parts_refuse rules total read (pairs last seen c.pairs.count) rest whole i.0 value d i.1 i.2
    (sym c.in_default.ensures.gives) c.in_ok-value.ensures.gives
    (key_stops rules total last seen c.pairs.count rest value c.place.result c.front.result.now d c.place.ensures
    c.front.ensures e)) c.if-not-keeps_key.ensures.gives

pub after_pairs-returns-in_err-rest-clause-gives : goal.after_pairs-returns-in_err-rest-clause-gives
after_pairs-returns-in_err-rest-clause-gives t c =
    let rules = c.args.self.now.rules in
    let total = c.args.self.now.len in
    let b = c.args.bytes.now in
    let rest = c.pairs.rest.now in
    let value = c.in_ok-value.value.now in
    let read = kept_item c.args.left rules total in
    let whole = kept_parts (suc (length b)) rules total read (pairs None no_places c.args.count) b in
    let last = option_map key_of c.pairs.last in
    let seen = places_of c.pairs.keys in
    let more = places_of c.keeps_key.new.keys in
    let key : KeyAt = record { place = c.place.result; bytes = c.front.result.now } in
    let next = spec.value key more (one_less c.pairs.count) in
    let i = c.pairs.invariant.2 in
    let g = parts_go rules total read (pairs last seen c.pairs.count) rest whole i.0 value next i.1 i.2
    (sym c.in_default.ensures.gives) c.in_ok-value.ensures.gives
    (key_goes rules total last seen c.pairs.count rest value c.place.result c.front.result.now more c.place.ensures
    c.front.ensures c.if-not-keeps_key.ensures.gives) c.in_ok-value.ensures.shorter in
    rw c.from_residual-in_err-rest.ensures (stops (read value) whole c.after_item-in-pairs.new.stop
    (λ d e. parts_stop rules total read next value whole g.0 d g.1 g.2 refl e) c.in_err-rest.ensures.gives)

pub after_pairs-pairs-preserved : goal.after_pairs-pairs-preserved
after_pairs-pairs-preserved t c =
    let rules = c.args.self.now.rules in
    let total = c.args.self.now.len in
    let b = c.args.bytes.now in
    let rest = c.pairs.rest.now in
    let value = c.in_ok-value.value.now in
    let read = kept_item c.args.left rules total in
    let whole = kept_parts (suc (length b)) rules total read (pairs None no_places c.args.count) b in
    let last = option_map key_of c.pairs.last in
    let seen = places_of c.pairs.keys in
    let more = places_of c.keeps_key.new.keys in
    let key : KeyAt = record { place = c.place.result; bytes = c.front.result.now } in
    let next = spec.value key more (one_less c.pairs.count) in
    let i = c.pairs.invariant.2 in
    let g = parts_go rules total read (pairs last seen c.pairs.count) rest whole i.0 value next i.1 i.2
    (sym c.in_default.ensures.gives) c.in_ok-value.ensures.gives
    (key_goes rules total last seen c.pairs.count rest value c.place.result c.front.result.now more c.place.ensures
    c.front.ensures c.if-not-keeps_key.ensures.gives) c.in_ok-value.ensures.shorter in (
      omega (arith, c.in_ok-value.ensures.shorter, c.in_ok-rest.ensures.shorter),
      c.keeps_key.ensures.on,
      parts_go rules total read next value whole g.0 c.in_ok-rest.rest.now
          (pairs (Some key) more c.one_less-count.result) g.1 g.2 refl c.in_ok-rest.ensures.gives
          (rw c.one_less-count.ensures refl) c.in_ok-rest.ensures.shorter,
    )
