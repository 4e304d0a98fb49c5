-- A byte string that is written as the item in it is a value, and has some bytes. None is written as a sequence.
use Rattle.std.proofs.Common.{◌≡◌, ◌<◌, ℕ, List, length, Bool, true, false, ◌&&◌, refl}
use Rattle.std.proofs.lemmas.Bool.{and_parts}
use Rattle.cbor_grammar.specs.declared.layout.Content.{Content}
use Rattle.cbor_grammar.specs.declared.layout.Content.TheVariants as shown
use Rattle.cbor_inside.specs.Rule.{content_under}
use Rattle.cbor_inside.proofs.Shown.{item_bytes}
use Rattle.cbor_json.specs.JsonLeaves.{but_sequence, content_if, content_at, is_value}
use Rattle.cbor_json.specs.declared.print.place.JsonPlace.{JsonPlace}

still_item : (c : Content) → but_sequence c ≡ shown.Item → c ≡ shown.Item
still_item shown.Item e = e
still_item shown.Bytes e = e
still_item shown.Sequence e = absurd cc

but_none : (c : Content) → but_sequence c ≡ shown.Sequence → ⊥
but_none shown.Item e = cc
but_none shown.Bytes e = cc
but_none shown.Sequence e = cc

item_if_so : (test : Bool) (p : JsonPlace) (b : List ℕ) → content_if test p b ≡ shown.Item
    → (test ≡ true) × (0 < length b)
item_if_so true p b e = (refl, item_bytes true p.level p.tag b (still_item (content_under true p.level p.tag b) e))
item_if_so false p b e = absurd cc

none_if_so : (test : Bool) (p : JsonPlace) (b : List ℕ) → content_if test p b ≡ shown.Sequence → ⊥
none_if_so true p b e = but_none (content_under true p.level p.tag b) e
none_if_so false p b e = cc

pub opened : (p : JsonPlace) (b : List ℕ) → content_at p b ≡ shown.Item → (is_value p.role ≡ true) × (0 < length b)
opened p b e =
    let found = item_if_so (p.style.embedded && is_value p.role) p b e in
    ((and_parts p.style.embedded (is_value p.role) found.0).1, found.1)

pub no_sequence : (p : JsonPlace) (b : List ℕ) → content_at p b ≡ shown.Sequence → ⊥
no_sequence p b e = none_if_so (p.style.embedded && is_value p.role) p b e
