-- Bytes that may be shown as one item are some.
use Rattle.std.proofs.Common.{◌≡◌, ◌<◌, ℕ, List, [], ◌∷◌, length, Option, Some, None, Bool, true, false, ◌&&◌, not}
use Rattle.std.proofs.Common.{if◌then◌else◌, ◌==◌, arith}
use Rattle.cbor_grammar.specs.declared.layout.Content.TheVariants as shown
use Rattle.cbor_inside.specs.Rule.{content_under, item_if, is_sequence, says_what_bytes_are}
use Rattle.cbor_inside.specs.Strict.{is_strict}

none_plain : (opened : Bool) → item_if (opened && false) ≡ shown.Item → ⊥
none_plain true e = cc
none_plain false e = cc

none_other : (opened other : Bool) → item_if (opened && (other && false)) ≡ shown.Item → ⊥
none_other true true e = cc
none_other true false e = cc
none_other false other e = cc

none_sequence : (all : Bool) → (if all then shown.Sequence else shown.Bytes) ≡ shown.Item → ⊥
none_sequence true e = cc
none_sequence false e = cc

none_below : (one many all opened other : Bool)
    → (if one then item_if false else if many then (if all then shown.Sequence else shown.Bytes)
    else item_if (opened && (other && false))) ≡ shown.Item → ⊥
none_below true many all opened other e = cc
none_below false true all opened other e = none_sequence all e
none_below false false all opened other e = none_other opened other e

pub item_bytes : (opened : Bool) (level : ℕ) (tag : Option ℕ) (b : List ℕ)
    → content_under opened level tag b ≡ shown.Item → 0 < length b
item_bytes opened level None [] e = absurd (none_plain opened e)
item_bytes opened level (Some tag) [] e =
    absurd (none_below (tag == 24) (tag == 63) (is_sequence level [] && is_strict []) opened
    (not (says_what_bytes_are tag)) e)
item_bytes opened level tag (x ∷ b) e = omega arith
