-- the bytes so far are written
use Rattle.std.proofs.Common.{◌≡◌, ◌++◌, take, vec_items}
use Rattle.std.specs.List.{flat_map}
use Rattle.cbor_page.specs.Markup.{next_digits}
use Rattle.cbor_page.proofs.escape.push_spaced.Given as goal

abbrev pub invariant-bytes : goal.invariant-bytes
invariant-bytes l =
    vec_items l.out ≡ vec_items l.initial.out ++ flat_map next_digits (take l.byte-index l.rest)
