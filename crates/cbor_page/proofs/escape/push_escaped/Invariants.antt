-- the bytes so far are written
use Rattle.std.proofs.Common.{◌≡◌, ◌++◌, take, vec_items}
use Rattle.std.specs.List.{flat_map}
use Rattle.cbor_page.specs.Markup.{escaped_byte}
use Rattle.cbor_page.proofs.escape.push_escaped.Given as goal

abbrev pub invariant-bytes : goal.invariant-bytes
invariant-bytes l =
    vec_items l.out ≡ vec_items l.initial.out ++ flat_map escaped_byte (take l.byte-index l.text)
