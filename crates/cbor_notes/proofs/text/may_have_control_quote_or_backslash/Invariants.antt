use Rattle.std.proofs.Common.{◌≡◌, if◌then◌else◌, take}
use Rattle.std.specs.List.{list_any}
use Rattle.cbor_notes.specs.Views.{begins_escape}
use Rattle.cbor_notes.proofs.text.may_have_control_quote_or_backslash.Given as goal

-- whether one of the bytes so far is one
abbrev pub invariant-bytes : goal.invariant-bytes
invariant-bytes l = l.found ≡ (if list_any begins_escape (take l.byte-index l.byte-items) then 1 else 0)
