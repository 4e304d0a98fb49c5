use Rattle.std.proofs.Common.{◌≡◌, if◌then◌else◌, take}
use Rattle.std.specs.List.{list_any}
use Rattle.cbor_edn_writer.specs.EdnLeaves.{ends_note}
use Rattle.cbor_edn_writer.proofs.print.notes.has_other.Given as goal

-- whether one of the bytes so far is one
abbrev pub invariant-bytes : goal.invariant-bytes
invariant-bytes l = l.found ≡ (if list_any ends_note (take l.byte-index l.byte-items) then 1 else 0)
