use Rattle.std.proofs.Common.{ℕ, List, sym, subst}
use Rattle.cbor_edit.specs.Edited.{Edited, part, bytes_of}
use Rattle.cbor_edit.proofs.replace.replaced.Goals as goal

pub strings-init : goal.strings-init
strings-init c =
    let old : List ℕ = bytes_of c.args.place.now.span c.args.bytes.now in
    subst (λ (x : List ℕ). Edited old c.args.part.now old x) (sym c.in_ok-from_slice.ensures.items) part
