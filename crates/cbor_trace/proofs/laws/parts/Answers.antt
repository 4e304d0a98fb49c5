-- Items that are read are whole parts, and the other way round.
use Rattle.std.proofs.Common.{◌≡◌, ℕ, ◌+◌, List, subst, sym, arith}
use Rattle.cbor_grammar.specs.WellFormed.{levels_left}
use Rattle.cbor_trace.specs.Around.{AfterItems}
use Rattle.cbor_trace.proofs.Insides.{whole_parts, parts_again}
use Rattle.cbor_trace.proofs.laws.parts.Goals as goal

pub returns : goal.returns
returns c = λ level k b rest le fits.
    let sum : level + levels_left level ≡ 129 = omega (arith, le) in (
      λ h. (let w = whole_parts level (levels_left level) k b rest sum fits h in (w.front, w.parts, w.spells)),
      λ h. subst (λ (x : List ℕ). AfterItems (levels_left level) k x rest) (sym h.1)
          (parts_again level (levels_left level) k h.0 rest sum h.2),
    )
