-- A container that is open at a byte is open by the grammar.
use Rattle.std.proofs.Common.{List, ℕ, drop, sym, subst}
use Rattle.cbor_grammar.specs.Refused.{Inside, NoBreakAt}
use Rattle.cbor_trace.proofs.Carried.{inside, there}
use Rattle.cbor_trace.proofs.laws.inside.Goals as goal

pub returns : goal.returns
returns c = λ b s at p fits is.
    let w = inside b at s p fits is in (
      w.next,
      subst (λ (x : List ℕ). Inside s.level (drop s.start b) x w.next) (sym (there b at s p fits is)) w.inside,
      subst (λ (x : List ℕ). NoBreakAt w.next x) (sym (there b at s p fits is)) w.no_break,
    )
