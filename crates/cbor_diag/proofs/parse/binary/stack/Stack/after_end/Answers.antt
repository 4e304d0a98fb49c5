use Rattle.std.proofs.Common.{ap, sym, ◌∙◌}
use Rattle.cbor_grammar.specs.mirror.Counting.{after_innermost}
use Rattle.cbor_diag.specs.mirror.Stack.{frames}
use Rattle.cbor_diag.proofs.turns.TopFrames.{last_got, none_got}
use Rattle.cbor_diag.proofs.parse.binary.stack.Stack.after_end.Goals as goal

pub returns-in-Some : goal.returns-in-Some
returns-in-Some c =
    let is = last_got c.self.inside.«open».items c.in-Some.top.now
    (rw c.deref.ensures.value at c.in-Some.ensures.value) in
    c.after_end.ensures ∙ ap (λ fs. after_innermost (frames fs) c.args.bytes.now) (sym is ∙ c.self.view_is)

pub returns-in-None : goal.returns-in-None
returns-in-None c =
    let is = none_got c.self.inside.«open».items (rw c.deref.ensures.value at c.in-None.ensures.value) in
    ap (λ fs. after_innermost (frames fs) c.args.bytes.now) (sym is ∙ c.self.view_is)
