use Rattle.std.proofs.Common.{◌≡◌, ◌<◌, ◌-◌, ◌∷◌, None, length, take, ap, sym, ◌∙◌, arith}
use Rattle.std.specs.Prelude.{reverse}
use Rattle.std.proofs.lemmas.List.{length-reverse}
use Rattle.std.proofs.lemmas.Result.{err_from_is_err_and}
use Rattle.cbor_diag.specs.View.{view}
use Rattle.cbor_grammar.specs.mirror.Counting.{put_innermost}
use Rattle.cbor_diag.specs.mirror.Stack.{frames}
use Rattle.cbor_diag.proofs.turns.TopFrames.{last_is, last_set}
use Rattle.cbor_diag.proofs.parse.binary.stack.Stack.put.Goals as goal

pub returns-clause-put : goal.returns-clause-put
returns-clause-put c =
    let opens = c.self.inside.«open».items in
    let n = c.len-count.result in
    let count : n ≡ length opens = omega (arith, c.self.inside.«open».ok.0) in
    let some : 0 < n = omega arith in
    let old = last_is opens n c.index_mut-top.result.now count some c.index_mut-top.ensures.value in
    let new = last_set opens n c.put.new.self count some in
    ap (λ fs. (frames fs, None)) new
    ∙ ap (λ f. (f ∷ frames (reverse (take (n - 1) opens)), None)) c.in_ok-put.ensures.put
    ∙ ap (λ fs. put_innermost (frames fs) (view c.args.item)) (sym old ∙ c.self.view_is)

pub returns-in_err-put-clause-memory : goal.returns-in_err-put-clause-memory
returns-in_err-put-clause-memory c =
    let opens = c.self.inside.«open».items in
    let p = err_from_is_err_and c.from_residual.result c.from_residual.ensures.1 in
    let some : 0 < length c.args.self.now =
    omega (arith, c.self.inside.«open».ok.0, length-reverse opens, ap length c.self.view_is) in
    rw p.1 (p.2 ∙ c.in_err-put.ensures.memory, some)
