-- What `cbor_fits` answers by the tables of a schema is what the rules of the checker say.
use Rattle.std.proofs.Common.{◌≡◌, ℕ, List, Bool, Option, Some, Bor, ap, sym, ◌∙◌}
use Rattle.cbor_cddl.specs.declared.schema.Schema.{Schema}
use Rattle.cbor_fits.specs.Fits.{accepts}
use Rattle.cbor_fits.specs.Tables.{rules}
use Rattle.cbor_cddl.specs.declared.compiled.Pattern.{Pattern}
use Rattle.cbor_schema.proofs.checker.Checker.misfit.Goals as goal

-- the answer by equal schemas and patterns
by_equals : (s t : Schema) (p q : List Pattern) (b : List ℕ) (answer : Option Bool) → s ≡ t → p ≡ q
    → accepts (rules s p) 700 s.root b ≡ answer → accepts (rules t q) 700 t.root b ≡ answer
by_equals s t p q b answer is are h = (λ j. accepts (rules (sym is j) (sym are j)) 700 (sym is j).root b) ∙ h

pub returns-then-branch-clause-verdict : goal.returns-then-branch-clause-verdict
returns-then-branch-clause-verdict c =
    by_equals c.new.result.schema.now c.args.self.now.schema c.new.result.patterns.now
    c.args.self.now.patterns.items c.args.item.bytes.now _ c.new.ensures.schema
    (c.new.ensures.patterns ∙ c.deref.ensures.value)
    (c.in_ok-accepts.ensures ∙ ap Some c.if-branch.true)

pub returns-clause-verdict : goal.returns-clause-verdict
returns-clause-verdict c =
    by_equals c.new.result.schema.now c.args.self.now.schema c.new.result.patterns.now
    c.args.self.now.patterns.items c.args.item.bytes.now _ c.new.ensures.schema
    (c.new.ensures.patterns ∙ c.deref.ensures.value)
    (c.in_ok-accepts.ensures ∙ ap Some c.if-branch.false)
