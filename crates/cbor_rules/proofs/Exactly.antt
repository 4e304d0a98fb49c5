-- For `violation` and `violation_in`: a result that is the `first_violation` of the bytes is `None` if and only if the
-- bytes are items that keep the rules (`KeepsRules`).
use Rattle.std.proofs.Common.{◌≡◌, List, ℕ, Option, None, Result, Ok, Err, sym, ◌∙◌}
use Rattle.std.specs.Prelude.{IfOk, ◌↔◌}
use Rattle.cbor_grammar.proofs.bytes.Heads.{IsBytes}
use Rattle.cbor_rules.specs.declared.kind.Violation.{Violation}
use Rattle.cbor_rules.specs.declared.rules.Rules.{Rules}
use Rattle.cbor_rules.specs.FirstViolation.{first_violation}
use Rattle.cbor_rules.specs.Keeps.{KeepsRules}
use Rattle.cbor_rules.proofs.FoundItems.{rules_found}
use Rattle.cbor_rules.proofs.AgainItems.{rules_again}

pub exactly : (rules : Rules) (b : List ℕ) (result : Option Violation) → IsBytes b → result ≡ first_violation rules b
    → (result ≡ None → KeepsRules rules b) × (KeepsRules rules b → result ≡ None)
exactly rules b result fits e =
    (λ none. rules_found rules b fits (sym e ∙ none), λ keeps. e ∙ rules_again rules b keeps)

-- of a result, if there was memory for it
pub exactly_ok : {E : Type 0} (rules : Rules) (b : List ℕ) (result : Result (Option Violation) E) → IsBytes b
    → IfOk result (λ found. found ≡ first_violation rules b)
    → IfOk result (λ found. (found ≡ None) ↔ KeepsRules rules b)
exactly_ok rules b (Ok found) fits e = exactly rules b found fits e
exactly_ok rules b (Err stop) fits e = tt
