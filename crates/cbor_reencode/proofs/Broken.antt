-- For `violation_of`: its result is `None` if and only if the bytes keep the rules with keys compared by value
-- (`KeepsWithKeys`). This covers three of its returns: `violation_in` found a violation, the rules do not ask for
-- distinct keys, or two keys of a map are equal.
use Rattle.std.proofs.Common.{◌≡◌, ◌↔◌, ℕ, true, false, List, Option, Some, None, refl, sym, ◌∙◌}
use Rattle.cbor_rules.specs.declared.rules.Rules.{Rules}
use Rattle.cbor_rules.specs.declared.kind.Violation.{Violation}
use Rattle.cbor_rules.specs.Keeps.{KeepsRules}
use Rattle.cbor_reencode.specs.OneKey.{KeepsWithKeys}
use Rattle.cbor_reencode.specs.Reencoded.{KeysOnce}

pub broken : (rules : Rules) (b : List ℕ) (violation : Violation) (found : Option Violation) → found ≡ Some violation
    → ((found ≡ None) ↔ KeepsRules rules b) → ((Some violation ≡ None) ↔ KeepsWithKeys rules b)
broken rules b violation found is kept = (λ none. absurd cc, λ keeps. sym is ∙ kept.1 keeps.0)

pub any_keys : (rules : Rules) (b : List ℕ) (found : Option Violation) → found ≡ None → rules.distinct_keys ≡ false
    → ((found ≡ None) ↔ KeepsRules rules b) → ((◌≡◌ {A = Option Violation} None None) ↔ KeepsWithKeys rules b)
any_keys rules b found is unasked kept = (λ none. (kept.0 is, λ on. absurd cc), λ keeps. refl)

pub key_again : (rules : Rules) (b : List ℕ) (violation : Violation) → rules.distinct_keys ≡ true → ¬ (KeysOnce b)
    → ((Some violation ≡ None) ↔ KeepsWithKeys rules b)
key_again rules b violation on twice = (λ none. absurd cc, λ keeps. absurd (twice (keeps.1 on)))

pub ruleset broken_laws = (broken, any_keys, key_again)
