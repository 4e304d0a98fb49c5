-- What C gets of a violation is right: the number is 0 if and only if the input keeps the rules (`KeepsBy`); otherwise
-- number, place and detail are those of the first violation (`IsFoundBy`). What C gets of an error of `reencoded` says
-- why there is no encoding (`IsToldWhyNot`), and its number is not 0. Rules without NFC and distinct keys stay as they
-- are `without_memory`.
use Rattle.std.proofs.Common.{◌≡◌, ◌≢◌, ◌↔◌, ◌⊎◌, ℕ, List, Bool, true, false, Option, Some, None, inl, inr, refl, sym}
use Rattle.std.proofs.Common.{subst, ◌∙◌, arith, ℤ, pos, negsuc}
use Rattle.cbor_diag_c.specs.Answers.{IfLength}
use Rattle.cbor_rules.specs.declared.rules.Rules.{Rules}
use Rattle.cbor_rules.specs.declared.kind.Violation.{Violation}
use Rattle.cbor_rules.specs.declared.kind.ViolationKind.{ViolationKind}
use Rattle.cbor_rules.specs.declared.kind.ViolationKind.TheVariants as kind
use Rattle.cbor_rules.specs.FirstViolation.{first_violation}
use Rattle.cbor_rules.specs.Keeps.{KeepsRules, without_memory}
use Rattle.cbor_reencode.specs.declared.error.ReencodeError.{ReencodeError}
use Rattle.cbor_reencode.specs.declared.error.ReencodeError.TheVariants as reencode_error
use Rattle.cbor_reencode.specs.OneKey.{IsViolation, KeepsWithKeys}
use Rattle.cbor_reencode.specs.Reencoded.{lasting, FixesKeys, KeysOnce}
use Rattle.cbor_messages.specs.Kinds.{kind_number}
use Rattle.cbor_diag_c.specs.Violations.{rules_of, IsTold, IsFoundBy, KeepsBy}
use Rattle.cbor_diag_c.specs.Reencodings.{StaysBy, Breaks, BreaksBy, IsToldWhy, IsToldWhyNot}

-- the rules with these two
abbrev with_two : Rules → Bool → Bool → Rules
with_two rules nfc distinct = record {
  shortest_heads = rules.shortest_heads;
  shortest_floats = rules.shortest_floats;
  reduced_floats = rules.reduced_floats;
  other_simple = rules.other_simple;
  definite_lengths = rules.definite_lengths;
  big_numbers = rules.big_numbers;
  nfc = nfc;
  key_order = rules.key_order;
  distinct_keys = distinct;
  tags = rules.tags;
  deepest = rules.deepest;
}

-- rules that take no memory stay
pub all_rules : (rules : Rules) → rules.nfc ≡ false → rules.distinct_keys ≡ false → without_memory rules ≡ rules
all_rules rules nfc distinct =
    subst (λ (d : Bool). with_two rules false d ≡ rules) distinct
    (subst (λ (n : Bool). with_two rules n rules.distinct_keys ≡ rules) nfc refl)

first_of_all : (rules : Rules) (b : List ℕ) (found : Option Violation) → rules.nfc ≡ false
    → rules.distinct_keys ≡ false → found ≡ first_violation (without_memory rules) b → found ≡ first_violation rules b
first_of_all rules b found nfc distinct is =
    subst (λ (r : Rules). found ≡ first_violation r b) (all_rules rules nfc distinct) is

kept_of_all : (rules : Rules) (b : List ℕ) (found : Option Violation) → rules.nfc ≡ false
    → rules.distinct_keys ≡ false → ((found ≡ None) ↔ KeepsRules (without_memory rules) b)
    → ((found ≡ None) ↔ KeepsRules rules b)
kept_of_all rules b found nfc distinct is =
    subst (λ (r : Rules). (found ≡ None) ↔ KeepsRules r b) (all_rules rules nfc distinct) is

asked : {A : Type 0} (on : Bool) → on ≡ false → on ≡ true → A
asked on off asks = absurd cc

-- without them, what breaks the rules first is the first violation
pub violation_of_all : (rules : Rules) (b : List ℕ) (found : Option Violation) → rules.nfc ≡ false
    → rules.distinct_keys ≡ false → found ≡ first_violation (without_memory rules) b → IsViolation rules b found
violation_of_all rules b None nfc distinct is =
    (sym (first_of_all rules b None nfc distinct is), λ on. asked rules.distinct_keys distinct on)
violation_of_all rules b (Some violation) nfc distinct is = inl (sym
    (first_of_all rules b (Some violation) nfc distinct is))

pub keys_of_all : (rules : Rules) (b : List ℕ) (found : Option Violation) → rules.nfc ≡ false
    → rules.distinct_keys ≡ false → ((found ≡ None) ↔ KeepsRules (without_memory rules) b)
    → ((found ≡ None) ↔ KeepsWithKeys rules b)
keys_of_all rules b found nfc distinct is =
    let k = kept_of_all rules b found nfc distinct is in
    (λ none. (k.0 none, λ on. asked rules.distinct_keys distinct on), λ keeps. k.1 keeps.0)

pub ruleset without_laws = (violation_of_all, keys_of_all)

-- a violation has a number
some_number : (k : ViolationKind) → kind_number k ≢ 0
some_number (kind.NoItem e) is = omega arith
some_number kind.LongSimple is = omega arith
some_number (kind.LongHead n w) is = omega arith
some_number kind.NotNfc is = omega arith
some_number (kind.LongFloat float shortest) is = omega arith
some_number (kind.IntegerFloat float negative size) is = omega arith
some_number (kind.OtherNan float) is = omega arith
some_number (kind.OtherSimple n) is = omega arith
some_number kind.Indefinite is = omega arith
some_number kind.Tag is = omega arith
some_number kind.LeadingZero is = omega arith
some_number kind.SmallBigNumber is = omega arith
some_number kind.TooDeep is = omega arith
some_number (kind.KeyOrder previous) is = omega arith
some_number (kind.KeyTwice first) is = omega arith

same_some : (a b : Rules) → Some a ≡ Some b → a ≡ b
same_some a b is = cc

-- these are the rules of the number
same_rules : (number : ℕ) (b : List ℕ) (rules : Rules) → rules_of number ≡ Some rules → KeepsBy number b
    → KeepsWithKeys rules b
same_rules number b rules is keeps =
    subst (λ (r : Rules). KeepsWithKeys r b) (same_some keeps.0 rules (sym keeps.1 ∙ is)) keeps.2

pub stays_kept : (number : ℕ) (b : List ℕ) (rules : Rules) → rules_of number ≡ Some rules → StaysBy number b
    → KeepsRules rules b
stays_kept number b rules is stays =
    subst (λ (r : Rules). KeepsRules r b) (same_some stays.0 rules (sym stays.1 ∙ is)) stays.2

pub stays_once : (number : ℕ) (b : List ℕ) (rules : Rules) → rules_of number ≡ Some rules → StaysBy number b
    → FixesKeys rules ⊎ KeysOnce b
stays_once number b rules is stays =
    subst (λ (r : Rules). FixesKeys r ⊎ KeysOnce b) (same_some stays.0 rules (sym stays.1 ∙ is)) stays.3

pub same_breaks : (number : ℕ) (b : List ℕ) (rules : Rules) → rules_of number ≡ Some rules → BreaksBy number b
    → Breaks rules b
same_breaks number b rules is breaks =
    subst (λ (r : Rules). Breaks r b) (same_some breaks.0 rules (sym breaks.1 ∙ is)) breaks.2

pub ruleset of_rules = (stays_kept, stays_once, same_breaks)

no_violation : (violation : Violation) → Some violation ≡ None → ⊥
no_violation violation is = absurd cc

-- 0 is told exactly if the rules are kept
pub kept : (number : ℕ) (b : List ℕ) (rules : Rules) (found : Option Violation) (n place detail : ℕ)
    → rules_of number ≡ Some rules → ((found ≡ None) ↔ KeepsWithKeys rules b) → IsTold found n place detail
    → ((n ≡ 0) ↔ KeepsBy number b)
kept number b rules None n place detail is none told = (λ nought. (rules, is, none.0 refl), λ keeps. told.0)
kept number b rules (Some violation) n place detail is none told = (
  λ nought. absurd (some_number violation.kind (sym told.0 ∙ nought)),
  λ keeps. absurd (no_violation violation (none.1 (same_rules number b rules is keeps))),
)

-- the same of an answer, which is a number or an error
pub kept_if_told : (number : ℕ) (b : List ℕ) (rules : Rules) (found : Option Violation) (z : ℤ) (place detail : ℕ)
    → rules_of number ≡ Some rules → ((found ≡ None) ↔ KeepsWithKeys rules b)
    → IfLength z (λ n. IsTold found n place detail) → IfLength z (λ n. (n ≡ 0) ↔ KeepsBy number b)
kept_if_told number b rules found (pos n) place detail is none told =
    kept number b rules found n place detail is none told
kept_if_told number b rules found (negsuc n) place detail is none told = tt

-- what is told of a violation is told of the rules of the number
pub found_by : (number : ℕ) (b : List ℕ) (rules : Rules) (found : Option Violation) (n place detail : ℕ)
    → rules_of number ≡ Some rules → IsViolation rules b found → IsTold found n place detail
    → IsFoundBy number b n place detail
found_by number b rules found n place detail is violation told = (rules, is, found, violation, told)

pub ruleset violation_laws = (kept, found_by)

-- ---- why there is no encoding

some_told : (violation : Violation) (n place detail : ℕ) → IsTold (Some violation) n place detail → n ≢ 0
some_told violation n place detail told nought = some_number violation.kind (sym told.0 ∙ nought)

-- what is told of an error has a number
pub some_why : (e : ReencodeError) (n place detail : ℕ) → IsToldWhy e n place detail → n ≢ 0
some_why reencode_error.Memory n place detail told nought = told
some_why (reencode_error.Violation violation) n place detail told nought =
    some_told violation n place detail told nought
some_why (reencode_error.KeyTwice first second) n place detail told nought =
    let fifteen : n ≡ 15 = told.0 in omega arith
some_why (reencode_error.Written violation) n place detail told nought = some_number violation.kind (sym told.0
    ∙ nought)

-- of out of memory nothing is told
pub no_memory : (e : ReencodeError) (n place detail : ℕ) → e ≡ reencode_error.Memory → IsToldWhy e n place detail
    → n ≡ 0
no_memory e n place detail is told =
    absurd (subst (λ (x : ReencodeError). IsToldWhy x n place detail) is told)

only_violation : (e : ReencodeError) (violation : Violation) (n place detail : ℕ)
    → (e ≡ reencode_error.Violation violation) ⊎ (e ≡ reencode_error.Memory) → IsToldWhy e n place detail
    → e ≡ reencode_error.Violation violation
only_violation e violation n place detail (inl is) told = is
only_violation e violation n place detail (inr is) told =
    absurd (subst (λ (x : ReencodeError). IsToldWhy x n place detail) is told)

why_at : (rules : Rules) (b : List ℕ) (e : ReencodeError) (n place detail : ℕ) (lasting_violation : Option Violation)
    → first_violation (lasting rules) b ≡ lasting_violation
    → ((violation : Violation) → first_violation (lasting rules) b ≡ Some violation
    → (e ≡ reencode_error.Violation violation) ⊎ (e ≡ reencode_error.Memory))
    → IsToldWhy e n place detail → IsToldWhyNot rules b n place detail
why_at rules b e n place detail None is lasts told = inr (e, inr is, told)
why_at rules b e n place detail (Some violation) is lasts told =
    inr (e, inl (violation, only_violation e violation n place detail (lasts violation is) told, is), told)

-- what is told of the error of `reencoded` is told of the input
pub why : (rules : Rules) (b : List ℕ) (e : ReencodeError) (n place detail : ℕ)
    → ((violation : Violation) → first_violation (lasting rules) b ≡ Some violation
    → (e ≡ reencode_error.Violation violation) ⊎ (e ≡ reencode_error.Memory))
    → IsToldWhy e n place detail → IsToldWhyNot rules b n place detail
why rules b e n place detail lasts told =
    why_at rules b e n place detail (first_violation (lasting rules) b) refl lasts told

-- the same of an answer, which is a number or an error
pub why_answer : (rules : Rules) (b : List ℕ) (e : ReencodeError) (z : ℤ) (place detail : ℕ)
    → ((violation : Violation) → first_violation (lasting rules) b ≡ Some violation
    → (e ≡ reencode_error.Violation violation) ⊎ (e ≡ reencode_error.Memory))
    → IfLength z (λ n. IsToldWhy e n place detail) → IfLength z (λ n. IsToldWhyNot rules b n place detail)
why_answer rules b e (pos n) place detail lasts told = why rules b e n place detail lasts told
why_answer rules b e (negsuc n) place detail lasts told = tt

pub ruleset why_laws = (some_why, no_memory, why)
