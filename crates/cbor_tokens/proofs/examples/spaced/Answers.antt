use Rattle.std.proofs.Common.{◌≡◌, ℕ, true, false, List, [], codes, refl, arith, inl, inr}
use Rattle.cbor_tokens.specs.Token.{Blank, nothing, whitespace, comment, blank, digit}
use Rattle.cbor_tokens.proofs.tokens.Spaced.{only_digits, none_digits}
use Rattle.cbor_tokens.proofs.examples.spaced.Goals as goal

space : Blank true (codes " ")
space = whitespace refl nothing

quote_comment : Blank true (codes "/'/")
quote_comment = comment (codes "'") [] refl (λ e. absurd (omega (arith, e)), tt) nothing refl

pub returns-clause-around : goal.returns-clause-around
returns-clause-around c = (
  digit (codes " ") (codes "/'/1 ") space refl
      (digit (codes "/'/") (codes " ") quote_comment refl (blank space) refl) refl,
  inr (omega arith),
)

pub returns-clause-empty : goal.returns-clause-empty
returns-clause-empty c = (blank nothing, inl refl)

pub returns-clause-slashes : goal.returns-clause-slashes
returns-clause-slashes c = (
  digit [] (codes "x/ 0") nothing refl (digit [] (codes "/ 0") nothing refl
      (digit [] (codes " 0") nothing refl (digit (codes " ") [] (whitespace refl nothing) refl (blank nothing) refl)
      refl) refl) refl,
  inr (omega arith),
)

pub returns-clause-blanks_alone : goal.returns-clause-blanks_alone
returns-clause-blanks_alone c = λ digits is. none_digits true (codes " //'") refl (codes " //") digits [] refl is

pub returns-clause-open_comment : goal.returns-clause-open_comment
returns-clause-open_comment c = λ digits is. none_digits true (codes "0/1'") refl (codes "0/1") digits [] refl is

pub returns-clause-quote : goal.returns-clause-quote
returns-clause-quote c = λ digits is. let rest : ◌≡◌ {A = List ℕ} (codes "1'") [] =
    (only_digits false (codes "0'1'") (codes "0") (codes "1'") refl (codes "0'1") digits [] refl is).1 in cc rest
