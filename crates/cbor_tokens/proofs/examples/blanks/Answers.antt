use Rattle.std.proofs.Common.{◌≡◌, ◌≢◌, ℕ, List, [], codes, refl, arith}
use Rattle.std.specs.List.{AllByRecursion}
use Rattle.cbor_tokens.specs.Token.{nothing, whitespace, comment}
use Rattle.cbor_tokens.proofs.tokens.Blanks.{after_blank-all}
use Rattle.cbor_tokens.proofs.examples.blanks.Goals as goal

words : AllByRecursion (λ byte. byte ≢ 47) (codes "x 'y")
words = (
  λ e. absurd (omega (arith, e)),
  (
    λ e. absurd (omega (arith, e)),
    (λ e. absurd (omega (arith, e)), (λ e. absurd (omega (arith, e)), tt)),
  ),
)

pub returns-clause-pieces : goal.returns-clause-pieces
returns-clause-pieces c = whitespace refl (comment (codes "x 'y") (codes "\n//") refl words
    (whitespace refl (comment [] [] refl tt nothing refl)) refl)

pub returns-clause-empty : goal.returns-clause-empty
returns-clause-empty c = nothing

pub returns-clause-open_comment : goal.returns-clause-open_comment
returns-clause-open_comment c = λ is. let left : ◌≡◌ {A = List ℕ} (codes "/x") [] = after_blank-all is in cc left

pub returns-clause-no_comments : goal.returns-clause-no_comments
returns-clause-no_comments c = λ is. let left : ◌≡◌ {A = List ℕ} (codes "//") [] = after_blank-all is in cc left
