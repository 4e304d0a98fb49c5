use Rattle.std.proofs.Common.{refl, arith, codes}
use Rattle.cbor_tokens.proofs.bases.Base32Padding.{by_count, not_padded}
use Rattle.cbor_tokens.proofs.base32.unpadded_len.Goals as goal

pub returns-then-ends_with-3-clause-least : goal.returns-then-ends_with-3-clause-least
returns-then-ends_with-3-clause-least c = λ count is padding.
    by_count count is (λ e. absurd (not_padded c.args.digits.now (codes "======") 2 c.requires
    c.if-ends_with.ensures.value refl (omega arith) refl (rw e at padding)))
    (λ e. absurd (not_padded c.args.digits.now (codes "====") 4 c.requires c.if-ends_with-2.ensures.value refl
    (omega arith) refl (rw e at padding)))
    (λ e. omega (arith, e))
    (λ e. omega (arith, e))
    (λ e. omega (arith, e))

pub returns-then-ends_with-4-clause-least : goal.returns-then-ends_with-4-clause-least
returns-then-ends_with-4-clause-least c = λ count is padding.
    by_count count is (λ e. absurd (not_padded c.args.digits.now (codes "======") 2 c.requires
    c.if-ends_with.ensures.value refl (omega arith) refl (rw e at padding)))
    (λ e. absurd (not_padded c.args.digits.now (codes "====") 4 c.requires c.if-ends_with-2.ensures.value refl
    (omega arith) refl (rw e at padding)))
    (λ e. absurd (not_padded c.args.digits.now (codes "===") 5 c.requires c.if-ends_with-3.ensures.value refl
    (omega arith) refl (rw e at padding)))
    (λ e. omega (arith, e))
    (λ e. omega (arith, e))

pub returns-else-ends_with-4-clause-least : goal.returns-else-ends_with-4-clause-least
returns-else-ends_with-4-clause-least c = λ count is padding.
    by_count count is (λ e. absurd (not_padded c.args.digits.now (codes "======") 2 c.requires
    c.if-ends_with.ensures.value refl (omega arith) refl (rw e at padding)))
    (λ e. absurd (not_padded c.args.digits.now (codes "====") 4 c.requires c.if-ends_with-2.ensures.value refl
    (omega arith) refl (rw e at padding)))
    (λ e. absurd (not_padded c.args.digits.now (codes "===") 5 c.requires c.if-ends_with-3.ensures.value refl
    (omega arith) refl (rw e at padding)))
    (λ e. absurd (not_padded c.args.digits.now (codes "=") 7 c.requires c.if-ends_with-4.ensures.value refl
    (omega arith) refl (rw e at padding)))
    (λ e. omega (arith, e))

pub returns-then-ends_with-4-clause-count : goal.returns-then-ends_with-4-clause-count
returns-then-ends_with-4-clause-count c = (4, omega arith, omega arith, refl)

pub returns-else-ends_with-4-clause-count : goal.returns-else-ends_with-4-clause-count
returns-else-ends_with-4-clause-count c = (5, omega arith, omega arith, refl)
