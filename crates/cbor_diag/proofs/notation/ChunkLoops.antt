-- Reading notation part by part: if one step fails, the whole fails with the same error. This holds for steps joined by
-- `>>=`, and for `onto`, which puts the values that were read before in front of those that are read later.
use Rattle.std.proofs.Common.{◌≡◌, Result, Ok, ap, subst}
use Rattle.cbor_grammar.specs.declared.error.Error.{Error}
use Rattle.cbor_grammar.specs.declared.error.Error.TheVariants as refusal
use Rattle.cbor_grammar.specs.Reading.{Read, ◌>>=◌, Fails}

-- a refusal of one step is that of all
pub Fails-bind : {A B : Type 0} (e : Error) (r : Result A Error) (f : A → Result B Error) → Fails e r
    → Fails e (r >>= f)
Fails-bind refusal.Memory r f h = tt
Fails-bind _ r f h = ap (λ x. x >>= f) h

-- what was read before, joined to what is read after it
abbrev pub onto : {R : Type 0} → (R → R) → Read R → Read R
onto front read = read >>= λ x. Ok (front x.0, x.1)

pub onto_fails : {R : Type 0} (e : Error) (front : R → R) (read total : Read R) → Fails e read → onto front read ≡ total
    → Fails e total
onto_fails e front read total h so_far = subst (λ r. Fails e r) so_far (Fails-bind e read (λ x. Ok (front x.0, x.1)) h)
