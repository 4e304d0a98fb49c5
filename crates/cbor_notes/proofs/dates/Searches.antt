-- For the searches `first_found` and `first_minute`, and for the steps of a search (a test, `option_or`): if everything
-- that may be found has a property, what is found has it; and something is found if one of the tries finds something.
use Rattle.std.proofs.Common.{◌≡◌, ℕ, zero, suc, ◌<◌, ◌⊎◌, inl, inr, Bool, true, cond, Option, Some, None, IfSome}
use Rattle.std.proofs.Common.{IsSome, refl, arith}
use Rattle.std.specs.Option.{option_or}
use Rattle.std.proofs.lemmas.Bool.{cases_lt, cond_both}
use Rattle.cbor_notes.specs.Search.{first_found, first_minute}

-- what is found where a test holds
pub IfSome-tested : {X : Type 0} (test : Bool) (x : X) (P : X → Type 0) → (test ≡ true → P x)
    → IfSome (cond test (Some x) None) P
IfSome-tested test x P holds = cond_both test (Some x) None (λ found. IfSome found P) holds (λ _. tt)

pub IsSome-tested : {X : Type 0} (test : Bool) (x : X) → test ≡ true → IsSome (cond test (Some x) None)
IsSome-tested test x holds = rw holds refl

-- the first of two
pub IfSome-option_or : {X : Type 0} (a b : Option X) (P : X → Type 0) → IfSome a P → IfSome b P
    → IfSome (option_or a b) P
IfSome-option_or None b P h k = k
IfSome-option_or (Some x) b P h k = h

pub IsSome-option_or : {X : Type 0} (a b : Option X) → IsSome a ⊎ IsSome b → IsSome (option_or a b)
IsSome-option_or None b (inl h) = cc
IsSome-option_or None b (inr h) = h
IsSome-option_or (Some x) b h = refl

-- what holds of all that may be found holds of what is found
pub IfSome-first_found : {X : Type 0} (n : ℕ) (look : ℕ → Option X) (P : X → Type 0)
    → ((k : ℕ) → k < n → IfSome (look k) P) → IfSome (first_found n look) P
unfolding first_found
IfSome-first_found zero look P each = tt
IfSome-first_found (suc n) look P each =
    IfSome-option_or (first_found n look) (look n) P (IfSome-first_found n look P (λ k h. each k (omega arith)))
    (each n (omega arith))

pub IfSome-first_minute : {X : Type 0} (look : ℕ → ℕ → Option X) (P : X → Type 0)
    → ((hour minute : ℕ) → hour < 24 → minute < 60 → IfSome (look hour minute) P) → IfSome (first_minute look) P
unfolding first_minute
IfSome-first_minute look P each =
    IfSome-first_found 24 _ P (λ hour hour_in. IfSome-first_found 60 _ P
    (λ minute minute_in. each hour minute hour_in minute_in))

-- something is found where it is for one of those that are tried
pub IsSome-first_found : {X : Type 0} (n : ℕ) (look : ℕ → Option X) (k : ℕ) → k < n → IsSome (look k)
    → IsSome (first_found n look)
unfolding first_found
IsSome-first_found zero look k within some = absurd (omega arith)
IsSome-first_found (suc n) look k within some =
    elim (cases_lt k n) [
      | inl before ↦ IsSome-option_or (first_found n look) (look n) (inl (IsSome-first_found n look k before some))
      | inr last ↦
          let same : k ≡ n = omega arith in
          IsSome-option_or (first_found n look) (look n) (inr (rw same at some))
    ]

pub IsSome-first_minute : {X : Type 0} (look : ℕ → ℕ → Option X) (hour minute : ℕ) → hour < 24 → minute < 60
    → IsSome (look hour minute) → IsSome (first_minute look)
unfolding first_minute
IsSome-first_minute look hour minute hour_in minute_in some =
    IsSome-first_found 24 _ hour hour_in (IsSome-first_found 60 _ minute minute_in some)
