-- Reading notation part by part: if reading fails with the error that a `?` passes on, passing on this error is right.
-- If a list of values gets one longer, the list of what the values stand for gets one longer too.
use Rattle.std.proofs.Common.{◌≡◌, List, map, ◌++◌, ◌∷◌, [], Result, Ok, Err, sym, subst}
use Rattle.std.proofs.lemmas.List.{map_push}
use Rattle.std.specs.Prelude.{IsErrAnd}
use Rattle.cbor_grammar.specs.declared.error.Error.{Error}
use Rattle.cbor_grammar.specs.Reading.{Fails, Gives}

-- the error that a `?` passes on
pub error_given : {X Y : Type 0} (f : X → Y) (e : Error) (read : Result Y Error) (r : Result X Error)
    → IsErrAnd r (λ y. y ≡ e) → Fails e read → Gives f r read
error_given f e read (Ok x) is h = absurd is
error_given f e read (Err y) is h = subst (λ (d : Error). Fails d read) (sym is) h

-- a list of values, one longer, as a list of what they stand for
pub pushed_view : {A B : Type 0} (f : A → B) (held new : List A) (x : A) → new ≡ held ++ x ∷ []
    → map f new ≡ map f held ++ f x ∷ []
pushed_view f held new x pushed = rw pushed (map_push f held x)
