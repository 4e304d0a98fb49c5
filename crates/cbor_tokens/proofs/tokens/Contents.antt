-- The function `with_front` puts bytes before the content that a reader returned. Putting two lists there one by one
-- gives the same as putting them there joined. The result is content and a rest only if the reader returned content and
-- the same rest.
use Rattle.std.proofs.Common.{◌≡◌, ℕ, List, [], ◌++◌, Option, Some, None, refl, sym, ap}
use Rattle.std.proofs.lemmas.List.{append_assoc}
use Rattle.cbor_tokens.specs.TokenReading.{with_front}

-- what follows some content was read from what is left
pub from_front : (front : List ℕ) (left : Option (List ℕ × List ℕ)) (read : List ℕ × List ℕ)
    → with_front front left ≡ Some read → (next : List ℕ × List ℕ) × (left ≡ Some next) × (read.0 ≡ front ++ next.0)
    × (read.1 ≡ next.1)
from_front front None read is = cc is
from_front front (Some next) read is =
    let same : ◌≡◌ {A = List ℕ × List ℕ} (front ++ next.0, next.1) read = cc is in
    (next, refl, ap (λ (r : List ℕ × List ℕ). r.0) (sym same), ap (λ (r : List ℕ × List ℕ). r.1) (sym same))

-- content after content
pub with_front-append : (front more : List ℕ) (left : Option (List ℕ × List ℕ))
    → with_front front (with_front more left) ≡ with_front (front ++ more) left
with_front-append front more None = refl
with_front-append front more (Some read) =
    ap (λ (content : List ℕ). Some (content, read.1)) (sym (append_assoc front more read.0))

pub with_front-nil : (left : Option (List ℕ × List ℕ)) → with_front [] left ≡ left
with_front-nil None = refl
with_front-nil (Some read) = refl
