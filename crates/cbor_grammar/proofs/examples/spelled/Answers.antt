-- That bytes spell a tagged text and an open map is shown part by part.
use Rattle.std.proofs.Common.{ℕ, zero, suc, ◌<◌, List, [], ◌∷◌, get_or, codes, refl, arith}
use Rattle.std.specs.List.{AllByRecursion}
use Rattle.std.proofs.lemmas.Str.{IsUtf8-from_ascii}
use Rattle.cbor_grammar.proofs.examples.spelled.Goals as goal

ascii_at : (bs : List ℕ) → AllByRecursion (λ b. b < 128) bs → (i : ℕ) → get_or bs i 0 < 128
ascii_at [] h i = omega arith
ascii_at (b ∷ bs) h zero = h.0
ascii_at (b ∷ bs) h (suc i) = ascii_at bs h.1 i

address_is_ascii : AllByRecursion (λ b. b < 128) (codes "https://example.com")
address_is_ascii = search arith

pub returns-clause-tagged : goal.returns-clause-tagged
returns-clause-tagged c =
    let address = IsUtf8-from_ascii (codes "https://example.com")
    (ascii_at (codes "https://example.com") address_is_ascii) in (
      omega arith,
      (
        omega arith,
        0x73 ∷ codes "https://example.com",
        refl,
        (omega arith, (address, (omega arith, codes "https://example.com", refl, ([], refl, refl)))),
      ),
    )

pub returns-clause-broken : goal.returns-clause-broken
returns-clause-broken c = (
  omega arith,
  (
    1 ∷ 2 ∷ 255 ∷ [],
    refl,
    (
      1 ∷ [],
      2 ∷ [],
      255 ∷ [],
      refl,
      (omega arith, (omega arith, [], refl, refl)),
      (omega arith, (omega arith, [], refl, refl)),
      refl,
    ),
  ),
)
