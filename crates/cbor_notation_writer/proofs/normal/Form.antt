-- In a normal form, a number or a float that fits its width still fits it (`normal_width`, `resolve_float`), and the
-- head of a number has the same bytes. If a length gets no greater and its width becomes unstated, its head has no more
-- bytes than before.
use Rattle.std.proofs.Common.{◌≡◌, ℕ, ◌^◌, ◌<◌, ◌≤◌, length, inl, inr, refl, arith, nat_lt}
use Rattle.std.proofs.lemmas.Bool.{cond_both, cases_lt, lt-ltb, le-ltb}
use Rattle.cbor_grammar.specs.declared.width.IntegerWidth.{IntegerWidth}
use Rattle.cbor_grammar.specs.declared.width.IntegerWidth.TheVariants.{Unknown, Zero, Eight, Sixteen, ThirtyTwo}
use Rattle.cbor_grammar.specs.declared.width.IntegerWidth.TheVariants.{SixtyFour}
use Rattle.cbor_grammar.specs.declared.width.FloatWidth.{FloatWidth}
use Rattle.cbor_grammar.specs.declared.width.FloatWidth.TheVariants as float_width
use Rattle.cbor_grammar.specs.Head.{FitsWidth, FitsStated, shortest, stated, head}
use Rattle.cbor_grammar.specs.WellFormed.{FitsFloat}
use Rattle.cbor_grammar.specs.Written.{encoded_head, resolve_float}
use Rattle.cbor_grammar.specs.Normal.{normal_width}
use Rattle.cbor_grammar.proofs.bytes.Strict.{shortest_has, stated_fits}

-- ---- lengths of heads

abbrev width_len : IntegerWidth → ℕ
width_len Unknown = 0
width_len Zero = 1
width_len Eight = 2
width_len Sixteen = 3
width_len ThirtyTwo = 5
width_len SixtyFour = 9

head_len : (major n : ℕ) (w : IntegerWidth) → FitsStated w n → length (head major n w) ≡ width_len w
head_len major n Unknown fits = absurd fits
head_len major n _ fits = refl

shortest_len : (n : ℕ) (w : IntegerWidth) → FitsStated w n → width_len (shortest n) ≤ width_len w
shortest_len n Unknown fits = absurd fits
shortest_len n Zero fits = let lt : n < 24 = fits in rw (lt-ltb n 24 lt) (omega arith)
shortest_len n Eight fits = let lt : n < 2 ^ 8 = fits in shortest_has (λ v. width_len v ≤ 2) n (λ h. omega arith)
    (λ l h. omega arith) (λ l h. omega arith) (λ l h. omega arith) (λ l. omega arith)
shortest_len n Sixteen fits = let lt : n < 2 ^ 16 = fits in shortest_has (λ v. width_len v ≤ 3) n (λ h. omega arith)
    (λ l h. omega arith) (λ l h. omega arith) (λ l h. omega arith) (λ l. omega arith)
shortest_len n ThirtyTwo fits = let lt : n < 2 ^ 32 = fits in shortest_has (λ v. width_len v ≤ 5) n (λ h. omega arith)
    (λ l h. omega arith) (λ l h. omega arith) (λ l h. omega arith) (λ l. omega arith)
shortest_len n SixtyFour fits = shortest_has (λ v. width_len v ≤ 9) n (λ h. omega arith)
    (λ l h. omega arith) (λ l h. omega arith) (λ l h. omega arith) (λ l. omega arith)

less_fits : (m n : ℕ) (w : IntegerWidth) → m ≤ n → FitsStated w n → FitsStated w m
less_fits m n Unknown le fits = absurd fits
less_fits m n Zero le fits = let lt : n < 24 = fits in omega arith
less_fits m n Eight le fits = let lt : n < 2 ^ 8 = fits in omega arith
less_fits m n Sixteen le fits = let lt : n < 2 ^ 16 = fits in omega arith
less_fits m n ThirtyTwo le fits = let lt : n < 2 ^ 32 = fits in omega arith
less_fits m n SixtyFour le fits = let lt : n < 2 ^ 64 = fits in omega arith

pub below_limit : (n : ℕ) (w : IntegerWidth) → FitsWidth w n → n < 2 ^ 64
below_limit n Unknown fits = fits
below_limit n Zero fits = let lt : n < 24 = fits in omega arith
below_limit n Eight fits = let lt : n < 2 ^ 8 = fits in omega arith
below_limit n Sixteen fits = let lt : n < 2 ^ 16 = fits in omega arith
below_limit n ThirtyTwo fits = let lt : n < 2 ^ 32 = fits in omega arith
below_limit n SixtyFour fits = fits

pub open_fits : (m n : ℕ) (w : IntegerWidth) → m ≤ n → FitsWidth w n → FitsWidth Unknown m
open_fits m n w le fits = let lt = below_limit n w fits in omega arith

-- the head of a length that is no greater, in an unstated width, is no longer
pub head_no_longer : (major m n : ℕ) (w : IntegerWidth) → m ≤ n → FitsWidth w n
    → length (encoded_head major m Unknown) ≤ length (encoded_head major n w)
head_no_longer major m n w le fits =
    let whole = stated_fits w n fits in
    let part = less_fits m n (stated w n) le whole in
    omega (
      arith,
      head_len major m (shortest m) (stated_fits Unknown m (open_fits m n w le fits)),
      head_len major n (stated w n) whole,
      shortest_len m (stated w n) part,
    )

-- ---- numbers

pub normal_fits : (n : ℕ) (w : IntegerWidth) → FitsWidth w n → FitsWidth (normal_width w n) n
normal_fits n Unknown fits = elim (cases_lt n 24)
    [ inl low ↦ rw (lt-ltb n 24 low) low | inr high ↦ rw (le-ltb n 24 high) fits ]
normal_fits n _ fits = fits

pub normal_head : (major n : ℕ) (w : IntegerWidth) → encoded_head major n (normal_width w n) ≡ encoded_head major n w
normal_head major n Unknown = cond_both (nat_lt n 24) Zero Unknown
    (λ w. encoded_head major n w ≡ encoded_head major n Unknown) (λ low. rw low refl) (λ high. refl)
normal_head major n _ = refl

pub float_fits : (bits : ℕ) (w : FloatWidth) → FitsFloat w bits → FitsFloat (resolve_float w) bits
float_fits bits float_width.Unknown fits = fits
float_fits bits _ fits = fits
