-- If a number fits the width that it has in an item, it also fits the width that EDN writes beside it (`marked`), and
-- the width that is read back (`read_width`) gives the same head.
use Rattle.std.proofs.Common.{◌≡◌, ℕ, ◌^◌, if◌then◌else◌, Bool, true, false, refl, ap, ◌∙◌, arith, nat_lt}
use Rattle.std.proofs.lemmas.Bool.{lt-ltb, le-ltb, ltb-false}
use Rattle.cbor_grammar.specs.declared.width.IntegerWidth.{IntegerWidth}
use Rattle.cbor_grammar.specs.declared.width.IntegerWidth.TheVariants.{Unknown, Zero, Eight, Sixteen, ThirtyTwo}
use Rattle.cbor_grammar.specs.declared.width.IntegerWidth.TheVariants.{SixtyFour}
use Rattle.cbor_grammar.specs.Head.{FitsWidth, shortest, stated, head}
use Rattle.cbor_grammar.specs.Written.{encoded_head}
pub use Rattle.cbor_edn_grammar.proofs.Widths.{read_width, read_fits}
use Rattle.cbor_edn_writer.specs.EdnLeaves.{longer, marked}
use Rattle.cbor_edn_grammar.specs.Number.{fits}
use Rattle.cbor_edn_writer.proofs.writing.Texts.{below_limit}

fits_width : (n : ℕ) (w : IntegerWidth) → FitsWidth w n → fits w n ≡ true
fits_width n Unknown h = lt-ltb n (2 ^ 64) h
fits_width n Zero h = lt-ltb n 24 h
fits_width n Eight h = lt-ltb n (2 ^ 8) h
fits_width n Sixteen h = lt-ltb n (2 ^ 16) h
fits_width n ThirtyTwo h = lt-ltb n (2 ^ 32) h
fits_width n SixtyFour h = lt-ltb n (2 ^ 64) h

-- an unstated width has every number of an item
fits_unstated : (n : ℕ) (w : IntegerWidth) → FitsWidth w n → fits Unknown n ≡ true
fits_unstated n w h = lt-ltb n (2 ^ 64) (below_limit n w h)

-- one width or none, by a test
either_fits : (test : Bool) (n : ℕ) (w : IntegerWidth) → FitsWidth w n → fits (if test then w else Unknown) n ≡ true
either_fits true n w h = fits_width n w h
either_fits false n w h = fits_unstated n w h

pub longer_fits : (n : ℕ) (w : IntegerWidth) → FitsWidth w n → fits (longer n w) n ≡ true
longer_fits n Unknown h = fits_unstated n Unknown h
longer_fits n Zero h = fits_unstated n Zero h
longer_fits n Eight h = either_fits (nat_lt n 24) n Eight h
longer_fits n Sixteen h = either_fits (nat_lt n (2 ^ 8)) n Sixteen h
longer_fits n ThirtyTwo h = either_fits (nat_lt n (2 ^ 16)) n ThirtyTwo h
longer_fits n SixtyFour h = either_fits (nat_lt n (2 ^ 32)) n SixtyFour h

pub marked_fits : (n : ℕ) (w : IntegerWidth) (all : Bool) → FitsWidth w n → fits (marked all n w) n ≡ true
marked_fits n w true h = fits_width n w h
marked_fits n w false h = longer_fits n w h

-- a width that is left out where it is the shortest
left_out : (test : Bool) (n : ℕ) (w : IntegerWidth) → stated w n ≡ w → (test ≡ false → shortest n ≡ w)
    → stated (if test then w else Unknown) n ≡ w
left_out true n w is short = is
left_out false n w is short = short refl

longer_stated : (n : ℕ) (w : IntegerWidth) → FitsWidth w n → stated (longer n w) n ≡ stated w n
longer_stated n Unknown h = refl
longer_stated n Zero h = rw (lt-ltb n 24 h) refl
longer_stated n Eight h = left_out (nat_lt n 24) n Eight refl (λ e. rw (e, lt-ltb n (2 ^ 8) h) refl)
longer_stated n Sixteen h = left_out (nat_lt n (2 ^ 8)) n Sixteen refl (λ e.
    let low = ltb-false n (2 ^ 8) e in
    rw (le-ltb n 24 (omega (arith, low)), e, lt-ltb n (2 ^ 16) h) refl)
longer_stated n ThirtyTwo h = left_out (nat_lt n (2 ^ 16)) n ThirtyTwo refl (λ e.
    let low = ltb-false n (2 ^ 16) e in
    rw (le-ltb n 24 (omega (arith, low)), le-ltb n (2 ^ 8) (omega (arith, low)), e, lt-ltb n (2 ^ 32) h) refl)
longer_stated n SixtyFour h = left_out (nat_lt n (2 ^ 32)) n SixtyFour refl (λ e.
    let low = ltb-false n (2 ^ 32) e in
    rw (
      le-ltb n 24 (omega (arith, low)),
      le-ltb n (2 ^ 8) (omega (arith, low)),
      le-ltb n (2 ^ 16) (omega (arith, low)),
      e,
    ) refl)

read_stated : (n : ℕ) (w : IntegerWidth) → fits w n ≡ true → stated (read_width w) n ≡ stated w n
read_stated n Zero h = rw h refl
read_stated n Unknown h = refl
read_stated n Eight h = refl
read_stated n Sixteen h = refl
read_stated n ThirtyTwo h = refl
read_stated n SixtyFour h = refl

marked_stated : (n : ℕ) (w : IntegerWidth) (all : Bool) → FitsWidth w n → stated (marked all n w) n ≡ stated w n
marked_stated n w true h = refl
marked_stated n w false h = longer_stated n w h

pub longer_encoded : (major n : ℕ) (w : IntegerWidth) → FitsWidth w n
    → encoded_head major n (longer n w) ≡ encoded_head major n w
longer_encoded major n w h = ap (head major n) (longer_stated n w h)

pub marked_encoded : (major n : ℕ) (w : IntegerWidth) (all : Bool) → FitsWidth w n
    → encoded_head major n (marked all n w) ≡ encoded_head major n w
marked_encoded major n w all h = ap (head major n) (marked_stated n w all h)

-- the width that is read back gives the same head
pub read_encoded : (major n : ℕ) (w : IntegerWidth) (all : Bool) → FitsWidth w n
    → encoded_head major n (read_width (marked all n w)) ≡ encoded_head major n w
read_encoded major n w all h =
    ap (head major n) (read_stated n (marked all n w) (marked_fits n w all h) ∙ marked_stated n w all h)
