-- A number that fits a stated width is below 2 ^ 64, and such a number fits the width `shortest`. `chosen_width` fits
-- the number of a head if the width that was read does. If a stated width fits, `encoded_head` is the `head` of that
-- width.
use Rattle.std.proofs.Common.{◌≡◌, ℕ, ◌^◌, ◌<◌, Bool, true, false, cond, ap, arith}
use Rattle.cbor_grammar.specs.declared.width.IntegerWidth.{IntegerWidth}
use Rattle.cbor_grammar.specs.declared.width.IntegerWidth.TheVariants.{Unknown, Zero, Eight, Sixteen, ThirtyTwo}
use Rattle.cbor_grammar.specs.declared.width.IntegerWidth.TheVariants.{SixtyFour}
use Rattle.cbor_grammar.specs.Head.{FitsStated, shortest, head}
use Rattle.cbor_grammar.specs.Written.{encoded_head}
use Rattle.cbor_grammar.proofs.bytes.Strict.{stated_fits, stated_is}
use Rattle.cbor_rules.specs.declared.rules.Rules.{Rules}
use Rattle.cbor_reencode.specs.mirror.Chosen.{chosen_width}

pub fits_number : (w : IntegerWidth) (n : ℕ) → FitsStated w n → n < 2 ^ 64
fits_number Unknown n fits = absurd fits
fits_number Zero n fits = omega arith
fits_number Eight n fits = omega arith
fits_number Sixteen n fits = omega arith
fits_number ThirtyTwo n fits = omega arith
fits_number SixtyFour n fits = fits

pub shortest_fits : (n : ℕ) → n < 2 ^ 64 → FitsStated (shortest n) n
shortest_fits n lt = stated_fits Unknown n lt

by_test : (t : Bool) (n : ℕ) (w : IntegerWidth) → FitsStated w n → FitsStated (cond t (shortest n) w) n
by_test true n w fits = shortest_fits n (fits_number w n fits)
by_test false n w fits = fits

pub chosen_fits : (rules : Rules) (n : ℕ) (w : IntegerWidth) → FitsStated w n → FitsStated (chosen_width rules n w) n
chosen_fits rules n w fits = by_test rules.shortest_heads n w fits

-- a head whose width is stated is the one that is written
pub stated_head : (major n : ℕ) (w : IntegerWidth) → FitsStated w n → encoded_head major n w ≡ head major n w
stated_head major n w fits = ap (head major n) (stated_is w n fits)
