-- In the definitions of EDN, `read_width` is the width that is read back: `Unknown` for a written `Zero`, and otherwise
-- the width that was written. If a number below 2 ^ 64 fits the width that was written, it fits the width that is read.
use Rattle.std.proofs.Common.{◌≡◌, ℕ, ◌^◌, ◌<◌, true}
use Rattle.std.proofs.lemmas.Bool.{lt-ltb}
use Rattle.cbor_grammar.specs.declared.width.IntegerWidth.{IntegerWidth}
use Rattle.cbor_grammar.specs.declared.width.IntegerWidth.TheVariants.{Unknown, Zero, Eight, Sixteen, ThirtyTwo}
use Rattle.cbor_grammar.specs.declared.width.IntegerWidth.TheVariants.{SixtyFour}
use Rattle.cbor_edn_grammar.specs.Number.{fits}

-- the width that is read where this one is written: none where none is stated
abbrev pub read_width : IntegerWidth → IntegerWidth
read_width Zero = Unknown
read_width w = w

-- a number that fits the width that is written fits the one that is read
pub read_fits : (n : ℕ) (w : IntegerWidth) → fits w n ≡ true → n < 2 ^ 64 → fits (read_width w) n ≡ true
read_fits n Zero h lt = lt-ltb n (2 ^ 64) lt
read_fits n Unknown h lt = h
read_fits n Eight h lt = h
read_fits n Sixteen h lt = h
read_fits n ThirtyTwo h lt = h
read_fits n SixtyFour h lt = h
