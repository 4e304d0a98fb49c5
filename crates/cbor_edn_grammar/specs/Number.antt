-- Integers in EDN that fit 64 bits: which integer a word is (`integer_of`), and whether it fits the width that the word
-- states. Also the numbers of tags (`tag_number`).
use Rattle.std.specs.Prelude.{ℕ, zero, suc, ◌^◌, List, [], ◌∷◌, take, drop, position, Option, Some, None, Bool}
use Rattle.std.specs.Prelude.{◌==◌, if◌then◌else◌, nat_lt}
use Rattle.std.specs.Option.{option_or}
use Rattle.cbor_tokens.specs.Token.{capped}
use Rattle.cbor_tokens.specs.TokenReading.{number_of}
use Rattle.cbor_grammar.specs.declared.width.IntegerWidth.{IntegerWidth}
use Rattle.cbor_grammar.specs.declared.width.IntegerWidth.TheVariants.{Unknown, Zero, Eight, Sixteen, ThirtyTwo}
use Rattle.cbor_grammar.specs.Item.{Atom, integer, negative}
use Rattle.cbor_edn_grammar.specs.Reading.{◌>>=◌}
use Rattle.cbor_edn_grammar.specs.Word.{width_of, is_digit}

-- one more than the greatest number of this width
abbrev pub past : IntegerWidth → ℕ
past Zero = 24
past Eight = 2 ^ 8
past Sixteen = 2 ^ 16
past ThirtyTwo = 2 ^ 32
past width = 2 ^ 64

abbrev pub fits : IntegerWidth → ℕ → Bool
fits width n = nat_lt n (past width)

-- a word up to its `_`, and the width that is stated from there on
abbrev pub parted_at : List ℕ → Option ℕ → Option (List ℕ × IntegerWidth)
parted_at word None = Some (word, Unknown)
parted_at word (Some n) = width_of (drop n word) >>= λ width. Some (take n word, width)

abbrev pub parted : List ℕ → Option (List ℕ × IntegerWidth)
parted word = parted_at word (position (λ b. b == 95) word)

abbrev pub whole : {X : Type 0} → X → List ℕ → Option X
whole x [] = Some x
whole x (b ∷ rest) = None

-- the number that these digits are, all of them: decimal, or after `0x`, `0o` or `0b` in that base
abbrev pub number_from : List ℕ → Option ℕ
number_from digits = number_of digits >>= λ n. whole n.0 n.2

-- a number without a sign and the width that it states, whether it fits that or not
abbrev pub magnitude : List ℕ → Option (ℕ × IntegerWidth)
magnitude word = parted word >>= λ p. number_from p.0 >>= λ n. Some (n, p.1)

-- the number where it fits its width
abbrev pub fitting : ℕ → IntegerWidth → Option (ℕ × IntegerWidth)
fitting n width = if fits width n then Some (n, width) else None

-- the number that is encoded for a negative one; there is no negative 0
abbrev pub one_less : ℕ → IntegerWidth → Option (ℕ × IntegerWidth)
one_less zero width = None
one_less (suc n) width = fitting n width

abbrev pub unsigned : List ℕ → Option (ℕ × IntegerWidth)
unsigned word = magnitude word >>= λ m. fitting m.0 m.1

abbrev pub negated : List ℕ → Option (ℕ × IntegerWidth)
negated word = magnitude word >>= λ m. one_less m.0 m.1

-- 0 after a `-`, which is 0: no negative integer is
abbrev pub zero_of : List ℕ → Option Atom
zero_of word = unsigned word >>= λ n. if n.0 == 0 then Some (integer 0 n.1) else None

-- the integer that a word is
abbrev pub integer_of : List ℕ → Option Atom
integer_of [] = None
integer_of (b ∷ word) =
    if b == 45 then option_or (negated word >>= λ n. Some (negative n.0 n.1)) (zero_of word)
    else if b == 43 then (unsigned word >>= λ n. Some (integer n.0 n.1))
    else (unsigned (b ∷ word) >>= λ n. Some (integer n.0 n.1))

-- the number of a tag: a word that begins with a digit
abbrev pub tag_number : List ℕ → Option (ℕ × IntegerWidth)
tag_number [] = None
tag_number (b ∷ word) = if is_digit b then unsigned (b ∷ word) else None

-- the same with each number past 2 ^ 64 as one more than that, as code counts it
abbrev pub capped_magnitude : List ℕ → Option (ℕ × IntegerWidth)
capped_magnitude word = magnitude word >>= λ m. Some (capped m.0, m.1)
