-- `alphabet_view` and `base_view` turn a value of the code's enums `Alphabet` (of base 32) and `Base` (of numbers) into
-- the type of the same name in `Base32.antt` and `Token.antt`.
use Rattle.cbor_tokens.specs.declared.base32.Alphabet.TheVariants as own_alphabet
use Rattle.cbor_tokens.specs.declared.token.number.Base.TheVariants as own_base
use Rattle.cbor_tokens.specs.declared.base32.Alphabet as declared_alphabet
use Rattle.cbor_tokens.specs.declared.token.number.Base as declared_base
use Rattle.cbor_tokens.specs.Base32.{Alphabet, standard, extended_hex}
use Rattle.cbor_tokens.specs.Token.{Base, decimal_base, hexadecimal_base, octal_base, binary_base}

abbrev pub alphabet_view : declared_alphabet.Alphabet → Alphabet
alphabet_view own_alphabet.Standard = standard
alphabet_view own_alphabet.ExtendedHex = extended_hex

abbrev pub base_view : declared_base.Base → Base
base_view own_base.Decimal = decimal_base
base_view own_base.Hexadecimal = hexadecimal_base
base_view own_base.Octal = octal_base
base_view own_base.Binary = binary_base
