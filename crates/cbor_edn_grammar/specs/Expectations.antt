-- The texts of EDN's error messages.
use Rattle.std.specs.Prelude.{ℕ, List, codes, Option, Some, None, Bool, ◌&&◌, nat_le}
use Rattle.cbor_edn_grammar.specs.declared.close.Close.{Close}
use Rattle.cbor_edn_grammar.specs.declared.close.Close.TheVariants.{Bracket, Brace, Parenthesis, Angles, End}
use Rattle.cbor_edn_grammar.specs.declared.literal.Literal.{Literal}
use Rattle.cbor_edn_grammar.specs.declared.literal.Literal.TheVariants as literal
use Rattle.cbor_edn_grammar.specs.declared.error.Expected.{Expected}
use Rattle.cbor_edn_grammar.specs.declared.error.Expected.TheVariants as expected

-- where neither a comma nor what closes the list follows a member
abbrev pub missing : Close → List ℕ
missing Bracket = codes "a comma or ] has to follow the member"
missing Brace = codes "a comma or } has to follow the value"
missing Parenthesis = codes "a comma or ) has to follow the chunk"
missing Angles = codes "a comma or >> has to follow the item"
missing End = codes "a comma or a blank has to follow the item"

-- where a word is spelled as another language does
abbrev pub spelled : Literal → List ℕ
spelled literal.False = codes "write false"
spelled literal.True = codes "write true"
spelled literal.Null = codes "write null"
spelled literal.Undefined = codes "write undefined"
spelled literal.NotANumber = codes "write NaN"
spelled literal.Infinity = codes "write Infinity"

abbrev pub text_of : Expected → List ℕ
text_of expected.Item = codes "an item is expected"
text_of expected.ItemStart = codes "no item begins with this character"
text_of expected.FewerCommas = codes "a comma too many"
text_of expected.Value = codes "a value has to follow the colon"
text_of expected.TagContent = codes "a tag needs an item in its parentheses"
text_of expected.CommentEnd = codes "the comment is not closed: write / or */ at its end"
text_of (expected.Literal word) = spelled word
text_of expected.Quotes = codes "a text needs quotes"
text_of expected.Apostrophes = codes "write apostrophes after the prefix, as in h'01'"
text_of expected.OneItem = codes "one item is expected"
text_of expected.Number = codes "not a number"
text_of expected.TagNumber = codes "the number of a tag is a number from 0 on"
text_of expected.LargestTag = codes "a tag is at most 18446744073709551615"
text_of expected.SimpleNumber = codes "a simple value has a number from 0 to 23 or from 32 to 255"
text_of expected.SimpleParenthesis = codes "( has to follow simple"
text_of expected.NoEllipsis = codes "an ellipsis has no bytes"
text_of expected.Prefix = codes "no such prefix is known; h, b64, b32, h32, dt, DT, ip, IP and float are"
text_of expected.FittingWidth = codes "the number does not fit the width that is stated"
text_of expected.Indicator = codes "an indicator is _i, _0, _1, _2 or _3"
text_of (expected.Half nearest) = codes "no float of 16 bits is the number"
text_of expected.LargestHalf = codes "the largest float of 16 bits is 65504.0"
text_of expected.LargestSingle = codes "the largest float of 32 bits is 3.4028234663852886e38"
text_of expected.LargestDouble = codes "the largest float of 64 bits is 1.7976931348623157e308"
text_of expected.FloatIndicator = codes "an indicator of a float is _1, _2 or _3"
text_of expected.HexExponent = codes "the exponent is past those of floats of 64 bits"
text_of expected.Date = codes "a date with a time is written as in 2026-01-02T03:04:05Z"
text_of expected.LaterDate = codes "a fraction of a second before 1970 is not read"
text_of expected.Address = codes "an address is written as in 192.0.2.1 or 2001:db8::1"
text_of expected.PrefixLength = codes "a prefix has up to 32 bits, or 128 of an IPv6 address"
text_of expected.ClearBits = codes "the address has a bit set after the prefix"
text_of expected.FloatBits = codes "the bits of a float are 4, 8 or 16 digits"
text_of expected.BlankAfterWidth =
    codes "a blank has to follow: [_1 ] is an empty array, and [_ 1] one of indefinite length"
text_of expected.BlankAfterUnderscore = codes "a blank, or what closes the list, has to follow _"
text_of expected.Underscore = codes "_ and a blank have to follow the parenthesis of a string in chunks"
text_of expected.String = codes "a string is expected"
text_of expected.Chunk = codes "a chunk is a string of definite length of the kind of the first"
text_of expected.NoContent = codes "only an empty string may have _ after it"
text_of expected.Quote = codes "the closing quote is missing"
text_of expected.Escape = codes "not an escape of a character"
text_of (expected.SecondHalf first) = codes "half of a character: \\udc00 to \\udfff has to follow"
text_of (expected.FirstHalf second) = codes "half of a character: \\ud800 to \\udbff has to come before"
text_of expected.Digit = codes "not a digit that can be here"
text_of expected.MoreDigits = codes "a digit is missing"
text_of expected.Utf8 = codes "the bytes of the text are not UTF-8"
text_of expected.PlusOrComma = codes "two strings side by side: write + to join them, or a comma between"
text_of (expected.CommaOrClose close) = missing close
text_of expected.Colon = codes "a colon has to follow the key"
text_of expected.Parenthesis = codes "a closing parenthesis is expected"
text_of expected.Levels = codes "nested deeper than 128 levels"

-- all that is said; not specified where a value is added
abbrev pub words_of : Expected → Option (List ℕ)
words_of (expected.Half nearest) = None
words_of (expected.SecondHalf first) = None
words_of (expected.FirstHalf second) = None
words_of e = Some (text_of e)

-- a printable ASCII character
abbrev pub is_printing : ℕ → Bool
is_printing b = nat_le 32 b && nat_le b 126
