-- The four lines that describe a UUID (`uuid_lines`): its variant and version, and its bytes in base 16, base 58 and
-- base 64. RFC 4122, section 4.1, defines where the variant and the version are.
use Rattle.std.specs.Prelude.{ℕ, false, Option, Some, None, List, [], ◌∷◌, ◌++◌, slice_index, codes, decimal}
use Rattle.base64.specs.Rfc4648.{encode}
use Rattle.uuid.specs.Parts.{variant_of, version_of}
use Rattle.uuid.specs.Text.{hyphenated_text, lower}
use Rattle.uuid.specs.Uuid.{version_num}
use Rattle.uuid.specs.declared.Variant.{Variant}
use Rattle.uuid.specs.declared.Variant.TheVariants.{NCS, RFC4122, Microsoft, Future}
use Rattle.uuid.specs.declared.Version.{Version}
use Rattle.uuid.specs.declared.Version.TheVariants.{Nil, Mac, Dce, Md5, Random, Sha1, SortMac, SortRand, Custom, Max}
use Rattle.cbor_tokens.specs.Ascii.{equals_sign}
use Rattle.cbor_notes.specs.Base58.{base58_of}
use Rattle.cbor_tokens.specs.Base64.{standard_alphabet}

-- the name of a variant
abbrev pub variant_name : Variant → List ℕ
variant_name NCS = codes "NCS"
variant_name RFC4122 = codes "RFC4122"
variant_name Microsoft = codes "Microsoft"
variant_name Future = codes "Future"

-- the name of a version: `Nil` and `Max` belong to one UUID each, and a version without a name is
-- `Unknown`
abbrev pub version_name : Option Version → List ℕ
version_name None = codes "Unknown"
version_name (Some Nil) = codes "Nil"
version_name (Some Mac) = codes "Mac"
version_name (Some Dce) = codes "Dce"
version_name (Some Md5) = codes "Md5"
version_name (Some Random) = codes "Random"
version_name (Some Sha1) = codes "Sha1"
version_name (Some SortMac) = codes "SortMac"
version_name (Some SortRand) = codes "SortRand"
version_name (Some Custom) = codes "Custom"
version_name (Some Max) = codes "Max"

-- the variant, which the top bits of byte 8 say, and the version's number, the upper half of byte
-- 6, with its name
abbrev pub fields_line : List ℕ → List ℕ
fields_line bytes =
    codes "uuid(variant(" ++ variant_name (variant_of (slice_index bytes 8)) ++ codes "), version("
    ++ decimal (version_num bytes) ++ codes ", " ++ version_name (version_of bytes) ++ codes "))"

-- the text form of RFC 4122: hex digits in lower case, 8-4-4-4-12
abbrev pub base16_line : List ℕ → List ℕ
base16_line bytes = codes "base16(" ++ hyphenated_text lower bytes ++ codes ")"

-- the bytes in base 58
abbrev pub base58_line : List ℕ → List ℕ
base58_line bytes = codes "base58(" ++ base58_of bytes ++ codes ")"

-- the bytes in base 64: the standard alphabet (RFC 4648, section 4), without padding
abbrev pub base64_line : List ℕ → List ℕ
base64_line bytes =
    codes "base64("
    ++ encode standard_alphabet equals_sign false bytes
    ++ codes ")"

-- the four texts of sixteen bytes
abbrev pub uuid_lines : List ℕ → List (List ℕ)
uuid_lines bytes =
    fields_line bytes ∷ base16_line bytes ∷ base58_line bytes ∷ base64_line bytes ∷ []
