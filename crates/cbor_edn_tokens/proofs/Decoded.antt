-- For `decode_base32`, `decode_base32hex` and `decode_base64`: if the bytes that a decoder finds encode to the digits,
-- and it finds none only if no bytes do, its answer is that of the definitions `base32_of` and `base64_of`.
use Rattle.std.proofs.Common.{◌≡◌, ◌≢◌, ℕ, ◌⊎◌, List, Option, Some, None, Result, Ok, Err, Vec, Global, refl}
use Rattle.std.proofs.Common.{IfOk}
use Rattle.std.specs.Option.{ok_or, IfSome, IfNone, option_map}
use Rattle.std.specs.declared.alloc.AllocError.{AllocError}
use Rattle.cbor_tokens.specs.AreBytes.{AreBytes}
use Rattle.cbor_tokens.specs.Base32.{Alphabet, encode}
use Rattle.cbor_tokens.specs.Base64.{standard, url_safe}
use Rattle.cbor_grammar.specs.declared.error.Error.TheVariants as refusal
use Rattle.cbor_grammar.specs.Reading.{Gives}
use Rattle.cbor_notation.specs.mirror.NotationReading.{or_refused, base32_of, base64_of}
use Rattle.cbor_notation.proofs.notation.DigitsFound.{base32_answer, base64_answer}

from_answer : (found : Option (Vec ℕ Global)) (bytes : Option (List ℕ))
    → Gives (λ v. v.items) (ok_or found refusal.Notation) (or_refused bytes)
    → option_map (λ v. v.items) found ≡ bytes
from_answer (Some v) (Some b) e = cc
from_answer (Some v) None e = absurd cc
from_answer None (Some b) e = absurd cc
from_answer None None e = refl

pub base32_law : (alphabet : Alphabet) (digits : List ℕ) (result : Result (Option (Vec ℕ Global)) AllocError)
    → IfOk result (λ found. IfSome found (λ v. AreBytes v.items × (digits ≡ encode alphabet v.items)))
    → IfOk result (λ found. IfNone found ((bytes : List ℕ) → AreBytes bytes → digits ≢ encode alphabet bytes))
    → IfOk result (λ found. option_map (λ v. v.items) found ≡ base32_of alphabet digits)
base32_law alphabet digits (Ok found) is none =
    from_answer found (base32_of alphabet digits) (base32_answer alphabet digits found is none)
base32_law alphabet digits (Err e) is none = tt

pub base64_law : (digits : List ℕ) (result : Result (Option (Vec ℕ Global)) AllocError)
    → IfOk result (λ found. IfSome found (λ v. AreBytes v.items
    × ((digits ≡ url_safe v.items) ⊎ (digits ≡ standard v.items))))
    → IfOk result (λ found. IfNone found ((bytes : List ℕ) → AreBytes bytes
    → (digits ≢ url_safe bytes) × (digits ≢ standard bytes)))
    → IfOk result (λ found. option_map (λ v. v.items) found ≡ base64_of digits)
base64_law digits (Ok found) is none = from_answer found (base64_of digits) (base64_answer digits found is none)
base64_law digits (Err e) is none = tt
