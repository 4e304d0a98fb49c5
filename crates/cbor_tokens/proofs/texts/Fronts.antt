-- For all crates: a text that begins with an old text may be cut where the old text ends (`IsSplitPoint`). After an
-- error of a call that appends (`AppendsText`), the new text may be cut there.
use Rattle.std.proofs.Common.{◌≡◌, ℕ, List, ◌++◌, length, Result, Ok, Err, OnErr, subst, sym, arith}
use Rattle.std.proofs.Transfers.{starts_with_length, starts_with_of_append, starts_with_trans}
use Rattle.std.proofs.lemmas.Str.{IsCharBoundary-from_take, IsUtf8-string_bytes}
use Rattle.std.specs.Io.{StartsWith}
use Rattle.cbor_tokens.specs.Appends.{AppendsText}
use Rattle.std.specs.Prelude.{String, string_bytes}
use Rattle.std.specs.Str.{IsUtf8}
use Rattle.std.specs.String.{string_len}
use Rattle.std.specs.String.Boundary.{IsSplitPoint}

-- a text that begins with what was appended to an old one begins with that one
pub front_before : (old text more new : List ℕ) → text ≡ old ++ more → StartsWith new text → StartsWith new old
front_before old text more new appended front =
    starts_with_trans new text old front (starts_with_of_append text old more appended)

-- a text that begins with an old one may be cut where that one ended
pub split_after : {Z : Type 0} (old new : String Z) → StartsWith (string_bytes new) (string_bytes old)
    → IsSplitPoint (string_bytes new) (length (string_bytes old))
split_after old new front =
    let within = starts_with_length (string_bytes new) (string_bytes old) front in
    let at = IsCharBoundary-from_take (string_bytes new) (length (string_bytes old)) (IsUtf8-string_bytes new) within
    (subst IsUtf8 (sym front) (IsUtf8-string_bytes old)) in
    (at.0, λ some. at.1)

-- so it may be cut after an error
pub cut_point : {Z V E : Type 0} (old new : String Z) (text : List ℕ) (result : Result V E) (len : ℕ)
    → len ≡ string_len old → AppendsText result old new text → OnErr result (IsSplitPoint (string_bytes new) len)
cut_point old new text (Ok value) len is h = tt
cut_point old new text (Err error) len is front =
    let same : length (string_bytes old) ≡ len = omega (arith, is, old.bytes.ok.0) in
    subst (IsSplitPoint (string_bytes new)) same (split_after old new front)
