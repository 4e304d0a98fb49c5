-- For code that appends to a text in several calls: if the last call appends its part (`Appends`), the calls together
-- append all parts. The new text begins with the old one (`StartsWith`), also after an error, and can be cut back to
-- it.
use Rattle.std.specs.Prelude.{Result, Ok, Err, is_ok, if◌then◌else◌}
use Rattle.std.specs.Io.{StartsWith}
use Rattle.std.specs.String.{string_bytes, string_len}
use Rattle.std.specs.String.Boundary.{IsSplitPoint}
use Rattle.std.specs.declared.string.String.{String}
use Rattle.std.proofs.Common.{◌≡◌, ℕ, List, ◌++◌, length, take, drop, refl, ap, sym, subst, ◌∙◌, append_assoc}
use Rattle.std.proofs.Common.{arith}
use Rattle.std.proofs.Math.Seq.{take-length}
use Rattle.std.proofs.Transfers.{starts_with_of_append, starts_with_trans}
use Rattle.std.proofs.lemmas.List.{take-append-drop}
use Rattle.cbor_tokens.proofs.texts.Fronts.{split_after}
use Rattle.cbor_tokens.specs.Appends.{Appends}

begins : (old text new : List ℕ) → new ≡ old ++ text → StartsWith new old
begins old text new is = starts_with_of_append new old text is

-- what begins with a text and more begins with that text
earlier : (old text new : List ℕ) → StartsWith new (old ++ text) → StartsWith new old
earlier old text new h = starts_with_trans new (old ++ text) old h (begins old text (old ++ text) refl)

pub begins_through : (old mid new : List ℕ) → StartsWith new mid → StartsWith mid old → StartsWith new old
begins_through old mid new h g = starts_with_trans new mid old h g

-- after one call more, and after two calls
pub begins_still : (old mid text new : List ℕ) → StartsWith mid old → new ≡ mid ++ text → StartsWith new old
begins_still old mid text new h is = begins_through old mid new (begins mid text new is) h

-- after the three calls that write a member
pub begins_after_member : (old mid start member end a b c : List ℕ) → StartsWith mid old → start ≡ mid ++ a
    → member ≡ start ++ b → end ≡ member ++ c → StartsWith end old
begins_after_member old mid start member end a b c h p q r =
    begins_still old member c end (begins_still old start b member (begins_still old mid a start h p) q) r

pub begins_two : (old mid a b new : List ℕ) → mid ≡ old ++ a → new ≡ mid ++ b → StartsWith new old
begins_two old mid a b new p q = begins_still old mid b new (begins old a mid p) q

-- For `grind`, which picks a lemma up at the first call in its conclusion that mentions every variable. So these
-- state that call first.
pub begins_earlier : (old text new : List ℕ) → StartsWith new (old ++ text)
    → (take (length (old ++ text)) new ≡ take (length (old ++ text)) new) × StartsWith new old
begins_earlier old text new h = (refl, earlier old text new h)

pub front_and_rest : (n : ℕ) (xs : List ℕ) → (take n xs ≡ take n xs) × (take n xs ++ drop n xs ≡ xs)
front_and_rest n xs = (refl, take-append-drop n xs)

pub ruleset appending_steps = (begins_earlier, front_and_rest)

-- a text begins with itself
pub begins_same : (old : List ℕ) → StartsWith old old
begins_same old = take-length old

-- what std's calls that append ensure
pub appends_of : {T E : Type 0} (r : Result T E) (old new text : List ℕ)
    → new ≡ (if is_ok r then old ++ text else old) → Appends r old new text
appends_of (Ok x) old new text h = h
appends_of (Err e) old new text h = ap (take (length old)) h ∙ take-length old

-- a call that appends the same, said in another way
pub appends_as : {T E : Type 0} (r : Result T E) (old new text other : List ℕ)
    → (new ≡ old ++ text → new ≡ old ++ other) → Appends r old new text → Appends r old new other
appends_as (Ok x) old new text other f h = f h
appends_as (Err e) old new text other f h = h

-- the last of several calls that append
pub appends_last : {T E : Type 0} (r : Result T E) (old mid new text all : List ℕ) → StartsWith mid old
    → (new ≡ mid ++ text → new ≡ old ++ all) → Appends r mid new text → Appends r old new all
appends_last (Ok x) old mid new text all begun f h = f h
appends_last (Err e) old mid new text all begun f h = begins_through old mid new h begun

-- the last of two
pub appends_after : {T E : Type 0} (r : Result T E) (old mid new a b : List ℕ) → mid ≡ old ++ a → Appends r mid new b
    → Appends r old new (a ++ b)
appends_after r old mid new a b is h =
    appends_last r old mid new b (a ++ b) (begins old a mid is) (λ e. e ∙ ap (λ x. x ++ b) is ∙ append_assoc old a b) h

-- A text that begins with another can be cut back to it.
pub cut_back : {Z : Type 0} (old new : String Z) (n : ℕ) → n ≡ string_len old
    → StartsWith (string_bytes new) (string_bytes old)
    → IsSplitPoint (string_bytes new) n × (take n (string_bytes new) ≡ string_bytes old)
cut_back old new n len h =
    let is : length (string_bytes old) ≡ n = omega (arith, len, old.bytes.ok.0) in
    (subst (IsSplitPoint (string_bytes new)) is (split_after old new h), rw (sym is) h)
