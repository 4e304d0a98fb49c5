use Rattle.std.proofs.Common.{◌≡◌, ◌+◌, ◌*◌, ◌-◌, ◌/◌, ◌%◌, ◌<◌, ◌≤◌, List, [], ℕ, length, take, drop, Option, Some}
use Rattle.std.proofs.Common.{refl, sym, ◌∙◌, ap, arith}
use Rattle.std.proofs.lemmas.Bool.{eqb-true, eqb-false}
use Rattle.std.proofs.lemmas.List.{nil_from_length}
use Rattle.cbor_tokens.specs.Base32.{forty_bits}
use Rattle.cbor_tokens.proofs.bases.Base32Encode.{AllBelowBase-append, length-encode, encode-nil, no_bytes}
use Rattle.cbor_tokens.proofs.bases.Base32Encode.{decoded_none}
use Rattle.cbor_tokens.proofs.bases.Base32Encode.{decoded_more, next_group, last_slice, last_found, last_only}
use Rattle.cbor_tokens.proofs.bases.Base32Encode.{first_bytes, forty_bits-lt}
use Rattle.cbor_tokens.specs.Views.{alphabet_view}
use Rattle.cbor_tokens.proofs.base32.decode.Goals as goal

pub returns-then-digits-ne0-clause-only : goal.returns-then-digits-ne0-clause-only
returns-then-digits-ne0-clause-only c = λ bytes all is. absurd
    (c.if-digits-ne0.true (rw is (length-encode (alphabet_view c.args.alphabet) bytes)))

pub returns-then-is_empty-clause-found : goal.returns-then-is_empty-clause-found
returns-then-is_empty-clause-found c =
    let none : c.args.digits.now ≡ [] = nil_from_length c.args.digits.now
    (eqb-true (length c.args.digits.now) 0 (sym c.is_empty.ensures ∙ c.if-is_empty.true)) in
    rw c.in_ok-bytes.ensures.items (tt, none ∙ sym (encode-nil (alphabet_view c.args.alphabet)))

pub returns-then-is_empty-clause-only : goal.returns-then-is_empty-clause-only
returns-then-is_empty-clause-only c = λ bytes all is.
    let none : length c.args.digits.now ≡ 0 =
    eqb-true (length c.args.digits.now) 0 (sym c.is_empty.ensures ∙ c.if-is_empty.true) in
    c.in_ok-bytes.ensures.items ∙ sym (no_bytes (alphabet_view c.args.alphabet) bytes (sym (ap length is) ∙ none))

pub loop-i-init : goal.loop-i-init
loop-i-init c = rw c.in_ok-bytes.ensures.items (decoded_none (alphabet_view c.args.alphabet) c.args.digits.now)

-- the slice of a whole group
eight : (digits : List ℕ) (i : ℕ) → take (8 * i + 8 - 8 * i) (drop (8 * i) digits) ≡ take 8 (drop (8 * i) digits)
eight digits i = let few : 8 * i + 8 - 8 * i ≡ 8 = omega arith in rw few refl

pub returns-in_default-clause-only : goal.returns-in_default-clause-only
returns-in_default-clause-only c = λ bytes all is.
    let digits = c.args.digits.now in
    let more : 8 * c.loop-i.i + 8 < length digits = omega arith in
    let next = next_group (alphabet_view c.args.alphabet) digits c.loop-i.bytes.items c.loop-i.i c.loop-i.invariant more
    bytes all is in
    let first = next.2 in
    let never = c.in_default.ensures.only first.group first.are_bytes first.five
    (eight digits c.loop-i.i ∙ first.front) in
    cc never

pub loop-i-preserved : goal.loop-i-preserved
loop-i-preserved c =
    let digits = c.args.digits.now in
    let found = c.in-Some.ensures.found in
    let slice = eight digits c.loop-i.i in
    rw c.in_ok-extend_from_slice.ensures.items
    (decoded_more (alphabet_view c.args.alphabet) digits c.loop-i.bytes.items c.in-Some.group c.loop-i.i
    c.loop-i.invariant
    (omega arith) found.0
    found.1 (sym slice ∙ found.2) (λ other are_bytes five shown. c.in-Some.ensures.only other are_bytes five
    (slice ∙ shown)))

-- all whole groups but the last are read
all_read : (n i : ℕ) → n % 8 ≡ 0 → (n ≡ 0 → ⊥) → (n - 8) / 8 ≤ i → i ≤ (n - 8) / 8 → 8 * i + 8 ≡ n
all_read n i whole some done within = omega arith

pub returns-in_default-last_group-clause-only : goal.returns-in_default-last_group-clause-only
returns-in_default-last_group-clause-only c = λ bytes all is.
    let digits = c.args.digits.now in
    let i = c.loop-i.i in
    let some = eqb-false (length digits) 0 (sym c.is_empty.ensures ∙ c.if-is_empty.false) in
    let read = all_read (length digits) i c.if-digits-ne0.false some c.loop-i-test.false c.loop-i.auto.i-end in
    let last = last_only (alphabet_view c.args.alphabet) digits c.loop-i.bytes.items bytes i c.loop-i.invariant read all
    is in
    let never = c.in_default-last_group.ensures.only last.0 last.1 (last_slice digits i read ∙ last.3) in
    cc never

pub five_bytes-group-requires : goal.five_bytes-group-requires
five_bytes-group-requires c =
    let found = c.in-Some-last_group.ensures.found in
    forty_bits-lt found.0 c.in-Some-last_group.number found.1 found.3

pub returns-clause-found : goal.returns-clause-found
returns-clause-found c =
    let digits = c.args.digits.now in
    let i = c.loop-i.i in
    let some = eqb-false (length digits) 0 (sym c.is_empty.ensures ∙ c.if-is_empty.false) in
    let read = all_read (length digits) i c.if-digits-ne0.false some c.loop-i-test.false c.loop-i.auto.i-end in
    let found = c.in-Some-last_group.ensures.found in
    let five = c.five_bytes-group in
    let group = first_bytes five.result found.0 c.in-Some-last_group.count five.ensures.five five.ensures.bytes found.1
    (five.ensures.number ∙ found.3) found.4 in
    rw (c.in_ok-extend_from_slice-2.ensures.items, group) (
      AllBelowBase-append 256 c.loop-i.bytes.items found.0 c.loop-i.invariant.are_bytes found.1.0,
      last_found (alphabet_view c.args.alphabet) digits c.loop-i.bytes.items found.0 i c.loop-i.invariant found.1
          (sym (last_slice digits i read) ∙ found.2),
    )

-- the parts of an answer
same_parts : (x y m n : ℕ) → ◌≡◌ {A = Option (ℕ × ℕ)} (Some (x, y)) (Some (m, n)) → (x ≡ m) × (y ≡ n)
same_parts x y m n is =
    let pairs : ◌≡◌ {A = ℕ × ℕ} (x, y) (m, n) = cc is in
    (ap (λ (p : ℕ × ℕ). p.0) pairs, ap (λ (p : ℕ × ℕ). p.1) pairs)

pub returns-clause-only : goal.returns-clause-only
returns-clause-only c = λ bytes all is.
    let digits = c.args.digits.now in
    let i = c.loop-i.i in
    let some = eqb-false (length digits) 0 (sym c.is_empty.ensures ∙ c.if-is_empty.false) in
    let read = all_read (length digits) i c.if-digits-ne0.false some c.loop-i-test.false c.loop-i.auto.i-end in
    let last = last_only (alphabet_view c.args.alphabet) digits c.loop-i.bytes.items bytes i c.loop-i.invariant read all
    is in
    let is_group = c.in-Some-last_group.ensures.only last.0 last.1 (last_slice digits i read ∙ last.3) in
    let parts = same_parts c.in-Some-last_group.number c.in-Some-last_group.count (forty_bits last.0) (length last.0)
    is_group in
    let five = c.five_bytes-group in
    let group = first_bytes five.result last.0 c.in-Some-last_group.count five.ensures.five five.ensures.bytes last.1
    (five.ensures.number ∙ parts.0) parts.1 in
    rw (c.in_ok-extend_from_slice-2.ensures.items, group) (sym last.2)
