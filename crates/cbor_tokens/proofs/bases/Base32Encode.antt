-- In base 32, `encode` goes group by group: each group of five bytes, and a shorter last one, becomes eight characters.
-- For the loop of `decode` in `base32.rt`: the digits so far encode the bytes so far, and each list of bytes that all
-- digits encode begins with these bytes (`IsDecoded`).
use Rattle.std.proofs.Common.{◌≡◌, ℕ, zero, suc, ◌+◌, ◌-◌, ◌*◌, ◌%◌, ◌^◌, ◌<◌, ◌≤◌, List, [], ◌∷◌, ◌++◌, map, length}
use Rattle.std.proofs.Common.{take, drop, replicate, slice_index, Some, refl, sym, ap, ◌∙◌, arith, lit<}
use Rattle.std.proofs.lemmas.List.{length-append, length-map, length-take-le, length-replicate, length-drop}
use Rattle.std.proofs.lemmas.List.{append_assoc, append-nil, take_at, drop_at, take_all, take-append-drop, drop-drop}
use Rattle.std.proofs.lemmas.List.{nil_from_length, take-take, drop-take}
use Rattle.cbor_tokens.specs.AreBytes.{AreBytes}
use Rattle.cbor_tokens.specs.Base32.{characters, IsLastGroup, places, digit_count, forty_bits, encode_group, encode}
use Rattle.cbor_tokens.specs.Base32.{Alphabet}
use Rattle.cbor_tokens.proofs.bases.Places.{length-places, same_digits}
use Rattle.cbor_tokens.proofs.bases.Base32Groups.{few_digits, group_bits}
use Rattle.std.specs.Int.Digits.{AllBelowBase, number_from_digits}
use Rattle.std.proofs.lemmas.Int.Digits.{number_push}
use Rattle.std.proofs.Math.Nat.{pow-zero, pow-succ', mul_assoc, add-zero, mul-one}

pub length-encode_group : (a : Alphabet) (group : List ℕ) → length group ≤ 5 → length (encode_group a group) ≡ 8
length-encode_group a group few =
    let k : ℕ = digit_count (length group) in
    let small : k ≤ 8 = few_digits (length group) few in
    let values : List ℕ = take k (places 32 8 (forty_bits group)) in
    let long : length values ≡ k = length-take-le k (places 32 8 (forty_bits group)) (rw length-places small) in
    let front : length (map (slice_index (characters a)) values) ≡ k = length-map values (slice_index (characters a))
    ∙ long in
    let back : length (replicate {A = ℕ} (8 - k) 61) ≡ 8 - k = length-replicate (8 - k) 61 in
    let rest : List ℕ = replicate (8 - k) 61 in
    let both : length (map (slice_index (characters a)) values) + length rest ≡ 8 = rw (front, back) (omega arith) in
    length-append (map (slice_index (characters a)) values) rest ∙ both

-- some bytes have some groups
pub some_digits : (a : Alphabet) (x : ℕ) (bytes : List ℕ) → 8 ≤ length (encode a (x ∷ bytes))
unfolding encode
some_digits a x [] = rw (length-encode_group a (x ∷ []) (omega arith)) (omega arith)
some_digits a x (b ∷ []) = rw (length-encode_group a (x ∷ b ∷ []) (omega arith)) (omega arith)
some_digits a x (b ∷ c ∷ []) = rw (length-encode_group a (x ∷ b ∷ c ∷ []) (omega arith)) (omega arith)
some_digits a x (b ∷ c ∷ d ∷ []) = rw (length-encode_group a (x ∷ b ∷ c ∷ d ∷ []) (omega arith)) (omega arith)
some_digits a x (b ∷ c ∷ d ∷ e ∷ bytes) =
    let first = length-encode_group a (x ∷ b ∷ c ∷ d ∷ e ∷ []) (omega arith) in
    omega (arith, first, length-append (encode_group a (x ∷ b ∷ c ∷ d ∷ e ∷ [])) (encode a bytes))

pub no_bytes : (a : Alphabet) (bytes : List ℕ) → length (encode a bytes) ≡ 0 → bytes ≡ []
no_bytes a [] none = refl
no_bytes a (x ∷ bytes) none = absurd (omega (arith, none, some_digits a x bytes))

pub encode-nil : (a : Alphabet) → encode a [] ≡ []
unfolding encode
encode-nil a = refl

-- whole groups of eight
pub length-encode : (a : Alphabet) (bytes : List ℕ) → length (encode a bytes) % 8 ≡ 0
unfolding encode
length-encode a [] = refl
length-encode a (x ∷ []) = ap (λ (n : ℕ). n % 8) (length-encode_group a (x ∷ []) (omega arith))
length-encode a (x ∷ b ∷ []) = ap (λ (n : ℕ). n % 8) (length-encode_group a (x ∷ b ∷ []) (omega arith))
length-encode a (x ∷ b ∷ c ∷ []) = ap (λ (n : ℕ). n % 8) (length-encode_group a (x ∷ b ∷ c ∷ []) (omega arith))
length-encode a (x ∷ b ∷ c ∷ d ∷ []) = ap (λ (n : ℕ). n % 8) (length-encode_group a (x ∷ b ∷ c ∷ d ∷ []) (omega arith))
length-encode a (x ∷ b ∷ c ∷ d ∷ e ∷ bytes) =
    let first = length-encode_group a (x ∷ b ∷ c ∷ d ∷ e ∷ []) (omega arith) in
    let rest = length-encode a bytes in
    omega (arith, first, rest, length-append (encode_group a (x ∷ b ∷ c ∷ d ∷ e ∷ [])) (encode a bytes))

-- one group
pub encode-group : (a : Alphabet) (group : List ℕ) → 0 < length group → length group ≤ 5
    → encode a group ≡ encode_group a group
unfolding encode
encode-group a [] some few = absurd (omega (arith, some))
encode-group a (x ∷ []) some few = refl
encode-group a (x ∷ b ∷ []) some few = refl
encode-group a (x ∷ b ∷ c ∷ []) some few = refl
encode-group a (x ∷ b ∷ c ∷ d ∷ []) some few = refl
encode-group a (x ∷ b ∷ c ∷ d ∷ e ∷ []) some few = append-nil (encode_group a (x ∷ b ∷ c ∷ d ∷ e ∷ []))
encode-group a (x ∷ b ∷ c ∷ d ∷ e ∷ f ∷ bytes) some few = absurd (omega (arith, few))

-- whole groups, and then more
pub encode-append : (a : Alphabet) (n : ℕ) (xs ys : List ℕ) → length xs ≡ 5 * n
    → encode a (xs ++ ys) ≡ encode a xs ++ encode a ys
unfolding encode
encode-append a zero xs ys whole = let none : xs ≡ [] = nil_from_length xs whole in rw none refl
encode-append a (suc n) [] ys whole = refl
encode-append a (suc n) (x ∷ []) ys whole = absurd (omega (arith, whole))
encode-append a (suc n) (x ∷ b ∷ []) ys whole = absurd (omega (arith, whole))
encode-append a (suc n) (x ∷ b ∷ c ∷ []) ys whole = absurd (omega (arith, whole))
encode-append a (suc n) (x ∷ b ∷ c ∷ d ∷ []) ys whole = absurd (omega (arith, whole))
encode-append a (suc n) (x ∷ b ∷ c ∷ d ∷ e ∷ xs) ys whole =
    let group : List ℕ = encode_group a (x ∷ b ∷ c ∷ d ∷ e ∷ []) in
    ap (λ (l : List ℕ). group ++ l) (encode-append a n xs ys (omega (arith, whole)))
    ∙ sym (append_assoc group (encode a xs) (encode a ys))

-- the first of several groups
pub record FirstGroup (a : Alphabet) (bytes digits : List ℕ) : Type 0 where
  pub group : List ℕ
  pub rest : List ℕ
  pub are_bytes : AreBytes group
  pub rest_bytes : AreBytes rest
  pub five : length group ≡ 5
  pub whole : bytes ≡ group ++ rest
  pub front : take 8 digits ≡ encode_group a group
  pub back : drop 8 digits ≡ encode a rest

pub first_group : (a : Alphabet) (bytes digits : List ℕ) → AreBytes bytes → digits ≡ encode a bytes → 8 < length digits
    → FirstGroup a bytes digits
unfolding encode
first_group a [] digits all is more = absurd (omega (arith, more, ap length is))
first_group a (x ∷ []) digits all is more =
    absurd (omega (arith, more, ap length is, length-encode_group a (x ∷ []) (omega arith)))
first_group a (x ∷ b ∷ []) digits all is more =
    absurd (omega (arith, more, ap length is, length-encode_group a (x ∷ b ∷ []) (omega arith)))
first_group a (x ∷ b ∷ c ∷ []) digits all is more =
    absurd (omega (arith, more, ap length is, length-encode_group a (x ∷ b ∷ c ∷ []) (omega arith)))
first_group a (x ∷ b ∷ c ∷ d ∷ []) digits all is more =
    absurd (omega (arith, more, ap length is, length-encode_group a (x ∷ b ∷ c ∷ d ∷ []) (omega arith)))
first_group a (x ∷ b ∷ c ∷ d ∷ e ∷ rest) digits all is more =
    let group : List ℕ = x ∷ b ∷ c ∷ d ∷ e ∷ [] in
    let eight = length-encode_group a group (omega arith) in
    record {
      group = group;
      rest = rest;
      are_bytes = (all.0, (all.1.0, (all.1.1.0, (all.1.1.1.0, (all.1.1.1.1.0, tt)))));
      rest_bytes = all.1.1.1.1.1;
      five = refl;
      whole = refl;
      front = rw is (take_at (encode_group a group) (encode a rest) 8 eight);
      back = rw is (drop_at (encode_group a group) (encode a rest) 8 eight);
    }

-- eight digits are those of one group
few_bytes : (a : Alphabet) (bytes : List ℕ) → length (encode a bytes) ≡ 8 → (0 < length bytes) × (length bytes ≤ 5)
unfolding encode
few_bytes a [] eight = absurd (omega (arith, eight))
few_bytes a (x ∷ []) eight = (omega arith, omega arith)
few_bytes a (x ∷ b ∷ []) eight = (omega arith, omega arith)
few_bytes a (x ∷ b ∷ c ∷ []) eight = (omega arith, omega arith)
few_bytes a (x ∷ b ∷ c ∷ d ∷ []) eight = (omega arith, omega arith)
few_bytes a (x ∷ b ∷ c ∷ d ∷ e ∷ rest) eight =
    let group : List ℕ = x ∷ b ∷ c ∷ d ∷ e ∷ [] in
    let first = length-encode_group a group (omega arith) in
    let last : rest ≡ [] = no_bytes a rest (omega
    (arith, eight, first, length-append (encode_group a group) (encode a rest))) in
    rw last (omega arith, omega arith)

pub one_group : (a : Alphabet) (bytes digits : List ℕ) → AreBytes bytes → digits ≡ encode a bytes → length digits ≡ 8
    → IsLastGroup bytes × (digits ≡ encode_group a bytes)
one_group a bytes digits all is eight =
    let few = few_bytes a bytes (sym (ap length is) ∙ eight) in
    ((all, few.0, few.1), is ∙ encode-group a bytes few.0 few.1)

take-add : (m n : ℕ) (xs : List ℕ) → take (m + n) xs ≡ take m xs ++ take n (drop m xs)
take-add m n xs =
    let whole : take m (take (m + n) xs) ++ drop m (take (m + n) xs) ≡ take (m + n) xs =
    take-append-drop m (take (m + n) xs) in
    sym (rw (take-take m (m + n) xs (omega arith), drop-take m n xs) at whole)

pub AllBelowBase-append : (b : ℕ) (xs ys : List ℕ) → AllBelowBase b xs → AllBelowBase b ys → AllBelowBase b (xs ++ ys)
AllBelowBase-append b [] ys x y = y
AllBelowBase-append b (d ∷ xs) ys x y = (x.0, AllBelowBase-append b xs ys x.1 y)

-- what is known after i groups of eight digits: the bytes so far, and that no other bytes begin an encoding
pub record IsDecoded (a : Alphabet) (digits bytes : List ℕ) (i : ℕ) : Type 0 where
  pub are_bytes : AreBytes bytes
  pub count : length bytes ≡ 5 * i
  pub front : take (8 * i) digits ≡ encode a bytes
  pub only : (whole : List ℕ) → AreBytes whole → digits ≡ encode a whole
      → (rest : List ℕ) × AreBytes rest × (whole ≡ bytes ++ rest) × (drop (8 * i) digits ≡ encode a rest)

pub decoded_none : (a : Alphabet) (digits : List ℕ) → IsDecoded a digits [] 0
unfolding encode
decoded_none a digits = record {
  are_bytes = tt;
  count = refl;
  front = refl;
  only = λ whole all is. (whole, all, refl, is);
}

-- the next group in an encoding
pub next_group : (a : Alphabet) (digits bytes : List ℕ) (i : ℕ) → IsDecoded a digits bytes i → 8 * i + 8 < length digits
    → (whole : List ℕ) → AreBytes whole → digits ≡ encode a whole
    → (rest : List ℕ) × (whole ≡ bytes ++ rest) × FirstGroup a rest (drop (8 * i) digits)
next_group a digits bytes i so_far more whole all is =
    let here = so_far.only whole all is in (
      here.0,
      here.2,
      first_group a here.0 (drop (8 * i) digits) here.1 here.3
          (omega (arith, length-drop (8 * i) digits)),
    )

pub decoded_more : (a : Alphabet) (digits bytes group : List ℕ) (i : ℕ) → IsDecoded a digits bytes i
    → 8 * i + 8 < length digits
    → AreBytes group → length group ≡ 5 → take 8 (drop (8 * i) digits) ≡ encode_group a group
    → ((other : List ℕ) → AreBytes other → length other ≡ 5 → take 8 (drop (8 * i) digits) ≡ encode_group a other
    → Some group ≡ Some other)
    → IsDecoded a digits (bytes ++ group) (i + 1)
decoded_more a digits bytes group i so_far more are_bytes five shown one =
    let next : 8 * (i + 1) ≡ 8 * i + 8 = omega arith in
    let split : take (8 * i + 8) digits ≡ take (8 * i) digits ++ take 8 (drop (8 * i) digits) =
    take-add (8 * i) 8 digits in
    let joined : encode a (bytes ++ group) ≡ encode a bytes ++ encode_group a group =
    encode-append a i bytes group so_far.count
    ∙ ap (λ (l : List ℕ). encode a bytes ++ l) (encode-group a group (omega arith) (omega arith)) in
    record {
      are_bytes = AllBelowBase-append 256 bytes group so_far.are_bytes are_bytes;
      count = omega (arith, length-append bytes group, so_far.count);
      front = rw (next, split, so_far.front, shown, joined) refl;
      only = λ whole all is.
          let here = next_group a digits bytes i so_far more whole all is in
          let first = here.2 in
          let same : group ≡ first.group = cc (one first.group first.are_bytes first.five first.front) in (
            first.rest,
            first.rest_bytes,
            here.1 ∙ rw (first.whole, same, append_assoc) refl,
            rw next (sym (drop-drop 8 (8 * i) digits) ∙ first.back),
          );
    }

-- after the last whole group: the digits of the last group are left
pub last_slice : (digits : List ℕ) (i : ℕ) → 8 * i + 8 ≡ length digits
    → take (length digits - (length digits - 8)) (drop (length digits - 8) digits) ≡ drop (8 * i) digits
last_slice digits i all =
    let at : length digits - 8 ≡ 8 * i = omega arith in
    rw at (take_all (length digits - 8 * i) (drop (8 * i) digits) (omega (arith, length-drop (8 * i) digits)))

pub last_found : (a : Alphabet) (digits bytes group : List ℕ) (i : ℕ) → IsDecoded a digits bytes i → IsLastGroup group
    → drop (8 * i) digits ≡ encode_group a group → digits ≡ encode a (bytes ++ group)
last_found a digits bytes group i so_far is shown =
    sym (take-append-drop (8 * i) digits)
    ∙ rw (so_far.front, shown, ← encode-group a group is.1 is.2) (sym (encode-append a i bytes group so_far.count))

pub last_only : (a : Alphabet) (digits bytes whole : List ℕ) (i : ℕ) → IsDecoded a digits bytes i
    → 8 * i + 8 ≡ length digits
    → AreBytes whole → digits ≡ encode a whole
    → (group : List ℕ) × IsLastGroup group × (whole ≡ bytes ++ group) × (drop (8 * i) digits ≡ encode_group a group)
last_only a digits bytes whole i so_far all are is =
    let here = so_far.only whole are is in
    let one = one_group a here.0 (drop (8 * i) digits) here.1 here.3 (omega (arith, length-drop (8 * i) digits)) in
    (here.0, one.0, here.2, one.1)

number_zeros : (b j : ℕ) (ds : List ℕ) → number_from_digits b (ds ++ replicate j 0) ≡ number_from_digits b ds * b ^ j
number_zeros b zero ds = rw (append-nil, pow-zero) (sym (mul-one (number_from_digits b ds)))
number_zeros b (suc j) ds =
    ap (number_from_digits b) (sym (append_assoc ds (0 ∷ []) (replicate j 0)))
    ∙ number_zeros b j (ds ++ 0 ∷ [])
    ∙ rw (number_push b ds 0, add-zero, pow-succ', mul_assoc) refl

below_zeros : (b j : ℕ) (ds : List ℕ) → 0 < b → AllBelowBase b ds → AllBelowBase b (ds ++ replicate j 0)
below_zeros b zero [] some all = tt
below_zeros b (suc j) [] some all = (some, below_zeros b j [] some tt)
below_zeros b j (d ∷ ds) some all = (all.0, below_zeros b j ds some all.1)

-- the first of the five bytes of a group
pub first_bytes : (five group : List ℕ) (count : ℕ) → length five ≡ 5 → AreBytes five → IsLastGroup group
    → number_from_digits 256 five ≡ forty_bits group → count ≡ length group → take count five ≡ group
first_bytes five group count len bytes is same long =
    let rest : List ℕ = replicate (5 - length group) 0 in
    let back : length rest ≡ 5 - length group = length-replicate (5 - length group) 0 in
    let filled : five ≡ group ++ rest =
    same_digits 256 five (group ++ rest) (len ∙ sym (length-append group rest ∙ rw back (omega (arith, is.2)))) bytes
    (below_zeros 256 (5 - length group) group (lit< tt) is.0)
    (same ∙ sym (number_zeros 256 (5 - length group) group)) in
    rw filled (take_at group rest count (sym long))

pub forty_bits-lt : (group : List ℕ) (number : ℕ) → IsLastGroup group → number ≡ forty_bits group
    → number < 1099511627776
forty_bits-lt group number is same = rw same (group_bits group is).small
