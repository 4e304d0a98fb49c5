-- If `read_head` returns a head and a rest, the bytes are this head and then the rest (`HeadIs`), and a head that an
-- item can have is read again from its bytes, whatever bytes follow. The same holds for an argument (`read_argument`).
-- A chain of steps (`>>=`) has the value of its last step or the error of one step.
use Rattle.std.proofs.Common.{◌≡◌, ℕ, zero, suc, ◌+◌, ◌*◌, ◌/◌, ◌%◌, ◌^◌, ◌<◌, ◌≤◌, ◌≢◌, Bool, true, false, cond, ltb}
use Rattle.std.proofs.Common.{List, [], ◌∷◌, ◌++◌, length, get_or, take, drop, Result, Ok, Err, ◌⊎◌, inl, inr, refl}
use Rattle.std.proofs.Common.{sym, ap, subst, ◌∙◌, append_assoc, arith}
use Rattle.std.specs.Int.{Width, w8, w16, w32, w64, byte_len, from_be_bytes, to_be_bytes}
use Rattle.std.proofs.lemmas.Bool.{cases_lt, cases_eq, ltb-false, lt-ltb, le-ltb, ne_eqb}
use Rattle.std.proofs.lemmas.List.{take_at, drop_at, take-append-drop, length-append, length-take, get_or-drop}
use Rattle.std.proofs.lemmas.List.{get_or-take, get_or_past}
use Rattle.std.proofs.lemmas.Nat.{be_bytes_2, be_bytes_4, be_bytes_8, from_be_bytes-to_be_bytes_2}
use Rattle.std.proofs.lemmas.Nat.{from_be_bytes-to_be_bytes_4, from_be_bytes-to_be_bytes_8}
use Rattle.cbor_grammar.specs.declared.width.IntegerWidth.{IntegerWidth}
use Rattle.cbor_grammar.specs.declared.width.IntegerWidth.TheVariants.{Unknown, Zero, Eight, Sixteen, ThirtyTwo}
use Rattle.cbor_grammar.specs.declared.width.IntegerWidth.TheVariants.{SixtyFour}
use Rattle.cbor_grammar.specs.declared.width.FloatWidth.TheVariants as float_width
use Rattle.cbor_grammar.specs.declared.error.Error.{Error}
use Rattle.cbor_grammar.specs.declared.error.Error.TheVariants as refusal
use Rattle.cbor_grammar.specs.declared.argument.Argument.{Argument}
use Rattle.cbor_grammar.specs.declared.argument.Argument.TheVariants.{Number, Indefinite}
use Rattle.cbor_grammar.specs.declared.head.ItemHead.TheVariants as item_head
use Rattle.cbor_grammar.specs.declared.head.ItemHead.{ItemHead}
use Rattle.cbor_grammar.specs.declared.strings.StringKind.TheVariants.{Bytes, Text}
use Rattle.cbor_grammar.specs.StringKind.{major_of}
use Rattle.cbor_grammar.specs.Head.{FitsStated, head, opening, HeadThen}
use Rattle.cbor_grammar.specs.Bytes.{any, SpellsSimple}
use Rattle.cbor_grammar.specs.Reading.{Read, ◌>>=◌, Counted, go_on, ◌>>-◌, read_number, read_wide, read_argument}
use Rattle.cbor_grammar.specs.Reading.{simple_or_float, head_of, read_head}

-- ---- bytes

abbrev pub IsBytes : List ℕ → Type 0
IsBytes b = (i : ℕ) → get_or b i 0 < 256

pub IsBytes-drop : (n : ℕ) (b : List ℕ) → IsBytes b → IsBytes (drop n b)
IsBytes-drop n b h i = rw get_or-drop (h (n + i))

pub IsBytes-take : (n : ℕ) (b : List ℕ) → IsBytes b → IsBytes (take n b)
IsBytes-take n b h i =
    elim (cases_lt i n) [
      | inl lt ↦ rw (get_or-take n b i 0 lt) (h i)
      | inr le ↦ rw (get_or_past (take n b) i 0 (omega (arith, length-take n b))) (omega arith)
    ]

pub IsBytes-rest : (first : ℕ) (b : List ℕ) → IsBytes (first ∷ b) → IsBytes b
IsBytes-rest first b h i = h (suc i)

-- ---- steps

-- the value of a step that did not fail
pub bind_ok : {A B : Type 0} (r : Result A Error) (f : A → Result B Error) (y : B) → (r >>= f) ≡ Ok y
    → (x : A) × (r ≡ Ok x) × (f x ≡ Ok y)
bind_ok (Ok x) f y e = (x, refl, e)
bind_ok (Err d) f y e = absurd cc

-- the step that failed
pub bind_err : {A B : Type 0} (r : Result A Error) (f : A → Result B Error) (e : Error) → (r >>= f) ≡ Err e
    → (r ≡ Err e) ⊎ ((x : A) × (r ≡ Ok x) × (f x ≡ Err e))
bind_err (Ok x) f e h = inr (x, refl, h)
bind_err (Err d) f e h = inl cc

-- the same of counted steps
pub then_ok : {A B : Type 0} (c : Counted A) (f : A × List ℕ → Counted B) (y : B × List ℕ) → (c >>- f).1 ≡ Ok y
    → (x : A × List ℕ) × (c.1 ≡ Ok x) × ((f x).1 ≡ Ok y)
then_ok {A = A} {B = B} c f y e = go c.0 c.1 e
  where
    go : (n : ℕ) (r : Read A) → (go_on n r f).1 ≡ Ok y → (x : A × List ℕ) × (r ≡ Ok x) × ((f x).1 ≡ Ok y)
    go n (Ok x) e = (x, refl, e)
    go n (Err d) e = absurd cc

pub then_err : {A B : Type 0} (c : Counted A) (f : A × List ℕ → Counted B) (e : Error) → (c >>- f).1 ≡ Err e
    → (c.1 ≡ Err e) ⊎ ((x : A × List ℕ) × (c.1 ≡ Ok x) × ((f x).1 ≡ Err e))
then_err {A = A} {B = B} c f e h = go c.0 c.1 h
  where
    go : (n : ℕ) (r : Read A) → (go_on n r f).1 ≡ Err e
        → (r ≡ Err e) ⊎ ((x : A × List ℕ) × (r ≡ Ok x) × ((f x).1 ≡ Err e))
    go n (Ok x) h = inr (x, refl, h)
    go n (Err d) h = inl cc

-- the branch that a test took
pub branch : {A : Type 0} (t : Bool) (x y z : A) → cond t x y ≡ z → ((t ≡ true) × (x ≡ z)) ⊎ ((t ≡ false) × (y ≡ z))
branch true x y z e = inl (refl, e)
branch false x y z e = inr (refl, e)

abbrev pub done : {A : Type 0} → A → Result A Error
done x = Ok x

abbrev pub refused : {A : Type 0} → Error → Result A Error
refused e = Err e

pub ok_is : {A : Type 0} (x y : A) → done x ≡ done y → x ≡ y
ok_is x y e = cc

pub cons_is : (x y : ℕ) (xs ys : List ℕ) → (x ∷ xs) ≡ (y ∷ ys) → (x ≡ y) × (xs ≡ ys)
cons_is x y xs ys e = (cc, cc)

-- ---- numbers of a fixed number of bytes

pub record IsWide (w : Width) (limit : ℕ) : Type 0 where
  pub len : (n : ℕ) → length (to_be_bytes w n) ≡ byte_len w
  pub back : (b : List ℕ) → length b ≡ byte_len w → IsBytes b → to_be_bytes w (from_be_bytes w b) ≡ b
  pub again : (n : ℕ) → n < limit → from_be_bytes w (to_be_bytes w n) ≡ n
  pub below : (b : List ℕ) → IsBytes b → from_be_bytes w b < limit

pub byte_of : (n : ℕ) → n < 256 → to_be_bytes w8 n ≡ n ∷ []
byte_of n lt = ap (λ (k : ℕ). k ∷ []) (omega arith)

byte_back : (b : List ℕ) → length b ≡ 1 → IsBytes b → to_be_bytes w8 (from_be_bytes w8 b) ≡ b
byte_back [] len fits = absurd (omega arith)
byte_back (x ∷ []) len fits = byte_of x (fits 0)
byte_back (x ∷ (y ∷ b)) len fits = absurd (omega arith)

pub wide8 : IsWide w8 (2 ^ 8)
wide8 = record {
  len = λ n. refl;
  back = byte_back;
  again = λ n lt. omega arith;
  below = λ b fits. omega (arith, fits 0);
}

pub wide16 : IsWide w16 (2 ^ 16)
wide16 = record {
  len = λ n. refl;
  back = λ b len fits. be_bytes_2 b _ len fits refl;
  again = λ n lt. from_be_bytes-to_be_bytes_2 n lt;
  below = λ b fits. omega (arith, fits 0, fits 1);
}

pub wide32 : IsWide w32 (2 ^ 32)
wide32 = record {
  len = λ n. refl;
  back = λ b len fits. be_bytes_4 b _ len fits refl;
  again = λ n lt. from_be_bytes-to_be_bytes_4 n lt;
  below = λ b fits. omega (arith, fits 0, fits 1, fits 2, fits 3);
}

pub wide64 : IsWide w64 (2 ^ 64)
wide64 = record {
  len = λ n. refl;
  back = λ b len fits. be_bytes_8 b _ len fits refl;
  again = λ n lt. from_be_bytes-to_be_bytes_8 n lt;
  below = λ b fits. omega (arith, fits 0, fits 1, fits 2, fits 3, fits 4, fits 5, fits 6, fits 7);
}

-- a test on a length that went on
pub guard_ok : {A : Type 0} (t : Bool) (d : Error) (x y : A) → cond t (Err d) (Ok x) ≡ Ok y → (t ≡ false) × (x ≡ y)
guard_ok true d x y e = absurd cc
guard_ok false d x y e = (refl, cc)

pub guard_held : {A : Type 0} (t : Bool) (d : Error) (x y : A) → cond t (Ok x) (Err d) ≡ Ok y → (t ≡ true) × (x ≡ y)
guard_held true d x y e = (refl, cc)
guard_held false d x y e = absurd cc

-- what a number took from the front, where a number of n bytes was read
pub number_takes : (w : Width) (limit : ℕ) (wide : IsWide w limit) (b : List ℕ) (n : ℕ) (rest : List ℕ) → IsBytes b
    → read_number w b ≡ Ok (n, rest) → (b ≡ to_be_bytes w n ++ rest) × (n < limit) × IsBytes rest
number_takes w limit wide b n rest fits e =
    let g = guard_ok (ltb (length b) (byte_len w)) refusal.CutShort
    (from_be_bytes w (take (byte_len w) b), drop (byte_len w) b) (n, rest) e in
    let long : byte_len w ≤ length b = ltb-false _ _ g.0 in
    let n-is : from_be_bytes w (take (byte_len w) b) ≡ n = ap (λ (p : ℕ × List ℕ). p.0) g.1 in
    let rest-is : drop (byte_len w) b ≡ rest = ap (λ (p : ℕ × List ℕ). p.1) g.1 in
    let front : to_be_bytes w n ≡ take (byte_len w) b =
    rw (← n-is) (wide.back (take (byte_len w) b) (omega (arith, length-take (byte_len w) b))
    (IsBytes-take (byte_len w) b fits)) in (
      rw (front, ← rest-is) (sym (take-append-drop (byte_len w) b)),
      rw (← n-is) (wide.below (take (byte_len w) b) (IsBytes-take (byte_len w) b fits)),
      rw (← rest-is) (IsBytes-drop (byte_len w) b fits),
    )

pub number_again : (w : Width) (limit : ℕ) (wide : IsWide w limit) (n : ℕ) (rest : List ℕ) → n < limit
    → read_number w (to_be_bytes w n ++ rest) ≡ Ok (n, rest)
number_again w limit wide n rest lt =
    let len = wide.len n in
    let long : ltb (length (to_be_bytes w n ++ rest)) (byte_len w) ≡ false =
    le-ltb _ _ (omega (arith, length-append (to_be_bytes w n) rest)) in
    rw (
      long,
      take_at (to_be_bytes w n) rest (byte_len w) len,
      drop_at (to_be_bytes w n) rest (byte_len w) len,
      wide.again n lt,
    ) refl

-- ---- five bits of info

-- the info of a head with this width, and the bytes of the number after it
abbrev pub bits_of : IntegerWidth → ℕ → ℕ
bits_of Unknown n = n
bits_of Zero n = n
bits_of Eight n = 24
bits_of Sixteen n = 25
bits_of ThirtyTwo n = 26
bits_of SixtyFour n = 27

abbrev pub number_bytes : IntegerWidth → ℕ → List ℕ
number_bytes Unknown n = []
number_bytes Zero n = []
number_bytes Eight n = to_be_bytes w8 n
number_bytes Sixteen n = to_be_bytes w16 n
number_bytes ThirtyTwo n = to_be_bytes w32 n
number_bytes SixtyFour n = to_be_bytes w64 n

pub head_parts : (major n : ℕ) (w : IntegerWidth) → FitsStated w n
    → (head major n w ≡ (32 * major + bits_of w n) ∷ number_bytes w n) × (bits_of w n < 28)
head_parts major n Unknown fits = absurd fits
head_parts major n Zero fits = (refl, omega arith)
head_parts major n Eight fits = (refl, omega arith)
head_parts major n Sixteen fits = (refl, omega arith)
head_parts major n ThirtyTwo fits = (refl, omega arith)
head_parts major n SixtyFour fits = (refl, omega arith)

-- what follows five bits of info
abbrev pub ArgumentIs : ℕ → Argument → List ℕ → List ℕ → Type 0
ArgumentIs bits (Number n w) b rest = FitsStated w n × (bits ≡ bits_of w n) × (b ≡ number_bytes w n ++ rest)
    × IsBytes rest
ArgumentIs bits Indefinite b rest = (bits ≡ 31) × (b ≡ rest) × IsBytes rest

wide_takes : (wide_w : Width) (limit : ℕ) (wide : IsWide wide_w limit) (w : IntegerWidth) (b rest : List ℕ)
    (i : Argument) → IsBytes b → read_wide wide_w w b ≡ Ok (i, rest) → (n : ℕ) × (Number n w ≡ i) × (n < limit)
    × (b ≡ to_be_bytes wide_w n ++ rest) × IsBytes rest
unfolding read_wide
wide_takes wide_w limit wide w b rest i fits e =
    let a = bind_ok (read_number wide_w b) (λ n. Ok (Number n.0 w, n.1)) (i, rest) e in
    let n : ℕ = a.0.0 in
    let made : (Number n w, a.0.1) ≡ (i, rest) = ok_is (Number n w, a.0.1) (i, rest) a.2 in
    let rest-is : a.0.1 ≡ rest = ap (λ (p : Argument × List ℕ). p.1) made in
    let t = number_takes wide_w limit wide b n a.0.1 fits a.1 in (
      n,
      ap (λ (p : Argument × List ℕ). p.0) made,
      t.1,
      subst (λ (r : List ℕ). b ≡ to_be_bytes wide_w n ++ r) rest-is t.0,
      subst IsBytes rest-is t.2,
    )

wide_again : (wide_w : Width) (limit : ℕ) (wide : IsWide wide_w limit) (w : IntegerWidth) (n : ℕ) (rest : List ℕ)
    → n < limit → read_wide wide_w w (to_be_bytes wide_w n ++ rest) ≡ Ok (Number n w, rest)
unfolding read_wide
wide_again wide_w limit wide w n rest lt = rw (number_again wide_w limit wide n rest lt) refl

wide_is : (bits : ℕ) (wide_w : Width) (limit : ℕ) (wide : IsWide wide_w limit) (w : IntegerWidth) (b rest : List ℕ)
    (i : Argument) → IsBytes b → read_wide wide_w w b ≡ Ok (i, rest)
    → ((n : ℕ) → n < limit → b ≡ to_be_bytes wide_w n ++ rest → IsBytes rest → ArgumentIs bits (Number n w) b rest)
    → ArgumentIs bits i b rest
wide_is bits wide_w limit wide w b rest i fits e found =
    let t = wide_takes wide_w limit wide w b rest i fits e in
    subst (λ (x : Argument). ArgumentIs bits x b rest) t.1 (found t.0 t.2 t.3 t.4)

-- a number in 2 ^ k bytes after the first
pub record WideInfo (info k : ℕ) (w : Width) (width : IntegerWidth) : Type 0 where
  pub limit : ℕ
  pub wide : IsWide w limit
  pub few : k ≤ 3
  pub is : info ≡ 24 + k
  pub len : byte_len w ≡ 2 ^ k
  pub bytes : (n : ℕ) → n < limit
      → FitsStated width n × (bits_of width n ≡ info) × (number_bytes width n ≡ to_be_bytes w n)

-- what info asks for: nothing, since it is the number; the bytes of a number; nothing, since there is none; or it means
-- nothing
pub data InfoWay (info : ℕ) (b : List ℕ) : Type 0 where
  in_byte : info < 24 → read_argument info b ≡ Ok (Number info Zero, b) → InfoWay info b
  in_bytes : (k : ℕ) (w : Width) (width : IntegerWidth) → WideInfo info k w width
      → read_argument info b ≡ read_wide w width b → InfoWay info b
  no_number : info ≡ 31 → read_argument info b ≡ Ok (Indefinite, b) → InfoWay info b
  no_meaning : 28 ≤ info → info ≢ 31 → read_argument info b ≡ Err refusal.Head → InfoWay info b

in_width : (k : ℕ) (w : Width) (width : IntegerWidth) (limit : ℕ) → IsWide w limit → k ≤ 3 → byte_len w ≡ 2 ^ k
    → ((n : ℕ) → n < limit
    → FitsStated width n × (bits_of width n ≡ 24 + k) × (number_bytes width n ≡ to_be_bytes w n))
    → WideInfo (24 + k) k w width
in_width k w width limit wide few len bytes =
    record { limit = limit; wide = wide; few = few; is = refl; len = len; bytes = bytes }

pub info_way : (info : ℕ) (b : List ℕ) → InfoWay info b
unfolding read_argument
info_way info b =
    elim (cases_lt info 24) [
      | inl lt ↦ in_byte lt (rw (lt-ltb info 24 lt) refl)
      | inr le ↦ elim (cases_eq info 24) [
        | inl is ↦ rw is (in_bytes 0 w8 Eight (in_width 0 w8 Eight (2 ^ 8) wide8 (omega arith) refl
            (λ n lt. (lt, refl, refl))) refl)
        | inr no24 ↦ elim (cases_eq info 25) [
          | inl is ↦ rw is (in_bytes 1 w16 Sixteen (in_width 1 w16 Sixteen (2 ^ 16) wide16 (omega arith) refl
              (λ n lt. (lt, refl, refl))) refl)
          | inr no25 ↦ elim (cases_eq info 26) [
            | inl is ↦ rw is (in_bytes 2 w32 ThirtyTwo (in_width 2 w32 ThirtyTwo (2 ^ 32) wide32 (omega arith) refl
                (λ n lt. (lt, refl, refl))) refl)
            | inr no26 ↦ elim (cases_eq info 27) [
              | inl is ↦ rw is (in_bytes 3 w64 SixtyFour (in_width 3 w64 SixtyFour (2 ^ 64) wide64 (omega arith) refl
                  (λ n lt. (lt, refl, refl))) refl)
              | inr no27 ↦
                  elim (cases_eq info 31) [
                    | inl is ↦ no_number is (rw is refl)
                    | inr no31 ↦ no_meaning (omega arith) no31 (rw (
                      le-ltb info 24 le,
                      ne_eqb info 24 no24,
                      ne_eqb info 25 no25,
                      ne_eqb info 26 no26,
                      ne_eqb info 27 no27,
                      ne_eqb info 31 no31,
                    ) refl)
                  ]
            ]
          ]
        ]
      ]
    ]

pub info_takes : (bits : ℕ) (b rest : List ℕ) (i : Argument) → IsBytes b → read_argument bits b ≡ Ok (i, rest)
    → ArgumentIs bits i b rest
info_takes bits b rest i fits e =
    elim (info_way bits b) [
      | in_byte lt reads ↦
          let read : done (Number bits Zero, b) ≡ Ok (i, rest) = sym reads ∙ e in
          subst (λ (p : Argument × List ℕ). ArgumentIs bits p.0 b p.1) (ok_is (Number bits Zero, b) (i, rest) read)
          (lt, refl, refl, fits)
      | in_bytes k w width info reads ↦ wide_is bits w info.limit info.wide width b rest i fits (sym reads ∙ e)
          (λ n lt parts others.
          let p = info.bytes n lt in
          (p.0, sym p.1, parts ∙ ap (λ (x : List ℕ). x ++ rest) (sym p.2), others))
      | no_number is reads ↦
          let read : done (Indefinite, b) ≡ Ok (i, rest) = sym reads ∙ e in
          subst (λ (p : Argument × List ℕ). ArgumentIs bits p.0 b p.1) (ok_is (Indefinite, b) (i, rest) read)
          (is, refl, fits)
      | no_meaning least other reads ↦ absurd (let wrong = sym reads ∙ e in cc)
    ]

pub info_again : (w : IntegerWidth) (n : ℕ) (rest : List ℕ) → FitsStated w n
    → read_argument (bits_of w n) (number_bytes w n ++ rest) ≡ Ok (Number n w, rest)
unfolding read_argument
info_again Unknown n rest fits = absurd fits
info_again Zero n rest fits = rw (lt-ltb n 24 fits) refl
info_again Eight n rest fits = wide_again w8 (2 ^ 8) wide8 Eight n rest fits
info_again Sixteen n rest fits = wide_again w16 (2 ^ 16) wide16 Sixteen n rest fits
info_again ThirtyTwo n rest fits = wide_again w32 (2 ^ 32) wide32 ThirtyTwo n rest fits
info_again SixtyFour n rest fits = wide_again w64 (2 ^ 64) wide64 SixtyFour n rest fits

-- ---- heads

-- a head with that argument, and then the rest
abbrev pub ArgumentThen : ℕ → Argument → List ℕ → List ℕ → Type 0
ArgumentThen major (Number n w) b rest = HeadThen major n w b (λ r. r ≡ rest)
ArgumentThen major Indefinite b rest = b ≡ opening major ∷ rest

-- what a head is in bytes, with the bytes after it
abbrev pub HeadIs : ItemHead → List ℕ → List ℕ → Type 0
HeadIs (item_head.Integer n w) b rest = HeadThen 0 n w b (λ r. r ≡ rest)
HeadIs (item_head.Negative n w) b rest = HeadThen 1 n w b (λ r. r ≡ rest)
HeadIs (item_head.String kind a) b rest = ArgumentThen (major_of kind) a b rest
HeadIs (item_head.Array a) b rest = ArgumentThen 4 a b rest
HeadIs (item_head.Map a) b rest = ArgumentThen 5 a b rest
HeadIs (item_head.Tag n w) b rest = HeadThen 6 n w b (λ r. r ≡ rest)
HeadIs (item_head.Float bits float_width.Unknown) b rest = ⊥
HeadIs (item_head.Float bits float_width.Sixteen) b rest = (bits < 2 ^ 16) × (b ≡ (249 ∷ to_be_bytes w16 bits) ++ rest)
HeadIs (item_head.Float bits float_width.ThirtyTwo) b rest = (bits < 2 ^ 32)
    × (b ≡ (250 ∷ to_be_bytes w32 bits) ++ rest)
HeadIs (item_head.Float bits float_width.SixtyFour) b rest = (bits < 2 ^ 64)
    × (b ≡ (251 ∷ to_be_bytes w64 bits) ++ rest)
HeadIs (item_head.Simple n) b rest = (x : List ℕ) × (b ≡ x ++ rest) × SpellsSimple any x n

-- a head with more bytes after it
pub head_append : (major n : ℕ) (w : IntegerWidth) (b more : List ℕ) (Rest More : List ℕ → Type 0)
    → HeadThen major n w b Rest → ((r : List ℕ) → Rest r → More (r ++ more)) → HeadThen major n w (b ++ more) More
head_append major n w b more Rest More h then =
    (h.0, h.1 ++ more, ap (λ (x : List ℕ). x ++ more) h.2 ∙ append_assoc (head major n w) h.1 more, then h.1 h.3)

-- and without them
pub head_front : (major n : ℕ) (w : IntegerWidth) (b more : List ℕ) (Rest Front : List ℕ → Type 0)
    → HeadThen major n w b Rest → ((r : List ℕ) → Rest r → (f : List ℕ) × (r ≡ f ++ more) × Front f)
    → (front : List ℕ) × (b ≡ front ++ more) × HeadThen major n w front Front
head_front major n w b more Rest Front h then =
    let t = then h.1 h.3 in (
      head major n w ++ t.0,
      h.2 ∙ ap (λ (x : List ℕ). head major n w ++ x) t.1
          ∙ sym (append_assoc (head major n w) t.0 more),
      (h.0, t.0, refl, t.2),
    )

-- what follows a head is shorter
pub head_shorter : (major n : ℕ) (w : IntegerWidth) (b : List ℕ) (Rest : List ℕ → Type 0)
    (h : HeadThen major n w b Rest) → length h.1 < length b
head_shorter major n w b Rest h =
    let p = head_parts major n w h.0 in
    rw (h.2, p.0) (omega (arith, length-append (number_bytes w n) h.1))

-- the first byte and what its info asks for, which a head's bytes are
pub record Opened (major n : ℕ) (w : IntegerWidth) (b rest : List ℕ) : Type 0 where
  pub first : ℕ
  pub tail : List ℕ
  pub parts : b ≡ first ∷ tail
  pub major_is : first / 32 ≡ major
  pub bits_are : first % 32 < 28
  pub info_is : read_argument (first % 32) tail ≡ Ok (Number n w, rest)

pub opened : (major n : ℕ) (w : IntegerWidth) (b rest : List ℕ) → HeadThen major n w b (λ r. r ≡ rest)
    → Opened major n w b rest
opened major n w b rest h =
    let p = head_parts major n w h.0 in
    let bits : ℕ = bits_of w n in
    let bits-is : (32 * major + bits) % 32 ≡ bits = omega (arith, p.1) in
    record {
      first = 32 * major + bits;
      tail = number_bytes w n ++ rest;
      parts = h.2 ∙ ap (λ (x : List ℕ). x ++ h.1) p.0
          ∙ ap (λ (x : List ℕ). (32 * major + bits) ∷ (number_bytes w n ++ x)) h.3;
      major_is = omega (arith, p.1);
      bits_are = omega (arith, p.1);
      info_is = rw bits-is (info_again w n rest h.0);
    }

pub head_again : (major : ℕ) (a : Argument) (h : ItemHead) (b rest : List ℕ) → major ≤ 7 → ArgumentThen major a b rest
    → head_of major a ≡ Ok h → read_head b ≡ Ok (h, rest)
unfolding read_head read_argument
head_again major (Number n w) h b rest le is e =
    let o = opened major n w b rest is in
    ap read_head o.parts ∙ rw (o.info_is, o.major_is, e) refl
head_again major Indefinite h b rest le is e =
    let bits-are : (32 * major + 31) % 32 ≡ 31 = omega arith in
    let major-is : (32 * major + 31) / 32 ≡ major = omega arith in
    ap read_head is ∙ rw (bits-are, major-is, e) refl

-- a number after the first byte is a head
pub head_then : (major bits n : ℕ) (w : IntegerWidth) (b rest : List ℕ) → ArgumentIs bits (Number n w) b rest
    → HeadThen major n w ((32 * major + bits) ∷ b) (λ r. r ≡ rest)
head_then major bits n w b rest i =
    let p = head_parts major n w i.0 in
    let is : (32 * major + bits) ∷ b ≡ head major n w ++ rest = rw (i.1, i.2, p.0) refl in
    (i.0, rest, is, refl)

-- simple values and floats
simple_takes : (bits n : ℕ) (w : IntegerWidth) (b rest : List ℕ) → ArgumentIs bits (Number n w) b rest
    → HeadIs (simple_or_float n w) ((224 + bits) ∷ b) rest
simple_takes bits n Unknown b rest i = absurd i.0
simple_takes bits n Zero b rest i = ((224 + n) ∷ [], rw (i.1, i.2) refl, inl (i.0, refl))
simple_takes bits n Eight b rest i = (
  248 ∷ n ∷ [],
  rw (i.1, i.2) (ap (λ (x : List ℕ). 248 ∷ (x ++ rest)) (byte_of n i.0)),
  inr (i.0, refl),
)
simple_takes bits n Sixteen b rest i = (i.0, rw (i.1, i.2) refl)
simple_takes bits n ThirtyTwo b rest i = (i.0, rw (i.1, i.2) refl)
simple_takes bits n SixtyFour b rest i = (i.0, rw (i.1, i.2) refl)

-- what holds at each major type
pub at_majors : (P : ℕ → Type 0) → P 0 → P 1 → P 2 → P 3 → P 4 → P 5 → P 6 → P 7 → (major : ℕ) → major ≤ 7 → P major
at_majors P a b c d e f g h zero le = a
at_majors P a b c d e f g h (suc zero) le = b
at_majors P a b c d e f g h (suc (suc zero)) le = c
at_majors P a b c d e f g h (suc (suc (suc zero))) le = d
at_majors P a b c d e f g h (suc (suc (suc (suc zero)))) le = e
at_majors P a b c d e f g h (suc (suc (suc (suc (suc zero))))) le = f
at_majors P a b c d e f g h (suc (suc (suc (suc (suc (suc zero)))))) le = g
at_majors P a b c d e f g h (suc (suc (suc (suc (suc (suc (suc zero))))))) le = h
at_majors P a b c d e f g h (suc (suc (suc (suc (suc (suc (suc (suc m)))))))) le = absurd (omega arith)

-- what a head of each major type and with this argument is
head_of_takes : (bits : ℕ) (a : Argument) (b rest : List ℕ) (h : ItemHead) → ArgumentIs bits a b rest → (major : ℕ)
    → major ≤ 7 → head_of major a ≡ Ok h → HeadIs h ((32 * major + bits) ∷ b) rest
unfolding head_of
head_of_takes bits (Number n w) b rest h is =
    let found = λ (o : ItemHead) (first : ℕ) (this : HeadIs o (first ∷ b) rest) (e : done o ≡ Ok h).
    subst (λ (x : ItemHead). HeadIs x (first ∷ b) rest) (ok_is o h e) this in
    let then = λ (major : ℕ). head_then major bits n w b rest is in
    at_majors (λ m. head_of m (Number n w) ≡ Ok h → HeadIs h ((32 * m + bits) ∷ b) rest)
    (found (item_head.Integer n w) (32 * 0 + bits) (then 0)) (found (item_head.Negative n w) (32 * 1 + bits) (then 1))
    (found (item_head.String Bytes (Number n w)) (32 * 2 + bits) (then 2))
    (found (item_head.String Text (Number n w)) (32 * 3 + bits) (then 3))
    (found (item_head.Array (Number n w)) (32 * 4 + bits) (then 4))
    (found (item_head.Map (Number n w)) (32 * 5 + bits) (then 5)) (found (item_head.Tag n w) (32 * 6 + bits) (then 6))
    (found (simple_or_float n w) (32 * 7 + bits) (simple_takes bits n w b rest is))
head_of_takes bits Indefinite b rest h is =
    let found = λ (o : ItemHead) (first : ℕ) (this : HeadIs o (first ∷ b) rest) (e : done o ≡ Ok h).
    subst (λ (x : ItemHead). HeadIs x (first ∷ b) rest) (ok_is o h e) this in
    let behind : (first : ℕ) → (first ∷ b) ≡ first ∷ rest = λ first. ap (λ (r : List ℕ). first ∷ r) is.1 in
    rw is.0 (at_majors (λ m. head_of m Indefinite ≡ Ok h → HeadIs h ((32 * m + 31) ∷ b) rest) (λ e. absurd cc)
    (λ e. absurd cc) (found (item_head.String Bytes Indefinite) 95 (behind 95))
    (found (item_head.String Text Indefinite) 127 (behind 127))
    (found (item_head.Array Indefinite) 159 (behind 159)) (found (item_head.Map Indefinite) 191 (behind 191))
    (λ e. absurd cc) (λ e. absurd cc))

pub argument_rest : (bits : ℕ) (a : Argument) (b rest : List ℕ) → ArgumentIs bits a b rest → IsBytes rest
argument_rest bits (Number n w) b rest is = is.3
argument_rest bits Indefinite b rest is = is.2

pub head_takes : (b rest : List ℕ) (h : ItemHead) → IsBytes b → read_head b ≡ Ok (h, rest)
    → HeadIs h b rest × IsBytes rest
unfolding read_head
head_takes [] rest h fits e = absurd cc
head_takes (first ∷ b) rest h fits e =
    let a = bind_ok (read_argument (first % 32) b) (λ a. head_of (first / 32) a.0 >>= λ h. Ok (h, a.1)) (h, rest) e in
    let c = bind_ok (head_of (first / 32) a.0.0) (λ h. Ok (h, a.0.1)) (h, rest) a.2 in
    let is = info_takes (first % 32) b a.0.1 a.0.0 (IsBytes-rest first b fits) a.1 in
    let byte : first < 256 = fits 0 in
    let whole : 32 * (first / 32) + first % 32 ≡ first = omega arith in
    let found = head_of_takes (first % 32) a.0.0 b a.0.1 c.0 is (first / 32) (omega arith) c.1 in
    subst (λ (x : ItemHead × List ℕ). HeadIs x.0 (first ∷ b) x.1 × IsBytes x.1) (ok_is (c.0, a.0.1) (h, rest) c.2)
    (rw whole at found, argument_rest (first % 32) a.0.0 b a.0.1 is)
