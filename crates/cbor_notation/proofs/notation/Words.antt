-- `read_core` reads each simple value and each float that the grammar has (`SimpleOf`, `FloatOf`), whatever follows it.
use Rattle.std.proofs.Common.{◌≡◌, ℕ, ◌+◌, ◌-◌, ◌<◌, true, false, ◌==◌, nat_lt, List, [], ◌∷◌, ◌++◌, length, take, drop}
use Rattle.std.proofs.Common.{codes, Option, Some, None, Ok, refl, sym, ap, ◌∙◌, inl, inr, arith}
use Rattle.std.specs.List.{list_any, list_all, position}
use Rattle.std.specs.Char.{digit_value}
use Rattle.std.specs.Str.Parse.{AllDigits}
use Rattle.std.proofs.lemmas.Bool.{and_from, or_from, lt-ltb, ne_eqb}
use Rattle.std.proofs.lemmas.List.{append_assoc, length-append, take_at, drop_at}
use Rattle.cbor_tokens.specs.Token.{AreDigits}
use Rattle.cbor_tokens.proofs.tokens.NumberFronts.{decimal_number}
use Rattle.cbor_tokens.proofs.tokens.Numbers.{number_of-append}
use Rattle.cbor_grammar.specs.declared.width.FloatWidth.{FloatWidth}
use Rattle.cbor_grammar.specs.declared.width.FloatWidth.TheVariants as float_width
use Rattle.cbor_grammar.specs.Item.{Item, atom, float, simple}
use Rattle.cbor_grammar.specs.Reading.{Read, ◌>>=◌}
use Rattle.cbor_grammar.specs.Notation.{NamedSimple, SimpleOf, FloatDigits, FloatOf}
use Rattle.cbor_notation.specs.mirror.NotationReading.{or_refused, numeral, read_number, simple_value, read_simple}
use Rattle.cbor_notation.specs.mirror.NotationReading.{float_of, read_float, start_of, read_core}
use Rattle.cbor_notation.proofs.notation.Ends.{ends_number}
use Rattle.cbor_notation.proofs.notation.Lists.{first_at}

all_digits : (base : ℕ) (ds : List ℕ) → AllDigits base ds → list_all (λ c. nat_lt (digit_value c) base) ds ≡ true
all_digits base [] all = refl
all_digits base (d ∷ ds) all = and_from (nat_lt (digit_value d) base) _ (lt-ltb (digit_value d) base all.0)
    (all_digits base ds all.1)

-- ---- simple values

in_front : (front rest : List ℕ) → take (length (front ++ rest) - length rest) (front ++ rest) ≡ front
in_front front rest = take_at front rest (length (front ++ rest) - length rest)
    (omega (arith, length-append front rest))

pub simple_digits : (ds rest : List ℕ) (n : ℕ) → AreDigits 10 ds n → n < 256
    → read_simple (ds ++ 41 ∷ rest) ≡ Ok (atom (simple n), rest)
simple_digits ds rest n are small =
    let tail : List ℕ = 41 ∷ rest in
    let read : read_number (ds ++ tail) ≡ Ok ((n, None), tail) =
    ap (λ (o : Option (ℕ × Option ℕ × List ℕ)). or_refused o >>= λ x. Ok ((x.0, x.1), x.2))
    (number_of-append ds tail n None (decimal_number ds n are) (ends_number (codes ")") tail refl refl)) in
    let value : simple_value n (take (length (ds ++ tail) - length tail) (ds ++ tail)) ≡ Ok n =
    ap (simple_value n) (in_front ds tail) ∙ rw (all_digits 10 ds are.0.1, lt-ltb n 256 small) refl in
    rw (read, value) refl

module _ (read : List ℕ → Read Item) where
  named_again : (text rest : List ℕ) (n : ℕ) → NamedSimple text n
      → read_core read (text ++ rest) ≡ Ok (atom (simple n), rest)
  unfolding read_core start_of
  named_again text rest n (inl is) = rw (is.0, is.1) refl
  named_again text rest n (inr (inl is)) = rw (is.0, is.1) refl
  named_again text rest n (inr (inr (inl is))) = rw (is.0, is.1) refl
  named_again text rest n (inr (inr (inr is))) = rw (is.0, is.1) refl

  pub simple_again : (text rest : List ℕ) (n : ℕ) → SimpleOf text n
      → read_core read (text ++ rest) ≡ Ok (atom (simple n), rest)
  unfolding read_core start_of
  simple_again text rest n (inl is) = named_again text rest n is
  simple_again text rest n (inr is) =
      let ds : List ℕ = is.0 in
      let whole : text ++ rest ≡ codes "simple(" ++ (ds ++ 41 ∷ rest) = ap (λ (t : List ℕ). t ++ rest) is.1
      ∙ ap (λ (t : List ℕ). codes "simple(" ++ t) (append_assoc ds (codes ")") rest) in
      ap (read_core read) whole ∙ simple_digits ds rest n is.2.0 is.2.1

  -- ---- floats

  no_apostrophe : (ds : List ℕ) → AllDigits 16 ds → list_any (λ b. b == 39) ds ≡ false
  no_apostrophe [] all = refl
  no_apostrophe (d ∷ ds) all =
      or_from (d == 39) _ (ne_eqb d 39 (λ e. absurd (omega (arith, ap digit_value e, all.0, thirty_six))))
      (no_apostrophe ds all.1)
    where
      thirty_six : digit_value 39 ≡ 36
      thirty_six = refl

  float_of_again : (w : FloatWidth) (count : ℕ) → FloatDigits w count → float_of count ≡ Some w
  float_of_again float_width.Unknown count is = absurd is
  float_of_again _ count is = rw is refl

  numeral_again : (base : ℕ) (ds : List ℕ) (n : ℕ) → AreDigits base ds n → numeral base ds ≡ Some n
  numeral_again base [] n are = absurd (omega (arith, are.0.0))
  numeral_again base (d ∷ ds) n are = rw (all_digits base (d ∷ ds) are.0.1) (ap (λ (m : ℕ). Some m) (sym are.1))

  float_digits : (ds rest : List ℕ) (bits : ℕ) (w : FloatWidth) → AreDigits 16 ds bits → FloatDigits w (length ds)
      → read_float (ds ++ 39 ∷ rest) ≡ Ok (atom (float bits w), rest)
  float_digits ds rest bits w are count =
      let text : List ℕ = ds ++ 39 ∷ rest in
      let found : position (λ b. b == 39) text ≡ Some (length ds) =
      first_at (λ b. b == 39) ds 39 rest (no_apostrophe ds are.0.1) refl in
      let digits_are : numeral 16 (take (length ds) text) ≡ Some bits =
      ap (numeral 16) (take_at ds (39 ∷ rest) (length ds) refl) ∙ numeral_again 16 ds bits are in
      let left : drop (length ds + 1) text ≡ rest =
      ap (drop (length ds + 1)) (sym (append_assoc ds (39 ∷ []) rest))
      ∙ drop_at (ds ++ 39 ∷ []) rest (length ds + 1) (omega (arith, length-append ds (39 ∷ []))) in
      rw (found, float_of_again w (length ds) count, digits_are, left) refl

  pub float_again : (text rest : List ℕ) (bits : ℕ) (w : FloatWidth) → FloatOf text bits w
      → read_core read (text ++ rest) ≡ Ok (atom (float bits w), rest)
  unfolding read_core start_of
  float_again text rest bits w is =
      let ds : List ℕ = is.0 in
      let whole : text ++ rest ≡ codes "float'" ++ (ds ++ 39 ∷ rest) = ap (λ (t : List ℕ). t ++ rest) is.1
      ∙ ap (λ (t : List ℕ). codes "float'" ++ t) (append_assoc ds (codes "'") rest) in
      ap (read_core read) whole ∙ float_digits ds rest bits w is.2.0 is.2.1
