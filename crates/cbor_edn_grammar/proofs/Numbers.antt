-- In the definitions of EDN, `parted` splits a word that is a number at its `_`, into the digits and the width. The
-- code holds each number past 2 ^ 64 as 2 ^ 64 + 1 (`capped_magnitude`); this changes no result of `unsigned` and
-- `negated`. Digits with more behind them are no number by themselves (`whole`).
use Rattle.std.proofs.Common.{◌≡◌, ℕ, zero, suc, ◌-◌, ◌^◌, ◌<◌, ◌==◌, List, [], ◌∷◌, length, take, drop}
use Rattle.std.proofs.Common.{position, Option, Some, None, refl, sym, ap, ◌∙◌, arith, min}
use Rattle.std.proofs.lemmas.Bool.Decides.{nat_tests}
use Rattle.cbor_tokens.specs.Token.{capped}
use Rattle.cbor_grammar.specs.declared.width.IntegerWidth.{IntegerWidth}
use Rattle.cbor_grammar.specs.declared.width.IntegerWidth.TheVariants.{Unknown, Zero, Eight, Sixteen, ThirtyTwo}
use Rattle.cbor_grammar.specs.declared.width.IntegerWidth.TheVariants.{SixtyFour}
use Rattle.cbor_edn_grammar.specs.declared.error.Stop.{Stop}
use Rattle.cbor_edn_grammar.specs.declared.error.Stop.TheVariants as stop
use Rattle.cbor_edn_grammar.specs.Reading.{◌>>=◌, Refuses}
use Rattle.cbor_edn_grammar.specs.Word.{width_of}
use Rattle.cbor_edn_grammar.specs.Number.{parted_at, parted, whole, magnitude, capped_magnitude, fitting, one_less}
use Rattle.cbor_edn_grammar.specs.Number.{unsigned, negated}

pub parted_none : (word : List ℕ) → None ≡ position (λ b. b == 95) word → parted word ≡ Some (word, Unknown)
parted_none word at = sym (ap (parted_at word) at)

pub parted_some : (word : List ℕ) (n : ℕ) (w : IntegerWidth) → Some n ≡ position (λ b. b == 95) word
    → Some w ≡ width_of (drop n word) → parted word ≡ Some (take n word, w)
parted_some word n w at width = sym (ap (parted_at word) at)
    ∙ sym (ap (λ r. r >>= λ width. Some (take n word, width)) width)

pub parted_bad : (word : List ℕ) (n : ℕ) → Some n ≡ position (λ b. b == 95) word
    → None ≡ width_of (drop n word) → parted word ≡ None
parted_bad word n at width = sym (ap (parted_at word) at)
    ∙ sym (ap (λ r. r >>= λ width. Some (take n word, width)) width)

pub ruleset parted_laws = (parted_none, parted_some, parted_bad)

nothing_whole : {X : Type 0} (x : X) (rest : List ℕ) → 0 < length rest → whole x rest ≡ None
nothing_whole x [] more = absurd (omega arith)
nothing_whole x (b ∷ rest) more = refl

-- ---- numbers past 2 ^ 64

capped_fits : (m : ℕ) (w : IntegerWidth) → fitting (capped m) w ≡ fitting m w
capped_fits m Unknown = grind (arith, nat_tests)
capped_fits m Zero = grind (arith, nat_tests)
capped_fits m Eight = grind (arith, nat_tests)
capped_fits m Sixteen = grind (arith, nat_tests)
capped_fits m ThirtyTwo = grind (arith, nat_tests)
capped_fits m SixtyFour = grind (arith, nat_tests)

less_fits : (m : ℕ) (w : IntegerWidth) → fitting (min m (2 ^ 64)) w ≡ fitting m w
less_fits m Unknown = grind (arith, nat_tests)
less_fits m Zero = grind (arith, nat_tests)
less_fits m Eight = grind (arith, nat_tests)
less_fits m Sixteen = grind (arith, nat_tests)
less_fits m ThirtyTwo = grind (arith, nat_tests)
less_fits m SixtyFour = grind (arith, nat_tests)

abbrev cap : ℕ × IntegerWidth → Option (ℕ × IntegerWidth)
cap m = Some (capped m.0, m.1)

-- what a magnitude was before it was capped
uncapped : (m : Option (ℕ × IntegerWidth)) (n : ℕ) (w : IntegerWidth) → (m >>= cap) ≡ Some (n, w)
    → (k : ℕ) × (n ≡ capped k) × (m ≡ Some (k, w))
uncapped None n w e = absurd cc
uncapped (Some m) n w e =
    let both : ◌≡◌ {A = ℕ × IntegerWidth} (capped m.0, m.1) (n, w) = cc in
    (m.0, sym (ap (λ (p : ℕ × IntegerWidth). p.0) both), ap (λ (p : ℕ × IntegerWidth). Some (m.0, p.1)) both)

nothing_capped : (m : Option (ℕ × IntegerWidth)) (go : ℕ × IntegerWidth → Option (ℕ × IntegerWidth))
    → (m >>= cap) ≡ None → (m >>= go) ≡ None
nothing_capped None go e = refl
nothing_capped (Some m) go e = absurd cc

pub unsigned_some : (word : List ℕ) (n : ℕ) (w : IntegerWidth) → capped_magnitude word ≡ Some (n, w)
    → unsigned word ≡ fitting n w
unsigned_some word n w e =
    let u = uncapped (magnitude word) n w e in
    ap (λ r. r >>= λ m. fitting m.0 m.1) u.2 ∙ sym (capped_fits u.0 w) ∙ ap (λ n. fitting n w) (sym u.1)

pub unsigned_refused : (e : Stop) (word : List ℕ) → Refuses e (capped_magnitude word) → Refuses e (unsigned word)
unsigned_refused stop.Memory word h = tt
unsigned_refused (stop.At x) word h = nothing_capped (magnitude word) (λ m. fitting m.0 m.1) h

one_less_fits : (k n : ℕ) (w : IntegerWidth) → n ≡ capped k → 0 < n → one_less k w ≡ fitting (n - 1) w
one_less_fits zero n w e more = absurd (omega arith)
one_less_fits (suc k) n w e more =
    let same : min k (2 ^ 64) ≡ n - 1 = omega arith in sym (less_fits k w) ∙ ap (λ n. fitting n w) same

pub negated_some : (word : List ℕ) (n : ℕ) (w : IntegerWidth) → capped_magnitude word ≡ Some (n, w) → 0 < n
    → negated word ≡ fitting (n - 1) w
negated_some word n w e more =
    let u = uncapped (magnitude word) n w e in
    ap (λ r. r >>= λ m. one_less m.0 m.1) u.2 ∙ one_less_fits u.0 n w u.1 more

one_less_zero : (k n : ℕ) (w : IntegerWidth) → n ≡ capped k → n ≡ 0 → one_less k w ≡ None
one_less_zero zero n w e none = refl
one_less_zero (suc k) n w e none = absurd (omega arith)

pub negated_zero : (word : List ℕ) (n : ℕ) (w : IntegerWidth) → capped_magnitude word ≡ Some (n, w) → n ≡ 0
    → negated word ≡ None
negated_zero word n w e none =
    let u = uncapped (magnitude word) n w e in
    ap (λ r. r >>= λ m. one_less m.0 m.1) u.2 ∙ one_less_zero u.0 n w u.1 none

pub negated_refused : (e : Stop) (word : List ℕ) → Refuses e (capped_magnitude word) → Refuses e (negated word)
negated_refused stop.Memory word h = tt
negated_refused (stop.At x) word h = nothing_capped (magnitude word) (λ m. one_less m.0 m.1) h

-- digits with more behind them are no number by themselves
pub whole_none : {X : Type 0} (x : X) (end : ℕ) (digits : List ℕ) → end < length digits
    → whole x (drop end digits) ≡ None
whole_none x zero digits more = nothing_whole x digits more
whole_none x (suc end) [] more = absurd (omega arith)
whole_none x (suc end) (d ∷ digits) more = whole_none x end digits (omega arith)
