use Rattle.std.proofs.Common.{◌≡◌, ℕ, zero, suc, ◌+◌, ◌*◌, ◌^◌, ◌<◌, ◌≤◌, ◌||◌, Bool, true, false, nat_lt}
use Rattle.std.proofs.Common.{refl, sym, ap, ◌∙◌, arith, pow-add}
use Rattle.std.proofs.lemmas.Bool.Decides.{nat_tests}
use Rattle.cbor_edn_tokens.proofs.hex_float.nearest.Front.then.Goals as goal

-- a short front has nothing behind it
alone : (f behind tail n digit : ℕ) → f < 2 ^ 56 → (0 < behind → 2 ^ 56 ≤ f) → tail < 2 ^ (4 * behind)
    → n ≡ f * 2 ^ (4 * behind) + tail → n * 16 + digit ≡ (f * 16 + digit) * 2 ^ (4 * behind) + tail
alone f zero tail n digit short long less is = omega (arith, less, is)
alone f (suc b) tail n digit short long less is = absurd (omega (arith, short, long (omega arith)))

wider : (b : ℕ) → 2 ^ (4 * (b + 1)) ≡ 2 ^ (4 * b) * 16
wider b = ap (λ z. 2 ^ z) {x = 4 * (b + 1)} {y = 4 * b + 4} (omega arith) ∙ pow-add 2 (4 * b) 4

longer : (f b tail n digit : ℕ) → n ≡ f * 2 ^ (4 * b) + tail
    → n * 16 + digit ≡ f * 2 ^ (4 * (b + 1)) + (tail * 16 + digit)
longer f b tail n digit is =
    let p : f * 2 ^ (4 * (b + 1)) ≡ f * (2 ^ (4 * b) * 16) = ap (λ z. f * z) (wider b) in
    let q : f * (2 ^ (4 * b) * 16) ≡ f * 2 ^ (4 * b) * 16 = omega arith in
    omega (arith, is, p, q)

some_more : (more : Bool) (digit tail : ℕ) → (more ≡ true → 0 < tail) → (more || nat_lt 0 digit) ≡ true
    → 0 < tail * 16 + digit
some_more true digit tail some e = omega (arith, some refl)
some_more false digit tail some e = grind (arith, nat_tests, e)

no_more : (more : Bool) (digit tail : ℕ) → (more ≡ false → tail ≡ 0) → (more || nat_lt 0 digit) ≡ false
    → tail * 16 + digit ≡ 0
no_more true digit tail none e = absurd cc
no_more false digit tail none e =
    let zero_digit : digit ≡ 0 = grind (arith, nat_tests, e) in omega (arith, none refl, zero_digit)

pub returns-then-self-clause-number : goal.returns-then-self-clause-number
returns-then-self-clause-number c = λ n is. record {
  tail = is.tail;
  behind = record { less = is.behind.less; some = is.behind.some; none = is.behind.none };
  number = alone c.args.self.digits c.args.self.behind is.tail n c.args.digit c.if-self.true c.requires.fits.long
      is.behind.less is.number;
}

pub returns-else-self-clause-number : goal.returns-else-self-clause-number
returns-else-self-clause-number c = λ n is. record {
  tail = is.tail * 16 + c.args.digit;
  behind = record {
    less = omega (arith, wider c.args.self.behind, is.behind.less, c.requires.digit);
    some = λ e. some_more c.args.self.more c.args.digit is.tail is.behind.some (sym c.is_more.ensures ∙ e);
    none = λ e. no_more c.args.self.more c.args.digit is.tail is.behind.none (sym c.is_more.ensures ∙ e);
  };
  number = longer c.args.self.digits c.args.self.behind is.tail n c.args.digit is.number;
}
