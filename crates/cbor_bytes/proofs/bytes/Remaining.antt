-- For all readers of bytes: after one more member or pair of a container, what is still to come (`left_of`) is
-- `one_less` of what was to come before.
use Rattle.std.proofs.Common.{◌≡◌, ℕ, zero, suc, ◌+◌, ◌-◌, List, [], ◌∷◌, ◌++◌, length, refl, sym, ap, ◌∙◌, arith}
use Rattle.std.proofs.lemmas.List.{length-append}
use Rattle.cbor_grammar.specs.declared.width.IntegerWidth.{IntegerWidth}
use Rattle.cbor_grammar.specs.declared.argument.Argument.{Argument}
use Rattle.cbor_grammar.specs.declared.argument.Argument.TheVariants.{Number, Indefinite}
use Rattle.cbor_grammar.specs.declared.argument.Argument.TheVariants.{Number}
use Rattle.cbor_grammar.specs.Reading.{one_less}
use Rattle.cbor_grammar.specs.mirror.Lengths.{left_of}

less_one : (n : ℕ) (w : IntegerWidth) → one_less (Number n w) ≡ Number (n - 1) w
less_one zero w = refl
less_one (suc n) w = let e : suc n - 1 ≡ n = omega arith in ap (λ k. Number k w) (sym e)

pub left_less : (len : Argument) (held : ℕ) → left_of len (held + 1) ≡ one_less (left_of len held)
left_less (Number n w) held = let e : n - (held + 1) ≡ (n - held) - 1 = omega arith in ap (λ k. Number k w) e
    ∙ sym (less_one (n - held) w)
left_less Indefinite held = refl

-- what is still to come after one more was pushed
pub left_pushed : {A : Type 0} (len : Argument) (xs : List A) (x : A)
    → left_of len (length (xs ++ x ∷ [])) ≡ left_of len (length xs + 1)
left_pushed len xs x = let e : length (xs ++ x ∷ []) ≡ length xs + 1 =
    omega (arith, length-append xs (x ∷ [])) in ap (left_of len) e
