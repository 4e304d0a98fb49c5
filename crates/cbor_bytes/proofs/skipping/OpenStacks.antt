-- For `skip/packed.rt`: the two arrays of `Packed`, of kinds and of numbers, are a stack of open containers
-- (`with_counts`). The length, a push (if fewer than 128 are open) and a pop of the arrays are those of the stack.
use Rattle.std.proofs.Common.{◌≡◌, ℕ, ◌+◌, ◌<◌, ◌≤◌, List, [], ◌∷◌, ◌++◌, length, get_or, take, refl, sym, ap, ◌∙◌}
use Rattle.std.proofs.Common.{arith}
use Rattle.std.proofs.Math.ListN.{set}
use Rattle.std.proofs.lemmas.List.{length-take-le, take_more, take_more_set}
use Rattle.cbor_bytes.specs.declared.skip.to_come.Kind.{Kind}
use Rattle.cbor_bytes.specs.declared.skip.to_come.ToCome.{ToCome}
use Rattle.cbor_bytes.specs.mirror.OpenStack.{to_come_of, with_counts}

length_with : (ps : List Kind) (ns : List ℕ) → length ps ≡ length ns → length (with_counts ps ns) ≡ length ps
length_with [] ns same = refl
length_with (p ∷ ps) [] same = absurd (omega arith)
length_with (p ∷ ps) (n ∷ ns) same = let rest = length_with ps ns (omega arith) in omega arith

with_more : (ps : List Kind) (ns : List ℕ) (k : Kind) (m : ℕ) → length ps ≡ length ns
    → with_counts (ps ++ k ∷ []) (ns ++ m ∷ []) ≡ with_counts ps ns ++ to_come_of k m ∷ []
with_more [] [] k m same = refl
with_more [] (n ∷ ns) k m same = absurd (omega arith)
with_more (p ∷ ps) [] k m same = absurd (omega arith)
with_more (p ∷ ps) (n ∷ ns) k m same =
    ap (λ (ts : List ToCome). to_come_of p n ∷ ts) (with_more ps ns k m (omega arith))

module _ (ps : List Kind) (ns : List ℕ) (len : ℕ) (kinds : length ps ≡ 128) (numbers : length ns ≡ 128) where
  same_fronts : len ≤ 128 → length (take len ps) ≡ length (take len ns)
  same_fronts le = length-take-le len ps (omega arith) ∙ sym (length-take-le len ns (omega arith))

  pub stack_len : len ≤ 128 → length (with_counts (take len ps) (take len ns)) ≡ len
  stack_len le = length_with (take len ps) (take len ns) (same_fronts le) ∙ length-take-le len ps (omega arith)

  pub stack_push : (k : Kind) (m : ℕ) (t : ToCome) → to_come_of k m ≡ t → len < 128
      → with_counts (take (len + 1) (set ps len k)) (take (len + 1) (set ns len m))
      ≡ with_counts (take len ps) (take len ns) ++ t ∷ []
  stack_push k m t is lt = ap (λ (z : List Kind). with_counts z (take (len + 1) (set ns len m)))
      (take_more_set ps len k (omega arith))
      ∙ ap (with_counts (take len ps ++ k ∷ [])) (take_more_set ns len m (omega arith))
      ∙ with_more (take len ps) (take len ns) k m (same_fronts (omega arith))
      ∙ ap (λ (x : ToCome). with_counts (take len ps) (take len ns) ++ x ∷ []) is

  pub stack_pop : (m : ℕ) (d : Kind) (e : ℕ) (t : ToCome) → m + 1 ≡ len → len ≤ 128
      → t ≡ to_come_of (get_or ps m d) (get_or ns m e) → with_counts (take len ps) (take len ns)
      ≡ with_counts (take m ps) (take m ns) ++ t ∷ []
  stack_pop m d e t is le same = ap (λ (k : ℕ). with_counts (take k ps) (take k ns)) (sym is)
      ∙ ap (λ (z : List Kind). with_counts z (take (m + 1) ns)) (take_more ps m d (omega arith))
      ∙ ap (with_counts (take m ps ++ get_or ps m d ∷ [])) (take_more ns m e (omega arith))
      ∙ with_more (take m ps) (take m ns) (get_or ps m d) (get_or ns m e)
      (length-take-le m ps (omega arith) ∙ sym (length-take-le m ns (omega arith)))
      ∙ ap (λ (x : ToCome). with_counts (take m ps) (take m ns) ++ x ∷ []) (sym same)
