-- A number has at most one shortest encoding (`IsShortest`), and a text is read as at most one float in each width
-- (`IsReadAs`). In the width of an encoding of a number, a text of the number is read as this encoding.
use Rattle.std.proofs.Common.{◌≡◌, ℕ, ◌<◌, List, inl, inr, refl, sym, ◌∙◌, subst, lit<}
use Rattle.std.specs.Float.Ieee.{Float}
use Rattle.cbor_floats.specs.Decimal.{IsNumber, IsNoSingle, IsReadAs}
use Rattle.cbor_floats.specs.Value.{IsEncodingOf, IsShortest, width_of, size_of}
use Rattle.cbor_floats.specs.declared.float.EncodedFloat.{EncodedFloat}
use Rattle.cbor_floats.specs.declared.float.EncodedFloat.TheVariants.{Half, Single, Double}
use Rattle.cbor_floats.specs.declared.float.Width.{Width}
use Rattle.cbor_floats.specs.declared.float.Width.TheVariants.{Sixteen, ThirtyTwo, SixtyFour}
use Rattle.cbor_floats.proofs.Decimals.{one_number}
use Rattle.cbor_floats.proofs.Encodings.{one_encoding}

widths : (v w : Width) → (size_of v < size_of w → ⊥) → (size_of w < size_of v → ⊥) → v ≡ w
widths Sixteen Sixteen a b = refl
widths Sixteen ThirtyTwo a b = absurd (a (lit< tt))
widths Sixteen SixtyFour a b = absurd (a (lit< tt))
widths ThirtyTwo Sixteen a b = absurd (b (lit< tt))
widths ThirtyTwo ThirtyTwo a b = refl
widths ThirtyTwo SixtyFour a b = absurd (a (lit< tt))
widths SixtyFour Sixteen a b = absurd (b (lit< tt))
widths SixtyFour ThirtyTwo a b = absurd (b (lit< tt))
widths SixtyFour SixtyFour a b = refl

pub one_shortest : (x : Float) (a b : EncodedFloat) → IsShortest a x → IsShortest b x → a ≡ b
one_shortest x a b h k =
    one_encoding x a b h.encodes k.encodes (widths (width_of a) (width_of b) (λ l. k.shortest a l h.encodes)
    (λ l. h.shortest b l k.encodes))

-- an encoding in 32 bits of a number that no single is
no_such : (x : Float) (a : EncodedFloat) → width_of a ≡ ThirtyTwo → IsNoSingle x → IsEncodingOf a x → ⊥
no_such x (Half bits) w n h = let e : Sixteen ≡ ThirtyTwo = w in cc
no_such x (Single bits) w n h = n bits h
no_such x (Double bits) w n h = let e : SixtyFour ≡ ThirtyTwo = w in cc

pub one_reading : (text : List ℕ) (width : Width) (a b : EncodedFloat) → IsReadAs text width a → IsReadAs text width b
    → a ≡ b
one_reading text width a b h k =
    let same : h.x ≡ k.x = one_number text h.x k.x h.number k.number in
    let w : width_of a ≡ width_of b = h.width_is ∙ sym k.width_is in
    elim h.encodes [
      | inl p ↦ elim k.encodes [
        | inl q ↦ one_encoding k.x a b (subst (IsEncodingOf a) same p) q w
        | inr q ↦ absurd (no_such k.x a (h.width_is ∙ q.0) q.1 (subst (IsEncodingOf a) same p))
      ]
      | inr p ↦ elim k.encodes [
        | inl q ↦ absurd (no_such h.x b (k.width_is ∙ p.0) p.1 (subst (IsEncodingOf b) (sym same) q))
        | inr q ↦ one_encoding _ a b p.3 q.3 w
      ]
    ]

pub read_back : (text : List ℕ) (x : Float) (a : EncodedFloat) → IsNumber text x → IsEncodingOf a x
    → IsReadAs text (width_of a) a
read_back text x a n h = record { x = x; number = n; width_is = refl; encodes = inl h }
