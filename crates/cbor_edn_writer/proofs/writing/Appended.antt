-- If calls that append EDN run one after the other, all that they append is one text of the dialect: a part with a note
-- after it (`Noted`), with a note before it (`After`), with both (`Beside`) or without notes, or a float with its width
-- (`FloatText`). After an error, the text begins with the old one.
use Rattle.std.proofs.Common.{◌≡◌, ◌≢◌, List, ◌++◌, ℕ, Bool, true, Option, Result, Ok, Err, ap, subst, refl, ◌∙◌, inl}
use Rattle.std.proofs.Common.{inr, append_assoc}
use Rattle.std.specs.Float.Ieee.{Float}
use Rattle.cbor_floats.specs.Decimal.{IsTextOf}
use Rattle.cbor_floats.specs.Value.{value_of, IsEncodingOf}
use Rattle.cbor_tokens.specs.Appends.{Appends}
use Rattle.cbor_grammar.specs.declared.layout.ContainerStyle.{ContainerStyle}
use Rattle.cbor_grammar.specs.declared.width.FloatWidth.{FloatWidth}
use Rattle.cbor_grammar.specs.declared.width.IntegerWidth.{IntegerWidth}
use Rattle.cbor_grammar.specs.declared.width.IntegerWidth.TheVariants.{Unknown, Zero, Eight, Sixteen, ThirtyTwo}
use Rattle.cbor_grammar.specs.declared.width.IntegerWidth.TheVariants.{SixtyFour}
use Rattle.cbor_grammar.specs.NotationText.{indicator}
use Rattle.cbor_tokens.proofs.texts.Appending.{begins_through, begins_still, begins_same, appends_after}
use Rattle.cbor_notation_writer.specs.Dialect.{Texts, Wrote}
use Rattle.cbor_edn_writer.specs.EdnLeaves.{Said, own_comment, Noted, NoteAfter, with_gap, gap}
use Rattle.cbor_edn_writer.specs.EdnLeaves.{encoded_float, float_indicator, FloatText}
use Rattle.cbor_edn_writer.specs.EdnLeaves.{note_before, note_after, Beside, After, HasIndicator}
use Rattle.cbor_edn_writer.specs.declared.print.place.EdnPlace.{EdnPlace}

-- what the writer itself says, in a style with notes
pub own_wrote : {T E : Type 0} (r : Result T E) (p : EdnPlace) (says : Said) (said : Option (List ℕ)) (old new : List ℕ)
    → p.style.notes ≡ true → says said → Appends r old new (own_comment said) → Wrote r old new (NoteAfter p says)
own_wrote (Ok x) p says said old new noted is written = (own_comment said, inr (noted, said, is, refl), written)
own_wrote (Err e) p says said old new noted is begun = begun

-- what is written, and a note after it
pub noted : {T E : Type 0} (r : Result T E) (p : EdnPlace) (says : Said) (core old mid new : List ℕ)
    → mid ≡ old ++ core → Wrote r mid new (NoteAfter p says) → Wrote r old new (Noted p says core)
noted (Ok x) p says core old mid new is (t, note, written) =
    (core ++ t, (t, note, refl), written ∙ ap (λ x. x ++ t) is ∙ append_assoc old core t)
noted (Err e) p says core old mid new is begun =
    begins_through old mid new begun (begins_still old old core mid (begins_same old) is)

-- a caller's note before what is written
pub after_wrote : {T E : Type 0} (r : Result T E) (p : EdnPlace) (texts : Texts) (old mid new : List ℕ)
    → mid ≡ old ++ note_before p → Wrote r mid new texts → Wrote r old new (After p texts)
after_wrote (Ok x) p texts old mid new is (t, h, written) =
    (note_before p ++ t, inr (t, h, refl), written ∙ ap (λ x. x ++ t) is ∙ append_assoc old (note_before p) t)
after_wrote (Err e) p texts old mid new is begun =
    begins_through old mid new begun (begins_still old old (note_before p) mid (begins_same old) is)

-- and another one after it
pub beside_wrote : {T E : Type 0} (r : Result T E) (p : EdnPlace) (texts : Texts) (old mid more new : List ℕ)
    → mid ≡ old ++ note_before p → (t : List ℕ) × texts t × (more ≡ mid ++ t) → Appends r more new (note_after p)
    → Wrote r old new (Beside p texts)
beside_wrote (Ok x) p texts old mid more new is (t, h, written) after =
    let front = written ∙ ap (λ x. x ++ t) is ∙ append_assoc old (note_before p) t in (
      note_before p ++ (t ++ note_after p),
      inr (t, h, refl),
      after ∙ ap (λ x. x ++ note_after p) front ∙ append_assoc old (note_before p ++ t) (note_after p)
          ∙ ap (λ x. old ++ x) (append_assoc (note_before p) t (note_after p)),
    )
beside_wrote (Err e) p texts old mid more new is (t, h, written) begun =
    let front = written ∙ ap (λ x. x ++ t) is ∙ append_assoc old (note_before p) t in
    begins_through old more new begun (begins_still old old (note_before p ++ t) more (begins_same old) front)

-- what is written without notes
pub beside_nothing : {T E : Type 0} (r : Result T E) (p : EdnPlace) (texts : Texts) (old new : List ℕ)
    → Wrote r old new texts → Wrote r old new (Beside p texts)
beside_nothing (Ok x) p texts old new (t, h, written) = (t, inl h, written)
beside_nothing (Err e) p texts old new begun = begun

pub after_nothing : {T E : Type 0} (r : Result T E) (p : EdnPlace) (core old new : List ℕ)
    → Appends r old new core → Wrote r old new (After p (λ t. t ≡ core))
after_nothing (Ok x) p core old new written = (core, inl refl, written)
after_nothing (Err e) p core old new begun = begun

-- one text alone
pub wrote_one : {T E : Type 0} (r : Result T E) (old new core : List ℕ) → Appends r old new core
    → Wrote r old new (λ t. t ≡ core)
wrote_one (Ok x) old new core written = (core, refl, written)
wrote_one (Err e) old new core begun = begun

-- two calls
pub appends_both : {T E : Type 0} (r : Result T E) (old mid new a b all : List ℕ) → mid ≡ old ++ a → Appends r mid new b
    → a ++ b ≡ all → Appends r old new all
appends_both r old mid new a b all is h same =
    subst (λ x. Appends r old new x) same (appends_after r old mid new a b is h)

-- a gap is after an indicator that is not empty
pub gap_more : (l : ContainerStyle) (w : IntegerWidth) → w ≢ Unknown → w ≢ Zero
    → indicator w ++ gap l ≡ with_gap l (indicator w)
gap_more l Unknown p q = absurd (p refl)
gap_more l Zero p q = absurd (q refl)
gap_more l Eight p q = refl
gap_more l Sixteen p q = refl
gap_more l ThirtyTwo p q = refl
gap_more l SixtyFour p q = refl

-- a text of a number, and after it the width
pub width_wrote : {T E : Type 0} (r : Result T E) (all : Bool) (bits : ℕ) (w : FloatWidth) (x : Float)
    (old mid new t : List ℕ) → IsEncodingOf (encoded_float bits w) (value_of (encoded_float bits w))
    → HasIndicator all (encoded_float bits w) → x ≡ value_of (encoded_float bits w) → IsTextOf t x → mid ≡ old ++ t
    → Appends r mid new (float_indicator w) → Wrote r old new (FloatText all bits w)
width_wrote (Ok y) all bits w x old mid new t usual marked value text written h = (
  t ++ float_indicator w,
  inl (record {
    usual = usual;
    text = t;
    number = subst (λ y. IsTextOf t y) value text;
    is = inl (refl, marked);
  }),
  h ∙ ap (λ y. y ++ float_indicator w) written ∙ append_assoc old t (float_indicator w),
)
width_wrote (Err e) all bits w x old mid new t usual marked value text written h =
    begins_through old mid new h (begins_still old old t mid (begins_same old) written)
