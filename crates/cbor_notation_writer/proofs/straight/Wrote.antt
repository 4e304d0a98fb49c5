-- Rules for `Wrote`, which says that a call appended one of some texts, or failed and left the old text in front.
-- `Wrote` follows from `Appends`, holds for any wider choice of texts, and joins what calls in a row wrote, such as the
-- opening of an indefinite string and what is before its first chunk (`BeforeChunk`).
use Rattle.std.proofs.Common.{◌≡◌, ℕ, true, List, ◌++◌, Result, Ok, Err, refl, ap, subst, sym, ◌∙◌, append_assoc}
use Rattle.std.specs.Io.{StartsWith}
use Rattle.cbor_grammar.specs.declared.layout.ContainerStyle.{ContainerStyle}
use Rattle.cbor_grammar.specs.declared.strings.StringKind.{StringKind}
use Rattle.cbor_tokens.specs.Appends.{Appends}
use Rattle.cbor_notation_writer.specs.declared.parts.Container.TheVariants.{Chunks}
use Rattle.cbor_notation_writer.specs.Dialect.{Leaves, Texts, Wrote}
use Rattle.cbor_notation_writer.specs.mirror.Straight.{BeforeChunk}
use Rattle.cbor_tokens.proofs.texts.Appending.{begins_same, begins_still, begins_through}

-- what was written begins with what was there
pub wrote_begins : (old new : List ℕ) (texts : Texts) → (t : List ℕ) × texts t × (new ≡ old ++ t) → StartsWith new old
wrote_begins old new texts w = begins_still old old w.0 new (begins_same old) w.2

-- the same, said in another way
pub wrote_as : {T E : Type 0} (r : Result T E) (old new : List ℕ) (texts all : Texts)
    → ((t : List ℕ) → texts t → all t) → Wrote r old new texts → Wrote r old new all
wrote_as (Ok x) old new texts all f w = (w.0, f w.0 w.1, w.2)
wrote_as (Err e) old new texts all f w = w

-- the last of several calls
pub wrote_last : {T E : Type 0} (r : Result T E) (old mid new : List ℕ) (texts all : Texts) → StartsWith mid old
    → ((t : List ℕ) → texts t → new ≡ mid ++ t → (s : List ℕ) × all s × (new ≡ old ++ s)) → Wrote r mid new texts
    → Wrote r old new all
wrote_last (Ok x) old mid new texts all begun f w = f w.0 w.1 w.2
wrote_last (Err e) old mid new texts all begun f w = begins_through old mid new w begun

-- a call that appends one of these texts
pub appends_wrote : {T E : Type 0} (r : Result T E) (old new text : List ℕ) (texts : Texts) → texts text
    → Appends r old new text → Wrote r old new texts
appends_wrote (Ok x) old new text texts is h = (text, is, h)
appends_wrote (Err e) old new text texts is h = h

-- the opening of an indefinite string and what is before its first chunk
pub chunk_started : {T E P : Type 0} (r : Result T E) (d : Leaves P) (p : P) (kind : StringKind) (l : ContainerStyle)
    (held : ℕ) (old mid new : List ℕ) → held ≡ 0
    → (o : List ℕ) × d.opening p (Chunks kind) l o × (mid ≡ old ++ o)
    → Appends r mid new (d.start (Chunks kind) l true) → Wrote r old new (BeforeChunk d p kind l held)
chunk_started (Ok x) d p kind l held old mid new none o h =
    let start : List ℕ = d.start (Chunks kind) l true in
    let whole : (t : List ℕ) × BeforeChunk d p kind l 0 t × (new ≡ old ++ t) =
    (o.0 ++ start, (o.0, o.1, refl), h ∙ ap (λ x. x ++ start) o.2 ∙ append_assoc old o.0 start) in
    subst (λ n. (t : List ℕ) × BeforeChunk d p kind l n t × (new ≡ old ++ t)) (sym none) whole
chunk_started (Err e) d p kind l held old mid new none o h =
    begins_through old mid new h (begins_still old old o.0 mid (begins_same old) o.2)
