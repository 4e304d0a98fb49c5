-- For `Patch::within` and `Patch::in_string`: if a part of bytes is replaced, the bytes around it are `Edited`, too,
-- with bytes on both sides or in a byte string whose head gets the new length. Further changes (`changed`, `between`)
-- extend the output. For `without` and `with_more`: a container with a new head is `IsWithout` some members or `IsWith`
-- one more.
use Rattle.std.proofs.Common.{◌≡◌, ℕ, ◌+◌, ◌-◌, ◌≤◌, List, ◌∷◌, ◌++◌, length, take, drop, refl, sym, ap, subst, ◌∙◌}
use Rattle.std.proofs.Common.{arith}
use Rattle.std.proofs.Common.{append_assoc, length-drop}
use Rattle.std.proofs.lemmas.List.{length-take-le}
use Rattle.cbor_grammar.specs.declared.width.IntegerWidth.{IntegerWidth}
use Rattle.cbor_grammar.specs.declared.argument.Argument.{Argument}
use Rattle.cbor_grammar.specs.declared.argument.Argument.TheVariants.{Number, Indefinite}
use Rattle.cbor_grammar.specs.Head.{FitsStated, head}
use Rattle.cbor_edit.specs.Edited.{Edited, beside, in_string, kept, changed}
use Rattle.cbor_edit.specs.declared.place.Change.{Change}
use Rattle.cbor_edit.specs.Members.{argument_head, argument_end, between, IsLess, OneMore, IsContainer}
use Rattle.cbor_edit.specs.Members.{IsWithout, IsWith}
use Rattle.cbor_trace.specs.declared.span.Span.{Span}
use Rattle.cbor_edit.specs.mirror.Heads.{HasHead}
use Rattle.cbor_edit.proofs.Slices.{split}
use Rattle.cbor_edit.proofs.Heads.{from_head}

-- three lists that were appended one after the other
pub appended : (first second third x y : List ℕ) → x ≡ first ++ second → y ≡ x ++ third
    → y ≡ first ++ (second ++ third)
appended first second third x y e f =
    f ∙ ap (λ (z : List ℕ). z ++ third) e ∙ append_assoc first second third

-- with the bytes before and after them
pub with_sides : (b old part new x : List ℕ) (start s e end : ℕ) → start ≤ s → s ≤ e → e ≤ end
    → Edited old part (take (e - s) (drop s b)) new
    → x ≡ take (s - start) (drop start b) ++ (new ++ take (end - e) (drop e b))
    → Edited old part (take (end - start) (drop start b)) x
with_sides b old part new x start s e end from order to inner is =
    let after : take (end - s) (drop s b) ≡ take (e - s) (drop s b) ++ take (end - e) (drop e b) =
    split b s e end order to in
    let whole : take (end - start) (drop start b)
    ≡ take (s - start) (drop start b) ++ (take (e - s) (drop s b) ++ take (end - e) (drop e b)) =
    split b start s end from (omega arith) ∙ ap (λ (y : List ℕ). take (s - start) (drop start b) ++ y) after in
    subst (λ (was : List ℕ). Edited old part was x) (sym whole)
    (subst (λ (now : List ℕ). Edited old part
    (take (s - start) (drop start b) ++ (take (e - s) (drop s b) ++ take (end - e) (drop e b))) now) (sym is)
    (beside (take (s - start) (drop start b)) (take (end - e) (drop e b)) inner))

-- a string of this length with its head
in_string_of : (old part was now : List ℕ) (n : ℕ) (w : IntegerWidth) → length was ≡ n → FitsStated w n
    → Edited old part was now
    → Edited old part (head 2 n w ++ was) (head 2 (length now) (kept w (length now)) ++ now)
in_string_of old part was now n w len fits inner =
    subst (λ (m : ℕ). Edited old part (head 2 m w ++ was) (head 2 (length now) (kept w (length now)) ++ now)) len
    (in_string w (subst (FitsStated w) (sym len) fits) inner)

-- in a byte string
pub with_head : (b old part now h x : List ℕ) (start inner n end : ℕ) (w : IntegerWidth)
    → HasHead b start 2 (Number n w) inner → end ≡ inner + n → end ≤ length b
    → Edited old part (take (end - inner) (drop inner b)) now
    → h ≡ head 2 (length now) (kept w (length now)) → x ≡ h ++ now
    → Edited old part (take (end - start) (drop start b)) x
with_head b old part now h x start inner n end w begins to within inner-edited head-is is =
    let left = length-drop inner b in
    let count : end - inner ≡ n = omega arith in
    let len : length (take (end - inner) (drop inner b)) ≡ n =
    length-take-le (end - inner) (drop inner b) (omega arith) ∙ count in
    let whole = from_head b start 2 (Number n w) inner end begins (omega arith) in
    let new : x ≡ head 2 (length now) (kept w (length now)) ++ now =
    is ∙ ap (λ (y : List ℕ). y ++ now) head-is in
    subst (λ (was : List ℕ). Edited old part was x) (sym whole)
    (subst (λ (y : List ℕ). Edited old part (head 2 n w ++ take (end - inner) (drop inner b)) y) (sym new)
    (in_string_of old part (take (end - inner) (drop inner b)) now n w len begins.fits inner-edited))

-- ---- several changes

-- one change more
pub next_changed : (b out x y : List ℕ) (at : ℕ) (c : Change) (rest left : List Change) → left ≡ c ∷ rest
    → x ≡ out ++ take (c.place.span.start - at) (drop at b) → y ≡ x ++ c.new.items
    → y ++ changed b c.place.span.end rest ≡ out ++ changed b at left
next_changed b out x y at c rest left is e f =
    let slice : List ℕ = take (c.place.span.start - at) (drop at b) in
    let after : List ℕ = changed b c.place.span.end rest in
    ap (λ (z : List ℕ). z ++ after) (f ∙ ap (λ (z : List ℕ). z ++ c.new.items) e)
    ∙ append_assoc (out ++ slice) c.new.items after ∙ append_assoc out slice (c.new.items ++ after)
    ∙ ap (λ (l : List Change). out ++ changed b at l) (sym is)

pub next_between : (b out x : List ℕ) (at : ℕ) (s : Span) (rest left : List Span) → left ≡ s ∷ rest
    → x ≡ out ++ take (s.start - at) (drop at b) → x ++ between b s.end rest ≡ out ++ between b at left
next_between b out x at s rest left is e =
    let slice : List ℕ = take (s.start - at) (drop at b) in
    let after : List ℕ = between b s.end rest in
    ap (λ (z : List ℕ). z ++ after) e ∙ append_assoc out slice after
    ∙ ap (λ (l : List Span). out ++ between b at l) (sym is)

-- ---- containers

pub without_is : (b h x : List ℕ) (start inner major : ℕ) (from to : Argument) (gone : List Span) → IsContainer major
    → HasHead b start major from inner → IsLess (length gone) from to → h ≡ argument_head major to
    → x ≡ h ++ between b inner gone → IsWithout b start gone x
without_is b h x start inner major from to gone container begins less head-is is =
    (major, inner, from, to, container, begins.whole, less, is ∙ ap (λ (y : List ℕ). y ++ between b inner gone) head-is)

same_end : (from to : Argument) → OneMore from to → argument_end from ≡ argument_end to
same_end (Number n w) (Number m v) more = refl
same_end (Number n w) Indefinite more = absurd more
same_end Indefinite (Number m v) more = absurd more
same_end Indefinite Indefinite more = refl

pub with_is : (b member h x y z : List ℕ) (start inner last end major : ℕ) (from to : Argument) → IsContainer major
    → HasHead b start major from inner → OneMore from to → inner ≤ end
    → take (end - inner) (drop inner b) ≡ take (last - inner) (drop inner b) ++ argument_end from
    → h ≡ argument_head major to → x ≡ h ++ take (last - inner) (drop inner b) → y ≡ x ++ member
    → z ≡ y ++ argument_end to → IsWith member (take (end - start) (drop start b)) z
with_is b member h x y z start inner last end major from to container begins more order ends head-is e f g =
    let members : List ℕ = take (last - inner) (drop inner b) in
    let new : z ≡ argument_head major to ++ (members ++ (member ++ argument_end to)) =
    g ∙ ap (λ (l : List ℕ). l ++ argument_end to) f ∙ append_assoc x member (argument_end to)
    ∙ ap (λ (l : List ℕ). l ++ (member ++ argument_end to)) (e ∙ ap (λ (l : List ℕ). l ++ members) head-is)
    ∙ append_assoc (argument_head major to) members (member ++ argument_end to) in (
      major,
      from,
      to,
      members,
      container,
      more,
      from_head b start major from inner end begins order ∙ ap (λ (l : List ℕ). argument_head major from ++ l) ends,
      new,
    )
