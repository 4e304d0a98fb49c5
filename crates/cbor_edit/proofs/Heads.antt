-- If a head of an array, a map or a byte string of definite length was read at a place (`IsHeadAt`), its bytes are
-- there (`HasHead`), and the bytes from there to a later place are the head and what follows it. `encoded_head` with a
-- stated width that fits is the `head` of that width.
use Rattle.std.proofs.Common.{◌≡◌, ℕ, ◌+◌, ◌-◌, ◌≤◌, List, [], ◌∷◌, ◌++◌, length, take, drop, refl, sym, ap, subst, ◌∙◌}
use Rattle.std.proofs.Common.{arith, length-append, length-drop}
use Rattle.std.proofs.lemmas.List.{drop-drop, drop_at, take_at}
use Rattle.cbor_grammar.specs.declared.width.IntegerWidth.{IntegerWidth}
use Rattle.cbor_grammar.specs.declared.width.IntegerWidth.TheVariants.{Unknown, Zero, Eight, Sixteen, ThirtyTwo}
use Rattle.cbor_grammar.specs.declared.width.IntegerWidth.TheVariants.{SixtyFour}
use Rattle.cbor_grammar.specs.declared.argument.Argument.{Argument}
use Rattle.cbor_grammar.specs.declared.argument.Argument.TheVariants.{Number, Indefinite}
use Rattle.cbor_grammar.specs.declared.head.ItemHead.{ItemHead}
use Rattle.cbor_grammar.specs.declared.head.ItemHead.TheVariants as item_head
use Rattle.cbor_grammar.specs.declared.strings.StringKind.{StringKind}
use Rattle.cbor_grammar.specs.declared.strings.StringKind.TheVariants.{Bytes}
use Rattle.cbor_grammar.specs.Head.{FitsStated, head, opening}
use Rattle.cbor_grammar.specs.Written.{encoded_head}
use Rattle.cbor_grammar.specs.Reading.{FitsArgument}
use Rattle.cbor_grammar.proofs.bytes.Heads.{IsBytes, IsBytes-drop, ArgumentThen, HeadIs, head_takes}
use Rattle.cbor_trace.specs.Around.{IsHeadAt}
use Rattle.cbor_edit.specs.Members.{argument_head}
use Rattle.cbor_edit.specs.mirror.Heads.{HasHead}
use Rattle.cbor_edit.proofs.Slices.{split}

-- a head that was written in a stated width
pub head_written : (major n : ℕ) (w : IntegerWidth) (x y : List ℕ) → FitsStated w n → x ≡ []
    → y ≡ x ++ encoded_head major n w → y ≡ head major n w
head_written major n Unknown x y fits none e = absurd fits
head_written major n Zero x y fits none e = e ∙ ap (λ (z : List ℕ). z ++ head major n Zero) none
head_written major n Eight x y fits none e = e ∙ ap (λ (z : List ℕ). z ++ head major n Eight) none
head_written major n Sixteen x y fits none e = e ∙ ap (λ (z : List ℕ). z ++ head major n Sixteen) none
head_written major n ThirtyTwo x y fits none e = e ∙ ap (λ (z : List ℕ). z ++ head major n ThirtyTwo) none
head_written major n SixtyFour x y fits none e = e ∙ ap (λ (z : List ℕ). z ++ head major n SixtyFour) none

-- where bytes begin with these, and where they end
at_place : (b h rest : List ℕ) (start end major : ℕ) (a : Argument) → FitsArgument a → h ≡ argument_head major a
    → start ≤ length b → end + length rest ≡ length b → drop start b ≡ h ++ rest → HasHead b start major a end
at_place b h rest start end major a fits head-is from to e =
    let long : length (drop start b) ≡ length h + length rest = ap length e ∙ length-append h rest in
    let left : length (drop start b) ≡ length b - start = length-drop start b in
    let place : end ≡ start + length h = omega arith in
    let after : drop end b ≡ rest =
    ap (λ (n : ℕ). drop n b) place ∙ sym (drop-drop (length h) start b) ∙ ap (drop (length h)) e
    ∙ drop_at h rest (length h) refl in
    record {
      fits = fits;
      whole = e ∙ ap (λ (x : List ℕ). x ++ rest) head-is ∙ ap (λ (x : List ℕ). argument_head major a ++ x) (sym after);
      place = place ∙ ap (λ (x : List ℕ). start + length x) head-is;
      within = omega arith;
    }

argument_at : (b rest : List ℕ) (start end major : ℕ) (a : Argument) → start ≤ length b
    → end + length rest ≡ length b → ArgumentThen major a (drop start b) rest → HasHead b start major a end
argument_at b rest start end major (Number n w) from to h =
    at_place b (head major n w) rest start end major (Number n w) h.0 refl from to
    (h.2 ∙ ap (λ (x : List ℕ). head major n w ++ x) h.3)
argument_at b rest start end major Indefinite from to h =
    at_place b (opening major ∷ []) rest start end major Indefinite tt refl from to h

read_at : (b : List ℕ) (start end : ℕ) (h : ItemHead) → IsBytes b → (at : IsHeadAt b start h end)
    → HeadIs h (drop start b) at.1
read_at b start end h fits at = (head_takes (drop start b) at.1 h (IsBytes-drop start b fits) at.2).0

pub array_at : (b : List ℕ) (start end : ℕ) (h : ItemHead) (a : Argument) → IsBytes b → IsHeadAt b start h end
    → h ≡ item_head.Array a → HasHead b start 4 a end
array_at b start end h a fits at is =
    let this = subst (λ (x : ItemHead). IsHeadAt b start x end) is at in
    argument_at b this.1 start end 4 a this.0 this.3 (read_at b start end (item_head.Array a) fits this)

pub map_at : (b : List ℕ) (start end : ℕ) (h : ItemHead) (a : Argument) → IsBytes b → IsHeadAt b start h end
    → h ≡ item_head.Map a → HasHead b start 5 a end
map_at b start end h a fits at is =
    let this = subst (λ (x : ItemHead). IsHeadAt b start x end) is at in
    argument_at b this.1 start end 5 a this.0 this.3 (read_at b start end (item_head.Map a) fits this)

pub string_at : (b : List ℕ) (start end : ℕ) (h : ItemHead) (kind : StringKind) (a : Argument) (n : ℕ)
    (w : IntegerWidth) → IsBytes b → IsHeadAt b start h end → h ≡ item_head.String kind a → kind ≡ Bytes
    → a ≡ Number n w → HasHead b start 2 (Number n w) end
string_at b start end h kind a n w fits at is bytes number =
    let head-is : h ≡ item_head.String Bytes (Number n w) =
    is ∙ ap (λ (k : StringKind). item_head.String k a) bytes
    ∙ ap (λ (x : Argument). item_head.String Bytes x) number in
    let this = subst (λ (x : ItemHead). IsHeadAt b start x end) head-is at in
    argument_at b this.1 start end 2 (Number n w) this.0 this.3
    (read_at b start end (item_head.String Bytes (Number n w)) fits this)

-- the bytes of the head, and those after it up to a place
pub from_head : (b : List ℕ) (start major : ℕ) (a : Argument) (inner end : ℕ) → HasHead b start major a inner
    → inner ≤ end
    → take (end - start) (drop start b) ≡ argument_head major a ++ take (end - inner) (drop inner b)
from_head b start major a inner end h to =
    let place = h.place in
    let from : start ≤ inner = omega arith in
    let count : length (argument_head major a) ≡ inner - start = omega arith in
    let front : take (inner - start) (drop start b) ≡ argument_head major a =
    ap (take (inner - start)) h.whole ∙ take_at (argument_head major a) (drop inner b) (inner - start) count in
    split b start inner end from to ∙ ap (λ (x : List ℕ). x ++ take (end - inner) (drop inner b)) front
