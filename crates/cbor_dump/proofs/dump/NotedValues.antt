-- For `notes/value.rt`, which reads only the part of a value that notes show (of an array, at most three members): this
-- part agrees with the item that is read there (`Sees`, `IsNextMember`), and `value_note` of the part is `value_note`
-- of the item.
use Rattle.std.proofs.Common.{◌≡◌, ℕ, zero, suc, false, ◌+◌, List, Option, Some, None, Ok, Err, IsSome}
use Rattle.std.proofs.Common.{refl, sym, ap, subst, ◌∙◌}
use Rattle.std.specs.Option.{is_some, option_map}
use Rattle.cbor_notes.specs.Element.{element_size}
use Rattle.cbor_dump.specs.declared.notes.value.Atom as declared_atom
use Rattle.cbor_dump.specs.declared.notes.value.Atom.TheVariants as code_atom
use Rattle.cbor_grammar.specs.declared.error.Error.{Error}
use Rattle.cbor_grammar.specs.declared.argument.Argument.{Argument}
use Rattle.cbor_grammar.specs.declared.argument.Argument.TheVariants.{Number, Indefinite}
use Rattle.cbor_grammar.specs.declared.head.ItemHead.{ItemHead}
use Rattle.cbor_grammar.specs.declared.width.FloatWidth.{FloatWidth}
use Rattle.cbor_grammar.specs.declared.width.IntegerWidth.{IntegerWidth}
use Rattle.cbor_grammar.specs.declared.width.IntegerWidth.TheVariants.{Unknown}
use Rattle.cbor_grammar.specs.declared.strings.StringKind.{StringKind}
use Rattle.cbor_grammar.specs.declared.strings.StringKind.TheVariants.{Bytes, Text}
use Rattle.cbor_grammar.specs.Item as spec
use Rattle.cbor_grammar.specs.Item.{Chunk, Atom, Item, atom, array, tagged, Items, no_items, item}
use Rattle.cbor_grammar.specs.declared.head.ItemHead.TheVariants as item_head
use Rattle.cbor_dump.specs.Notes.{zone_at, interface_note, members_note, typed_array_note}
use Rattle.cbor_dump.specs.declared.addresses.Family.{Family}
use Rattle.cbor_dump.specs.declared.addresses.Family.TheVariants.{IPv4, IPv6}
use Rattle.cbor_dump.specs.Notes.{value_note}
use Rattle.cbor_grammar.specs.Reading.{Counted, Frame, items_in, pairs_in, value_of, tag_of, tagged_with, opened}
use Rattle.cbor_grammar.specs.Reading.{joined}
use Rattle.cbor_grammar.specs.Reading.{put}
use Rattle.cbor_grammar.specs.Reading.{after_members, after_end, closed, close_or, count_width, one_less, ◌>>=◌, ◌>>-◌}
use Rattle.cbor_grammar.specs.Reading.{parts_from, read_atom, read_chunks, read_content, read_head, split_at}
use Rattle.cbor_grammar.specs.Reading.{checked_chunk, counted_item}
use Rattle.cbor_grammar.specs.WellFormed.{levels_left}
use Rattle.cbor_grammar.specs.mirror.AtLevel.{body_read}
use Rattle.cbor_grammar.specs.mirror.AtLevel.{read_at}
use Rattle.cbor_dump.specs.mirror.NotesView.{AreMembers, IsLookedInto, IsNextMember, Sees, atom_view, first_seen, other}
use Rattle.cbor_dump.specs.mirror.NotesView.{seen, seen_atom, then_seen, then_view}
use Rattle.cbor_grammar.specs.mirror.Lengths.{left_of}
use Rattle.cbor_grammar.proofs.bytes.FoundAgain.{joined-none, joined_one}
use Rattle.cbor_grammar.proofs.bytes.Heads.{bind_ok, done, ok_is, then_ok}
use Rattle.cbor_bytes.proofs.reading.Readings.{item_after, no_item}
use Rattle.cbor_bytes.proofs.bytes.Remaining.{left_less}

-- ---- values that notes do not look into

-- a map or a tag
abbrev pub IsMapOrTag : Item → Type 0
IsMapOrTag (spec.map ps w) = Unit {0}
IsMapOrTag (tagged t w i) = Unit {0}
IsMapOrTag i = ⊥

-- what is open is one of these
abbrev OpensMapOrTag : Frame → Type 0
OpensMapOrTag (items_in is left) = ⊥
OpensMapOrTag f = Unit {0}

put_same : (f : Frame) (i : Item) → OpensMapOrTag f → OpensMapOrTag (put f i)
put_same (items_in is left) i opens = absurd opens
put_same (pairs_in ps left) i opens = tt
put_same (value_of ps k left) i opens = tt
put_same (tag_of t w) i opens = tt
put_same (tagged_with t w j) i opens = tt

closed_is : (f : Frame) (i : Item) → OpensMapOrTag f → closed f ≡ Some i → IsMapOrTag i
closed_is (items_in is left) i opens e = absurd opens
closed_is (pairs_in ps left) (atom a) opens e = absurd cc
closed_is (pairs_in ps left) (array is w) opens e = absurd cc
closed_is (value_of ps k left) i opens e = absurd cc
closed_is (tag_of t w) i opens e = absurd cc
closed_is (tagged_with t w j) (atom a) opens e = absurd cc
closed_is (tagged_with t w j) (array is v) opens e = absurd cc
closed_is f (spec.map ps w) opens e = tt
closed_is f (tagged t w i) opens e = tt

closed_or : (rest : List ℕ) (i : Item) (whole : Option Item) (after : Option (List ℕ)) (more : Counted Item)
    → ((j : Item) → whole ≡ Some j → IsMapOrTag j) → (more.1 ≡ Ok (i, rest) → IsMapOrTag i)
    → (close_or whole after more).1 ≡ Ok (i, rest) → IsMapOrTag i
closed_or rest i (Some j) (Some after) more is later e =
    subst IsMapOrTag (ap (λ (x : Item × List ℕ). x.0) (ok_is (j, after) (i, rest) e)) (is j refl)
closed_or rest i (Some j) None more is later e = later e
closed_or rest i None after more is later e = later e

-- what the parts of an open map or tag become is one
parts_are : (n : ℕ) (read : List ℕ → Counted Item) (f : Frame) (b rest : List ℕ) (i : Item) → OpensMapOrTag f
    → (parts_from n read f b).1 ≡ Ok (i, rest) → IsMapOrTag i
unfolding parts_from
parts_are zero read f b rest i opens e = absurd cc
parts_are (suc n) read f b rest i opens e =
    closed_or rest i (closed f) (after_end f b) (read b >>- λ x. parts_from n read (put f x.0) x.1)
    (λ j. closed_is f j opens)
    (λ e. let step = then_ok (read b) (λ x. parts_from n read (put f x.0) x.1) (i, rest) e in
    parts_are n read (put f step.0.0) step.0.1 rest i (put_same f step.0.0 opens) step.2) e

-- ---- members

-- the items of an array that is open, where these are read of it
abbrev Becomes : ℕ → Items → Argument → List ℕ → Item → Type 0
Becomes levels is left b i = (js : Items) × (w : Option IntegerWidth) × (i ≡ array (joined is js) w)
    × AreMembers levels left b js

ends_or : (levels : ℕ) (is : Items) (left : Argument) (b rest : List ℕ) (i : Item) (end : Option (List ℕ))
    (more : Counted Item) → after_members left b ≡ end
    → (after_members left b ≡ None → more.1 ≡ Ok (i, rest) → Becomes levels is left b i)
    → (close_or (Some (array is (count_width left))) end more).1 ≡ Ok (i, rest) → Becomes levels is left b i
ends_or levels is left b rest i (Some after) more ends later e = (
  no_items,
  count_width left,
  sym (ap (λ (x : Item × List ℕ). x.0) (ok_is (array is (count_width left), after) (i, rest) e))
      ∙ ap (λ js. array js (count_width left)) (sym (joined-none is)),
  rw ends refl,
)
ends_or levels is left b rest i None more ends later e = later ends e

members_from : (n levels : ℕ) (is : Items) (left : Argument) (b rest : List ℕ) (i : Item)
    → (parts_from n (counted_item levels) (items_in is left) b).1 ≡ Ok (i, rest) → Becomes levels is left b i
unfolding parts_from
members_from zero levels is left b rest i e = absurd cc
members_from (suc n) levels is left b rest i e =
    let read = counted_item levels in
    let next = λ (x : Item × List ℕ). parts_from n read (put (items_in is left) x.0) x.1 in
    ends_or levels is left b rest i (after_members left b) (read b >>- next) refl
    (λ goes_on e. let step = then_ok (read b) next (i, rest) e in
    let more = members_from n levels (joined is (item step.0.0 no_items)) (one_less left) step.0.1 rest i step.2 in (
      item step.0.0 more.0,
      more.1,
      more.2 ∙ ap (λ js. array js more.1) (joined_one is step.0.0 more.0),
      (goes_on, (step.0.1, step.1, more.3)),
    )) e

-- an array that is read is its members
pub array_is : (levels : ℕ) (left : Argument) (b rest : List ℕ) (i : Item)
    → body_read (item_head.Array left) b levels ≡ Ok (i, rest)
    → (is : Items) × (w : Option IntegerWidth) × (i ≡ array is w) × AreMembers levels left b is
array_is levels left b rest i e = members_from _ levels no_items left b rest i e

-- ---- items that hold none

abbrev IsAtom : Item → Type 0
IsAtom (atom a) = Unit {0}
IsAtom i = ⊥

is_atom : (a : Atom) (b rest : List ℕ) (i : Item) → done {A = Item × List ℕ} (atom a, b) ≡ Ok (i, rest) → IsAtom i
is_atom a b rest i e = subst (λ (x : Item × List ℕ). IsAtom x.0) (ok_is (atom a, b) (i, rest) e) tt

atom_is : (h : ItemHead) (b rest : List ℕ) (i : Item) → (read_atom h b).1 ≡ Ok (i, rest) → IsAtom i
atom_is (item_head.Integer n w) b rest i e = is_atom (spec.integer n w) b rest i e
atom_is (item_head.Negative n w) b rest i e = is_atom (spec.negative n w) b rest i e
atom_is (item_head.String kind (Number n w)) b rest i e =
    let step = bind_ok (read_content kind n w b) (λ c. Ok (atom (spec.string kind c.0), c.1)) (i, rest) e in
    is_atom (spec.string kind step.0.0) step.0.1 rest i step.2
atom_is (item_head.String kind Indefinite) b rest i e =
    let step = then_ok (read_chunks _ kind b) (λ cs. (0, Ok (atom (spec.chunked_string kind cs.0), cs.1)))
    (i, rest) e in
    is_atom (spec.chunked_string kind step.0.0) step.0.1 rest i step.2
atom_is (item_head.Float bits w) b rest i e = is_atom (spec.float bits w) b rest i e
atom_is (item_head.Simple n) b rest i e = is_atom (spec.simple n) b rest i e
atom_is (item_head.Array a) b rest i e = absurd cc
atom_is (item_head.Map a) b rest i e = absurd cc
atom_is (item_head.Tag n w) b rest i e = absurd cc

-- ---- what is read behind a head

pub sees_done : (a : declared_atom.Atom) (x : Atom) (b rest : List ℕ) (i : Item)
    → done {A = Item × List ℕ} (atom x, b) ≡ Ok (i, rest) → atom_view a ≡ seen_atom x → Sees a b i rest
sees_done a x b rest i e same =
    let is = ok_is (atom x, b) (i, rest) e in
    subst (λ (y : Item × List ℕ). Sees a b y.0 y.1) is (same, λ looked. refl)

-- the content of a string
pub string_seen : (a : declared_atom.Atom) (kind : StringKind) (n : ℕ) (w : IntegerWidth)
    (b content after rest : List ℕ) (levels : ℕ) (i : Item) → split_at n b ≡ Ok (content, after)
    → ((c : Chunk) → checked_chunk kind w content ≡ Ok c → atom_view a ≡ seen (atom (spec.string kind c)))
    → body_read (item_head.String kind (Number n w)) b levels ≡ Ok (i, rest) → Sees a after i rest
unfolding read_content
string_seen a kind n w b content after rest levels i splits same e =
    let whole = bind_ok (read_content kind n w b) (λ c. Ok (atom (spec.string kind c.0), c.1)) (i, rest) e in
    let parts = bind_ok (split_at n b) (λ s. checked_chunk kind w s.0 >>= λ c. Ok (c, s.1)) whole.0 whole.1 in
    let split : parts.0 ≡ (content, after) = ok_is parts.0 (content, after) (sym parts.1 ∙ splits) in
    let checks = bind_ok (checked_chunk kind w parts.0.0) (λ c. Ok (c, parts.0.1)) whole.0 parts.2 in
    let checked : checked_chunk kind w content ≡ Ok checks.0 =
    ap (λ (s : List ℕ × List ℕ). checked_chunk kind w s.0) (sym split) ∙ checks.1 in
    let made = ok_is (checks.0, parts.0.1) whole.0 checks.2 in
    let is = sees_done a (spec.string kind whole.0.0) whole.0.1 rest i whole.2
    (same checks.0 checked ∙ ap (λ (c : Chunk × List ℕ). seen (atom (spec.string kind c.0))) made) in
    let behind : after ≡ whole.0.1 = ap (λ (s : List ℕ × List ℕ). s.1) (sym split)
    ∙ ap (λ (c : Chunk × List ℕ). c.1) made in
    (is.0, λ looked. behind ∙ is.1 looked)

-- no string is longer than what is left
pub string_cut : (a : declared_atom.Atom) (kind : StringKind) (n : ℕ) (w : IntegerWidth) (b after rest : List ℕ)
    (levels : ℕ) (i : Item) (e : Error) → split_at n b ≡ Err e
    → body_read (item_head.String kind (Number n w)) b levels ≡ Ok (i, rest) → Sees a after i rest
unfolding read_content
string_cut a kind n w b after rest levels i err splits e =
    let whole = bind_ok (read_content kind n w b) (λ c. Ok (atom (spec.string kind c.0), c.1)) (i, rest) e in
    let parts = bind_ok (split_at n b) (λ s. checked_chunk kind w s.0 >>= λ c. Ok (c, s.1)) whole.0 whole.1 in
    absurd (let wrong = sym splits ∙ parts.1 in cc)

sees_container : (i : Item) (after rest : List ℕ) → IsMapOrTag i → Sees code_atom.Other after i rest
sees_container (atom a) after rest here = absurd here
sees_container (array is w) after rest here = absurd here
sees_container (spec.map ps w) after rest here = (refl, λ looked. absurd looked)
sees_container (tagged t w i) after rest here = (refl, λ looked. absurd looked)

-- a length that is no number is indefinite
pub not_number : (a : Argument) → ((n : ℕ) (w : IntegerWidth) → a ≡ Number n w → ⊥) → a ≡ Indefinite
not_number (Number n w) never = absurd (never n w refl)
not_number Indefinite never = refl

pub sees_chunks : (kind : StringKind) (b after rest : List ℕ) (levels : ℕ) (i : Item)
    → body_read (item_head.String kind Indefinite) b levels ≡ Ok (i, rest) → Sees code_atom.Other after i rest
sees_chunks kind b after rest levels i e =
    let step = then_ok (read_chunks _ kind b) (λ cs. (0, Ok (atom (spec.chunked_string kind cs.0), cs.1)))
    (i, rest) e in
    let is = ok_is (atom (spec.chunked_string kind step.0.0), step.0.1) (i, rest) step.2 in
    subst (λ (y : Item × List ℕ). Sees code_atom.Other after y.0 y.1) is (refl, λ looked. absurd looked)

-- a container
pub sees_opened : (h : ItemHead) (b after rest : List ℕ) (levels : ℕ) (i : Item) → IsSome (opened h)
    → body_read h b levels ≡ Ok (i, rest) → Sees code_atom.Other after i rest
sees_opened (item_head.Array left) b after rest levels i opens e =
    let is = array_is levels left b rest i e in
    subst (λ j. Sees code_atom.Other after j rest) (sym is.2) (refl, λ looked. absurd looked)
sees_opened (item_head.Map left) b after rest levels i opens e =
    sees_container i after rest (parts_are _ (counted_item levels) _ b rest i tt e)
sees_opened (item_head.Tag t w) b after rest levels i opens e =
    sees_container i after rest (parts_are _ (counted_item levels) _ b rest i tt e)
sees_opened (item_head.Integer n w) b after rest levels i opens e = absurd (let wrong = opens in cc)
sees_opened (item_head.Negative n w) b after rest levels i opens e = absurd (let wrong = opens in cc)
sees_opened (item_head.String kind a) b after rest levels i opens e = absurd (let wrong = opens in cc)
sees_opened (item_head.Float bits w) b after rest levels i opens e = absurd (let wrong = opens in cc)
sees_opened (item_head.Simple n) b after rest levels i opens e = absurd (let wrong = opens in cc)

-- a head that is none of an item that holds none
pub opens_one : (h : ItemHead) → ((n : ℕ) (w : IntegerWidth) → h ≡ item_head.Integer n w → ⊥)
    → ((n : ℕ) (w : IntegerWidth) → h ≡ item_head.Negative n w → ⊥)
    → ((bits : ℕ) (w : FloatWidth) → h ≡ item_head.Float bits w → ⊥) → ((n : ℕ) → h ≡ item_head.Simple n → ⊥)
    → ((k : StringKind) (a : Argument) → h ≡ item_head.String k a → ⊥) → IsSome (opened h)
opens_one (item_head.Integer n w) no_integer no_negative no_float no_simple no_string = absurd (no_integer n w refl)
opens_one (item_head.Negative n w) no_integer no_negative no_float no_simple no_string = absurd (no_negative n w refl)
opens_one (item_head.Float bits w) no_integer no_negative no_float no_simple no_string = absurd (no_float bits w refl)
opens_one (item_head.Simple n) no_integer no_negative no_float no_simple no_string = absurd (no_simple n refl)
opens_one (item_head.String k a) no_integer no_negative no_float no_simple no_string = absurd (no_string k a refl)
opens_one (item_head.Array a) no_integer no_negative no_float no_simple no_string = refl
opens_one (item_head.Map a) no_integer no_negative no_float no_simple no_string = refl
opens_one (item_head.Tag t w) no_integer no_negative no_float no_simple no_string = refl

abbrev pub IsNoArrayHead : ItemHead → Type 0
IsNoArrayHead (item_head.Array left) = ⊥
IsNoArrayHead h = Unit {0}

pub not_array : (h : ItemHead) → ((a : Argument) → h ≡ item_head.Array a → ⊥) → IsNoArrayHead h
not_array (item_head.Integer n w) never = tt
not_array (item_head.Negative n w) never = tt
not_array (item_head.Float bits w) never = tt
not_array (item_head.Simple n) never = tt
not_array (item_head.String k a) never = tt
not_array (item_head.Array a) never = absurd (never a refl)
not_array (item_head.Map a) never = tt
not_array (item_head.Tag t w) never = tt

-- ---- the members that notes see

pub headless : (levels : ℕ) (left more : Argument) (b after : List ℕ) (is : Items) (e : Error)
    → read_head b ≡ Err e → AreMembers levels left b is → IsNextMember levels more is None after
headless levels left more b after no_items e fails are = refl
headless levels left more b after (item i is) e fails are = absurd (no_item levels b e (i, are.1.0) fails are.1.1)

-- an array goes on where its end is not
pub not_ended : {X : Type 0} (show : X → List ℕ) (found : Option X) (end : Option (List ℕ)) → false ≡ is_some found
    → option_map show found ≡ end → None ≡ end
not_ended show (Some x) end ends e = absurd cc
not_ended show None end ends e = e

pub next_seen : (a : declared_atom.Atom) (levels : ℕ) (count : Argument) (held : ℕ)
    (b behind after : List ℕ) (h : ItemHead) (is : Items) → None ≡ after_members (left_of count held) b
    → read_head b ≡ Ok (h, behind)
    → ((n : ℕ) (i : Item) (rest : List ℕ) → body_read h behind n ≡ Ok (i, rest) → Sees a after i rest)
    → AreMembers levels (left_of count held) b is → IsNextMember levels (left_of count (held + 1)) is (Some a) after
next_seen a levels count held b behind after h no_items goes_on head sees are =
    absurd (let some = rw (sym goes_on) at are in cc)
next_seen a levels count held b behind after h (item i is) goes_on head sees are =
    let body = item_after levels b h behind (i, are.1.0) head are.1.1 in
    let found = sees body.0 i are.1.0 body.1 in (
      found.0,
      λ looked. rw (left_less count held) (subst (λ x. AreMembers levels (one_less (left_of count held)) x is)
          (sym (found.1 looked)) are.1.2),
    )

plain_then : (a : declared_atom.Atom) (x : Atom) (tail : Items) → atom_view a ≡ atom x
    → then_view (Some a) tail ≡ item (atom x) tail
plain_then (code_atom.Integer n) x tail e = ap (λ i. item i tail) e
plain_then (code_atom.Negative n) x tail e = ap (λ i. item i tail) e
plain_then (code_atom.Bytes bytes) x tail e = ap (λ i. item i tail) e
plain_then (code_atom.Text text) x tail e = ap (λ i. item i tail) e
plain_then code_atom.Float x tail e = ap (λ i. item i tail) e
plain_then (code_atom.Simple s) x tail e = ap (λ i. item i tail) e
plain_then code_atom.Other x tail e = absurd cc

other_then : (a : declared_atom.Atom) (tail : Items) → atom_view a ≡ other
    → then_view (Some a) tail ≡ item other no_items
other_then (code_atom.Integer n) tail e = absurd cc
other_then (code_atom.Negative n) tail e = absurd cc
other_then (code_atom.Bytes bytes) tail e = absurd cc
other_then (code_atom.Text text) tail e = absurd cc
other_then code_atom.Float tail e = absurd cc
other_then (code_atom.Simple s) tail e = absurd cc
other_then code_atom.Other tail e = refl

member_then : (a : declared_atom.Atom) (i : Item) (tail more : Items) → atom_view a ≡ seen i
    → (IsLookedInto i → tail ≡ more) → then_view (Some a) tail ≡ then_seen i more
member_then a (atom (spec.integer n w)) tail more e same =
    plain_then a _ tail e ∙ ap (item (seen_atom (spec.integer n w))) (same tt)
member_then a (atom (spec.negative n w)) tail more e same =
    plain_then a _ tail e ∙ ap (item (seen_atom (spec.negative n w))) (same tt)
member_then a (atom (spec.string kind c)) tail more e same =
    plain_then a _ tail e ∙ ap (item (seen_atom (spec.string kind c))) (same tt)
member_then a (atom (spec.chunked_string kind cs)) tail more e same = other_then a tail e
member_then a (atom (spec.float bits w)) tail more e same =
    plain_then a _ tail e ∙ ap (item (seen_atom (spec.float bits w))) (same tt)
member_then a (atom (spec.simple n)) tail more e same =
    plain_then a _ tail e ∙ ap (item (seen_atom (spec.simple n))) (same tt)
member_then a (array is w) tail more e same = other_then a tail e
member_then a (spec.map ps w) tail more e same = other_then a tail e
member_then a (tagged t w i) tail more e same = other_then a tail e

pub front_seen : (n levels : ℕ) (left : Argument) (is : Items) (found : Option declared_atom.Atom) (after : List ℕ)
    (tail : Items) → IsNextMember levels left is found after
    → ((js : Items) → AreMembers levels left after js → tail ≡ first_seen n js)
    → then_view found tail ≡ first_seen (suc n) is
front_seen n levels left no_items found after tail next same = ap (λ o. then_view o tail) next
front_seen n levels left (item i is) None after tail next same = absurd next
front_seen n levels left (item i is) (Some a) after tail next same =
    member_then a i tail (first_seen n is) next.0 (λ looked. same is (next.1 looked))

-- ---- notes

zone_seen : (is : Items) → zone_at (first_seen 1 is) ≡ zone_at is
zone_seen no_items = refl
zone_seen (item (atom (spec.integer n w)) is) = refl
zone_seen (item (atom (spec.negative n w)) is) = refl
zone_seen (item (atom (spec.string Bytes c)) is) = refl
zone_seen (item (atom (spec.string Text c)) is) = refl
zone_seen (item (atom (spec.chunked_string kind cs)) is) = refl
zone_seen (item (atom (spec.float bits w)) is) = refl
zone_seen (item (atom (spec.simple n)) is) = refl
zone_seen (item (array js w) is) = refl
zone_seen (item (spec.map ps w) is) = refl
zone_seen (item (tagged t w i) is) = refl

interface_seen : (f : Family) (bytes : List ℕ) (is : Items)
    → interface_note f bytes (first_seen 2 is) ≡ interface_note f bytes is
interface_seen f bytes no_items = refl
interface_seen f bytes (item (atom (spec.integer n w)) is) = rw (zone_seen is) refl
interface_seen f bytes (item (atom (spec.negative n w)) is) = refl
interface_seen f bytes (item (atom (spec.string Bytes c)) is) = refl
interface_seen f bytes (item (atom (spec.string Text c)) is) = refl
interface_seen f bytes (item (atom (spec.chunked_string kind cs)) is) = refl
interface_seen f bytes (item (atom (spec.float bits w)) is) = refl
interface_seen f bytes (item (atom (spec.simple n)) is) = rw (zone_seen is) refl
interface_seen f bytes (item (array js w) is) = refl
interface_seen f bytes (item (spec.map ps w) is) = refl
interface_seen f bytes (item (tagged t w i) is) = refl

prefix_seen : (f : Family) (n : ℕ) (v w : IntegerWidth) (is : Items)
    → members_note f (item (atom (spec.integer n v)) (first_seen 2 is))
    ≡ members_note f (item (atom (spec.integer n w)) is)
prefix_seen f n v w no_items = refl
prefix_seen f n v w (item (atom (spec.integer m u)) is) = refl
prefix_seen f n v w (item (atom (spec.negative m u)) is) = refl
prefix_seen f n v w (item (atom (spec.string Bytes c)) is) = refl
prefix_seen f n v w (item (atom (spec.string Text c)) is) = refl
prefix_seen f n v w (item (atom (spec.chunked_string kind cs)) is) = refl
prefix_seen f n v w (item (atom (spec.float bits u)) is) = refl
prefix_seen f n v w (item (atom (spec.simple m)) is) = refl
prefix_seen f n v w (item (array js u) is) = refl
prefix_seen f n v w (item (spec.map ps u) is) = refl
prefix_seen f n v w (item (tagged t u i) is) = refl

members_seen : (f : Family) (is : Items) → members_note f (first_seen 3 is) ≡ members_note f is
members_seen f no_items = refl
members_seen f (item (atom (spec.integer n w)) is) = prefix_seen f n Unknown w is
members_seen f (item (atom (spec.negative n w)) is) = refl
members_seen f (item (atom (spec.string Bytes c)) is) = rw (interface_seen f c.bytes is) refl
members_seen f (item (atom (spec.string Text c)) is) = refl
members_seen f (item (atom (spec.chunked_string kind cs)) is) = refl
members_seen f (item (atom (spec.float bits w)) is) = refl
members_seen f (item (atom (spec.simple n)) is) = refl
members_seen f (item (array js w) is) = refl
members_seen f (item (spec.map ps w) is) = refl
members_seen f (item (tagged t w i) is) = refl

not_elements : (size : Option ℕ) (is js : Items) (v w : Option IntegerWidth)
    → typed_array_note size (array is v) ≡ typed_array_note size (array js w)
not_elements None is js v w = refl
not_elements (Some size) is js v w = refl

pub array_note : (known t : ℕ) (is : Items) (w : Option IntegerWidth)
    → value_note known t (array (first_seen 3 is) None) ≡ value_note known t (array is w)
unfolding value_note
array_note known t is w =
    rw (members_seen IPv4 is, members_seen IPv6 is, not_elements (element_size t) (first_seen 3 is) is None w) refl

elements_seen : (size : Option ℕ) (i : Item) → typed_array_note size (seen i) ≡ typed_array_note size i
elements_seen None i = refl
elements_seen (Some size) (atom (spec.integer n w)) = refl
elements_seen (Some size) (atom (spec.negative n w)) = refl
elements_seen (Some size) (atom (spec.string Bytes c)) = refl
elements_seen (Some size) (atom (spec.string Text c)) = refl
elements_seen (Some size) (atom (spec.chunked_string kind cs)) = refl
elements_seen (Some size) (atom (spec.float bits w)) = refl
elements_seen (Some size) (atom (spec.simple n)) = refl
elements_seen (Some size) (array is w) = refl
elements_seen (Some size) (spec.map ps w) = refl
elements_seen (Some size) (tagged t w i) = refl

-- ---- the notes on a value

abbrev pub IsNoArray : Item → Type 0
IsNoArray (array is w) = ⊥
IsNoArray i = Unit {0}

item_note : (known t : ℕ) (i : Item) → IsNoArray i → value_note known t (seen i) ≡ value_note known t i
unfolding value_note
item_note known t (atom (spec.integer n w)) is = rw (elements_seen (element_size t) (atom (spec.integer n w))) refl
item_note known t (atom (spec.negative n w)) is = rw (elements_seen (element_size t) (atom (spec.negative n w))) refl
item_note known t (atom (spec.string Bytes c)) is =
    rw (elements_seen (element_size t) (atom (spec.string Bytes c))) refl
item_note known t (atom (spec.string Text c)) is =
    rw (elements_seen (element_size t) (atom (spec.string Text c))) refl
item_note known t (atom (spec.chunked_string kind cs)) is =
    rw (elements_seen (element_size t) (atom (spec.chunked_string kind cs))) refl
item_note known t (atom (spec.float bits w)) is = rw (elements_seen (element_size t) (atom (spec.float bits w))) refl
item_note known t (atom (spec.simple n)) is = refl
item_note known t (array is w) never = absurd never
item_note known t (spec.map ps w) is = rw (elements_seen (element_size t) (spec.map ps w)) refl
item_note known t (tagged u w i) is = rw (elements_seen (element_size t) (tagged u w i)) refl

atom_no_array : (i : Item) → IsAtom i → IsNoArray i
atom_no_array (atom a) is = tt
atom_no_array (array is w) never = absurd never
atom_no_array (spec.map ps w) never = tt
atom_no_array (tagged t w i) never = tt

container_no_array : (i : Item) → IsMapOrTag i → IsNoArray i
container_no_array (atom a) never = tt
container_no_array (array is w) never = absurd never
container_no_array (spec.map ps w) is = tt
container_no_array (tagged t w i) is = tt

no_array : (h : ItemHead) (b rest : List ℕ) (levels : ℕ) (i : Item) → IsNoArrayHead h
    → body_read h b levels ≡ Ok (i, rest) → IsNoArray i
no_array (item_head.Array left) b rest levels i never e = absurd never
no_array (item_head.Map left) b rest levels i is e =
    container_no_array i (parts_are _ (counted_item levels) _ b rest i tt e)
no_array (item_head.Tag t w) b rest levels i is e =
    container_no_array i (parts_are _ (counted_item levels) _ b rest i tt e)
no_array (item_head.Integer n w) b rest levels i is e = atom_no_array i (atom_is (item_head.Integer n w) b rest i e)
no_array (item_head.Negative n w) b rest levels i is e = atom_no_array i (atom_is (item_head.Negative n w) b rest i e)
no_array (item_head.String kind a) b rest levels i is e = atom_no_array i (atom_is (item_head.String kind a) b rest i e)
no_array (item_head.Float bits w) b rest levels i is e = atom_no_array i (atom_is (item_head.Float bits w) b rest i e)
no_array (item_head.Simple n) b rest levels i is e = atom_no_array i (atom_is (item_head.Simple n) b rest i e)

-- the note on what was found behind a head
pub behind_note : (a : declared_atom.Atom) (known t level : ℕ) (b behind after rest : List ℕ) (h : ItemHead) (i : Item)
    → IsNoArrayHead h → read_head b ≡ Ok (h, behind)
    → ((n : ℕ) (j : Item) (end : List ℕ) → body_read h behind n ≡ Ok (j, end) → Sees a after j end)
    → read_at level b ≡ Ok (i, rest) → value_note known t (atom_view a) ≡ value_note known t i
behind_note a known t level b behind after rest h i never head sees e =
    let body = item_after (levels_left level) b h behind (i, rest) head e in
    ap (value_note known t) (sees body.0 i rest body.1).0
    ∙ item_note known t i (no_array h behind rest body.0 i never body.1)

-- the note on the members of an array
pub members_note_is : (seen_members : Items) (known t level : ℕ) (b behind rest : List ℕ) (left : Argument) (i : Item)
    → read_head b ≡ Ok (item_head.Array left, behind)
    → ((n : ℕ) (is : Items) → AreMembers n left behind is → seen_members ≡ first_seen 3 is)
    → read_at level b ≡ Ok (i, rest) → value_note known t (array seen_members None) ≡ value_note known t i
members_note_is seen_members known t level b behind rest left i head sees e =
    let body = item_after (levels_left level) b (item_head.Array left) behind (i, rest) head e in
    let is = array_is body.0 left behind rest i body.1 in
    ap (λ is. value_note known t (array is None)) (sees body.0 is.0 is.3) ∙ array_note known t is.0 is.1
    ∙ ap (value_note known t) (sym is.2)

-- where there is no head, there is no value
pub no_value : (level : ℕ) (b rest : List ℕ) (e : Error) (i : Item) → read_head b ≡ Err e
    → read_at level b ≡ Ok (i, rest) → ⊥
no_value level b rest e i fails is = no_item (levels_left level) b e (i, rest) fails is
