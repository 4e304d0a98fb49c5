-- For arrays, maps, strings and tags that are written as their parts are read: what was written is one of the texts of
-- the item (`TextsHere`), if what was written of each part is one of its texts. Each item and each pair keeps
-- `ItemsWritten` and `PairsWritten`.
use Rattle.std.proofs.Common.{◌≡◌, ℕ, zero, suc, ◌+◌, ◌-◌, ◌≤◌, Bool, true, false, eqb, List, [], ◌∷◌, ◌++◌}
use Rattle.std.proofs.Common.{Some, None, refl, sym, ap, subst, ◌∙◌, append_assoc, arith}
use Rattle.std.specs.List.{flat_map}
use Rattle.std.proofs.lemmas.List.{append-nil}
use Rattle.std.proofs.Math.Dec.{eqb-suc-zero}
use Rattle.std.proofs.lemmas.Grind.{flat_map-append}
use Rattle.cbor_grammar.specs.declared.argument.Argument.{Argument}
use Rattle.cbor_grammar.specs.declared.argument.Argument.TheVariants.{Number, Indefinite}
use Rattle.cbor_grammar.specs.declared.layout.ContainerStyle.{ContainerStyle}
use Rattle.cbor_grammar.specs.declared.strings.StringContent.{StringContent}
use Rattle.cbor_grammar.specs.declared.strings.StringContent.TheVariants as content
use Rattle.cbor_grammar.specs.declared.width.IntegerWidth.{IntegerWidth}
use Rattle.cbor_grammar.specs.Estimate.{estimated_items, estimated_pairs}
use Rattle.cbor_grammar.specs.Item as spec
use Rattle.cbor_grammar.specs.Item.{string, Item, atom, array, tagged, Items, no_items, item}
use Rattle.cbor_grammar.specs.Item.{item_count, Pairs, no_pairs, pair, pair_count}
use Rattle.cbor_grammar.specs.NotationText.{members_layout}
use Rattle.cbor_grammar.specs.Reading.{joined, joined_pairs, after_members, count_width}
use Rattle.cbor_grammar.specs.WellFormed.{levels_left}
use Rattle.cbor_grammar.specs.mirror.Lengths.{left_of}
use Rattle.cbor_grammar.specs.mirror.StringView.{borrowed_chunk, kind_of}
use Rattle.cbor_notation_writer.specs.declared.parts.Container.{Container}
use Rattle.cbor_notation_writer.specs.declared.parts.Container.TheVariants.{Array, Map}
use Rattle.cbor_notation_writer.specs.Dialect.{Leaves, Writer, listed, ItemTexts, PairText, PairTexts}
use Rattle.cbor_notation_writer.specs.Dialect.{count_of, TextsOf, TextsAt, ItemsText, PairsText}
use Rattle.cbor_notation_writer.specs.mirror.Straight.{TextsBelow, TextsHere, StringThere}

-- ---- items

-- what is written at that level
pub texts_below : {P : Type 0} (d : Leaves P) (inner : P) (level : ℕ) (i : Item) (t : List ℕ) → d.level inner ≡ level
    → TextsAt d inner i t → TextsOf d (levels_left level) inner i t
texts_below d inner level i t same h = subst (λ n. TextsOf d (levels_left n) inner i t) same h

-- ---- members

-- none is written yet
abbrev pub is_none : List (List ℕ) → Bool
is_none [] = true
is_none (m ∷ ms) = false

mapped_more : (f : List ℕ → List ℕ) (ms : List (List ℕ)) (m : List ℕ) → flat_map f (ms ++ m ∷ []) ≡ flat_map f ms ++ f m
mapped_more f ms m = flat_map-append f ms (m ∷ []) ∙ ap (λ y. flat_map f ms ++ y) (append-nil (f m))

pub listed_more : (start : Bool → List ℕ) (end : List ℕ) (ms : List (List ℕ)) (m : List ℕ)
    → listed start end (ms ++ m ∷ []) ≡ listed start end ms ++ (start (is_none ms) ++ (m ++ end))
listed_more start end [] m = append-nil (start true ++ (m ++ end))
listed_more start end (x ∷ ms) m =
    let f : List ℕ → List ℕ = λ y. start false ++ (y ++ end) in
    let first : List ℕ = start true ++ (x ++ end) in
    ap (λ y. first ++ y) (mapped_more f ms m) ∙ sym (append_assoc first (flat_map f ms) (f m))

-- one member more is written
more_written : (start : Bool → List ℕ) (end : List ℕ) (ms : List (List ℕ)) (m : List ℕ) (first : Bool)
    (begun out started written new : List ℕ) → first ≡ is_none ms
    → out ≡ begun ++ listed start end ms → started ≡ out ++ start first → written ≡ started ++ m
    → new ≡ written ++ end
    → new ≡ begun ++ listed start end (ms ++ m ∷ [])
more_written start end ms m first begun out started written new is p q r s =
    let before : List ℕ = listed start end ms in
    let here : List ℕ = start (is_none ms) in
    let joined : (((begun ++ before) ++ here) ++ m) ++ end ≡ begun ++ (before ++ (here ++ (m ++ end))) =
    simp append_assoc in
    let begins : started ≡ (begun ++ before) ++ here =
    q ∙ ap (λ x. x ++ start first) p ∙ ap (λ f. (begun ++ before) ++ start f) is in
    s ∙ ap (λ x. x ++ end) (r ∙ ap (λ x. x ++ m) begins) ∙ joined
    ∙ ap (λ x. begun ++ x) (sym (listed_more start end ms m))

none_listed : (old begun o : List ℕ) → begun ≡ old ++ o → begun ≡ (old ++ o) ++ []
none_listed old begun o is = is ∙ sym (append-nil (old ++ o))

-- members between an opening and a closing
between : (old begun out new o inner e : List ℕ) → out ≡ (old ++ o) ++ inner → new ≡ out ++ e
    → new ≡ old ++ (o ++ (inner ++ e))
between old begun out new o inner e p q = q ∙ ap (λ x. x ++ e) p ∙ simp append_assoc

-- ---- how many members there are

-- no more are held than the count says
abbrev pub Reached : Argument → ℕ → Type 0
Reached (Number n w) held = held ≤ n
Reached Indefinite held = Unit {0}

pub reached_none : (count : Argument) → Reached count 0
reached_none (Number n w) = omega arith
reached_none Indefinite = tt

still : (left : ℕ) (w : IntegerWidth) (b : List ℕ) → None ≡ after_members (Number left w) b → 1 ≤ left
still zero w b none = absurd cc
still (suc n) w b none = omega arith

ended : (left : ℕ) (w : IntegerWidth) (b after : List ℕ) → Some after ≡ after_members (Number left w) b → left ≡ 0
ended zero w b after some = refl
ended (suc n) w b after some = absurd cc

pub reached_more : (count : Argument) (held : ℕ) (b : List ℕ) → None ≡ after_members (left_of count held) b
    → Reached count (held + 1)
reached_more (Number n w) held b none = omega (arith, still (n - held) w b none)
reached_more Indefinite held b none = tt

pub reached_all : (count : Argument) (held : ℕ) (b after : List ℕ) → Reached count held
    → Some after ≡ after_members (left_of count held) b → count ≡ count_of (count_width count) held
reached_all (Number n w) held b after le some =
    let same : n ≡ held = omega (arith, ended (n - held) w b after some, le) in
    ap (λ k. Number k w) same
reached_all Indefinite held b after le some = refl

-- ---- items

-- the place after these items
abbrev pub past_items : {P : Type 0} → Leaves P → P → Items → P
past_items d p no_items = p
past_items d p (item i is) = past_items d (d.next p) is

past_more : {P : Type 0} (d : Leaves P) (p : P) (is : Items) (i : Item)
    → past_items d p (joined is (item i no_items)) ≡ d.next (past_items d p is)
past_more d p no_items i = refl
past_more d p (item j is) i = past_more d (d.next p) is i

items_more : {P : Type 0} (d : Leaves P) (write : Writer P) (p : P) (is : Items) (i : Item) (ms : List (List ℕ))
    (m : List ℕ) → ItemTexts d write p is ms → write (past_items d p is) i m
    → ItemTexts d write p (joined is (item i no_items)) (ms ++ m ∷ [])
items_more d write p no_items i [] m each one = (one, tt)
items_more d write p no_items i (x ∷ ms) m each one = absurd each
items_more d write p (item j is) i [] m each one = absurd each
items_more d write p (item j is) i (x ∷ ms) m each one =
    (each.0, items_more d write (d.next p) is i ms m each.1 one)

items_first : {P : Type 0} (d : Leaves P) (write : Writer P) (p : P) (is : Items) (ms : List (List ℕ)) (held : ℕ)
    → ItemTexts d write p is ms → item_count is ≡ held → eqb held 0 ≡ is_none ms
items_first d write p no_items [] held each is = ap (λ n. eqb n 0) (sym is)
items_first d write p no_items (m ∷ ms) held each is = absurd each
items_first d write p (item i more) [] held each is = absurd each
items_first d write p (item i more) (m ∷ ms) held each is =
    ap (λ n. eqb n 0) (sym is) ∙ eqb-suc-zero (item_count more)

-- These items are written after the opening of their container, and the place of the next is this one.
pub record ItemsWritten {P : Type 0} (d : Leaves P) (write : Writer P) (p first : P) (c : Container)
    (l : ContainerStyle) (old out : List ℕ) (is : Items) (now : P) (held : ℕ) : Type 0 where
  pub opening : List ℕ
  pub texts : List (List ℕ)
  pub opens : d.opening p c l opening
  pub each : ItemTexts d write first is texts
  pub place : now ≡ past_items d first is
  pub text : out ≡ (old ++ opening) ++ listed (d.start c l) (d.end c l) texts
  pub count : item_count is ≡ held

pub no_items_written : {P : Type 0} (d : Leaves P) (write : Writer P) (p first now : P) (c : Container)
    (l : ContainerStyle) (old out : List ℕ) → now ≡ first
    → (o : List ℕ) × d.opening p c l o × (out ≡ old ++ o)
    → ItemsWritten d write p first c l old out no_items now 0
no_items_written d write p first now c l old out same o = record {
  opening = o.0;
  texts = [];
  opens = o.1;
  each = tt;
  place = same;
  text = none_listed old out o.0 o.2;
  count = refl;
}

pub one_item_written : {P : Type 0} (d : Leaves P) (write : Writer P) (p first now next : P) (c : Container)
    (l : ContainerStyle) (old out started written new : List ℕ) (is : Items) (i : Item) (held : ℕ) (m : List ℕ)
    → ItemsWritten d write p first c l old out is now held → started ≡ out ++ d.start c l (eqb held 0)
    → write now i m → written ≡ started ++ m → new ≡ written ++ d.end c l → next ≡ d.next now
    → ItemsWritten d write p first c l old new (joined is (item i no_items)) next (held + 1)
one_item_written d write p first now next c l old out started written new is i held m w q one r s pass = record {
  opening = w.opening;
  texts = w.texts ++ m ∷ [];
  opens = w.opens;
  each = items_more d write first is i w.texts m w.each (subst (λ x. write x i m) w.place one);
  place = pass ∙ ap d.next w.place ∙ sym (past_more d first is i);
  text = more_written (d.start c l) (d.end c l) w.texts m (eqb held 0) (old ++ w.opening) out started written new
      (items_first d write first is w.texts held w.each w.count) w.text q r s;
  count = omega (arith, count_one is i, w.count);
}
  where
    count_one : (js : Items) (j : Item) → item_count (joined js (item j no_items)) ≡ item_count js + 1
    count_one no_items j = refl
    count_one (item k js) j = omega (arith, count_one js j)

pub items_written : {P : Type 0} (d : Leaves P) (write : Writer P) (p first now : P) (c : Container)
    (l : ContainerStyle) (old out new : List ℕ) (is : Items) (held : ℕ)
    → ItemsWritten d write p first c l old out is now held → first ≡ d.inside c (members_layout l) p
    → (e : List ℕ) × d.closing p c l e × (new ≡ out ++ e)
    → (t : List ℕ) × ItemsText d write p c l is t × (new ≡ old ++ t)
items_written d write p first now c l old out new is held w inside_it ends =
    let inner : List ℕ = listed (d.start c l) (d.end c l) w.texts in
    let each = subst (λ x. ItemTexts d write x is w.texts) inside_it w.each in (
      w.opening ++ (inner ++ ends.0),
      (w.texts, each, (w.opening, ends.0, w.opens, ends.1, refl)),
      between old old out new w.opening inner ends.0 w.text ends.2,
    )

-- ---- pairs

-- the place after these pairs
abbrev pub past_pairs : {P : Type 0} → Leaves P → P → Pairs → P
past_pairs d p no_pairs = p
past_pairs d p (pair k v ps) = past_pairs d (d.next (d.value k p)) ps

past_pair_more : {P : Type 0} (d : Leaves P) (p : P) (ps : Pairs) (k v : Item)
    → past_pairs d p (joined_pairs ps (pair k v no_pairs)) ≡ d.next (d.value k (past_pairs d p ps))
past_pair_more d p no_pairs k v = refl
past_pair_more d p (pair j u ps) k v = past_pair_more d (d.next (d.value j p)) ps k v

pairs_more : {P : Type 0} (d : Leaves P) (write : Writer P) (l : ContainerStyle) (p : P) (ps : Pairs) (k v : Item)
    (ms : List (List ℕ)) (m : List ℕ) → PairTexts d write l p ps ms → PairText d write l (past_pairs d p ps) k v m
    → PairTexts d write l p (joined_pairs ps (pair k v no_pairs)) (ms ++ m ∷ [])
pairs_more d write l p no_pairs k v [] m each one = (one, tt)
pairs_more d write l p no_pairs k v (x ∷ ms) m each one = absurd each
pairs_more d write l p (pair j u ps) k v [] m each one = absurd each
pairs_more d write l p (pair j u ps) k v (x ∷ ms) m each one =
    (each.0, pairs_more d write l (d.next (d.value j p)) ps k v ms m each.1 one)

pairs_first : {P : Type 0} (d : Leaves P) (write : Writer P) (l : ContainerStyle) (p : P) (ps : Pairs)
    (ms : List (List ℕ)) (held : ℕ) → PairTexts d write l p ps ms → pair_count ps ≡ held → eqb held 0 ≡ is_none ms
pairs_first d write l p no_pairs [] held each is = ap (λ n. eqb n 0) (sym is)
pairs_first d write l p no_pairs (m ∷ ms) held each is = absurd each
pairs_first d write l p (pair k v more) [] held each is = absurd each
pairs_first d write l p (pair k v more) (m ∷ ms) held each is =
    ap (λ n. eqb n 0) (sym is) ∙ eqb-suc-zero (pair_count more)

-- These pairs are written after the opening of their map, and the place of the next key is this one.
pub record PairsWritten {P : Type 0} (d : Leaves P) (write : Writer P) (p first : P) (c : Container)
    (l : ContainerStyle) (old out : List ℕ) (ps : Pairs) (now : P) (held : ℕ) : Type 0 where
  pub opening : List ℕ
  pub texts : List (List ℕ)
  pub opens : d.opening p c l opening
  pub each : PairTexts d write l first ps texts
  pub place : now ≡ past_pairs d first ps
  pub text : out ≡ (old ++ opening) ++ listed (d.start c l) (d.end c l) texts
  pub count : pair_count ps ≡ held

pub no_pairs_written : {P : Type 0} (d : Leaves P) (write : Writer P) (p first now : P) (c : Container)
    (l : ContainerStyle) (old out : List ℕ) → now ≡ first
    → (o : List ℕ) × d.opening p c l o × (out ≡ old ++ o)
    → PairsWritten d write p first c l old out no_pairs now 0
no_pairs_written d write p first now c l old out same o = record {
  opening = o.0;
  texts = [];
  opens = o.1;
  each = tt;
  place = same;
  text = none_listed old out o.0 o.2;
  count = refl;
}

-- a key, and its value after it
pub pair_text : {P : Type 0} (d : Leaves P) (write : Writer P) (l : ContainerStyle) (now value : P) (k v : Item)
    (a b started key between written : List ℕ) → write now k a → key ≡ started ++ a → value ≡ d.value k now
    → between ≡ key ++ d.colon l → write value v b → written ≡ between ++ b
    → (m : List ℕ) × PairText d write l now k v m × (written ≡ started ++ m)
pair_text d write l now value k v a b started key between written one q pass r two s =
    let regroup : ((started ++ a) ++ d.colon l) ++ b ≡ started ++ (a ++ (d.colon l ++ b)) = simp append_assoc in (
      a ++ (d.colon l ++ b),
      (a, b, one, subst (λ x. write x v b) pass two, refl),
      s ∙ ap (λ x. x ++ b) (r ∙ ap (λ x. x ++ d.colon l) q) ∙ regroup,
    )

pub one_pair_written : {P : Type 0} (d : Leaves P) (write : Writer P) (p first now value next : P) (c : Container)
    (l : ContainerStyle) (old out started written new : List ℕ) (ps : Pairs) (k v : Item) (held : ℕ)
    → PairsWritten d write p first c l old out ps now held → started ≡ out ++ d.start c l (eqb held 0)
    → (m : List ℕ) × PairText d write l now k v m × (written ≡ started ++ m) → new ≡ written ++ d.end c l
    → value ≡ d.value k now → next ≡ d.next value
    → PairsWritten d write p first c l old new (joined_pairs ps (pair k v no_pairs)) next (held + 1)
one_pair_written d write p first now value next c l old out begun written new ps k v held w q one s key pass = record {
  opening = w.opening;
  texts = w.texts ++ one.0 ∷ [];
  opens = w.opens;
  each = pairs_more d write l first ps k v w.texts one.0 w.each
      (subst (λ x. PairText d write l x k v one.0) w.place one.1);
  place = pass ∙ ap d.next (key ∙ ap (d.value k) w.place) ∙ sym (past_pair_more d first ps k v);
  text = more_written (d.start c l) (d.end c l) w.texts one.0 (eqb held 0) (old ++ w.opening) out begun written new
      (pairs_first d write l first ps w.texts held w.each w.count) w.text q one.2 s;
  count = omega (arith, count_one ps, w.count);
}
  where
    count_one : (js : Pairs) → pair_count (joined_pairs js (pair k v no_pairs)) ≡ pair_count js + 1
    count_one no_pairs = refl
    count_one (pair j u js) = omega (arith, count_one js)

pub pairs_written : {P : Type 0} (d : Leaves P) (write : Writer P) (p first now : P) (c : Container)
    (l : ContainerStyle) (old out new : List ℕ) (ps : Pairs) (held : ℕ)
    → PairsWritten d write p first c l old out ps now held → first ≡ d.inside c (members_layout l) p
    → (e : List ℕ) × d.closing p c l e × (new ≡ out ++ e)
    → (t : List ℕ) × PairsText d write p c l ps t × (new ≡ old ++ t)
pairs_written d write p first now c l old out new ps held w inside_it ends =
    let inner : List ℕ = listed (d.start c l) (d.end c l) w.texts in
    let each = subst (λ x. PairTexts d write l x ps w.texts) inside_it w.each in (
      w.opening ++ (inner ++ ends.0),
      (w.texts, each, (w.opening, ends.0, w.opens, ends.1, refl)),
      between old old out new w.opening inner ends.0 w.text ends.2,
    )

-- ---- whole containers

-- an array of these items there, and a map of these pairs
pub array_written : {P : Type 0} (d : Leaves P) (p : P) (l : ContainerStyle) (count : Argument) (is : Items) (held : ℕ)
    (old new : List ℕ) → l ≡ d.style p (4 + estimated_items is)
    → item_count is ≡ held → count ≡ count_of (count_width count) held
    → (t : List ℕ) × ItemsText d (TextsBelow d p) p (Array count) l is t × (new ≡ old ++ t)
    → (t : List ℕ) × TextsHere d p (array is (count_width count)) t × (new ≡ old ++ t)
array_written d p l count is held old new same holds counted w =
    let w' = count_width count in
    let whole : count ≡ count_of w' (item_count is) = counted ∙ ap (count_of w') (sym holds) in
    let styled = subst (λ x. ItemsText d (TextsBelow d p) p (Array count) x is w.0) same w.1 in
    let so = subst (λ a. ItemsText d (TextsBelow d p) p (Array a)
    (d.style p (4 + estimated_items is)) is w.0) whole styled in
    (w.0, so, w.2)

pub map_written : {P : Type 0} (d : Leaves P) (p : P) (l : ContainerStyle) (count : Argument) (ps : Pairs) (held : ℕ)
    (old new : List ℕ) → l ≡ d.style p (4 + estimated_pairs ps)
    → pair_count ps ≡ held → count ≡ count_of (count_width count) held
    → (t : List ℕ) × PairsText d (TextsBelow d p) p (Map count) l ps t × (new ≡ old ++ t)
    → (t : List ℕ) × TextsHere d p (spec.map ps (count_width count)) t × (new ≡ old ++ t)
map_written d p l count ps held old new same holds counted w =
    let w' = count_width count in
    let whole : count ≡ count_of w' (pair_count ps) = counted ∙ ap (count_of w') (sym holds) in
    let styled = subst (λ x. PairsText d (TextsBelow d p) p (Map count) x ps w.0) same w.1 in
    let so = subst (λ a. PairsText d (TextsBelow d p) p (Map a)
    (d.style p (4 + estimated_pairs ps)) ps w.0) whole styled in
    (w.0, so, w.2)

pub array_closed : {P : Type 0} (d : Leaves P) (p now : P) (l : ContainerStyle) (count : Argument) (is : Items)
    (held : ℕ) (old out new rest after : List ℕ) → l ≡ d.style p (4 + estimated_items is)
    → ItemsWritten d (TextsBelow d p) p (d.inside (Array count) (members_layout l) p) (Array count) l old out is now
    held
    → Reached count held → Some after ≡ after_members (left_of count held) rest
    → (e : List ℕ) × d.closing p (Array count) l e × (new ≡ out ++ e)
    → (t : List ℕ) × TextsHere d p (array is (count_width count)) t × (new ≡ old ++ t)
array_closed d p now l count is held old out new rest after same w reached some ends =
    array_written d p l count is held old new same w.count (reached_all count held rest after reached some)
    (items_written d (TextsBelow d p) p (d.inside (Array count) (members_layout l) p) now (Array count) l old out new is
    held w refl ends)

pub map_closed : {P : Type 0} (d : Leaves P) (p now : P) (l : ContainerStyle) (count : Argument) (ps : Pairs)
    (held : ℕ) (old out new rest after : List ℕ) → l ≡ d.style p (4 + estimated_pairs ps)
    → PairsWritten d (TextsBelow d p) p (d.inside (Map count) (members_layout l) p) (Map count) l old out ps now held
    → Reached count held → Some after ≡ after_members (left_of count held) rest
    → (e : List ℕ) × d.closing p (Map count) l e × (new ≡ out ++ e)
    → (t : List ℕ) × TextsHere d p (spec.map ps (count_width count)) t × (new ≡ old ++ t)
map_closed d p now l count ps held old out new rest after same w reached some ends =
    map_written d p l count ps held old new same w.count (reached_all count held rest after reached some)
    (pairs_written d (TextsBelow d p) p (d.inside (Map count) (members_layout l) p) now (Map count) l old out new ps
    held w refl ends)

-- ---- strings

pub string_written : {P : Type 0} (d : Leaves P) (p : P) (w : IntegerWidth) (s : StringContent) (old new : List ℕ)
    → (t : List ℕ) × StringThere d p w s t × (new ≡ old ++ t)
    → (t : List ℕ) × TextsHere d p (atom (string (kind_of s) (borrowed_chunk w s))) t × (new ≡ old ++ t)
string_written d p w (content.Bytes b) old new h = h
string_written d p w (content.Text s) old new h = h

-- ---- tags

pub tag_written : {P : Type 0} (d : Leaves P) (p inner : P) (n : ℕ) (w : IntegerWidth) (i : Item) (m : List ℕ)
    (old a b new : List ℕ) → (o : List ℕ) × d.tag p n w o × (a ≡ old ++ o)
    → inner ≡ d.below n p → d.level inner ≡ d.level p + 1 → TextsAt d inner i m → b ≡ a ++ m
    → (e : List ℕ) × d.tag_end p n e × (new ≡ b ++ e)
    → (t : List ℕ) × TextsHere d p (tagged n w i) t × (new ≡ old ++ t)
tag_written d p inner n w i m old a b new o there deeper text is e =
    let below : TextsOf d (levels_left (d.level p + 1)) inner i m =
    texts_below d inner (d.level p + 1) i m deeper text in
    let regroup : ((old ++ o.0) ++ m) ++ e.0 ≡ old ++ (o.0 ++ (m ++ e.0)) = simp append_assoc in (
      o.0 ++ (m ++ e.0),
      (o.0, m, e.0, o.1, subst (λ x. TextsOf d (levels_left (d.level p + 1)) x i m) there below, e.1, refl),
      e.2 ∙ ap (λ x. x ++ e.0) (is ∙ ap (λ x. x ++ m) o.2) ∙ regroup,
    )

-- the width of a count, however many members are left
pub width_left : (count : Argument) (held : ℕ) → count_width (left_of count held) ≡ count_width count
width_left (Number n w) held = refl
width_left Indefinite held = refl
