-- For `walk.rt`: the lines of an item (`lines_at_level`) are its parts and then the notes on it, which it has only
-- right below a tag. In a loop over members, one item or pair more is written and its shared values are counted; at the
-- end, the members are as many as the head announced.
use Rattle.std.proofs.Common.{◌≡◌, ℕ, suc, ◌+◌, ◌-◌, ◌==◌, ◌≤◌, true, false, cond, List, ◌++◌, Option, Some}
use Rattle.std.proofs.Common.{None, refl, sym, ap, subst, append-nil, append_assoc, inl, inr, ◌∙◌, arith}
use Rattle.std.proofs.lemmas.Bool.{cases_lt}
use Rattle.cbor_notes.specs.Layout.{DumpLine}
use Rattle.cbor_grammar.specs.declared.width.IntegerWidth.{IntegerWidth}
use Rattle.cbor_dump.specs.declared.context.DumpContext.{DumpContext}
use Rattle.cbor_dump.specs.declared.walk.Walk.{Walk}
use Rattle.cbor_grammar.specs.declared.argument.Argument.{Argument}
use Rattle.cbor_grammar.specs.declared.argument.Argument.TheVariants.{Number, Indefinite}
use Rattle.cbor_grammar.specs.declared.argument.Argument.TheVariants.{Number}
use Rattle.cbor_dump.specs.Comments.{counted_comment}
use Rattle.cbor_grammar.specs.Item.{Item, Items, no_items, item, Pairs, no_pairs, pair}
use Rattle.cbor_grammar.specs.Reading.{joined, joined_pairs, after_members, count_width}
use Rattle.cbor_grammar.specs.WellFormed.{levels_left}
use Rattle.cbor_grammar.specs.Written.{encoded_head}
use Rattle.cbor_dump.specs.Dump.{Context, below, head_line, container_line, lines_at, lines_at_level, notes_lines}
use Rattle.cbor_dump.specs.Dump.{items_lines, pairs_lines, parts_lines, shared_from, shared_in, shared_in_items}
use Rattle.cbor_dump.specs.Dump.{shared_in_pairs, top}
use Rattle.cbor_dump.specs.mirror.Dumped.{context_view, tag_number, item_lines, items_there, pairs_there}
use Rattle.cbor_dump.specs.mirror.Dumped.{embedded_lines}
use Rattle.cbor_dump.specs.mirror.Dumped.{notes_there, argument_bytes, Wrote}
use Rattle.cbor_grammar.specs.mirror.Lengths.{argument_count}
use Rattle.cbor_grammar.specs.mirror.Lengths.{left_of}
use Rattle.cbor_dump.proofs.dump.Walks.{wrote_then}

-- An item is its parts and its notes.
pub item_opens : (level : ℕ) (p : Context) (known : ℕ) (i : Item) → level ≤ 128
    → lines_at_level level p known i ≡ parts_lines (lines_at_level (level + 1)) p known i
    ++ notes_lines p.depth (levels_left (level + 1)) (lines_at_level (level + 1) top 0) p.shared p.tag i
unfolding lines_at
item_opens level p known i le =
    let levels : levels_left level ≡ suc (levels_left (level + 1)) = omega arith in
    ap (λ left. lines_at left p known i) levels

-- Where no tag is right above it, it has no notes.
pub untagged : (level : ℕ) (p : Context) (known : ℕ) (i : Item) → level ≤ 128 → p.tag ≡ None
    → lines_at_level level p known i ≡ parts_lines (lines_at_level (level + 1)) p known i
untagged level p known i le none =
    let write = lines_at_level (level + 1) in
    item_opens level p known i le
    ∙ ap (λ tag. parts_lines write p known i
    ++ notes_lines p.depth (levels_left (level + 1)) (write top 0) p.shared tag i) none
    ∙ append-nil (parts_lines write p known i)

-- what the items in a context are written by
pub written_in : (c : DumpContext) (level : ℕ) (p : Context) → c.level ≡ level → context_view c ≡ p
    → lines_at_level c.level (context_view c) ≡ lines_at_level level p
written_in c level p deep here = ap (λ n. lines_at_level n (context_view c)) deep ∙ ap (lines_at_level level) here

-- ---- tags

-- The value right below a tag, and the notes on it.
pub below_opens : (outer inner : DumpContext) (t known shared : ℕ) (i : Item) → shared ≡ shared_from t known
    → inner.level ≡ outer.level + 1 → context_view inner ≡ below t known (context_view outer) → inner.level ≤ 128
    → lines_at_level (outer.level + 1) (below t known (context_view outer)) (shared_from t known) i
    ≡ item_lines inner shared i ++ notes_there inner t i
below_opens outer inner t known shared i counted deep here le =
    let p = below t known (context_view outer) in
    ap (λ n. lines_at_level (outer.level + 1) p n i) (sym counted)
    ∙ sym (ap (λ write. write shared i) (written_in inner (outer.level + 1) p deep here))
    ∙ item_opens inner.level (context_view inner) shared i le
    ∙ ap (λ (tag : Option ℕ). item_lines inner shared i
    ++ notes_lines inner.depth (levels_left (inner.level + 1)) (embedded_lines inner) inner.shared tag i)
    (ap (λ (c : Context). c.tag) here)

pub tag_shared : (t known n : ℕ) → shared_from t known + n ≡ known + shared_from t n
tag_shared t known n = elim (t == 28) as (λ v. cond v (suc known) known + n ≡ known + cond v (suc n) n) [
  | true ↦ omega arith
  | false ↦ refl
]

-- ---- members

abbrev written : DumpContext → ℕ → Item → List DumpLine
written here = lines_at_level here.level (context_view here)

-- they have no notes
member_lines : (here : DumpContext) → tag_number here.tag ≡ None → (known shared : ℕ) (i : Item) → here.level ≤ 128
    → shared ≡ known → item_lines here shared i ≡ written here known i
member_lines here none known shared i le counted =
    ap (λ n. item_lines here n i) counted ∙ sym (untagged here.level (context_view here) known i le none)

items_more : (write : ℕ → Item → List DumpLine) (known : ℕ) (is : Items) (i : Item)
    → items_lines write known (joined is (item i no_items))
    ≡ items_lines write known is ++ write (known + shared_in_items is) i
items_more write known no_items i =
    let none : known ≡ known + 0 = omega arith in
    append-nil (write known i) ∙ ap (λ n. write n i) none
items_more write known (item j is) i =
    let sum : known + shared_in j + shared_in_items is ≡ known + (shared_in j + shared_in_items is) = omega arith in
    ap (λ ls. write known j ++ ls) (items_more write (known + shared_in j) is i)
    ∙ sym (append_assoc (write known j) (items_lines write (known + shared_in j) is)
    (write (known + shared_in j + shared_in_items is) i))
    ∙ ap (λ n. (write known j ++ items_lines write (known + shared_in j) is) ++ write n i) sum

shared_items_more : (is : Items) (i : Item)
    → shared_in_items (joined is (item i no_items)) ≡ shared_in_items is + shared_in i
shared_items_more no_items i = omega arith
shared_items_more (item j is) i = omega (arith, shared_items_more is i)

pairs_more : (write : ℕ → Item → List DumpLine) (known : ℕ) (ps : Pairs) (k v : Item)
    → pairs_lines write known (joined_pairs ps (pair k v no_pairs))
    ≡ pairs_lines write known ps ++ (write (known + shared_in_pairs ps) k
    ++ write (known + shared_in_pairs ps + shared_in k) v)
pairs_more write known no_pairs k v =
    let none : known ≡ known + 0 = omega arith in
    ap (λ ls. write known k ++ ls) (append-nil (write (known + shared_in k) v))
    ∙ ap (λ n. write n k ++ write (n + shared_in k) v) none
pairs_more write known (pair j u ps) k v =
    let after = known + shared_in j + shared_in u in
    let both = λ (n : ℕ). write n k ++ write (n + shared_in k) v in
    let sum : after + shared_in_pairs ps ≡ known + (shared_in j + (shared_in u + shared_in_pairs ps)) = omega arith in
    ap (λ ls. write known j ++ (write (known + shared_in j) u ++ ls)) (pairs_more write after ps k v)
    ∙ ap (λ ls. write known j ++ ls)
    (sym (append_assoc (write (known + shared_in j) u) (pairs_lines write after ps) (both
    (after + shared_in_pairs ps))))
    ∙ sym (append_assoc (write known j) (write (known + shared_in j) u ++ pairs_lines write after ps)
    (both (after + shared_in_pairs ps)))
    ∙ ap (λ n. (write known j ++ (write (known + shared_in j) u ++ pairs_lines write after ps)) ++ both n) sum

shared_pairs_more : (ps : Pairs) (k v : Item)
    → shared_in_pairs (joined_pairs ps (pair k v no_pairs)) ≡ shared_in_pairs ps + (shared_in k + shared_in v)
shared_pairs_more no_pairs k v = omega arith
shared_pairs_more (pair j u ps) k v = omega (arith, shared_pairs_more ps k v)

-- one member more is written
module _ (here : DumpContext) (none : tag_number here.tag ≡ None) (le : here.level ≤ 128) (old now : Walk) where
  module _ (next : Walk) (is : Items) (i : Item)
      (wrote : Wrote old.writer now.writer (items_there here old.shared is))
      (counted : now.shared ≡ old.shared + shared_in_items is)
      (member : Wrote now.writer next.writer (item_lines here now.shared i))
      (shares : next.shared ≡ now.shared + shared_in i) where
    pub item_done : Wrote old.writer next.writer (items_there here old.shared (joined is (item i no_items)))
    item_done =
        let known = old.shared + shared_in_items is in
        subst (Wrote old.writer next.writer) (sym (items_more (written here) old.shared is i))
        (wrote_then old.writer now.writer next.writer (items_there here old.shared is) (written here known i) wrote
        (subst (Wrote now.writer next.writer) (member_lines here none known now.shared i le counted) member))

    pub item_shares : next.shared ≡ old.shared + shared_in_items (joined is (item i no_items))
    item_shares = omega (arith, shares, counted, shared_items_more is i)

  module _ (mid next : Walk) (ps : Pairs) (k v : Item)
      (wrote : Wrote old.writer now.writer (pairs_there here old.shared ps))
      (counted : now.shared ≡ old.shared + shared_in_pairs ps)
      (key : Wrote now.writer mid.writer (item_lines here now.shared k))
      (key_shares : mid.shared ≡ now.shared + shared_in k)
      (value : Wrote mid.writer next.writer (item_lines here mid.shared v))
      (shares : next.shared ≡ mid.shared + shared_in v) where
    pub pair_done : Wrote old.writer next.writer (pairs_there here old.shared (joined_pairs ps (pair k v no_pairs)))
    pair_done =
        let known = old.shared + shared_in_pairs ps in
        let after : mid.shared ≡ known + shared_in k = key_shares ∙ ap (λ n. n + shared_in k) counted in
        subst (Wrote old.writer next.writer) (sym (pairs_more (written here) old.shared ps k v))
        (wrote_then old.writer now.writer next.writer (pairs_there here old.shared ps)
        (written here known k ++ written here (known + shared_in k) v) wrote
        (wrote_then now.writer mid.writer next.writer (written here known k) (written here (known + shared_in k) v)
        (subst (Wrote now.writer mid.writer) (member_lines here none known now.shared k le counted) key)
        (subst (Wrote mid.writer next.writer) (member_lines here none
        (known + shared_in k) mid.shared v le after) value)))

    pub pair_shares : next.shared ≡ old.shared + shared_in_pairs (joined_pairs ps (pair k v no_pairs))
    pair_shares = omega (arith, shares, key_shares, counted, shared_pairs_more ps k v)

-- ---- counts

-- no more members are held than were announced
abbrev pub Announced : Argument → ℕ → Type 0
Announced (Number n w) held = held ≤ n
Announced Indefinite held = Unit {0}

pub none_announced : (count : Argument) → Announced count 0
none_announced (Number n w) = omega arith
none_announced Indefinite = tt

pub more_announced : (count : Argument) (held : ℕ) (b : List ℕ)
    → after_members (left_of count held) b ≡ None → Announced count held → Announced count (held + 1)
more_announced (Number n w) held b more h =
    elim (cases_lt held n) [
      | inl lt ↦ omega arith
      | inr le ↦
          let none : n - held ≡ 0 = omega arith in
          absurd (let wrong = sym (ap (λ k. after_members (Number k w) b) none) ∙ more in cc)
    ]
more_announced Indefinite held b more h = tt

all_held : (n : ℕ) (w : IntegerWidth) (held : ℕ) (b after : List ℕ) → held ≤ n
    → after_members (Number (n - held) w) b ≡ Some after → held ≡ n
all_held n w held b after h ends =
    elim (cases_lt held n) [
      | inl lt ↦
          let some : n - held ≡ suc (n - held - 1) = omega arith in
          absurd (let wrong = sym (ap (λ k. after_members (Number k w) b) some) ∙ ends in cc)
      | inr le ↦ omega arith
    ]

-- the head of a container has the count of its members
pub count_line : (depth major : ℕ) (name : List ℕ) (count : Argument) (held members : ℕ)
    (b after : List ℕ)
    → members ≡ held → Announced count held → after_members (left_of count held) b ≡ Some after
    → container_line depth major name members (count_width count) ≡ head_line depth (argument_bytes major count)
    (counted_comment name (argument_count count))
count_line depth major name (Number n w) held members b after same h ends =
    ap (λ k. head_line depth (encoded_head major k w) (counted_comment name (Some k)))
    (same ∙ all_held n w held b after h ends)
count_line depth major name Indefinite held members b after same h ends = refl

pub width_held : (count : Argument) (held : ℕ) → count_width (left_of count held) ≡ count_width count
width_held (Number n w) held = refl
width_held Indefinite held = refl
