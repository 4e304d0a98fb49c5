-- For `Reach` in `width.rt`, which measures the width of a dump as it reads bytes: if the parts of an item (head, value
-- of a tag, members, chunks) are counted one by one, the result is the width of the item that was read (`Measured`,
-- `MeasuredBehind`). A head is shown in at most 9 bytes.
use Rattle.std.proofs.Common.{◌≡◌, ℕ, ◌+◌, ◌-◌, ◌≤◌, max, List, [], ◌∷◌, ◌++◌, length, Some, None, Ok}
use Rattle.std.proofs.Common.{inl, inr, refl, sym, ap, subst, ◌∙◌, arith, length-append}
use Rattle.std.proofs.lemmas.Bool.Decides.{nat_tests}
use Rattle.cbor_grammar.specs.declared.error.Error.{Error}
use Rattle.cbor_grammar.specs.declared.width.IntegerWidth.{IntegerWidth}
use Rattle.cbor_grammar.specs.declared.width.IntegerWidth.TheVariants as width
use Rattle.cbor_grammar.specs.declared.width.FloatWidth.TheVariants as float_width
use Rattle.cbor_grammar.specs.declared.strings.StringContent.{StringContent}
use Rattle.cbor_grammar.specs.declared.strings.StringKind.{StringKind}
use Rattle.cbor_grammar.specs.StringKind.{major_of}
use Rattle.cbor_dump.specs.declared.width.DumpPlace.{DumpPlace}
use Rattle.cbor_grammar.specs.declared.head.ItemHead.{ItemHead}
use Rattle.cbor_grammar.specs.declared.argument.Argument.{Argument}
use Rattle.cbor_grammar.specs.declared.argument.Argument.TheVariants.{Number, Indefinite}
use Rattle.cbor_grammar.specs.Item as spec
use Rattle.cbor_grammar.specs.Item.{Chunk, integer, negative, string, chunked_string, float, simple, Item, atom, array}
use Rattle.cbor_grammar.specs.Item.{tagged, Items, no_items, item, Pairs, no_pairs, pair, item_count, pair_count}
use Rattle.cbor_grammar.specs.declared.head.ItemHead.TheVariants as item_head
use Rattle.cbor_grammar.specs.Head.{head, stated, FitsStated, HeadThen}
use Rattle.cbor_grammar.specs.Bytes.{any, SpellsSimple}
use Rattle.cbor_grammar.specs.Reading.{Fails, ◌>>=◌, count_width, joined, joined_pairs, read_head, read_content}
use Rattle.cbor_grammar.specs.Reading.{read_chunk, read_item, tag_of}
use Rattle.cbor_grammar.specs.WellFormed.{levels_left}
use Rattle.cbor_grammar.specs.Written.{encoded_head, encoded_open, encoded_simple}
use Rattle.cbor_dump.specs.mirror.Dumped.{tag_number}
use Rattle.cbor_grammar.specs.mirror.Lengths.{left_of}
use Rattle.cbor_grammar.specs.mirror.StringView.{borrowed_chunk, bytes_of, kind_of}
use Rattle.cbor_dump.specs.mirror.Widths.{head_reach, longest_piece, content_width, string_width, chunks_width}
use Rattle.cbor_dump.specs.mirror.Widths.{piece_reach, head_length, close_width, items_width, pairs_width, width_at}
use Rattle.cbor_grammar.specs.mirror.AtLevel.{read_at, read_behind}
use Rattle.cbor_dump.specs.mirror.Widths.{width_there, inner_there, Measured, MeasuredBehind}
use Rattle.cbor_dump.specs.mirror.Widths.{HasHead, shown_length}
use Rattle.cbor_grammar.proofs.bytes.Chunks.{chunk_takes}
use Rattle.cbor_grammar.proofs.bytes.Heads.{IsBytes, ArgumentThen, HeadIs, head_takes}
use Rattle.cbor_bytes.proofs.reading.Levels.{head_reads}
use Rattle.cbor_bytes.proofs.reading.Readings.{one_more, part_fails, tag_read}

-- ---- the bytes of a head

-- the length of a head depends on its width alone
length_by_width : (major n k : ℕ) (w : IntegerWidth) → FitsStated w n
    → length (head major k (stated w k)) ≡ length (head major n w)
length_by_width major n k width.Unknown fits = absurd fits
length_by_width major n k width.Zero fits = refl
length_by_width major n k width.Eight fits = refl
length_by_width major n k width.Sixteen fits = refl
length_by_width major n k width.ThirtyTwo fits = refl
length_by_width major n k width.SixtyFour fits = refl

head_taken : (major n k : ℕ) (w : IntegerWidth) (b rest : List ℕ) → HeadThen major n w b (λ r. r ≡ rest)
    → length (encoded_head major k w) ≡ length b - length rest
head_taken major n k w b rest h =
    let same = length_by_width major n k w h.0 in
    let all = ap length h.2 in
    let parts = length-append (head major n w) h.1 in
    let behind = ap length h.3 in
    omega arith

open_taken : (major k : ℕ) (a : Argument) (b rest : List ℕ) → ArgumentThen major a b rest
    → length (encoded_open major k (count_width a)) ≡ length b - length rest
open_taken major k (Number n w) b rest h = head_taken major n k w b rest h
open_taken major k Indefinite b rest h = let all = ap length h in omega arith

simple_taken : (n : ℕ) (x b rest : List ℕ) → b ≡ x ++ rest → SpellsSimple any x n
    → length (encoded_simple n) ≡ shown_length (item_head.Simple n) (length b - length rest)
simple_taken n x b rest is (inl h) = grind (arith, nat_tests, h.0)
simple_taken n x b rest is (inr h) =
    let all = ap length is in
    let parts = length-append x rest in
    let two = ap length h.1 in
    grind (arith, nat_tests)

-- as many bytes as the head of an item took stand in its dump
length_taken : (h : ItemHead) (b rest : List ℕ) (i : Item) → HeadIs h b rest → HasHead h i
    → head_length i ≡ shown_length h (length b - length rest)
length_taken (item_head.Integer n w) b rest i is has = ap head_length has ∙ head_taken 0 n n w b rest is
length_taken (item_head.Negative n w) b rest i is has = ap head_length has ∙ head_taken 1 n n w b rest is
length_taken (item_head.String kind (Number n w)) b rest i is has =
    let k : ℕ = length has.0.bytes in
    ap head_length has.1 ∙ ap (λ v. length (encoded_head (major_of kind) k v)) has.2
    ∙ head_taken (major_of kind) n k w b rest is
length_taken (item_head.String kind Indefinite) b rest i is has =
    let all = ap length is in
    let one : 1 ≡ length b - length rest = omega arith in
    ap head_length has.1 ∙ one
length_taken (item_head.Array a) b rest i is has = ap head_length has.1 ∙ open_taken 4 (item_count has.0) a b rest is
length_taken (item_head.Map a) b rest i is has = ap head_length has.1 ∙ open_taken 5 (pair_count has.0) a b rest is
length_taken (item_head.Tag t w) b rest i is has = ap head_length has.1 ∙ head_taken 6 t t w b rest is
length_taken (item_head.Float bits float_width.Unknown) b rest i is has = absurd is
length_taken (item_head.Float bits float_width.Sixteen) b rest i is has =
    let all = ap length is.1 in
    let three : 3 ≡ length b - length rest = omega arith in
    ap head_length has ∙ three
length_taken (item_head.Float bits float_width.ThirtyTwo) b rest i is has =
    let all = ap length is.1 in
    let five : 5 ≡ length b - length rest = omega arith in
    ap head_length has ∙ five
length_taken (item_head.Float bits float_width.SixtyFour) b rest i is has =
    let all = ap length is.1 in
    let nine : 9 ≡ length b - length rest = omega arith in
    ap head_length has ∙ nine
length_taken (item_head.Simple n) b rest i is has = ap head_length has ∙ simple_taken n is.0 b rest is.1 is.2

taken_short : (major n : ℕ) (w : IntegerWidth) (b rest : List ℕ) → HeadThen major n w b (λ r. r ≡ rest)
    → length b - length rest ≤ 9
taken_short major n w b rest h =
    let all = ap length h.2 in
    let parts = length-append (head major n w) h.1 in
    let behind = ap length h.3 in
    let few : length (head major n w) ≤ 9 = head_short major n w in
    omega arith
  where
    head_short : (major n : ℕ) (w : IntegerWidth) → length (head major n w) ≤ 9
    head_short major n width.Unknown = omega arith
    head_short major n _ = omega arith

argument_short : (major : ℕ) (a : Argument) (b rest : List ℕ) → ArgumentThen major a b rest
    → length b - length rest ≤ 9
argument_short major (Number n w) b rest h = taken_short major n w b rest h
argument_short major Indefinite b rest h = let all = ap length h in omega arith

-- a head takes at most 9 bytes
short_of : (h : ItemHead) (b rest : List ℕ) → HeadIs h b rest → length b - length rest ≤ 9
short_of (item_head.Integer n w) b rest is = taken_short 0 n w b rest is
short_of (item_head.Negative n w) b rest is = taken_short 1 n w b rest is
short_of (item_head.String kind a) b rest is = argument_short (major_of kind) a b rest is
short_of (item_head.Array a) b rest is = argument_short 4 a b rest is
short_of (item_head.Map a) b rest is = argument_short 5 a b rest is
short_of (item_head.Tag t w) b rest is = taken_short 6 t w b rest is
short_of (item_head.Float bits float_width.Unknown) b rest is = absurd is
short_of (item_head.Float bits float_width.Sixteen) b rest is = let all = ap length is.1 in omega arith
short_of (item_head.Float bits float_width.ThirtyTwo) b rest is = let all = ap length is.1 in omega arith
short_of (item_head.Float bits float_width.SixtyFour) b rest is = let all = ap length is.1 in omega arith
short_of (item_head.Simple n) b rest is = simple_short is.0 b rest is.1 is.2
  where
    simple_short : (x b rest : List ℕ) → b ≡ x ++ rest → SpellsSimple any x n → length b - length rest ≤ 9
    simple_short x b rest e (inl h) =
        let all = ap length e in
        let parts = length-append x rest in
        let one = ap length h.1 in
        omega arith
    simple_short x b rest e (inr h) =
        let all = ap length e in
        let parts = length-append x rest in
        let two = ap length h.1 in
        omega arith

shown_low : (h : ItemHead) (taken : ℕ) → taken ≤ 9 → shown_length h taken ≤ 9
shown_low (item_head.Simple n) taken le = grind (arith, nat_tests)
shown_low _ taken le = le

pub head_low : (b rest : List ℕ) (h : ItemHead) → IsBytes b → read_head b ≡ Ok (h, rest)
    → shown_length h (length b - length rest) ≤ 9
head_low b rest h fits e =
    shown_low h (length b - length rest) (short_of h b rest (head_takes b rest h fits e).0)

-- ---- an item

max_assoc : (a b c d e : ℕ) → d ≡ max a b → e ≡ max d c → e ≡ max a (max b c)
max_assoc a b c d e p q = omega arith

pub front_measured : (p : DumpPlace) (b rest after : List ℕ) (h : ItemHead) (old counted new : ℕ) → IsBytes b
    → p.level ≤ 128 → read_head b ≡ Ok (h, rest)
    → counted ≡ max old (head_reach p.depth (shown_length h (length b - length rest)))
    → MeasuredBehind p h rest after counted new → Measured (width_there p) (read_at p.level b) after old new
unfolding width_at
front_measured p b rest after h old counted new fits le e head m =
    let i : Item = m.0 in
    let opens : width_there p i ≡ max (head_reach p.depth (head_length i)) (inner_there p i) =
    ap (λ n. width_at n p.depth (tag_number p.tag) i) (one_more p.level le) in
    let same = length_taken h b rest i (head_takes b rest h fits e).0 m.2 in
    let all = max_assoc old (head_reach p.depth (shown_length h (length b - length rest))) (inner_there p i) counted new
    head m.3 in (
      i,
      head_reads p.level b h rest le e ∙ m.1,
      all ∙ ap (λ n. max old (max (head_reach p.depth n) (inner_there p i))) (sym same)
          ∙ ap (max old) (sym opens),
    )

no_more : (a : ℕ) → a ≡ max a 0
no_more a = omega arith

-- an item that is its head
pub alone_measured : (p : DumpPlace) (h : ItemHead) (b : List ℕ) (n : ℕ)
    → ((k : StringKind) (a : Argument) → h ≡ item_head.String k a → ⊥)
    → ((a : Argument) → h ≡ item_head.Array a → ⊥) → ((a : Argument) → h ≡ item_head.Map a → ⊥)
    → ((t : ℕ) (w : IntegerWidth) → h ≡ item_head.Tag t w → ⊥) → MeasuredBehind p h b b n n
alone_measured p (item_head.Integer m w) b n no_string no_array no_map no_tag =
    (atom (integer m w), refl, refl, no_more n)
alone_measured p (item_head.Negative m w) b n no_string no_array no_map no_tag =
    (atom (negative m w), refl, refl, no_more n)
alone_measured p (item_head.String k a) b n no_string no_array no_map no_tag = absurd (no_string k a refl)
alone_measured p (item_head.Array a) b n no_string no_array no_map no_tag = absurd (no_array a refl)
alone_measured p (item_head.Map a) b n no_string no_array no_map no_tag = absurd (no_map a refl)
alone_measured p (item_head.Tag t w) b n no_string no_array no_map no_tag = absurd (no_tag t w refl)
alone_measured p (item_head.Float bits w) b n no_string no_array no_map no_tag =
    (atom (float bits w), refl, refl, no_more n)
alone_measured p (item_head.Simple m) b n no_string no_array no_map no_tag = (atom (simple m), refl, refl, no_more n)

-- a tag, and the value right below it
pub tag_measured : (p below : DumpPlace) (t : ℕ) (w : IntegerWidth) (b after : List ℕ) (old new : ℕ)
    → below.level ≡ p.level + 1 → below.depth ≡ p.depth + 1 → tag_number below.tag ≡ Some t
    → Measured (width_there below) (read_at below.level b) after old new
    → MeasuredBehind p (item_head.Tag t w) b after old new
tag_measured p below t w b after old new level depth tag m =
    let left : ℕ = levels_left (p.level + 1) in
    let j : Item = m.0 in
    let read : read_item left b ≡ Ok (j, after) = ap (λ n. read_at n b) (sym level) ∙ m.1 in
    let wide : width_there below j ≡ width_at left (p.depth + 1) (Some t) j =
    ap (λ n. width_at (levels_left n) below.depth (tag_number below.tag) j) level
    ∙ ap (λ n. width_at left n (tag_number below.tag) j) depth ∙ ap (λ x. width_at left (p.depth + 1) x j) tag in
    (tagged t w j, tag_read left t w b after j read, (j, refl), m.2 ∙ ap (max old) wide)

-- what is not the item below a tag
pub tag_behind_fails : (level inner t : ℕ) (w : IntegerWidth) (b : List ℕ) (e : Error) → inner ≡ level + 1
    → Fails e (read_at inner b) → Fails e (read_behind level (item_head.Tag t w) b)
tag_behind_fails level inner t w b e same fails =
    part_fails e (levels_left (level + 1)) (tag_of t w) b refl (subst (λ n. Fails e (read_at n b)) same fails)

-- ---- members

pub none_yet : (a : ℕ) → a ≡ max a 0
none_yet a = no_more a

-- however many members are held, the width of their count is the same
pub held_width : (len : Argument) (held : ℕ) → count_width (left_of len held) ≡ count_width len
held_width (Number n w) held = refl
held_width Indefinite held = refl

-- what is read one level deeper
pub level_read : (inner level : ℕ) (b : List ℕ) (i : Item) (rest : List ℕ) → inner ≡ level
    → read_at inner b ≡ Ok (i, rest) → read_item (levels_left level) b ≡ Ok (i, rest)
level_read inner level b i rest same e = ap (λ n. read_at n b) (sym same) ∙ e

pub level_fails : (e : Error) (inner level : ℕ) (b : List ℕ) → inner ≡ level → Fails e (read_at inner b)
    → Fails e (read_item (levels_left level) b)
level_fails e inner level b same h = subst (λ n. Fails e (read_at n b)) same h

items_more : (each : Item → ℕ) (is : Items) (i : Item)
    → items_width each (joined is (item i no_items)) ≡ max (items_width each is) (each i)
items_more each no_items i = omega arith
items_more each (item j is) i = let rest = items_more each is i in omega arith

pairs_more : (each : Item → ℕ) (ps : Pairs) (k v : Item)
    → pairs_width each (joined_pairs ps (pair k v no_pairs)) ≡ max (pairs_width each ps) (max (each k) (each v))
pairs_more each no_pairs k v = omega arith
pairs_more each (pair j u ps) k v = let rest = pairs_more each ps k v in omega arith

pub item_counted : (each : Item → ℕ) (is : Items) (i : Item) (old now new : ℕ) → now ≡ max old (items_width each is)
    → new ≡ max now (each i) → new ≡ max old (items_width each (joined is (item i no_items)))
item_counted each is i old now new p q = let more = items_more each is i in omega arith

pub pair_counted : (each : Item → ℕ) (ps : Pairs) (k v : Item) (old now key new : ℕ)
    → now ≡ max old (pairs_width each ps) → key ≡ max now (each k) → new ≡ max key (each v)
    → new ≡ max old (pairs_width each (joined_pairs ps (pair k v no_pairs)))
pair_counted each ps k v old now key new p q r = let more = pairs_more each ps k v in omega arith

-- what is in a container is one deeper
module _ (p inner : DumpPlace) (level : inner.level ≡ p.level + 1) (depth : inner.depth ≡ p.depth + 1)
    (tag : tag_number inner.tag ≡ None) where
  each_inside : width_there inner ≡ width_at (levels_left (p.level + 1)) (p.depth + 1) None
  each_inside = ap (λ n. width_at (levels_left n) inner.depth (tag_number inner.tag)) level
      ∙ ap (λ n. width_at (levels_left (p.level + 1)) n (tag_number inner.tag)) depth
      ∙ ap (λ x. width_at (levels_left (p.level + 1)) (p.depth + 1) x) tag

  pub array_measured : (a : Argument) (b after : List ℕ) (is : Items) (old now new : ℕ)
      → read_behind p.level (item_head.Array a) b ≡ Ok (array is (count_width a), after)
      → now ≡ max old (items_width (width_there inner) is)
      → new ≡ max now (close_width inner.depth (count_width a)) → MeasuredBehind p (item_head.Array a) b after old new
  array_measured a b after is old now new read members end = (
    array is (count_width a),
    read,
    (is, refl),
    max_assoc old (items_width (width_there inner) is) (close_width inner.depth (count_width a)) now new members end
        ∙ ap (λ f. max old (max (items_width f is) (close_width inner.depth (count_width a)))) each_inside
        ∙ ap (λ n. max old (max (items_width (width_at (levels_left (p.level + 1)) (p.depth + 1) None) is)
        (close_width n (count_width a)))) depth,
  )

  pub map_measured : (a : Argument) (b after : List ℕ) (ps : Pairs) (old now new : ℕ)
      → read_behind p.level (item_head.Map a) b ≡ Ok (spec.map ps (count_width a), after)
      → now ≡ max old (pairs_width (width_there inner) ps)
      → new ≡ max now (close_width inner.depth (count_width a)) → MeasuredBehind p (item_head.Map a) b after old new
  map_measured a b after ps old now new read members end = (
    spec.map ps (count_width a),
    read,
    (ps, refl),
    max_assoc old (pairs_width (width_there inner) ps) (close_width inner.depth (count_width a)) now new members end
        ∙ ap (λ f. max old (max (pairs_width f ps) (close_width inner.depth (count_width a)))) each_inside
        ∙ ap (λ n. max old (max (pairs_width (width_at (levels_left (p.level + 1)) (p.depth + 1) None) ps)
        (close_width n (count_width a)))) depth,
  )

-- ---- strings

pub string_measured : (p : DumpPlace) (kind : StringKind) (n : ℕ) (w : IntegerWidth) (s : StringContent)
    (b after : List ℕ)
    (old new found : ℕ) → kind_of s ≡ kind → read_content kind n w b ≡ Ok (borrowed_chunk w s, after)
    → found ≡ longest_piece (kind_of s) (tag_number p.tag) (bytes_of s)
    → new ≡ max old (piece_reach (p.depth + 1) found)
    → MeasuredBehind p (item_head.String kind (Number n w)) b after old new
string_measured p kind n w s b after old new found same read long counted = (
  atom (string kind (borrowed_chunk w s)),
  ap (λ r. r >>= λ c. Ok (atom (string kind c.0), c.1)) read,
  (borrowed_chunk w s, refl, refl),
  counted ∙ ap (λ n. max old (piece_reach (p.depth + 1) n)) long
      ∙ ap (λ k. max old (piece_reach (p.depth + 1) (longest_piece k (tag_number p.tag) (bytes_of s)))) same,
)

chunks_more : (kind : StringKind) (depth : ℕ) (cs : List Chunk) (c : Chunk)
    → chunks_width kind depth (cs ++ c ∷ []) ≡ max (chunks_width kind depth cs) (string_width kind depth None c)
chunks_more kind depth [] c = max_swap (string_width kind depth None c)
  where
    max_swap : (n : ℕ) → max n 0 ≡ max 0 n
    max_swap n = omega arith
chunks_more kind depth (d ∷ cs) c =
    ap (max (string_width kind depth None d)) (chunks_more kind depth cs c)
    ∙ regroup (string_width kind depth None d) (chunks_width kind depth cs) (string_width kind depth None c)
  where
    regroup : (x y z : ℕ) → max x (max y z) ≡ max (max x y) z
    regroup x y z = omega arith

-- a chunk takes its head and its content
pub chunk_taken : (kind : StringKind) (b after : List ℕ) (c : Chunk) → IsBytes b
    → read_chunk kind b ≡ Ok (Some c, after)
    → (length b - length after ≡ length (encoded_head (major_of kind) (length c.bytes) c.width) + length c.bytes)
    × (length (encoded_head (major_of kind) (length c.bytes) c.width) ≤ 9)
chunk_taken kind b after c fits e =
    let h = (chunk_takes kind b after c fits e).0.1 in
    let its_head : HeadThen (major_of kind) (length c.bytes) c.width b (λ r. r ≡ h.1) = (h.0, h.1, h.2, refl) in
    let taken = head_taken (major_of kind) (length c.bytes) (length c.bytes) c.width b h.1 its_head in
    let few = taken_short (major_of kind) (length c.bytes) c.width b h.1 its_head in
    let all = ap length h.2 in
    let front = length-append (head (major_of kind) (length c.bytes) c.width) h.1 in
    let behind = ap length h.3.1 in
    let parts = length-append c.bytes h.3.0 in
    let end = ap length h.3.2 in
    (omega arith, omega arith)

pub chunk_counted : (kind : StringKind) (depth : ℕ) (cs : List Chunk) (w : IntegerWidth) (s : StringContent)
    (b after : List ℕ) (old now new : ℕ) → IsBytes b → kind_of s ≡ kind
    → read_chunk kind b ≡ Ok (Some (borrowed_chunk w s), after) → now ≡ max old (chunks_width kind depth cs)
    → new ≡ max now (max (head_reach depth (length b - length after - length (bytes_of s)))
    (content_width (kind_of s) depth None (bytes_of s)))
    → new ≡ max old (chunks_width kind depth (cs ++ borrowed_chunk w s ∷ []))
chunk_counted kind depth cs w s b after old now new fits same read before counted =
    let c : Chunk = borrowed_chunk w s in
    let taken = chunk_taken kind b after c fits read in
    let left : length b - length after - length (bytes_of s)
    ≡ length (encoded_head (major_of kind) (length c.bytes) c.width) = omega (arith, taken.0) in
    let here : new ≡ max now (string_width kind depth None c) =
    counted ∙ ap (λ n. max now (max (head_reach depth n) (content_width (kind_of s) depth None (bytes_of s)))) left
    ∙ ap (λ k. max now (max (head_reach depth (length (encoded_head (major_of kind) (length c.bytes) c.width)))
    (content_width k depth None (bytes_of s)))) same in
    max_assoc old (chunks_width kind depth cs) (string_width kind depth None c) now new before here
    ∙ ap (max old) (sym (chunks_more kind depth cs c))

pub chunks_measured : (p : DumpPlace) (kind : StringKind) (b after : List ℕ) (cs : List Chunk) (old now new : ℕ)
    → read_behind p.level (item_head.String kind Indefinite) b ≡ Ok (atom (chunked_string kind cs), after)
    → now ≡ max old (chunks_width kind (p.depth + 1) cs) → new ≡ max now (head_reach (p.depth + 1) 1)
    → MeasuredBehind p (item_head.String kind Indefinite) b after old new
chunks_measured p kind b after cs old now new read chunks end = (
  atom (chunked_string kind cs),
  read,
  (cs, refl),
  max_assoc old (chunks_width kind (p.depth + 1) cs) (head_reach (p.depth + 1) 1) now new chunks end,
)
