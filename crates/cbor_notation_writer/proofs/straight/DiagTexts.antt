-- Each text that the dialect `diag_leaves` of `cbor_view` allows for an item (`TextsOf`) or for the content of a byte
-- string (`ContentText`) is the one that the definitions give (`text_at`, `content_text`). So what was written is this
-- text (`printed_so`, `content_appended`).
use Rattle.std.proofs.Common.{◌≡◌, ℕ, zero, suc, ◌+◌, List, [], ◌∷◌, ◌++◌, map, codes}
use Rattle.std.proofs.Common.{Option, Some, None, Result, Ok, Err, IfOk, refl, ap, subst, ◌∙◌, append_assoc}
use Rattle.std.specs.List.{flat_map}
use Rattle.std.proofs.lemmas.List.{append-nil}
use Rattle.cbor_grammar.specs.declared.width.IntegerWidth.{IntegerWidth}
use Rattle.cbor_grammar.specs.declared.encoding.Encoding.TheVariants.{Base16}
use Rattle.cbor_grammar.specs.declared.layout.Content.{Content}
use Rattle.cbor_grammar.specs.declared.layout.Content.TheVariants as shown
use Rattle.cbor_grammar.specs.declared.layout.ContainerStyle.{ContainerStyle}
use Rattle.cbor_grammar.specs.declared.layout.ContainerStyle.TheVariants as style
use Rattle.cbor_grammar.specs.declared.layout.ContainerStyle.TheVariants.{OneLine, MultiLine}
use Rattle.cbor_grammar.specs.declared.layout.Layout.{Layout}
use Rattle.cbor_grammar.specs.declared.strings.StringKind.{StringKind}
use Rattle.cbor_grammar.specs.declared.strings.StringKind.TheVariants as kind
use Rattle.cbor_grammar.specs.Embedded.{embedded_at, sequence_at}
use Rattle.cbor_grammar.specs.Estimate.{estimated_length}
use Rattle.cbor_grammar.specs.Item as spec
use Rattle.cbor_grammar.specs.Item.{Chunk, Atom, integer, negative, string, chunked_string, float, simple, Item, atom}
use Rattle.cbor_grammar.specs.Item.{array, tagged, Items, no_items, item, Pairs, no_pairs, pair, item_count, pair_count}
use Rattle.cbor_grammar.specs.NotationText as text
use Rattle.cbor_grammar.specs.Reading.{Read, count_width}
use Rattle.cbor_grammar.specs.WellFormed.{levels_left}
use Rattle.cbor_tokens.specs.Appends.{Appends}
use Rattle.cbor_notation_writer.specs.declared.context.NotationContext.{NotationContext}
use Rattle.cbor_notation_writer.specs.declared.parts.Container.{Container}
use Rattle.cbor_notation_writer.specs.declared.parts.Container.TheVariants.{Array, Map, Chunks}
use Rattle.cbor_notation_writer.specs.Dialect.{Writer, listed, ItemTexts, PairTexts, ChunkTexts, Between, count_of}
use Rattle.cbor_notation_writer.specs.Dialect.{style_at, ItemsText, PairsText, embedding, OneText, EmbeddedText}
use Rattle.cbor_notation_writer.specs.Dialect.{ContentText, ChunksText, AtomText, TagText, TextWith, TextsOf}
use Rattle.cbor_notation_writer.specs.Dialect.{TextsAt, Wrote, SequenceText}
use Rattle.cbor_notation_writer.specs.mirror.DiagLeaves.{opening, closing, diag_leaves}
use Rattle.cbor_notation_writer.specs.mirror.LayoutView.{context_view, before_member, after_member, content_there}
use Rattle.cbor_notation_writer.specs.mirror.Straight.{Printed, Written, TextsBelow, ContentThere, text_in}
use Rattle.cbor_notation_writer.proofs.straight.Styles.{one_line_style}

-- ---- members

-- what is listed after the first of the members on one line
further : (separator : List ℕ) (ms : List (List ℕ))
    → flat_map (λ x. separator ++ (x ++ [])) ms ≡ flat_map (λ x. separator ++ x) ms
further separator [] = refl
further separator (m ∷ ms) = rw (append-nil m, further separator ms) refl

-- the members between their brackets
pub listed_so : (l : ContainerStyle) (ms : List (List ℕ))
    → listed (before_member l) (after_member l) ms ≡ text.members l ms
listed_so style.Compact [] = refl
listed_so style.Compact (m ∷ ms) = rw (append-nil m, further (codes ",") ms) refl
listed_so (OneLine indent) [] = refl
listed_so (OneLine indent) (m ∷ ms) = rw (append-nil m, further (codes ", ") ms) refl
listed_so (MultiLine indent) [] = refl
listed_so (MultiLine indent) (m ∷ ms) = refl

-- what writes each item so
abbrev Same : Writer NotationContext → text.Writer → Type 0
Same write so = (c : NotationContext) (i : Item) (t : List ℕ) → write c i t → t ≡ so (context_view c) i

items_so : (write : Writer NotationContext) (so : text.Writer) → Same write so → (c : NotationContext) (is : Items)
    (ms : List (List ℕ)) → ItemTexts diag_leaves write c is ms → ms ≡ text.item_texts (so (context_view c)) is
items_so write so same c no_items [] h = refl
items_so write so same c no_items (m ∷ ms) h = absurd h
items_so write so same c (item i is) [] h = absurd h
items_so write so same c (item i is) (m ∷ ms) h = rw (same c i m h.0, items_so write so same c is ms h.1) refl

pairs_so : (write : Writer NotationContext) (so : text.Writer) → Same write so → (l : ContainerStyle)
    (c : NotationContext) (ps : Pairs) (ms : List (List ℕ)) → PairTexts diag_leaves write l c ps ms
    → ms ≡ text.pair_texts (so (context_view c)) (text.colon l) ps
pairs_so write so same l c no_pairs [] h = refl
pairs_so write so same l c no_pairs (m ∷ ms) h = absurd h
pairs_so write so same l c (pair k v ps) [] h = absurd h
pairs_so write so same l c (pair k v ps) (m ∷ ms) h =
    let one = h.0 in
    let first : m ≡ so (context_view c) k ++ (text.colon l ++ so (context_view c) v) =
    one.4 ∙ ap (λ x. x ++ (text.colon l ++ one.1)) (same c k one.0 one.2)
    ∙ ap (λ x. so (context_view c) k ++ (text.colon l ++ x)) (same c v one.1 one.3) in
    rw (first, pairs_so write so same l c ps ms h.1) refl

chunks_so : (c : NotationContext) (kind : StringKind) (cs : List Chunk) (ms : List (List ℕ))
    → ChunkTexts diag_leaves c kind cs ms
    → ms ≡ map (λ (x : Chunk). text.string_text kind c.encoding x.bytes) cs
chunks_so c kind [] [] h = refl
chunks_so c kind [] (m ∷ ms) h = absurd h
chunks_so c kind (x ∷ xs) [] h = absurd h
chunks_so c kind (x ∷ xs) (m ∷ ms) h = rw (h.0, chunks_so c kind xs ms h.1) refl

-- what is between an opening and a closing
between_so : (c : NotationContext) (k : Container) (l : ContainerStyle) (inner t : List ℕ)
    → Between diag_leaves c k l inner t → t ≡ opening k l ++ (inner ++ closing k l)
between_so c k l inner t h = h.4 ∙ ap (λ x. x ++ (inner ++ h.1)) h.2 ∙ ap (λ x. opening k l ++ (inner ++ x)) h.3

-- ---- items

width_so : (w : Option IntegerWidth) (n : ℕ) (l : ContainerStyle) (bracket : List ℕ)
    → text.opened l bracket (count_width (count_of w n)) ≡ text.opened l bracket w
width_so (Some w) n l bracket = refl
width_so None n l bracket = refl

array_so : (write : Writer NotationContext) (so : text.Writer) → Same write so → (c : NotationContext)
    (l : ContainerStyle) (is : Items) (w : Option IntegerWidth) (t : List ℕ)
    → ItemsText diag_leaves write c (Array (count_of w (item_count is))) l is t
    → t ≡ text.array_text so (context_view c) l is w
array_so write so same c l is w t h =
    let k = Array (count_of w (item_count is)) in
    let inner = diag_leaves.inside k (text.members_layout l) c in
    let each = items_so write so same inner is h.0 h.1 in
    between_so c k l _ t h.2
    ∙ ap (λ x. opening k l ++ (x ++ closing k l)) (listed_so l h.0 ∙ ap (text.members l) each)
    ∙ ap (λ x. x ++ (text.members l (text.item_texts (so (context_view inner)) is) ++ closing k l))
    (width_so w (item_count is) l (codes "["))

map_so : (write : Writer NotationContext) (so : text.Writer) → Same write so → (c : NotationContext)
    (l : ContainerStyle) (ps : Pairs) (w : Option IntegerWidth) (t : List ℕ)
    → PairsText diag_leaves write c (Map (count_of w (pair_count ps))) l ps t
    → t ≡ text.map_text so (context_view c) l ps w
map_so write so same c l ps w t h =
    let k = Map (count_of w (pair_count ps)) in
    let inner = diag_leaves.inside k (text.members_layout l) c in
    let each = pairs_so write so same l inner ps h.0 h.1 in
    between_so c k l _ t h.2
    ∙ ap (λ x. opening k l ++ (x ++ closing k l)) (listed_so l h.0 ∙ ap (text.members l) each)
    ∙ ap (λ x. x ++ (text.members l (text.pair_texts (so (context_view inner)) (text.colon l) ps) ++ closing k l))
    (width_so w (pair_count ps) l (codes "{"))

sequence_so : (write : Writer NotationContext) (so : text.Writer) → Same write so → (c : NotationContext) (b : Chunk)
    (s : Items × List ℕ) (t : List ℕ) → SequenceText diag_leaves write c b s t
    → t ≡ text.sequence_text so (context_view c) s
sequence_so write so same c b s t h =
    let k = embedding b in
    let l = diag_leaves.style c (text.sequence_size s) in
    let inner = diag_leaves.inside k (text.members_layout l) c in
    let items = h.2 in
    let each = items_so write so same inner s.0 items.0 items.1 in
    let first : h.0 ≡ text.items_text so (context_view c) l (codes "<<") s.0 (codes ">>") =
    between_so c k l _ h.0 items.2
    ∙ ap (λ x. opening k l ++ (x ++ closing k l)) (listed_so l items.0 ∙ ap (text.members l) each) in
    h.4 ∙ ap (λ x. x ++ h.1) first
    ∙ ap (λ x. text.items_text so (context_view c) l (codes "<<") s.0 (codes ">>") ++ x) h.3
    ∙ ap (λ x. text.sequence_listed so (context_view c) x s) (one_line_style c.layout (text.sequence_size s))

one_so : (write : Writer NotationContext) (so : text.Writer) → Same write so → (c : NotationContext) (b : Chunk)
    (e : Option Item) (t : List ℕ) → OneText diag_leaves write c b e t
    → t ≡ text.item_text so (context_view c) b.bytes e
one_so write so same c b (Some i) t h =
    let k = embedding b in
    let inner = diag_leaves.inside k c.layout c in
    between_so c k style.Compact h.0 t h.2 ∙ ap (λ x. codes "<<" ++ (x ++ codes ">>")) (same inner i h.0 h.1)
one_so write so same c b None t h = h

embedded_so : (write : Writer NotationContext) (so : text.Writer) → Same write so → (c : NotationContext) (s : Chunk)
    (b : List ℕ) (e : Option Item) (t : List ℕ) → s.bytes ≡ b → EmbeddedText diag_leaves write c s b e t
    → t ≡ text.embedded_text so (context_view c) b e
embedded_so write so same c s [] e t is h = between_so c (embedding s) style.Compact [] t h
embedded_so write so same c s (x ∷ xs) e t is h =
    one_so write so same c s e t h ∙ ap (λ b. text.item_text so (context_view c) b e) is

-- the bytes of a byte string
pub content_so : (left : ℕ) (write : Writer NotationContext) (so : text.Writer) → Same write so → (shown : Content)
    (c : NotationContext) (b : Chunk) (t : List ℕ) → ContentText diag_leaves left write shown c b t
    → t ≡ text.content_text left so shown (context_view c) b.bytes
content_so left write so same shown.Bytes c b t h = h
content_so left write so same shown.Item c b t h =
    embedded_so write so same c b b.bytes (embedded_at left b.bytes) t refl h
content_so left write so same shown.Sequence c b t h = sequence_so write so same c b (sequence_at left b.bytes) t h

parts_so : (c : NotationContext) (kind : StringKind) (l : ContainerStyle) (cs : List Chunk) (t : List ℕ)
    → ChunksText diag_leaves c kind l cs t → t ≡ text.chunks_text kind c.encoding l cs
parts_so c kind l [] t h = h
parts_so c kind l (x ∷ xs) t h = between_so c (Chunks kind) l _ t h.2
    ∙ ap (λ y. opening (Chunks kind) l ++ (y ++ closing (Chunks kind) l))
    (listed_so l h.0 ∙ ap (text.members l) (chunks_so c kind (x ∷ xs) h.0 h.1))

atom_so : (left : ℕ) (write : Writer NotationContext) (so : text.Writer) → Same write so → (c : NotationContext)
    (a : Atom) (t : List ℕ) → AtomText diag_leaves left write c a t → t ≡ text.atom_text left so (context_view c) a
atom_so left write so same c (integer n w) t h = h
atom_so left write so same c (negative n w) t h = h
atom_so left write so same c (string kind.Bytes b) t h = content_so left write so same c.content c b t h
atom_so left write so same c (string kind.Text s) t h = h
atom_so left write so same c (chunked_string kind cs) t h =
    parts_so c kind (style_at diag_leaves c (atom (chunked_string kind cs))) cs t h
    ∙ ap (λ l. text.chunks_text kind c.encoding l cs)
    (one_line_style c.layout (estimated_length (atom (chunked_string kind cs))))
atom_so left write so same c (float n w) t h = h
atom_so left write so same c (simple n) t h = h

tag_so : (write : Writer NotationContext) (so : text.Writer) → Same write so → (c : NotationContext) (n : ℕ)
    (w : IntegerWidth) (i : Item) (t : List ℕ) → TagText diag_leaves write c n w i t
    → t ≡ text.number n w ++ (codes "(" ++ (so (text.below n (context_view c)) i ++ codes ")"))
tag_so write so same c n w i t h =
    let inner = diag_leaves.below n c in
    let item = same inner i h.1 h.4 in
    h.6 ∙ ap (λ x. x ++ (h.1 ++ h.2)) h.3
    ∙ ap (λ x. (text.number n w ++ codes "(") ++ (x ++ h.2)) item
    ∙ ap (λ x. (text.number n w ++ codes "(") ++ (so (text.below n (context_view c)) i ++ x)) h.5
    ∙ append_assoc (text.number n w) (codes "(") (so (text.below n (context_view c)) i ++ codes ")")

with_so : (left : ℕ) (write : Writer NotationContext) (so : text.Writer) → Same write so → (c : NotationContext)
    (i : Item) (t : List ℕ) → TextWith diag_leaves left write c i t → t ≡ text.text_with left so (context_view c) i
with_so left write so same c (atom a) t h = atom_so left write so same c a t h
with_so left write so same c (array is w) t h =
    array_so write so same c (style_at diag_leaves c (array is w)) is w t h
    ∙ ap (λ l. text.array_text so (context_view c) l is w)
    (one_line_style c.layout (estimated_length (array is w)))
with_so left write so same c (spec.map ps w) t h =
    map_so write so same c (style_at diag_leaves c (spec.map ps w)) ps w t h
    ∙ ap (λ l. text.map_text so (context_view c) l ps w)
    (one_line_style c.layout (estimated_length (spec.map ps w)))
with_so left write so same c (tagged n w i) t h = tag_so write so same c n w i t h

-- the text of an item, with this many levels left
pub text_so : (left : ℕ) → Same (TextsOf diag_leaves left) (text.text_at left)
unfolding TextsOf text.text_at
text_so zero c i t h = absurd h
text_so (suc left) c i t h =
    let here = subst (λ x. TextWith diag_leaves left (TextsOf diag_leaves left) x i t) h.1 h.2 in
    with_so left (TextsOf diag_leaves left) (text.text_at left) (text_so left) c i t here

-- ---- what is written

pub printed_so : {A E : Type 0} (r : Result A E) (rest : A → List ℕ) (c : NotationContext) (layout : Layout)
    (read : Read Item) (old new : List ℕ) → c.level ≡ 1 → context_view c ≡ text.in_encoding layout Base16
    → IfOk r (λ x. Written (TextsAt diag_leaves c) read (rest x) old new)
    → IfOk r (λ x. Printed (text_in layout) read (rest x) old new)
printed_so (Ok x) rest c layout read old new level there w =
    let one : w.2 ≡ text.text_at (levels_left c.level) (context_view c) w.0 =
    text_so (levels_left c.level) c w.0 w.2 w.3 in (
      w.0,
      w.1,
      w.4 ∙ ap (λ y. old ++ y) (one
          ∙ ap (λ n. text.text_at (levels_left n) (context_view c) w.0) level
          ∙ ap (λ v. text.text_at (levels_left 1) v w.0) there),
    )
printed_so (Err e) rest c layout read old new level there w = tt

pub content_appended : {A E : Type 0} (r : Result A E) (c : NotationContext) (b : Chunk) (old new : List ℕ)
    → Wrote r old new (ContentThere diag_leaves c.content c b)
    → Appends r old new (content_there c c.content b.bytes)
content_appended (Ok x) c b old new w = w.2 ∙ ap (λ y. old ++ y)
    (content_so (levels_left (c.level + 1)) (TextsBelow diag_leaves c) (text.text_at_level (c.level + 1))
    (text_so (levels_left (c.level + 1))) c.content c b w.0 w.1)
content_appended (Err e) c b old new w = w
