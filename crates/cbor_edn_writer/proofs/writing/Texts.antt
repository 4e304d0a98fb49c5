-- Whole items in EDN: in each text that `edn_leaves` has for a well-formed item, no character is hidden, and line feeds
-- are outside of quotes and comments (`Apart`). In a `Compact` layout there are no line feeds. A number that fits its
-- width is below 2 ^ 64.
use Rattle.std.proofs.Common.{◌≡◌, ℕ, zero, suc, ◌+◌, ◌<◌, ◌≤◌, List, [], ◌∷◌, ◌++◌, length, codes}
use Rattle.std.proofs.Common.{Bool, true, false, Option, Some, None, if◌then◌else◌, refl, sym, subst, arith, ◌^◌}
use Rattle.cbor_grammar.specs.NotationText.{line}
use Rattle.cbor_grammar.specs.declared.width.IntegerWidth.TheVariants.{Unknown, Zero, Eight, Sixteen, ThirtyTwo}
use Rattle.cbor_grammar.specs.declared.width.IntegerWidth.TheVariants.{SixtyFour}
use Rattle.std.specs.List.{AllByRecursion, flat_map}
use Rattle.cbor_grammar.specs.declared.argument.Argument.{Argument}
use Rattle.cbor_grammar.specs.declared.argument.Argument.TheVariants.{Number, Indefinite}
use Rattle.cbor_grammar.specs.declared.layout.Content.{Content}
use Rattle.cbor_grammar.specs.declared.layout.Content.TheVariants as shown
use Rattle.cbor_grammar.specs.declared.layout.ContainerStyle.{ContainerStyle}
use Rattle.cbor_grammar.specs.declared.layout.ContainerStyle.TheVariants as style
use Rattle.cbor_grammar.specs.declared.layout.Layout.{Layout}
use Rattle.cbor_grammar.specs.declared.layout.Layout.TheVariants as layout
use Rattle.cbor_grammar.specs.declared.strings.StringKind.{StringKind}
use Rattle.cbor_grammar.specs.declared.strings.StringKind.TheVariants as kind
use Rattle.cbor_grammar.specs.declared.width.IntegerWidth.{IntegerWidth}
use Rattle.cbor_grammar.specs.Embedded.{embedded_at, sequence_at}
use Rattle.cbor_grammar.specs.Head.{FitsWidth}
use Rattle.cbor_grammar.specs.Item as spec
use Rattle.cbor_grammar.specs.Item.{Chunk, Atom, integer, negative, string, chunked_string, float, simple, Item, atom}
use Rattle.cbor_grammar.specs.Item.{array, tagged, Items, no_items, item, Pairs, no_pairs, pair, item_count, pair_count}
use Rattle.cbor_grammar.specs.NotationText.{members_layout, last_line, number}
use Rattle.cbor_grammar.specs.StringKind.{no_chunks}
use Rattle.cbor_grammar.specs.WellFormed.{IsChunk, WellFormedAtom, WellFormed, WellFormedItems, WellFormedPairs}
use Rattle.cbor_grammar.proofs.bytes.Laws.{bytes_at}
use Rattle.cbor_grammar.proofs.bytes.Resolved.{spells_well}
use Rattle.cbor_grammar.proofs.shared.EmbeddedItems.{embedded_spells, sequence_spells}
use Rattle.cbor_bytes.proofs.bytes.WellFormed.{items_well}
use Rattle.cbor_notation_writer.specs.declared.parts.Container.{Container}
use Rattle.cbor_notation_writer.specs.declared.parts.Container.TheVariants.{Array, Map, Chunks, Embedded}
use Rattle.cbor_notation_writer.specs.mirror.LayoutView.{before_member, after_member}
use Rattle.cbor_notation_writer.specs.Dialect.{listed, ItemTexts, PairTexts, ChunkTexts, Between, ItemsText, PairsText}
use Rattle.cbor_notation_writer.specs.Dialect.{OneText, EmbeddedText, SequenceText, ContentText, ChunksText, AtomText}
use Rattle.cbor_notation_writer.specs.Dialect.{TagText, TextWith, TextsOf, Writer, embedding, count_of, style_at}
use Rattle.cbor_edn_writer.specs.Breaks.{Nothing}
use Rattle.cbor_edn_writer.specs.EdnLeaves.{edn_leaves, EdnLeaf, style_on, longer, marked, spaced, count_mark, with_gap}
use Rattle.cbor_edn_writer.specs.EdnLeaves.{gap, says_string}
use Rattle.cbor_edn_writer.specs.EdnLeaves.{edn_opening, edn_closing, embedded_mark, Noted, quoted_string}
use Rattle.cbor_edn_writer.specs.declared.print.line.Line.{Line}
use Rattle.cbor_edn_writer.specs.declared.print.place.EdnPlace.{EdnPlace}
use Rattle.cbor_edn_writer.proofs.Places.{same_layout}
use Rattle.cbor_edn_writer.proofs.writing.Runs.{Runs, runs_nothing, runs_then, scanned, steady, line_runs}
use Rattle.cbor_edn_writer.proofs.writing.Shown.{number_steady, indicator_steady, noted_runs, string_runs, float_runs}
use Rattle.cbor_edn_writer.proofs.writing.Shown.{simple_runs, beside_runs, after_runs}

-- a text between neither quotes nor comments
abbrev pub Apart : Bool → List ℕ → Type 0
Apart lines t = Runs lines Nothing Nothing t

-- ---- styles and layouts

-- lines are ended only where they may be
abbrev pub Allows : Bool → ContainerStyle → Type 0
Allows lines style.Compact = Unit {0}
Allows lines l = lines ≡ true

abbrev pub AllowsLayout : Bool → Layout → Type 0
AllowsLayout lines layout.Compact = Unit {0}
AllowsLayout lines (layout.Pretty indent) = lines ≡ true

style_allowed : (lines : Bool) (line : Line) (l : Layout) → AllowsLayout lines l → Allows lines (style_on line l)
style_allowed lines line layout.Compact h = tt
style_allowed lines line (layout.Pretty indent) h = either line.breaks h
  where
    either : (test : Bool) → lines ≡ true
        → Allows lines (if test then style.MultiLine indent else style.OneLine indent)
    either true h = h
    either false h = h

members_allowed : (lines : Bool) (l : ContainerStyle) → Allows lines l → AllowsLayout lines (members_layout l)
members_allowed lines style.Compact h = tt
members_allowed lines (style.OneLine indent) h = h
members_allowed lines (style.MultiLine indent) h = h

-- ---- what is round members

line_apart : (lines : Bool) (indent : ℕ) → lines ≡ true → Apart lines (line indent)
line_apart lines indent h = subst (λ b. Apart b (line indent)) (sym h) (line_runs indent)

last_apart : (lines : Bool) (l : ContainerStyle) → Allows lines l → Apart lines (last_line l)
last_apart lines style.Compact h = runs_nothing
last_apart lines (style.OneLine indent) h = runs_nothing
last_apart lines (style.MultiLine indent) h = line_apart lines indent h

start_apart : (lines first : Bool) (l : ContainerStyle) → Allows lines l → Apart lines (before_member (spaced l) first)
start_apart lines true style.Compact h = runs_nothing
start_apart lines false style.Compact h = scanned (codes ", ") refl
start_apart lines true (style.OneLine indent) h = runs_nothing
start_apart lines false (style.OneLine indent) h = scanned (codes ", ") refl
start_apart lines first (style.MultiLine indent) h = line_apart lines (indent + 4) h

end_apart : (lines : Bool) (l : ContainerStyle) → Apart lines (after_member l)
end_apart lines style.Compact = runs_nothing
end_apart lines (style.OneLine indent) = runs_nothing
end_apart lines (style.MultiLine indent) = scanned (codes ",") refl

gap_apart : (lines : Bool) (l : ContainerStyle) → Apart lines (gap l)
gap_apart lines style.Compact = scanned (codes " ") refl
gap_apart lines (style.OneLine indent) = scanned (codes " ") refl
gap_apart lines (style.MultiLine indent) = runs_nothing

with_gap_apart : (lines : Bool) (l : ContainerStyle) (mark : List ℕ) → Apart lines mark → Apart lines (with_gap l mark)
with_gap_apart lines l [] h = h
with_gap_apart lines l (b ∷ mark) h = runs_then h (gap_apart lines l)

count_apart : (lines : Bool) (count : Argument) → Apart lines (count_mark count)
count_apart lines (Number n w) = steady _ tt (indicator_steady (longer n w))
count_apart lines Indefinite = scanned (codes "_") refl

opening_apart : (lines : Bool) (c : Container) (l : ContainerStyle) → Apart lines (edn_opening c l)
opening_apart lines (Array count) l =
    runs_then {v = Nothing} (scanned (codes "[") refl) (with_gap_apart lines l _ (count_apart lines count))
opening_apart lines (Map count) l =
    runs_then {v = Nothing} (scanned (codes "{") refl) (with_gap_apart lines l _ (count_apart lines count))
opening_apart lines (Chunks kind) l =
    runs_then {v = Nothing} (scanned (codes "(") refl) (with_gap_apart lines l _ (scanned (codes "_") refl))
opening_apart lines (Embedded len) l = scanned (codes "<<") refl

embedded_apart : (lines : Bool) (len : Argument) → Apart lines (embedded_mark len)
embedded_apart lines (Number n w) = steady _ tt (indicator_steady (longer n w))
embedded_apart lines Indefinite = runs_nothing

closing_apart : (lines : Bool) (c : Container) (l : ContainerStyle) → Allows lines l → Apart lines (edn_closing c l)
closing_apart lines (Array count) l h = runs_then (last_apart lines l h) (scanned (codes "]") refl)
closing_apart lines (Map count) l h = runs_then (last_apart lines l h) (scanned (codes "}") refl)
closing_apart lines (Chunks kind) l h = runs_then (last_apart lines l h) (scanned (codes ")") refl)
closing_apart lines (Embedded len) l h =
    runs_then (last_apart lines l h) (runs_then {v = Nothing} (scanned (codes ">>") refl) (embedded_apart lines len))

-- ---- members

abbrev AllApart : Bool → List (List ℕ) → Type 0
AllApart lines [] = Unit {0}
AllApart lines (m ∷ ms) = Apart lines m × AllApart lines ms

listed_apart : (lines : Bool) (l : ContainerStyle) (ms : List (List ℕ)) → Allows lines l → AllApart lines ms
    → Apart lines (listed (λ first. before_member (spaced l) first) (after_member l) ms)
listed_apart lines l [] allows h = runs_nothing
listed_apart lines l (m ∷ ms) allows h =
    runs_then (runs_then (start_apart lines true l allows) (runs_then h.0 (end_apart lines l))) (others ms h.1)
  where
    others : (ms : List (List ℕ)) → AllApart lines ms
        → Apart lines (flat_map (λ x. before_member (spaced l) false ++ (x ++ after_member l)) ms)
    others [] h = runs_nothing
    others (m ∷ ms) h =
        runs_then (runs_then (start_apart lines false l allows) (runs_then h.0 (end_apart lines l))) (others ms h.1)

between_apart : (lines : Bool) (p : EdnPlace) (c : Container) (l : ContainerStyle) (inner t : List ℕ) → Allows lines l
    → Apart lines inner → Between edn_leaves p c l inner t → Apart lines t
between_apart lines p c l inner t allows h (o, e, opens, is_e, is) =
    let opening = after_runs p (λ t. t ≡ edn_opening c l) o
    (λ u is_u. subst (Apart lines) (sym is_u) (opening_apart lines c l)) opens in
    subst (Apart lines) (sym is) (runs_then opening
    (runs_then h (subst (Apart lines) (sym is_e) (closing_apart lines c l allows))))

chunk_texts_apart : (lines : Bool) (p : EdnPlace) (kind : StringKind) (cs : List Chunk) (ms : List (List ℕ))
    → AllByRecursion (IsChunk kind) cs → ChunkTexts edn_leaves p kind cs ms → AllApart lines ms
chunk_texts_apart lines p kind [] [] well h = tt
chunk_texts_apart lines p kind [] (m ∷ ms) well h = absurd h
chunk_texts_apart lines p kind (c ∷ cs) [] well h = absurd h
chunk_texts_apart lines p kind (c ∷ cs) (m ∷ ms) well h =
    (subst (Apart lines) (sym h.0) (string_runs kind c well.0), chunk_texts_apart lines p kind cs ms well.1 h.1)

no_chunks_apart : (lines : Bool) (kind : StringKind) → Apart lines (no_chunks kind)
no_chunks_apart lines kind.Bytes = scanned (codes "''_") refl
no_chunks_apart lines kind.Text = scanned (codes "\"\"_") refl

chunks_apart : (lines : Bool) (p : EdnPlace) (kind : StringKind) (l : ContainerStyle) (cs : List Chunk) (t : List ℕ)
    → Allows lines l → AllByRecursion (IsChunk kind) cs → ChunksText edn_leaves p kind l cs t → Apart lines t
chunks_apart lines p kind l [] t allows well h =
    after_runs p (λ t. t ≡ no_chunks kind) t
    (λ u is_u. subst (Apart lines) (sym is_u) (no_chunks_apart lines kind)) h
chunks_apart lines p kind l (c ∷ cs) t allows well (ms, texts, between) =
    between_apart lines p (Chunks kind) l _ t allows
    (listed_apart lines l ms allows (chunk_texts_apart lines p kind (c ∷ cs) ms well texts)) between

-- ---- items

-- numbers of an item are below 2 ^ 64
pub below_limit : (n : ℕ) (w : IntegerWidth) → FitsWidth w n → n < 2 ^ 64
below_limit n Unknown fits = fits
below_limit n Zero fits = let lt : n < 24 = fits in omega arith
below_limit n Eight fits = let lt : n < 2 ^ 8 = fits in omega arith
below_limit n Sixteen fits = let lt : n < 2 ^ 16 = fits in omega arith
below_limit n ThirtyTwo fits = let lt : n < 2 ^ 32 = fits in omega arith
below_limit n SixtyFour fits = fits

number_apart : (lines : Bool) (n : ℕ) (w : IntegerWidth) → n ≤ 2 ^ 64 → Apart lines (number n w)
number_apart lines n w le = steady (number n w) tt (number_steady n w le)

leaf_apart : (lines : Bool) (p : EdnPlace) (a : Atom) (t : List ℕ) → WellFormedAtom a → EdnLeaf p a t → Apart lines t
leaf_apart lines p (integer n w) t well h =
    noted_runs p _ _ t (number_apart lines n (marked p.style.widths n w) (omega (arith, below_limit n w well))) h
leaf_apart lines p (negative n w) t well h =
    noted_runs p _ _ t (runs_then {v = Nothing} (scanned (codes "-") refl)
    (number_apart lines (n + 1) (marked p.style.widths n w) (omega (arith, below_limit n w well)))) h
leaf_apart lines p (float bits w) t well h = float_runs p.style.widths bits w t h
leaf_apart lines p (simple n) t well h = noted_runs p _ _ t (simple_runs n well) h
leaf_apart lines p (string kind c) t well h = absurd h
leaf_apart lines p (chunked_string kind cs) t well h = absurd h

leaf_text_apart : (lines : Bool) (p : EdnPlace) (a : Atom) (t : List ℕ) → WellFormedAtom a → edn_leaves.leaf p a t
    → Apart lines t
leaf_text_apart lines p a t well h =
    beside_runs p (EdnLeaf p a) t (λ core is. leaf_apart lines p a core well is) h

string_apart : (lines : Bool) (p : EdnPlace) (kind : StringKind) (c : Chunk) (t : List ℕ) → IsChunk kind c
    → edn_leaves.string p kind c t → Apart lines t
string_apart lines p kind c t well h =
    beside_runs p (Noted p (says_string p kind c.bytes) (quoted_string kind c)) t
    (λ core is. noted_runs p _ _ core (string_runs kind c well) is) h

module _ (lines : Bool) (level left : ℕ) (levels : level + left ≡ 129) (write : Writer EdnPlace)
    (below : (p : EdnPlace) (i : Item) (t : List ℕ) → AllowsLayout lines p.layout → WellFormed level i → write p i t
    → Apart lines t) where
  item_texts : (p : EdnPlace) (is : Items) (ms : List (List ℕ)) → AllowsLayout lines p.layout
      → WellFormedItems level is → ItemTexts edn_leaves write p is ms → AllApart lines ms
  item_texts p no_items [] allows well h = tt
  item_texts p no_items (m ∷ ms) allows well h = absurd h
  item_texts p (item i is) [] allows well h = absurd h
  item_texts p (item i is) (m ∷ ms) allows well h =
      (below p i m allows well.0 h.0, item_texts p is ms allows well.1 h.1)

  pair_texts : (p : EdnPlace) (l : ContainerStyle) (ps : Pairs) (ms : List (List ℕ)) → AllowsLayout lines p.layout
      → WellFormedPairs level ps → PairTexts edn_leaves write l p ps ms → AllApart lines ms
  pair_texts p l no_pairs [] allows well h = tt
  pair_texts p l no_pairs (m ∷ ms) allows well h = absurd h
  pair_texts p l (pair k v ps) [] allows well h = absurd h
  pair_texts p l (pair k v ps) (m ∷ ms) allows well ((a, b, key, value, is), more) = (
    subst (Apart lines) (sym is) (runs_then (below p k a allows well.0 key)
        (runs_then {v = Nothing} (scanned (codes ": ") refl) (below p v b allows well.1 value))),
    pair_texts p l ps ms allows well.2 more,
  )

  items_apart : (p : EdnPlace) (c : Container) (l : ContainerStyle) (is : Items) (t : List ℕ) → Allows lines l
      → WellFormedItems level is → ItemsText edn_leaves write p c l is t → Apart lines t
  items_apart p c l is t allows well (ms, texts, between) =
      between_apart lines p c l _ t allows (listed_apart lines l ms allows
      (item_texts (edn_leaves.inside c (members_layout l) p) is ms (members_allowed lines l allows) well texts)) between

  pairs_apart : (p : EdnPlace) (c : Container) (l : ContainerStyle) (ps : Pairs) (t : List ℕ) → Allows lines l
      → WellFormedPairs level ps → PairsText edn_leaves write p c l ps t → Apart lines t
  pairs_apart p c l ps t allows well (ms, texts, between) =
      between_apart lines p c l _ t allows (listed_apart lines l ms allows
      (pair_texts (edn_leaves.inside c (members_layout l) p) l ps ms
      (members_allowed lines l allows) well texts)) between

  one_apart : (p : EdnPlace) (b : Chunk) (found : Option Item) (t : List ℕ) → AllowsLayout lines p.layout
      → IsChunk kind.Bytes b → embedded_at left b.bytes ≡ found → OneText edn_leaves write p b found t → Apart lines t
  one_apart p b (Some i) t allows well is (m, text, between) =
      let item_well = spells_well level b.bytes i (bytes_at b.bytes well.bytes)
      (embedded_spells level left b.bytes i levels (bytes_at b.bytes well.bytes) is) in
      between_apart lines p (embedding b) style.Compact m t tt
      (below (edn_leaves.inside (embedding b) p.layout p) i m allows item_well text) between
  one_apart p b None t allows well is h = string_apart lines p kind.Bytes b t well h

  embedded_text_apart : (p : EdnPlace) (b : Chunk) (bs : List ℕ) (t : List ℕ) → AllowsLayout lines p.layout
      → IsChunk kind.Bytes b → EmbeddedText edn_leaves write p b bs (embedded_at left b.bytes) t → Apart lines t
  embedded_text_apart p b [] t allows well h =
      between_apart lines p (embedding b) style.Compact [] t tt runs_nothing h
  embedded_text_apart p b (x ∷ bs) t allows well h = one_apart p b (embedded_at left b.bytes) t allows well refl h

  sequence_apart : (p : EdnPlace) (b : Chunk) (t : List ℕ) → AllowsLayout lines p.layout → IsChunk kind.Bytes b
      → SequenceText edn_leaves write p b (sequence_at left b.bytes) t → Apart lines t
  sequence_apart p b t allows well (u, r, items, rest, is) =
      let s = sequence_spells level left levels (length b.bytes) b.bytes (omega arith) (bytes_at b.bytes well.bytes) in
      let items_are = items_well level (sequence_at left b.bytes).0 b.bytes (sequence_at left b.bytes).1 well.bytes
      s.spelled_so in
      subst (Apart lines) (sym is) (runs_then
      (items_apart p (embedding b) _ (sequence_at left b.bytes).0 u (style_allowed lines p.line p.layout allows)
      items_are.0
      items) (subst (Apart lines) (sym rest) runs_nothing))

  content_apart : (p : EdnPlace) (content : Content) (b : Chunk) (t : List ℕ) → AllowsLayout lines p.layout
      → IsChunk kind.Bytes b → ContentText edn_leaves left write content p b t → Apart lines t
  content_apart p shown.Bytes b t allows well h = string_apart lines p kind.Bytes b t well h
  content_apart p shown.Item b t allows well h = embedded_text_apart p b b.bytes t allows well h
  content_apart p shown.Sequence b t allows well h = sequence_apart p b t allows well h

  atom_apart : (p : EdnPlace) (a : Atom) (t : List ℕ) → AllowsLayout lines p.layout → WellFormedAtom a
      → AtomText edn_leaves left write p a t → Apart lines t
  atom_apart p (string kind.Bytes b) t allows well h = content_apart p _ b t allows well h
  atom_apart p (string kind.Text s) t allows well h = string_apart lines p kind.Text s t well h
  atom_apart p (chunked_string kind cs) t allows well h =
      chunks_apart lines p kind _ cs t (style_allowed lines p.line p.layout allows) well h
  atom_apart p (integer n w) t allows well h = leaf_text_apart lines p (integer n w) t well h
  atom_apart p (negative n w) t allows well h = leaf_text_apart lines p (negative n w) t well h
  atom_apart p (float bits w) t allows well h = leaf_text_apart lines p (float bits w) t well h
  atom_apart p (simple n) t allows well h = leaf_text_apart lines p (simple n) t well h

  tag_apart : (p : EdnPlace) (n : ℕ) (w : IntegerWidth) (i : Item) (t : List ℕ) → AllowsLayout lines p.layout
      → FitsWidth w n → WellFormed level i → TagText edn_leaves write p n w i t → Apart lines t
  tag_apart p n w i t allows fits well (o, m, e, opens, text, is_e, is) =
      let front = runs_then {v = Nothing}
      (number_apart lines n (marked p.style.widths n w) (omega (arith, below_limit n w fits)))
      (scanned (codes "(") refl) in
      let opening = after_runs p (λ t. t ≡ number n (marked p.style.widths n w) ++ codes "(") o
      (λ u is_u. subst (Apart lines) (sym is_u) front) opens in
      subst (Apart lines) (sym is) (runs_then opening
      (runs_then (below (edn_leaves.below n p) i m allows well text)
      (subst (Apart lines) (sym is_e) (scanned (codes ")") refl))))

  with_apart : (p : EdnPlace) (i : Item) (t : List ℕ) (here : ℕ) → level ≡ here + 1 → AllowsLayout lines p.layout
      → WellFormed here i → TextWith edn_leaves left write p i t → Apart lines t
  with_apart p (atom a) t here e allows well h = atom_apart p a t allows well.1 h
  with_apart p (array is w) t here e allows well h =
      items_apart p (Array (count_of w (item_count is))) (style_at edn_leaves p (array is w)) is t
      (style_allowed lines p.line p.layout allows)
      (subst (λ l. WellFormedItems l is) (sym e) well.2) h
  with_apart p (spec.map ps w) t here e allows well h =
      pairs_apart p (Map (count_of w (pair_count ps))) (style_at edn_leaves p (spec.map ps w)) ps t
      (style_allowed lines p.line p.layout allows)
      (subst (λ l. WellFormedPairs l ps) (sym e) well.2) h
  with_apart p (tagged n w i) t here e allows well h =
      tag_apart p n w i t allows well.1 (subst (λ l. WellFormed l i) (sym e) well.2) h

pub texts_apart : (lines : Bool) (level left : ℕ) → level + left ≡ 129 → (p : EdnPlace) (i : Item) (t : List ℕ)
    → AllowsLayout lines p.layout → WellFormed level i → TextsOf edn_leaves left p i t → Apart lines t
unfolding TextsOf
texts_apart lines level zero levels p i t allows well h = absurd h
texts_apart lines level (suc left) levels p i t allows well h =
    with_apart lines (level + 1) left (omega (arith, levels)) (TextsOf edn_leaves left)
    (λ p i t. texts_apart lines (level + 1) left (omega (arith, levels)) p i t) h.0 i t level refl
    (subst (λ l. AllowsLayout lines l) (sym (same_layout p h.0 h.1)) allows) well h.2
