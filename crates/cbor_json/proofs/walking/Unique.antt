-- For `walk.rt`: what `push_item` writes is a text of the item in which no object has a key twice (`UniqueTexts`), if
-- this holds for the items in it. There are lemmas for numbers, simple values and strings in chunks, for tags, other
-- strings, byte strings that are shown as an item, arrays, and maps whose names differ.
use Rattle.std.proofs.Common.{◌≡◌, ℕ, suc, ◌+◌, ◌<◌, ◌≤◌, List, [], ◌∷◌, ◌++◌, Bool, true, false, Some, Result, Ok}
use Rattle.std.proofs.Common.{Bor, Option, None, Err, IfOk, length, refl, sym, ap, subst, ◌∙◌}
use Rattle.std.proofs.Common.{arith, append-nil}
use Rattle.json.specs.Json.{Json}
use Rattle.json.specs.Strict.{HasUniqueKeys, AreDistinct}
use Rattle.cbor_grammar.specs.declared.argument.Argument.{Argument}
use Rattle.cbor_grammar.specs.declared.argument.Argument.TheVariants.{Number, Indefinite}
use Rattle.cbor_grammar.specs.declared.head.ItemHead.{ItemHead}
use Rattle.cbor_grammar.specs.declared.head.ItemHead.TheVariants as head
use Rattle.cbor_grammar.specs.declared.layout.Content.{Content}
use Rattle.cbor_grammar.specs.declared.layout.Content.TheVariants as shown
use Rattle.cbor_grammar.specs.declared.layout.ContainerStyle.{ContainerStyle}
use Rattle.cbor_grammar.specs.declared.layout.Layout.TheVariants as layout
use Rattle.cbor_grammar.specs.declared.strings.StringKind.TheVariants as kind
use Rattle.cbor_grammar.specs.declared.width.IntegerWidth.{IntegerWidth}
use Rattle.cbor_grammar.specs.Embedded.{embedded_at, sequence_at}
use Rattle.cbor_grammar.specs.Item as spec
use Rattle.cbor_grammar.specs.Item.{Chunk, Atom, string, chunked_string, Item, atom, array, tagged, Items, no_items}
use Rattle.cbor_grammar.specs.Item.{item, item_count, Pairs, no_pairs, pair, pair_count}
use Rattle.cbor_grammar.specs.Reading.{Read, after_members, count_width, read_head, read_item, read_content}
use Rattle.cbor_grammar.specs.Reading.{read_chunks, ◌>>=◌}
use Rattle.cbor_grammar.specs.WellFormed.{WellFormed, levels_left}
use Rattle.cbor_grammar.specs.mirror.AtLevel.{read_at, read_behind, body_read}
use Rattle.cbor_grammar.proofs.bytes.Found.{item_takes}
use Rattle.cbor_grammar.proofs.bytes.Heads.{IsBytes, then_ok}
use Rattle.cbor_grammar.proofs.bytes.Laws.{all_bytes-front, bytes_at}
use Rattle.cbor_grammar.proofs.bytes.Resolved.{spells_well}
use Rattle.cbor_bytes.proofs.reading.Levels.{head_reads}
use Rattle.cbor_bytes.proofs.reading.Readings.{item_after, tag_read, content_read}
use Rattle.cbor_grammar.proofs.bytes.Shorter.{item_shorter}
use Rattle.cbor_grammar.specs.declared.strings.StringContent.{StringContent}
use Rattle.cbor_grammar.specs.declared.strings.StringContent.TheVariants as content
use Rattle.cbor_grammar.specs.declared.strings.StringKind.{StringKind}
use Rattle.cbor_grammar.specs.mirror.StringView.{kind_of, borrowed_chunk}
use Rattle.cbor_notation_writer.proofs.straight.Sequences.{whole_item, one_embedded}
use Rattle.cbor_notation_writer.specs.declared.parts.Container.TheVariants.{Embedded, Array, Map}
use Rattle.cbor_notation_writer.specs.mirror.Straight.{chunk}
use Rattle.cbor_notation_writer.specs.Dialect.{Texts, ItemTexts, PairTexts, ItemsText, AtomText, TextWith}
use Rattle.cbor_notation_writer.specs.Dialect.{TextsOf, TextsAt, OneText, EmbeddedText, ContentText, embedding}
use Rattle.cbor_notation_writer.specs.Dialect.{style_at, style_within, count_of}
use Rattle.cbor_notation_writer.proofs.straight.Texts.{Reached, reached_all, ItemsWritten, items_written}
use Rattle.cbor_grammar.specs.declared.layout.ContainerStyle.TheVariants as style
use Rattle.cbor_grammar.specs.Estimate.{one_line_limit, estimated_length}
use Rattle.cbor_grammar.specs.mirror.Lengths.{left_of}
use Rattle.cbor_json.specs.Roles.{inside_role}
use Rattle.cbor_json.proofs.walking.Named.{NamedWritten, pairs_named}
use Rattle.cbor_notation_writer.specs.mirror.Straight.{Written}
use Rattle.cbor_json.specs.JsonLeaves.{json_leaves, is_value, tag_at, tag_end_at, opening_at, closing_at}
use Rattle.cbor_json.specs.declared.print.place.JsonPlace.{JsonPlace}
use Rattle.cbor_json.specs.declared.print.place.Role.{Role}
use Rattle.cbor_json.specs.declared.print.place.Role.TheVariants as role
use Rattle.cbor_json.specs.mirror.Walking.{IsUnique, UniqueAs, UniqueTexts, UniqueWith, UniqueHere, NamedPairs}
use Rattle.cbor_json.specs.mirror.Walking.{NamedText}
use Rattle.cbor_json.proofs.json.Opened.{opened}
use Rattle.cbor_json.proofs.json.Parts.{Part}
use Rattle.cbor_json.proofs.json.Texts.{text_part, unique_part}
use Rattle.cbor_json.proofs.json.Tokens.{Reads, lower, reads_document}
use Rattle.cbor_json.proofs.writing.Json.{all_bytes}

-- ---- what a text means

means_is : (o : Json) (j : Json) → Some o ≡ Some j → o ≡ j
means_is o j e = cc

unique_text : (left : ℕ) (t : List ℕ) → left ≤ 128 → Reads true left t → IsUnique t
unique_text left t le h j is =
    let whole = lower le h in
    subst HasUniqueKeys (means_is whole.means j (sym (reads_document t whole) ∙ is)) (whole.unique refl)

reads_unique : (left : ℕ) (t : List ℕ) → left ≤ 128 → Reads false left t → IsUnique t → Reads true left t
reads_unique left t le h unique = record {
  means = h.means;
  unique = λ asked. unique h.means (reads_document t (lower le h));
  low = h.low;
  takes = h.takes;
  shows = h.shows;
}

unique_as : (s : Role) (left : ℕ) (t : List ℕ) → left ≤ 128 → Part false s left t → UniqueAs s t → Part true s left t
unique_as role.Key left t le h unique = h
unique_as role.InKey left t le h unique = h
unique_as role.Value left t le h unique = reads_unique left t le h unique
unique_as role.Named left t le h unique = reads_unique left t le h unique

unique_there : (s : Role) (left : ℕ) (t : List ℕ) → left ≤ 128 → is_value s ≡ true → Part true s left t → UniqueAs s t
unique_there role.Key left t le v h = absurd cc
unique_there role.InKey left t le v h = absurd cc
unique_there role.Value left t le v h = unique_text left t le h
unique_there role.Named left t le v h = unique_text left t le h

-- an atom that is no byte string in which an item may be shown
abbrev pub IsQuiet : Atom → Type 0
IsQuiet (string kind.Bytes b) = ⊥
IsQuiet a = Unit {0}

-- ---- texts without what is known of their names

module _ (left : ℕ) where
  plain_items : (p : JsonPlace) (is : Items) (ms : List (List ℕ)) → ItemTexts json_leaves (UniqueTexts left) p is ms
      → ItemTexts json_leaves (TextsOf json_leaves left) p is ms
  plain_items p no_items [] h = tt
  plain_items p no_items (m ∷ ms) h = absurd h
  plain_items p (item i is) [] h = absurd h
  plain_items p (item i is) (m ∷ ms) h = (h.0.0, plain_items (json_leaves.next p) is ms h.1)

  plain_pairs : (l : ContainerStyle) (p : JsonPlace) (ps : Pairs) (ns ms : List (List ℕ))
      → NamedPairs (UniqueTexts left) p ps ns ms → PairTexts json_leaves (TextsOf json_leaves left) l p ps ms
  plain_pairs l p no_pairs [] [] h = tt
  plain_pairs l p no_pairs [] (m ∷ ms) h = absurd h
  plain_pairs l p no_pairs (n ∷ ns) ms h = absurd h
  plain_pairs l p (pair k v ps) [] ms h = absurd h
  plain_pairs l p (pair k v ps) (n ∷ ns) [] h = absurd h
  plain_pairs l p (pair k v ps) (n ∷ ns) (m ∷ ms) ((b, key, val, is), more) =
      ((n, b, key.0, val.0, is), plain_pairs l (json_leaves.next (json_leaves.value k p)) ps ns ms more)

  plain_one : (p : JsonPlace) (b : Chunk) (bs : List ℕ) (e : Option Item) (t : List ℕ)
      → EmbeddedText json_leaves (UniqueTexts left) p b bs e t
      → EmbeddedText json_leaves (TextsOf json_leaves left) p b bs e t
  plain_one p b [] e t h = h
  plain_one p b (x ∷ xs) (Some i) t h = (h.0, h.1.0, h.2)
  plain_one p b (x ∷ xs) None t h = h

  plain_content : (p : JsonPlace) (c : Content) (b : Chunk) (t : List ℕ)
      → ContentText json_leaves left (UniqueTexts left) c p b t
      → ContentText json_leaves left (TextsOf json_leaves left) c p b t
  plain_content p shown.Item b t h = plain_one p b b.bytes (embedded_at left b.bytes) t h
  plain_content p shown.Sequence b t (u, r, (ms, texts, lists), rest, eq) =
      (u, r, (ms, plain_items _ (sequence_at left b.bytes).0 ms texts, lists), rest, eq)
  plain_content p shown.Bytes b t h = h

  plain_atom : (p : JsonPlace) (a : Atom) (t : List ℕ) → AtomText json_leaves left (UniqueTexts left) p a t
      → AtomText json_leaves left (TextsOf json_leaves left) p a t
  plain_atom p (string kind.Bytes b) t h = plain_content p (json_leaves.content p b.bytes) b t h
  plain_atom p (string kind.Text b) t h = h
  plain_atom p (chunked_string k cs) t h = h
  plain_atom p (spec.integer n w) t h = h
  plain_atom p (spec.negative n w) t h = h
  plain_atom p (spec.float bits w) t h = h
  plain_atom p (spec.simple n) t h = h

  plain_with : (p : JsonPlace) (i : Item) (t : List ℕ) → UniqueWith left (UniqueTexts left) p i t
      → TextWith json_leaves left (TextsOf json_leaves left) p i t
  plain_with p (atom a) t h = plain_atom p a t h
  plain_with p (array is w) t h = (h.0, plain_items _ is h.0 h.1, h.2)
  plain_with p (spec.map ps w) t h = (h.1, plain_pairs (style_at json_leaves p (spec.map ps w)) _ ps h.0 h.1 h.2, h.4)
  plain_with p (tagged n w i) t h = (h.0, h.1, h.2, h.3, h.4.0, h.5, h.6)

  quiet_text : (p : JsonPlace) (a : Atom) (t : List ℕ) → IsQuiet a
      → AtomText json_leaves left (TextsOf json_leaves left) p a t
      → AtomText json_leaves left (UniqueTexts left) p a t
  quiet_text p (string kind.Bytes b) t quiet h = absurd quiet
  quiet_text p (string kind.Text b) t quiet h = h
  quiet_text p (chunked_string k cs) t quiet h = h
  quiet_text p (spec.integer n w) t quiet h = h
  quiet_text p (spec.negative n w) t quiet h = h
  quiet_text p (spec.float bits w) t quiet h = h
  quiet_text p (spec.simple n) t quiet h = h

-- ---- an item that is read

read_well : (level left : ℕ) (b : List ℕ) (i : Item) (rest : List ℕ) → level + left ≡ 129 → IsBytes b
    → read_item left b ≡ Ok (i, rest) → WellFormed level i
read_well level left b i rest levels bytes is =
    let s = item_takes level left b i rest levels bytes is in
    let both = all_bytes (s.front ++ rest) (subst IsBytes s.parts bytes) in
    spells_well level s.front i (bytes_at s.front (all_bytes-front s.front rest both)) s.spells

-- the text of an item by its parts
whole_text : (level left : ℕ) (p : JsonPlace) (i : Item) (t : List ℕ) → level + suc left ≡ 129 → suc left ≤ 128
    → is_value p.role ≡ true → WellFormed level i → UniqueWith left (UniqueTexts left) p i t
    → UniqueTexts (suc left) p i t
unfolding TextsOf
whole_text level left p i t levels le v well h =
    let below =
    λ (q : JsonPlace) (j : Item) (s : List ℕ) (fits : WellFormed (level + 1) j) (k : UniqueTexts left q j s).
    unique_as q.role left s (omega (arith, le))
    (text_part (level + 1) left (omega (arith, levels)) q j s fits k.0) k.1 in (
      (p, refl, plain_with left p i t h),
      unique_there p.role (suc left) t le v
          (unique_part true (level + 1) left (omega (arith, levels)) (UniqueTexts left) below p i t level refl well v
          h),
    )

-- ---- an item that is its head, or a string of chunks

bind_ok : {A B : Type 0} (r : Read A) (f : A × List ℕ → Read B) (y : B × List ℕ) → (r >>= f) ≡ Ok y
    → (x : A × List ℕ) × (f x ≡ Ok y)
bind_ok (Ok x) f y e = (x, e)
bind_ok (Err d) f y e = absurd cc

item_is : {i : Item} {rest : List ℕ} {x : Item × List ℕ} → ◌≡◌ {A = Read Item} (Ok (i, rest)) (Ok x) → x.0 ≡ i
item_is {i = i} {rest = rest} {x = x} e = let is : x ≡ (i, rest) = cc in ap (λ (y : Item × List ℕ). y.0) is

abbrev pub is_quiet : ItemHead → Bool
is_quiet (head.Integer n w) = true
is_quiet (head.Negative n w) = true
is_quiet (head.Float bits w) = true
is_quiet (head.Simple n) = true
is_quiet (head.String k Indefinite) = true
is_quiet (head.String k (Number n w)) = false
is_quiet (head.Array a) = false
is_quiet (head.Map a) = false
is_quiet (head.Tag n w) = false

quiet_atom : (h : ItemHead) (b : List ℕ) (n : ℕ) (x : Item × List ℕ) → body_read h b n ≡ Ok x → is_quiet h ≡ true
    → (a : Atom) × (x.0 ≡ atom a) × IsQuiet a
quiet_atom (head.Integer n w) b levels x e quiet = (spec.integer n w, item_is e, tt)
quiet_atom (head.Negative n w) b levels x e quiet = (spec.negative n w, item_is e, tt)
quiet_atom (head.Float bits w) b levels x e quiet = (spec.float bits w, item_is e, tt)
quiet_atom (head.Simple n) b levels x e quiet = (spec.simple n, item_is e, tt)
quiet_atom (head.String k Indefinite) b levels x e quiet =
    let t = then_ok (read_chunks (length b) k b) (λ cs. (0, Ok (atom (chunked_string k cs.0), cs.1))) x e in
    (chunked_string k t.0.0, item_is t.2, tt)
quiet_atom (head.String k (Number n w)) b levels x e quiet = absurd cc
quiet_atom (head.Array a) b levels x e quiet = absurd cc
quiet_atom (head.Map a) b levels x e quiet = absurd cc
quiet_atom (head.Tag n w) b levels x e quiet = absurd cc

open_text : (left : ℕ) (p : JsonPlace) (i : Item) (t : List ℕ) → TextsOf json_leaves (suc left) p i t
    → TextWith json_leaves left (TextsOf json_leaves left) p i t
unfolding TextsOf
open_text left p i t h = subst (λ x. TextWith json_leaves left (TextsOf json_leaves left) x i t) h.1 h.2

module _ (p : JsonPlace) (b inner : List ℕ) (h : ItemHead) (level : ℕ) (here : level ≡ p.level) (positive : 1 ≤ level)
    (deep : level ≤ 128) (v : is_value p.role ≡ true) (bytes : IsBytes b) (read : read_head b ≡ Ok (h, inner)) where
  levels : levels_left p.level ≡ suc (levels_left (p.level + 1))
  levels = omega (arith, here, deep)

  pub unique_front : {A E : Type 0} (r : Result A E) (f : A → List ℕ) (old new : List ℕ)
      → IfOk r (λ x. Written (UniqueHere p) (read_behind p.level h inner) (f x) old new)
      → IfOk r (λ x. Written (UniqueTexts (levels_left p.level) p) (read_at p.level b) (f x) old new)
  unique_front (Err e) f old new w = tt
  unique_front (Ok x) f old new (i, is, t, text, eq) =
      let whole = head_reads p.level b h inner (omega (arith, here, deep)) read ∙ is in
      let well = read_well p.level (levels_left p.level) b i (f x) (omega (arith, here, deep)) bytes whole in
      let so = whole_text p.level (levels_left (p.level + 1)) p i t (omega (arith, here, deep))
      (omega (arith, here, positive)) v well text in
      (i, whole, t, subst (λ n. UniqueTexts n p i t) (sym levels) so, eq)

  pub quiet_front : {A E : Type 0} (r : Result A E) (f : A → List ℕ) (old new : List ℕ) → is_quiet h ≡ true
      → IfOk r (λ x. Written (TextsAt json_leaves p) (read_at p.level b) (f x) old new)
      → IfOk r (λ x. Written (UniqueTexts (levels_left p.level) p) (read_at p.level b) (f x) old new)
  quiet_front (Err e) f old new quiet w = tt
  quiet_front (Ok x) f old new quiet (i, is, t, text, eq) =
      let left = levels_left (p.level + 1) in
      let after = item_after (levels_left p.level) b h inner (i, f x) read is in
      let a = quiet_atom h inner after.0 (i, f x) after.1 quiet in
      let opened = open_text left p i t (subst (λ n. TextsOf json_leaves n p i t) levels text) in
      let atomic = subst (λ x. TextWith json_leaves left (TextsOf json_leaves left) p x t) a.1 opened in
      let unique = subst (λ x. UniqueWith left (UniqueTexts left) p x t) (sym a.1)
      (quiet_text left p a.0 t a.2 atomic) in
      let well = read_well p.level (levels_left p.level) b i (f x) (omega (arith, here, deep)) bytes is in
      let so = whole_text p.level left p i t (omega (arith, here, deep)) (omega (arith, here, positive)) v well unique
      in
      (i, is, t, subst (λ n. UniqueTexts n p i t) (sym levels) so, eq)

-- ---- a tag

tag_shown : (s : Role) (n : ℕ) → is_value s ≡ true → [] ≡ tag_at s n
tag_shown role.Key n v = absurd cc
tag_shown role.InKey n v = absurd cc
tag_shown role.Value n v = refl
tag_shown role.Named n v = refl

tag_end_shown : (s : Role) → is_value s ≡ true → [] ≡ tag_end_at s
tag_end_shown role.Key v = absurd cc
tag_end_shown role.InKey v = absurd cc
tag_end_shown role.Value v = refl
tag_end_shown role.Named v = refl

pub tag_here : {A E : Type 0} (p q : JsonPlace) (n : ℕ) (w : IntegerWidth) (b : List ℕ) (r : Result A E)
    (f : A → List ℕ) (old new : List ℕ) → is_value p.role ≡ true → q ≡ json_leaves.below n p
    → IfOk r (λ x. Written (UniqueTexts (levels_left q.level) q) (read_at q.level b) (f x) old new)
    → IfOk r (λ x. Written (UniqueHere p) (read_behind p.level (head.Tag n w) b) (f x) old new)
tag_here p q n w b (Err e) f old new v is h = tt
tag_here p q n w b (Ok x) f old new v is (i, read, t, text, eq) =
    let left = levels_left (p.level + 1) in
    let there = subst (λ (y : JsonPlace). UniqueTexts (levels_left y.level) y i t) is text in
    let reads = subst (λ (y : JsonPlace). read_at y.level b ≡ Ok (i, f x)) is read in (
      tagged n w i,
      tag_read left n w b (f x) i reads,
      t,
      ([], t, [], tag_shown p.role n v, there, tag_end_shown p.role v, sym (append-nil t)),
      eq,
    )

-- ---- a string of definite length

pub digits_here : (p : JsonPlace) (n : ℕ) (w : IntegerWidth) (s : StringContent) (b rest old new : List ℕ)
    (k : StringKind) → kind_of s ≡ k → read_content k n w b ≡ Ok (borrowed_chunk w s, rest)
    → ((x : Bor (List ℕ)) → s ≡ content.Bytes x → json_leaves.content p x.now ≡ shown.Bytes)
    → (t : List ℕ) × json_leaves.string p (kind_of s) (borrowed_chunk w s) t × (new ≡ old ++ t)
    → Written (UniqueHere p) (read_behind p.level (head.String k (Number n w)) b) rest old new
digits_here p n w (content.Bytes x) b rest old new k same read digits h =
    let c = borrowed_chunk w (content.Bytes x) in
    let left = levels_left (p.level + 1) in (
      atom (string kind.Bytes c),
      content_read n w (content.Bytes x) b rest k same read,
      h.0,
      subst (λ y. ContentText json_leaves left (UniqueTexts left) y p c h.0) (sym (digits x refl)) h.1,
      h.2,
    )
digits_here p n w (content.Text x) b rest old new k same read digits h = (
  atom (string kind.Text (borrowed_chunk w (content.Text x))),
  content_read n w (content.Text x) b rest k same read,
  h.0,
  h.1,
  h.2,
)

pub same_content : (p : JsonPlace) (x y : Bor (List ℕ)) → content.Bytes x ≡ content.Bytes y
    → json_leaves.content p x.now ≡ shown.Bytes → json_leaves.content p y.now ≡ shown.Bytes
same_content p x y e h =
    let same : x ≡ y = cc in subst (λ (z : Bor (List ℕ)). json_leaves.content p z.now ≡ shown.Bytes) same h

-- bytes that may be shown as an item are some
filled : (p : JsonPlace) (b : List ℕ) → json_leaves.content p b ≡ shown.Item → 0 < length b
filled p b e = (opened p b e).1

-- bytes that may be shown as an item, and are none
pub bytes_here : (p : JsonPlace) (n : ℕ) (w : IntegerWidth) (s : StringContent) (x : Bor (List ℕ))
    (b rest old new : List ℕ) (k : StringKind) → s ≡ content.Bytes x → kind_of s ≡ k
    → read_content k n w b ≡ Ok (borrowed_chunk w s, rest) → json_leaves.content p x.now ≡ shown.Item
    → embedded_at (levels_left (p.level + 1)) x.now ≡ None
    → (t : List ℕ) × json_leaves.string p (kind_of s) (borrowed_chunk w s) t × (new ≡ old ++ t)
    → Written (UniqueHere p) (read_behind p.level (head.String k (Number n w)) b) rest old new
bytes_here p n w (content.Text y) x b rest old new k is same read shows none h = absurd cc
bytes_here p n w (content.Bytes y) x b rest old new k is same read shows none h =
    let c = borrowed_chunk w (content.Bytes y) in
    let left = levels_left (p.level + 1) in
    let there : x ≡ y = cc in
    let item = subst (λ (z : Bor (List ℕ)). json_leaves.content p z.now ≡ shown.Item) there shows in
    let no_item = subst (λ (z : Bor (List ℕ)). embedded_at left z.now ≡ None) there none in
    let here = one_embedded json_leaves (UniqueTexts left) p c y.now (embedded_at left y.now) None h.0
    (filled p y.now item) no_item h.1 in (
      atom (string kind.Bytes c),
      content_read n w (content.Bytes y) b rest k same read,
      h.0,
      subst (λ z. ContentText json_leaves left (UniqueTexts left) z p c h.0) (sym item) here,
      h.2,
    )

opens_nothing : (s : Role) (len : Argument) → is_value s ≡ true → [] ≡ opening_at s (Embedded len)
opens_nothing role.Key len v = absurd cc
opens_nothing role.InKey len v = absurd cc
opens_nothing role.Value len v = refl
opens_nothing role.Named len v = refl

closes_nothing : (s : Role) (len : Argument) → is_value s ≡ true → [] ≡ closing_at s (Embedded len)
closes_nothing role.Key len v = absurd cc
closes_nothing role.InKey len v = absurd cc
closes_nothing role.Value len v = refl
closes_nothing role.Named len v = refl

-- the item that the bytes are, all of them
pub item_here : (p q : JsonPlace) (n : ℕ) (w : IntegerWidth) (x : Bor (List ℕ)) (b rest old new : List ℕ)
    → read_content kind.Bytes n w b ≡ Ok (chunk w x.now, rest) → is_value p.role ≡ true → p.layout ≡ layout.Compact
    → json_leaves.content p x.now ≡ shown.Item → q ≡ json_leaves.inside (embedding (chunk w x.now)) layout.Compact p
    → Written (UniqueTexts (levels_left q.level) q) (read_at q.level x.now) [] old new
    → Written (UniqueHere p) (read_behind p.level (head.String kind.Bytes (Number n w)) b) rest old new
item_here p q n w x b rest old new read v flat shows is (i, inner, t, text, eq) =
    let c = chunk w x.now in
    let left = levels_left (p.level + 1) in
    let there = subst (λ (y : JsonPlace). UniqueTexts (levels_left y.level) y i t)
    (is ∙ ap (λ l. json_leaves.inside (embedding c) l p) (sym flat)) text in
    let reads = subst (λ (y : JsonPlace). read_at y.level x.now ≡ Ok (i, [])) is inner in
    let one : OneText json_leaves (UniqueTexts left) p c (Some i) t =
    (t, there, ([], [], opens_nothing p.role _ v, closes_nothing p.role _ v, sym (append-nil t))) in
    let some : 0 < length x.now = omega (arith, item_shorter left x.now i [] reads) in
    let here = one_embedded json_leaves (UniqueTexts left) p c x.now (embedded_at left x.now) (Some i) t some
    (whole_item left x.now [] i reads refl) one in (
      atom (string kind.Bytes c),
      content_read n w (content.Bytes x) b rest kind.Bytes refl read,
      t,
      subst (λ y. ContentText json_leaves left (UniqueTexts left) y p c t) (sym shows) here,
      eq,
    )

-- a text that is written by itself, and then after others
pub written_after : (texts : Item → Texts) (read : Read Item) (rest old new alone : List ℕ)
    → Written texts read rest [] alone → new ≡ old ++ alone → Written texts read rest old new
written_after texts read rest old new alone (i, is, t, text, eq) added =
    (i, is, t, text, added ∙ ap (λ x. old ++ x) eq)

pub shown_here : (p : JsonPlace) (n : ℕ) (w : IntegerWidth) (s : StringContent) (x : Bor (List ℕ))
    (b rest old new : List ℕ) (k : StringKind) → s ≡ content.Bytes x → kind_of s ≡ k
    → read_content k n w b ≡ Ok (borrowed_chunk w s, rest) → is_value p.role ≡ true → p.layout ≡ layout.Compact
    → json_leaves.content p x.now ≡ shown.Item
    → Written (UniqueTexts (levels_left (p.level + 1))
    (json_leaves.inside (embedding (chunk w x.now)) layout.Compact p)) (read_at (p.level + 1) x.now) [] old new
    → Written (UniqueHere p) (read_behind p.level (head.String k (Number n w)) b) rest old new
shown_here p n w s x b rest old new k is same read v flat shows h =
    let bytes : k ≡ kind.Bytes = sym same ∙ ap kind_of is in
    subst (λ y. Written (UniqueHere p) (read_behind p.level (head.String y (Number n w)) b) rest old new) (sym bytes)
    (item_here p (json_leaves.inside (embedding (chunk w x.now)) layout.Compact p) n w x b rest old new
    (ap (λ y. read_content y n w b) (sym bytes) ∙ read ∙ ap (λ y. Ok (borrowed_chunk w y, rest)) is) v flat shows refl
    h)

-- ---- containers

flat_style : (p : JsonPlace) (i : Item) → p.layout ≡ layout.Compact → style.Compact ≡ style_at json_leaves p i
flat_style p i flat = ap (λ x. style_within one_line_limit x (estimated_length i)) (sym flat)

pub array_here : (p now : JsonPlace) (count : Argument) (is : Items) (held : ℕ) (b old out new rest after : List ℕ)
    → p.layout ≡ layout.Compact
    → ItemsWritten json_leaves (UniqueTexts (levels_left (p.level + 1))) p
    (json_leaves.inside (Array count) layout.Compact p) (Array count) style.Compact old out is now held
    → Reached count held → Some after ≡ after_members (left_of count held) rest
    → (e : List ℕ) × json_leaves.closing p (Array count) style.Compact e × (new ≡ out ++ e)
    → read_behind p.level (head.Array count) b ≡ Ok (array is (count_width count), after)
    → Written (UniqueHere p) (read_behind p.level (head.Array count) b) after old new
array_here p now count is held b old out new rest after flat w reached some ends read =
    let write = UniqueTexts (levels_left (p.level + 1)) in
    let width = count_width count in
    let text = items_written json_leaves write p (json_leaves.inside (Array count) layout.Compact p) now (Array count)
    style.Compact old out new is held w refl ends in
    let whole : count ≡ count_of width (item_count is) =
    reached_all count held rest after reached some ∙ ap (count_of width) (sym w.count) in
    let styled = subst (λ x. ItemsText json_leaves write p (Array count) x is text.0)
    (flat_style p (array is width) flat) text.1 in (
      array is width,
      read,
      text.0,
      subst (λ a. ItemsText json_leaves write p (Array a) (style_at json_leaves p (array is width)) is text.0) whole
          styled,
      text.2,
    )

pub object_here : (p now : JsonPlace) (count : Argument) (ps : Pairs) (held : ℕ) (ns : List (List ℕ))
    (b old out new rest after : List ℕ) → p.layout ≡ layout.Compact
    → NamedWritten (UniqueTexts (levels_left (p.level + 1))) p
    (json_leaves.inside (Map count) layout.Compact p) count old out ps now held ns → AreDistinct ns
    → Reached count held → Some after ≡ after_members (left_of count held) rest
    → (e : List ℕ) × json_leaves.closing p (Map count) style.Compact e × (new ≡ out ++ e)
    → read_behind p.level (head.Map count) b ≡ Ok (spec.map ps (count_width count), after)
    → Written (UniqueHere p) (read_behind p.level (head.Map count) b) after old new
object_here p now count ps held ns b old out new rest after flat w apart reached some ends read =
    let write = UniqueTexts (levels_left (p.level + 1)) in
    let width = count_width count in
    let text = pairs_named write p now count style.Compact old out new ps held ns w apart ends in
    let whole : count ≡ count_of width (pair_count ps) =
    reached_all count held rest after reached some ∙ ap (count_of width) (sym w.many) in
    let styled = subst (λ x. NamedText write p (Map count) x ps text.0)
    (flat_style p (spec.map ps width) flat) text.1 in (
      spec.map ps width,
      read,
      text.0,
      subst (λ a. NamedText write p (Map a) (style_at json_leaves p (spec.map ps width)) ps text.0) whole styled,
      text.2,
    )

pub inside_array : (s : Role) (count : Argument) → is_value s ≡ true → inside_role (Array count) s ≡ role.Value
inside_array role.Key count v = absurd cc
inside_array role.InKey count v = absurd cc
inside_array role.Value count v = refl
inside_array role.Named count v = refl

pub quiet_of : (h : ItemHead) → ((a : Argument) → ¬ (h ≡ head.Array a)) → ((a : Argument) → ¬ (h ≡ head.Map a))
    → ((n : ℕ) (w : IntegerWidth) → ¬ (h ≡ head.Tag n w))
    → ((k : StringKind) (n : ℕ) (w : IntegerWidth) → ¬ (h ≡ head.String k (Number n w))) → is_quiet h ≡ true
quiet_of (head.Integer n w) no_array no_map no_tag no_string = refl
quiet_of (head.Negative n w) no_array no_map no_tag no_string = refl
quiet_of (head.Float bits w) no_array no_map no_tag no_string = refl
quiet_of (head.Simple n) no_array no_map no_tag no_string = refl
quiet_of (head.String k Indefinite) no_array no_map no_tag no_string = refl
quiet_of (head.String k (Number n w)) no_array no_map no_tag no_string = absurd (no_string k n w refl)
quiet_of (head.Array a) no_array no_map no_tag no_string = absurd (no_array a refl)
quiet_of (head.Map a) no_array no_map no_tag no_string = absurd (no_map a refl)
quiet_of (head.Tag n w) no_array no_map no_tag no_string = absurd (no_tag n w refl)
