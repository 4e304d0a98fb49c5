-- For `walk.rt`: an item was read and its lines are written (`Dumped`, `DumpedBehind`) if this holds of its parts:
-- head, members, chunks, content, value of a tag. The same for the notes on a value, a whole dump and an embedded one.
-- Also that `definite_bytes` finds `bytes_in` of the item.
use Rattle.std.proofs.Common.{◌≡◌, ◌≢◌, ℕ, ◌+◌, ◌*◌, ◌≤◌, map, List, [], ◌∷◌, ◌++◌, length, codes, Option, Some, None}
use Rattle.std.proofs.Common.{Result, Ok, Err, IfOk, OnOk}
use Rattle.std.proofs.Common.{refl, sym}
use Rattle.std.proofs.Common.{ap, subst, ◌∙◌, append_assoc, arith}
use Rattle.std.specs.List.{flat_map}
use Rattle.std.specs.Option.{option_to_list}
use Rattle.std.specs.String.{string_bytes}
use Rattle.std.proofs.lemmas.Grind.{flat_map-append}
use Rattle.std.proofs.lemmas.List.{append-nil}
use Rattle.std.proofs.lemmas.Result.{IfOk-weaker}
use Rattle.cbor_notes.specs.Layout.{DumpLine, gap, line_text, row, width_of}
use Rattle.cbor_grammar.specs.declared.error.Error.{Error}
use Rattle.cbor_grammar.specs.declared.error.Error.TheVariants as refusal
use Rattle.cbor_grammar.specs.declared.width.IntegerWidth.{IntegerWidth}
use Rattle.cbor_grammar.specs.declared.strings.StringContent.{StringContent}
use Rattle.cbor_dump.specs.declared.context.DumpContext.{DumpContext}
use Rattle.cbor_dump.specs.declared.walk.Walk.{Walk}
use Rattle.cbor_dump.specs.declared.writer.Writer.{Writer}
use Rattle.cbor_grammar.specs.declared.argument.Argument.{Argument}
use Rattle.cbor_grammar.specs.declared.argument.Argument.TheVariants.{Number, Indefinite}
use Rattle.cbor_grammar.specs.declared.head.ItemHead.{ItemHead}
use Rattle.cbor_grammar.specs.declared.strings.StringKind.{StringKind}
use Rattle.cbor_grammar.specs.declared.strings.StringKind.TheVariants.{Bytes, Text}
use Rattle.cbor_dump.specs.Dump.{below, inside, break_line, close_lines, items_lines, pairs_lines, lines_at_level}
use Rattle.cbor_dump.specs.Dump.{shared_from, shared_in, shared_in_items, shared_in_pairs, string_content_lines}
use Rattle.cbor_dump.specs.Dump.{string_lines}
use Rattle.cbor_dump.specs.Dump.{bytes_in, note_line, note_lines, encoded_item_note, encoded_sequence_notes}
use Rattle.cbor_dump.specs.Dump.{parts_lines, embedded_note, top}
use Rattle.cbor_grammar.specs.Head.{head}
use Rattle.cbor_grammar.specs.Item as spec
use Rattle.cbor_grammar.specs.Item.{Chunk, Item, atom, integer, negative, float, simple, string, chunked_string, array}
use Rattle.cbor_grammar.specs.Item.{tagged, Items, no_items, Pairs, no_pairs}
use Rattle.cbor_grammar.specs.Item.{item_count, pair_count}
use Rattle.cbor_grammar.specs.declared.head.ItemHead.TheVariants as item_head
use Rattle.cbor_grammar.specs.Reading.{head_of, read_head, read_content, read_chunks, after_members, items_in, pairs_in}
use Rattle.cbor_grammar.specs.Reading.{count_width, Read, Fails}
use Rattle.cbor_dump.specs.Notes.{Note, value_note}
use Rattle.cbor_grammar.specs.WellFormed.{levels_left}
use Rattle.cbor_grammar.specs.mirror.AtLevel.{read_at, read_behind}
use Rattle.cbor_dump.specs.mirror.Dumped.{context_view, item_lines, items_there, pairs_there, notes_there, line_of_head}
use Rattle.cbor_dump.specs.mirror.Dumped.{value_note_there, whole_note_there, sequence_notes_there, embedded_lines}
use Rattle.cbor_dump.specs.mirror.Dumped.{dump_at}
use Rattle.cbor_dump.specs.mirror.Dumped.{Wrote, Dumped, DumpedBehind, line_after, own_line}
use Rattle.cbor_grammar.specs.mirror.Lengths.{left_of}
use Rattle.cbor_grammar.specs.mirror.StringView.{kind_of, bytes_of, borrowed_chunk}
use Rattle.cbor_grammar.proofs.bytes.Chunks.{content_takes}
use Rattle.cbor_grammar.proofs.bytes.Found.{item_takes}
use Rattle.cbor_grammar.proofs.bytes.Heads.{IsBytes, head_again, ok_is}
use Rattle.cbor_bytes.proofs.reading.Levels.{head_reads, level_read}
use Rattle.cbor_bytes.proofs.reading.Readings.{parts_read, parts_ended, tag_read, content_read, ok_then}
use Rattle.cbor_dump.proofs.dump.Members.{written_in, untagged, below_opens, tag_shared, Announced, count_line}
use Rattle.cbor_dump.proofs.dump.Members.{width_held}
use Rattle.cbor_dump.proofs.dump.Walks.{rows_are, wrote_none, wrote_then}

-- ---- a head and what is behind it

pub dumped_front : (c : DumpContext) (b rest after : List ℕ) (h : ItemHead) (old mid new : Walk) → c.level ≤ 128
    → read_head b ≡ Ok (h, rest) → mid.shared ≡ old.shared
    → Wrote old.writer mid.writer (line_of_head c.depth h ∷ []) → DumpedBehind c h rest after mid new
    → Dumped c (read_at c.level b) after old new
dumped_front c b rest after h old mid new le e same w d =
    let whole = ap (λ n. item_lines c n d.item) (sym same) ∙ d.parts in
    record {
      item = d.item;
      reads = head_reads c.level b h rest le e ∙ d.reads;
      wrote = subst (Wrote old.writer new.writer) (sym whole)
          (wrote_then old.writer mid.writer new.writer (line_of_head c.depth h ∷ []) d.lines w d.wrote);
      shared = d.shared ∙ ap (λ n. n + shared_in d.item) same;
    }

pub front_ok : {T : Type 0} (r : Result T Error) (now : T → List ℕ) (c : DumpContext) (b rest : List ℕ) (h : ItemHead)
    (old mid new : Walk) → c.level ≤ 128 → read_head b ≡ Ok (h, rest) → mid.shared ≡ old.shared
    → Wrote old.writer mid.writer (line_of_head c.depth h ∷ [])
    → IfOk r (λ x. DumpedBehind c h rest (now x) mid new)
    → IfOk r (λ x. Dumped c (read_at c.level b) (now x) old new)
front_ok r now c b rest h old mid new le e same w behind =
    IfOk-weaker r (λ x. DumpedBehind c h rest (now x) mid new) (λ x. Dumped c (read_at c.level b) (now x) old new)
    (λ x d. dumped_front c b rest (now x) h old mid new le e same w d) behind

alone : (c : DumpContext) (h : ItemHead) (b : List ℕ) (walk : Walk) (i : Item) → read_behind c.level h b ≡ Ok (i, b)
    → item_lines c walk.shared i ≡ line_of_head c.depth h ∷ [] → shared_in i ≡ 0 → DumpedBehind c h b b walk walk
alone c h b walk i reads parts none = record {
  item = i;
  reads = reads;
  lines = [];
  parts = parts;
  wrote = wrote_none walk.writer;
  shared = omega (arith, none);
}

-- an item without parts ends with its head
pub alone_dumped : (c : DumpContext) (h : ItemHead) (b : List ℕ) (walk : Walk)
    → ((k : StringKind) (a : Argument) → h ≡ item_head.String k a → ⊥)
    → ((a : Argument) → h ≡ item_head.Array a → ⊥) → ((a : Argument) → h ≡ item_head.Map a → ⊥)
    → ((t : ℕ) (w : IntegerWidth) → h ≡ item_head.Tag t w → ⊥) → DumpedBehind c h b b walk walk
alone_dumped c (item_head.Integer n w) b walk no_string no_array no_map no_tag =
    alone c (item_head.Integer n w) b walk (atom (integer n w)) refl refl refl
alone_dumped c (item_head.Negative n w) b walk no_string no_array no_map no_tag =
    alone c (item_head.Negative n w) b walk (atom (negative n w)) refl refl refl
alone_dumped c (item_head.String k a) b walk no_string no_array no_map no_tag = absurd (no_string k a refl)
alone_dumped c (item_head.Array a) b walk no_string no_array no_map no_tag = absurd (no_array a refl)
alone_dumped c (item_head.Map a) b walk no_string no_array no_map no_tag = absurd (no_map a refl)
alone_dumped c (item_head.Tag t w) b walk no_string no_array no_map no_tag = absurd (no_tag t w refl)
alone_dumped c (item_head.Float bits w) b walk no_string no_array no_map no_tag =
    alone c (item_head.Float bits w) b walk (atom (float bits w)) refl refl refl
alone_dumped c (item_head.Simple n) b walk no_string no_array no_map no_tag =
    alone c (item_head.Simple n) b walk (atom (simple n)) refl refl refl

-- ---- containers

module _ (c inner : DumpContext) (deeper : inner.level ≡ c.level + 1) (down : inner.depth ≡ c.depth + 1)
    (here : context_view inner ≡ inside (context_view c)) (count : Argument) (held : ℕ)
    (b rest after : List ℕ) (old now new : Walk) (announced : Announced count held)
    (ends : after_members (left_of count held) rest ≡ Some after)
    (closes : Wrote now.writer new.writer (close_lines inner.depth (count_width count))) where
  abbrev close : List DumpLine
  close = close_lines (c.depth + 1) (count_width count)

  closed : Wrote now.writer new.writer close
  closed = subst (λ n. Wrote now.writer new.writer (close_lines n (count_width count))) down closes

  pub items_dumped : (is : Items)
      → parts_read (levels_left (c.level + 1)) (items_in is (left_of count held)) rest
      ≡ parts_read (levels_left (c.level + 1)) (items_in no_items count) b
      → item_count is ≡ held → Wrote old.writer now.writer (items_there inner old.shared is)
      → new.shared ≡ old.shared + shared_in_items is → DumpedBehind c (item_head.Array count) b after old new
  items_dumped is so_far counted wrote shares =
      let w = count_width count in
      let write = lines_at_level (c.level + 1) (inside (context_view c)) in
      let members = items_lines write old.shared is in
      let same = ap (λ f. items_lines f old.shared is) (written_in inner (c.level + 1) (inside
      (context_view c)) deeper here) in
      record {
        item = array is w;
        reads = sym so_far ∙ parts_ended (levels_left (c.level + 1)) (items_in is (left_of count held)) rest after
            (array is w) (ap (λ x. Some (array is x)) (width_held count held)) ends;
        lines = members ++ close;
        parts = ap (λ l. l ∷ (members ++ close)) (count_line c.depth 4 (codes "array") count held
            (item_count is) rest after
            counted announced ends);
        wrote = wrote_then old.writer now.writer new.writer members close
            (subst (Wrote old.writer now.writer) same wrote) closed;
        shared = shares;
      }

  pub pairs_dumped : (ps : Pairs)
      → parts_read (levels_left (c.level + 1)) (pairs_in ps (left_of count held)) rest
      ≡ parts_read (levels_left (c.level + 1)) (pairs_in no_pairs count) b
      → pair_count ps ≡ held → Wrote old.writer now.writer (pairs_there inner old.shared ps)
      → new.shared ≡ old.shared + shared_in_pairs ps → DumpedBehind c (item_head.Map count) b after old new
  pairs_dumped ps so_far counted wrote shares =
      let w = count_width count in
      let write = lines_at_level (c.level + 1) (inside (context_view c)) in
      let members = pairs_lines write old.shared ps in
      let same = ap (λ f. pairs_lines f old.shared ps) (written_in inner (c.level + 1) (inside
      (context_view c)) deeper here) in
      record {
        item = spec.map ps w;
        reads = sym so_far ∙ parts_ended (levels_left (c.level + 1)) (pairs_in ps (left_of count held)) rest after
            (spec.map ps w) (ap (λ x. Some (spec.map ps x)) (width_held count held)) ends;
        lines = members ++ close;
        parts = ap (λ l. l ∷ (members ++ close)) (count_line c.depth 5 (codes "map") count held
            (pair_count ps) rest after
            counted announced ends);
        wrote = wrote_then old.writer now.writer new.writer members close
            (subst (Wrote old.writer now.writer) same wrote) closed;
        shared = shares;
      }

-- ---- tags

pub tag_dumped : (c inner : DumpContext) (t : ℕ) (w : IntegerWidth) (b rest : List ℕ) (i : Item) (old now new : Walk)
    (begun : ℕ) → begun ≡ shared_from t old.shared → inner.level ≡ c.level + 1
    → context_view inner ≡ below t old.shared (context_view c) → inner.level ≤ 128
    → read_at inner.level b ≡ Ok (i, rest) → Wrote old.writer now.writer (item_lines inner begun i)
    → Wrote now.writer new.writer (notes_there inner t i) → new.shared ≡ begun + shared_in i
    → DumpedBehind c (item_head.Tag t w) b rest old new
tag_dumped c inner t w b rest i old now new begun counted deeper here le e value notes shares = record {
  item = tagged t w i;
  reads = tag_read (levels_left (c.level + 1)) t w b rest i (ap (λ n. read_at n b) (sym deeper) ∙ e);
  lines = lines_at_level (c.level + 1) (below t old.shared (context_view c)) (shared_from t old.shared) i;
  parts = refl;
  wrote = subst (Wrote old.writer new.writer) (sym (below_opens c inner t old.shared begun i counted deeper here le))
      (wrote_then old.writer now.writer new.writer (item_lines inner begun i) (notes_there inner t i) value notes);
  shared = shares ∙ ap (λ n. n + shared_in i) counted ∙ tag_shared t old.shared (shared_in i);
}

-- ---- strings

pub string_dumped : (c : DumpContext) (kind : StringKind) (n : ℕ) (w : IntegerWidth) (content : StringContent)
    (b rest : List ℕ) (old new : Walk) → IsBytes b → kind_of content ≡ kind
    → read_content kind n w b ≡ Ok (borrowed_chunk w content, rest)
    → Wrote old.writer new.writer (string_content_lines (kind_of content) (context_view c) (bytes_of content))
    → new.shared ≡ old.shared → DumpedBehind c (item_head.String kind (Number n w)) b rest old new
string_dumped c kind n w content b rest old new fits same e wrote unshared =
    let chunk = borrowed_chunk w content in
    let long = (content_takes kind n w b rest chunk fits e).1 in
    let own = string_content_lines (kind_of content) (context_view c) (bytes_of content) in
    record {
      item = atom (string (kind_of content) chunk);
      reads = content_read n w content b rest kind same e;
      lines = own;
      parts = ap (λ m. line_of_head c.depth (item_head.String (kind_of content) (Number m w)) ∷ own) long
          ∙ ap (λ k. line_of_head c.depth (item_head.String k (Number n w)) ∷ own) same;
      wrote = wrote;
      shared = omega (arith, unshared);
    }

-- one chunk more is written
pub chunk_done : (kind : StringKind) (c inner : DumpContext) (cs : List Chunk) (x : Chunk) (k : StringKind)
    (old now new : Writer) → context_view inner ≡ inside (context_view c) → k ≡ kind
    → Wrote old now (flat_map (string_lines kind (inside (context_view c))) cs)
    → Wrote now new (string_lines k (context_view inner) x)
    → Wrote old new (flat_map (string_lines kind (inside (context_view c))) (cs ++ x ∷ []))
chunk_done kind c inner cs x k old now new here same wrote one =
    let lines = string_lines kind (inside (context_view c)) in
    let own = ap (λ j. string_lines j (context_view inner) x) same ∙ ap (λ p. string_lines kind p x) here in
    let all = flat_map-append lines cs (x ∷ []) ∙ ap (λ ls. flat_map lines cs ++ ls) (append-nil (lines x)) in
    subst (Wrote old new) (sym all)
    (wrote_then old now new (flat_map lines cs) (lines x) wrote (subst (Wrote now new) own one))

pub chunks_dumped : (c inner : DumpContext) (kind : StringKind) (cs : List Chunk) (b after : List ℕ)
    (old now new : Walk) → inner.depth ≡ c.depth + 1
    → (read_chunks (length b) kind b).1 ≡ Ok (cs, after)
    → Wrote old.writer now.writer (flat_map (string_lines kind (inside (context_view c))) cs)
    → Wrote now.writer new.writer (break_line inner.depth ∷ []) → new.shared ≡ old.shared
    → DumpedBehind c (item_head.String kind Indefinite) b after old new
chunks_dumped c inner kind cs b after old now new down e wrote end unshared =
    let lines = flat_map (string_lines kind (inside (context_view c))) cs in
    record {
      item = atom (chunked_string kind cs);
      reads = ok_then (read_chunks (length b) kind b) (cs, after) _ e;
      lines = lines ++ break_line (c.depth + 1) ∷ [];
      parts = refl;
      wrote = wrote_then old.writer now.writer new.writer lines (break_line (c.depth + 1) ∷ []) wrote
          (subst (λ n. Wrote now.writer new.writer (break_line n ∷ [])) down end);
      shared = omega (arith, unshared);
    }

-- ---- the content of a byte string

-- an item of that kind has such a head
bytes_head : (level : ℕ) (b rest : List ℕ) (c : Chunk) → level ≤ 129 → IsBytes b
    → read_at level b ≡ Ok (atom (string Bytes c), rest)
    → read_head b ≡ Ok (item_head.String Bytes (Number (length c.bytes) c.width), c.bytes ++ rest)
unfolding head_of
bytes_head level b rest c le fits e =
    let n = length c.bytes in
    let s = item_takes level (levels_left level) b (atom (string Bytes c)) rest (omega arith) fits e in
    let h = s.spells.1.1 in
    let behind : h.1 ≡ c.bytes = h.3.1 ∙ ap (λ (x : List ℕ). c.bytes ++ x) h.3.2 ∙ append-nil c.bytes in
    let parts = s.parts ∙ ap (λ (x : List ℕ). x ++ rest) (h.2 ∙ ap (λ (x : List ℕ). head 2 n c.width ++ x) behind)
    ∙ append_assoc (head 2 n c.width) c.bytes rest in
    head_again 2 (Number n c.width) (item_head.String Bytes (Number n c.width)) b (c.bytes ++ rest) (omega arith)
    (h.0, c.bytes ++ rest, parts, refl) refl

-- another head than that of a byte string of definite length
abbrev pub IsOther : ItemHead → Type 0
IsOther (item_head.String Bytes (Number n w)) = ⊥
IsOther h = Unit {0}

pub not_string : (h : ItemHead)
    → ((k : StringKind) (a : Argument) → h ≡ item_head.String k a → ⊥) → IsOther h
not_string (item_head.String k a) other = absurd (other k a refl)
not_string (item_head.Integer n w) other = tt
not_string (item_head.Negative n w) other = tt
not_string (item_head.Array a) other = tt
not_string (item_head.Map a) other = tt
not_string (item_head.Tag t w) other = tt
not_string (item_head.Float bits w) other = tt
not_string (item_head.Simple n) other = tt

pub not_number : (k : StringKind) (a : Argument)
    → ((n : ℕ) (w : IntegerWidth) → a ≡ Number n w → ⊥) → IsOther (item_head.String k a)
not_number k (Number n w) other = absurd (other n w refl)
not_number Bytes Indefinite other = tt
not_number Text Indefinite other = tt

pub other_bytes : (level : ℕ) (b rest behind : List ℕ) (i : Item) (h : ItemHead) → level ≤ 129 → IsBytes b
    → read_at level b ≡ Ok (i, rest) → read_head b ≡ Ok (h, behind) → IsOther h → bytes_in i ≡ None
other_bytes level b rest behind (atom (string Bytes c)) h le fits e begins other =
    let both = ok_is (h, behind) (item_head.String Bytes (Number (length c.bytes) c.width), c.bytes ++ rest)
    (sym begins ∙ bytes_head level b rest c le fits e) in
    absurd (subst IsOther (ap (λ (x : ItemHead × List ℕ). x.0) both) other)
other_bytes level b rest behind i h le fits e begins other = refl

pub own_content : (level n : ℕ) (w : IntegerWidth) (content : StringContent) (b rest behind after : List ℕ) (i : Item)
    → read_at level b ≡ Ok (i, rest) → read_head b ≡ Ok (item_head.String Bytes (Number n w), behind)
    → kind_of content ≡ Bytes → read_content Bytes n w behind ≡ Ok (borrowed_chunk w content, after)
    → bytes_in i ≡ Some (bytes_of content)
own_content level n w content b rest behind after i e begins same read =
    let here = sym (head_reads level b (item_head.String Bytes (Number n w)) behind
    (level_read level b rest i e) begins)
    ∙ e in
    let own = content_read n w content behind after Bytes same read in
    let both = ok_is (i, rest) (atom (string (kind_of content) (borrowed_chunk w content)), after) (sym here ∙ own) in
    let is : i ≡ atom (string (kind_of content) (borrowed_chunk w content)) =
    ap (λ (x : Item × List ℕ). x.0) both in
    ap bytes_in is ∙ ap (λ k. bytes_in (atom (string k (borrowed_chunk w content)))) same

-- ---- notes

-- the note of a tag other than those of what is embedded
pub note_written : {T E : Type 0} (r : Result T E) (old new : Writer) (c : DumpContext) (t : ℕ) (i : Item)
    (note : Note) → Some note ≡ value_note c.shared t i → OnOk r (Wrote old new (note_lines c.depth note))
    → OnOk r (Wrote old new (value_note_there c t i))
note_written r old new c t i note is wrote =
    let one : note_lines c.depth note ≡ value_note_there c t i =
    sym (append-nil (note_lines c.depth note))
    ∙ ap (λ (o : Option Note). flat_map (note_lines c.depth) (option_to_list o)) is in
    subst (λ ls. OnOk r (Wrote old new ls)) one wrote

pub no_note_written : (w : Writer) (c : DumpContext) (t : ℕ) (i : Item) → value_note c.shared t i ≡ None
    → Wrote w w (value_note_there c t i)
no_note_written w c t i none =
    let empty : [] ≡ value_note_there c t i =
    ap (λ (o : Option Note). flat_map (note_lines c.depth) (option_to_list o)) (sym none) in
    subst (Wrote w w) empty (wrote_none w)

-- tags 24 and 63, by the bytes in the value
pub item_note : (c : DumpContext) (t : ℕ) (i : Item) (b : List ℕ) → t ≡ 24 → bytes_in i ≡ Some b
    → whole_note_there c b ≡ notes_there c t i
item_note c t i b is bytes =
    sym (append-nil (whole_note_there c b))
    ∙ ap (λ (o : Option (List ℕ)). note_lines c.depth
    (encoded_item_note (levels_left (c.level + 1)) (embedded_lines c) o) ++ []) (sym bytes)
    ∙ ap (λ n. notes_there c n i) (sym is)

pub no_item_note : (c : DumpContext) (t : ℕ) (i : Item) → t ≡ 24 → bytes_in i ≡ None
    → note_line c.depth (codes "invalid type for encoded cbor data item") ∷ [] ≡ notes_there c t i
no_item_note c t i is none =
    ap (λ (o : Option (List ℕ)). note_lines c.depth
    (encoded_item_note (levels_left (c.level + 1)) (embedded_lines c) o) ++ []) (sym none)
    ∙ ap (λ n. notes_there c n i) (sym is)

pub sequence_note : (c : DumpContext) (t : ℕ) (i : Item) (b : List ℕ) → t ≡ 63 → bytes_in i ≡ Some b
    → sequence_notes_there c b ≡ notes_there c t i
sequence_note c t i b is bytes =
    ap (λ (o : Option (List ℕ)). flat_map (note_lines c.depth)
    (encoded_sequence_notes (levels_left (c.level + 1)) (embedded_lines c) o)) (sym bytes)
    ∙ ap (λ n. notes_there c n i) (sym is)

pub no_sequence_note : (c : DumpContext) (t : ℕ) (i : Item) → t ≡ 63 → bytes_in i ≡ None
    → note_line c.depth (codes "invalid type for encoded cbor sequence") ∷ [] ≡ notes_there c t i
no_sequence_note c t i is none =
    ap (λ (o : Option (List ℕ)). flat_map (note_lines c.depth)
    (encoded_sequence_notes (levels_left (c.level + 1)) (embedded_lines c) o)) (sym none)
    ∙ ap (λ n. notes_there c n i) (sym is)

-- an error other than out of memory is that of reading
pub real_error : (e : Error) (read : Read Item) → e ≢ refusal.Memory → Fails e read → read ≡ Err e
real_error refusal.Memory read real h = absurd (real refl)
real_error e read real h = h

-- the lines of a whole dump
pub whole_lines : (c : DumpContext) (level known : ℕ) (i : Item) → c.level ≡ level → context_view c ≡ top
    → level ≤ 128 → known ≡ 0 → item_lines c known i ≡ lines_at_level level top 0 i
whole_lines c level known i deep here le none =
    ap (λ n. parts_lines (lines_at_level (n + 1)) (context_view c) known i) deep
    ∙ ap (λ p. parts_lines (lines_at_level (level + 1)) p known i) here
    ∙ ap (λ n. parts_lines (lines_at_level (level + 1)) top n i) none ∙ sym (untagged level top 0 i le refl)

-- a whole dump, in a column as wide as its lines reach
pub whole_dump : (c : DumpContext) (level : ℕ) (i : Item) (old new : Walk) → c.level ≡ level → context_view c ≡ top
    → level ≤ 128 → old.shared ≡ 0 → string_bytes old.writer.out ≡ [] → string_bytes old.writer.prefix ≡ []
    → old.writer.width ≡ width_of (lines_at_level level top 0 i)
    → Wrote old.writer new.writer (item_lines c old.shared i) → string_bytes new.writer.out ≡ dump_at level i
whole_dump c level i old new deep here le none empty bare wide w =
    w.text ∙ ap (λ t. t ++ flat_map (own_line old.writer) (item_lines c old.shared i)) empty
    ∙ ap (λ p. flat_map (line_after p old.writer.width) (item_lines c old.shared i)) bare
    ∙ ap (λ n. flat_map (line_after [] n) (item_lines c old.shared i)) wide
    ∙ ap (flat_map (line_text (width_of (lines_at_level level top 0 i)))) (whole_lines c level old.shared i deep here
    le none)

-- an embedded dump, as lines of a note
pub embedded_dump : (c : DumpContext) (level depth : ℕ) (i : Item) (begun inner done old new : Writer) (known : ℕ)
    → c.level ≡ level → context_view c ≡ top → level ≤ 128 → known ≡ 0
    → string_bytes inner.out ≡ string_bytes begun.out
    → string_bytes inner.prefix ≡ string_bytes begun.prefix ++ gap begun.width (2 * (depth + 1))
    → inner.width ≡ width_of (lines_at_level level top 0 i) → Wrote inner done (item_lines c known i)
    → Wrote old begun (note_line depth (codes "encoded cbor data item") ∷ [])
    → string_bytes new.out ≡ string_bytes done.out → new.width ≡ begun.width
    → string_bytes new.prefix ≡ string_bytes begun.prefix
    → Wrote old new (note_lines depth (embedded_note (lines_at_level level top 0 i)))
embedded_dump c level depth i begun inner done old new known deep here le none out prefix wide wrote note back width
    same =
    let lines = lines_at_level level top 0 i in
    let before = string_bytes begun.prefix in
    let rows : string_bytes done.out
    ≡ string_bytes begun.out
    ++ flat_map (own_line begun) (map (note_line (depth + 1)) (map (row (width_of lines)) lines)) =
    wrote.text ∙ ap (λ t. t ++ flat_map (own_line inner) (item_lines c known i)) out
    ∙ ap (λ ls. string_bytes begun.out ++ flat_map (own_line inner) ls) (whole_lines c level known i deep here le none)
    ∙ ap (λ p. string_bytes begun.out ++ flat_map (line_after p inner.width) lines) prefix
    ∙ ap (λ n. string_bytes begun.out ++ flat_map (line_after (before ++ gap begun.width (2 * (depth + 1))) n) lines)
    wide
    ∙ ap (λ t. string_bytes begun.out ++ t) (rows_are before begun.width (depth + 1) (width_of lines) lines) in
    wrote_then old begun new (note_line depth (codes "encoded cbor data item") ∷ [])
    (map (note_line (depth + 1)) (map (row (width_of lines)) lines)) note
    (record { text = back ∙ rows; width = width; prefix = same })
