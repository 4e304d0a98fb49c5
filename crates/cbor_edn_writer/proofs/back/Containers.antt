-- In EDN, arrays, maps and strings in chunks are read back as the same bytes, if their members are.
use Rattle.std.proofs.Common.{◌≡◌, inl, inr, ℕ, suc, List, [], ◌∷◌, ◌++◌, length, codes, Option, Some, None}
use Rattle.std.proofs.Common.{true, if◌then◌else◌, refl, sym, ap, subst, ◌∙◌, append_assoc}
use Rattle.std.proofs.Common.{append-nil}
use Rattle.std.specs.List.{AllByRecursion, flat_map}
use Rattle.cbor_grammar.specs.declared.layout.ContainerStyle.{ContainerStyle}
use Rattle.cbor_grammar.specs.declared.strings.StringKind.{StringKind}
use Rattle.cbor_grammar.specs.declared.strings.StringKind.TheVariants as kind
use Rattle.cbor_grammar.specs.declared.width.IntegerWidth.{IntegerWidth}
use Rattle.cbor_grammar.specs.Head.{opening, break_byte}
use Rattle.cbor_grammar.specs.Item as spec
use Rattle.cbor_grammar.specs.Item.{Chunk, chunked_string, Item, atom, array, Items, no_items, item, Pairs, no_pairs}
use Rattle.cbor_grammar.specs.Item.{pair, item_count, pair_count, items_of, pairs_of}
use Rattle.cbor_grammar.specs.NotationText.{last_line}
use Rattle.cbor_grammar.specs.StringKind.{major_of}
use Rattle.cbor_grammar.specs.WellFormed.{IsChunk, FitsCount}
use Rattle.cbor_grammar.specs.Written.{encoded, encoded_items, encoded_pairs, encoded_chunk, encoded_open}
use Rattle.cbor_grammar.specs.Written.{encoded_close}
use Rattle.cbor_notation_writer.specs.declared.parts.Container.{Container}
use Rattle.cbor_notation_writer.specs.declared.parts.Container.TheVariants.{Array, Map, Chunks}
use Rattle.cbor_notation_writer.specs.Dialect.{listed, count_of, Between, ChunkTexts}
use Rattle.cbor_notation_writer.specs.mirror.LayoutView.{before_member, after_member}
use Rattle.cbor_edn_grammar.specs.declared.close.Close.{Close}
use Rattle.cbor_edn_grammar.specs.declared.close.Close.TheVariants.{Bracket, Brace, Parenthesis}
use Rattle.cbor_edn_writer.specs.declared.print.place.EdnPlace.{EdnPlace}
use Rattle.cbor_edn_grammar.specs.Blank.{skip_blank}
use Rattle.cbor_edn_writer.specs.EdnLeaves.{edn_leaves, longer, spaced, count_mark, with_gap, gap, edn_opening}
use Rattle.cbor_edn_writer.specs.EdnLeaves.{edn_closing, quoted_string, note_before}
use Rattle.cbor_edn_grammar.specs.Items.{is_string, item_turn, pair_turn, chunk_turn, read_embedded, chunk_from}
use Rattle.cbor_edn_grammar.specs.Items.{kind_from}
use Rattle.cbor_edn_grammar.specs.Items.{first_kind, chunks_after, fits_count, array_of, map_of, read_array, read_map}
use Rattle.cbor_edn_grammar.specs.Items.{read_chunks, read_core, read_item}
use Rattle.cbor_edn_grammar.specs.Lists.{separated, read_members}
use Rattle.cbor_edn_grammar.specs.Reading.{◌>>=◌, after_byte}
use Rattle.cbor_edn_grammar.specs.Strings.{opening_of}
use Rattle.cbor_edn_writer.proofs.back.Reads.{Follows, IsBegun, IsStarted, ReadsAs, ReadsNoted}
use Rattle.cbor_edn_grammar.proofs.Words.{skip_none}
use Rattle.cbor_edn_writer.proofs.back.Blanks.{skip_space, skip_notes, notes_follow, no_notes, stop_follows, skip_begun}
use Rattle.cbor_edn_writer.proofs.back.Blanks.{begun_append, begun_started, started_append, after_reads}
use Rattle.cbor_edn_writer.proofs.back.Lists.{bracket_closes, brace_closes, parenthesis_closes, after_text, list_text}
use Rattle.cbor_edn_writer.proofs.back.Lists.{Skips, Takes, AllTaken, members_read, members_first, list_unmarked}
use Rattle.cbor_edn_writer.proofs.back.Lists.{is_unmarked}
use Rattle.cbor_edn_writer.proofs.back.Lists.{gap_apart, IsApart, LengthRead, width_read, open_read}
use Rattle.cbor_edn_writer.proofs.back.Lists.{longer_shown}
use Rattle.cbor_edn_writer.proofs.back.Numbers.{longer_encoded, longer_fits}
use Rattle.cbor_edn_writer.proofs.back.Strings.{part_begun, part_kind, part_reads, as_read, part_chunk, part_same}

-- ---- an item in a list

-- the text of an item is read up to its notes
pub text_read : (left : ℕ) (i : Item) (m rest : List ℕ) (r : ReadsNoted left i m) → Follows rest
    → read_item left (r.core ++ (r.notes ++ rest)) ≡ Some (r.item, r.notes ++ rest)
text_read left i m rest r follows =
    r.read (r.notes ++ rest) (notes_follow r.notes rest r.are_notes follows)

text_skips : (left : ℕ) (i : Item) (m : List ℕ) (r : ReadsNoted left i m) → Skips m (r.core ++ r.notes)
text_skips left i m r = record {
  before = r.before;
  parts = r.parts;
  started = r.started;
  skips = λ rest. r.skips rest ∙ sym (append_assoc r.core r.notes rest);
  begun = begun_append r.core r.notes r.begun;
}

pub item_taken : (left : ℕ) (close : Close) (i : Item) (m : List ℕ) (r : ReadsNoted left i m)
    → Takes (item_turn (read_item left) close) close m r.item
item_taken left close i m r = record {
  core = r.core ++ r.notes;
  first = text_skips left i m r;
  takes = λ rest after more follows parts.
      ap (item_turn (read_item left) close) (append_assoc r.core r.notes rest)
      ∙ ap (λ x. x >>= λ i. separated close (is_string i.0) i.1 >>= λ s. Some (i.0 ∷ [], s.0, s.1))
      (text_read left i m rest r follows)
      ∙ ap (λ x. x >>= λ s. Some (r.item ∷ [], s.0, s.1)) (parts (is_string r.item) r.notes r.are_notes);
}

-- the texts of items, as they are read in a list
pub record ItemsRead (left : ℕ) (close : Close) (is : Items) (ms : List (List ℕ)) : Type 0 where
  pub items : List Item
  pub taken : AllTaken (item_turn (read_item left) close) close ms items
  pub long : length items ≡ item_count is
  pub count : item_count (items_of items) ≡ item_count is
  pub same : encoded_items (items_of items) ≡ encoded_items is

pub no_items_read : (left : ℕ) (close : Close) → ItemsRead left close no_items []
no_items_read left close = record { items = []; taken = tt; long = refl; count = refl; same = refl }

pub more_items_read : (left : ℕ) (close : Close) (i : Item) (is : Items) (m : List ℕ) (ms : List (List ℕ))
    → ReadsNoted left i m → ItemsRead left close is ms → ItemsRead left close (item i is) (m ∷ ms)
more_items_read left close i is m ms r rs = record {
  items = r.item ∷ rs.items;
  taken = (item_taken left close i m r, rs.taken);
  long = ap suc rs.long;
  count = ap suc rs.count;
  same = ap (λ e. e ++ encoded_items (items_of rs.items)) r.same ∙ ap (λ e. encoded i ++ e) rs.same;
}

-- ---- a pair

pub pair_taken : (left : ℕ) (k v : Item) (a b m : List ℕ) (x : ReadsNoted left k a) (y : ReadsNoted left v b)
    → m ≡ a ++ (codes ": " ++ b) → Takes (pair_turn (read_item left)) Brace m (x.item, y.item)
pair_taken left k v a b m x y e = record {
  core = x.core ++ (x.notes ++ (codes ": " ++ b));
  first = record {
    before = x.before;
    parts = e ∙ ap (λ a. a ++ (codes ": " ++ b)) x.parts ∙ append_assoc x.before (x.core ++ x.notes) (codes ": " ++ b)
        ∙ ap (λ t. x.before ++ t) (append_assoc x.core x.notes (codes ": " ++ b));
    started = subst IsStarted (sym e) (started_append a (codes ": " ++ b) x.started);
    skips = λ rest.
        ap (λ t. skip_blank (t ++ rest)) e ∙ ap skip_blank (append_assoc a (codes ": " ++ b) rest)
        ∙ x.skips ((codes ": " ++ b) ++ rest) ∙ sym (pair_parts rest);
    begun = begun_append x.core (x.notes ++ (codes ": " ++ b)) x.begun;
  };
  takes = λ rest after more follows parts.
      let read = read_item left in
      let colon = 58 ∷ (32 ∷ (b ++ rest)) in
      ap (pair_turn read) (pair_parts rest)
      ∙ ap (λ x. x >>= λ k. after_byte 58 (skip_blank k.1) >>= λ colon. read (skip_blank colon)
      >>= λ v. separated Brace (is_string v.0) v.1 >>= λ s. Some ((k.0, v.0) ∷ [], s.0, s.1))
      (text_read left k a colon x (stop_follows 58 (32 ∷ (b ++ rest)) refl refl refl))
      ∙ ap (λ t. after_byte 58 t >>= λ colon. read (skip_blank colon)
      >>= λ v. separated Brace (is_string v.0) v.1 >>= λ s. Some ((x.item, v.0) ∷ [], s.0, s.1))
      (skip_notes x.notes colon x.are_notes ∙ skip_none colon refl)
      ∙ ap (λ t. read t
      >>= λ v. separated Brace (is_string v.0) v.1 >>= λ s. Some ((x.item, v.0) ∷ [], s.0, s.1))
      (skip_space (b ++ rest) ∙ y.skips rest)
      ∙ ap (λ x'. x' >>= λ v. separated Brace (is_string v.0) v.1 >>= λ s. Some ((x.item, v.0) ∷ [], s.0, s.1))
      (text_read left v b rest y follows)
      ∙ ap (λ x'. x' >>= λ s. Some ((x.item, y.item) ∷ [], s.0, s.1)) (parts (is_string y.item) y.notes y.are_notes);
}
  where
    pair_parts : (rest : List ℕ) → (x.core ++ (x.notes ++ (codes ": " ++ b))) ++ rest
        ≡ x.core ++ (x.notes ++ ((codes ": " ++ b) ++ rest))
    pair_parts rest =
        append_assoc x.core (x.notes ++ (codes ": " ++ b)) rest
        ∙ ap (λ t. x.core ++ t) (append_assoc x.notes (codes ": " ++ b) rest)

-- the texts of pairs, as they are read in a map
pub record PairsRead (left : ℕ) (ps : Pairs) (ms : List (List ℕ)) : Type 0 where
  pub pairs : List (Item × Item)
  pub taken : AllTaken (pair_turn (read_item left)) Brace ms pairs
  pub long : length pairs ≡ pair_count ps
  pub count : pair_count (pairs_of pairs) ≡ pair_count ps
  pub same : encoded_pairs (pairs_of pairs) ≡ encoded_pairs ps

pub no_pairs_read : (left : ℕ) → PairsRead left no_pairs []
no_pairs_read left = record { pairs = []; taken = tt; long = refl; count = refl; same = refl }

pub more_pairs_read : (left : ℕ) (k v : Item) (ps : Pairs) (a b m : List ℕ) (ms : List (List ℕ)) → ReadsNoted left k a
    → ReadsNoted left v b → m ≡ a ++ (codes ": " ++ b) → PairsRead left ps ms → PairsRead left (pair k v ps) (m ∷ ms)
more_pairs_read left k v ps a b m ms x y e rs = record {
  pairs = (x.item, y.item) ∷ rs.pairs;
  taken = (pair_taken left k v a b m x y e, rs.taken);
  long = ap suc rs.long;
  count = ap suc rs.count;
  same = ap (λ t. t ++ (encoded y.item ++ encoded_pairs (pairs_of rs.pairs))) x.same
      ∙ ap (λ t. encoded k ++ (t ++ encoded_pairs (pairs_of rs.pairs))) y.same
      ∙ ap (λ t. encoded k ++ (encoded v ++ t)) rs.same;
}

-- ---- the text of a container

regroup : (f k i s c r : List ℕ) → ((f ++ k) ++ (i ++ (s ++ c))) ++ r ≡ f ++ (k ++ (i ++ (s ++ (c ++ r))))
regroup f k i s c r = simp append_assoc

-- a text between the opening and the closing of a container, which has no note before it
abbrev pub Enclosed : Container → ContainerStyle → List ℕ → List ℕ → Type 0
Enclosed c l inner t = t ≡ edn_opening c l ++ (inner ++ edn_closing c l)

-- such texts of members
abbrev pub EnclosedList : Container → ContainerStyle → List (List ℕ) → List ℕ → Type 0
EnclosedList c l ms t = Enclosed c l (listed (λ first. before_member (spaced l) first) (after_member l) ms) t

-- a container is read with a note before it, where it is without one
pub enclosed_reads : (left : ℕ) (p : EdnPlace) (i : Item) (c : Container) (l : ContainerStyle) (inner t : List ℕ)
    → ((u : List ℕ) → Enclosed c l inner u → ReadsAs left i u) → Between edn_leaves p c l inner t
    → ReadsNoted left i t
enclosed_reads left p i c l inner t reads (o, e, inl is_o, is_e, is) =
    after_reads left p i (Enclosed c l inner) t reads
    (inl (is ∙ ap (λ o. o ++ (inner ++ e)) is_o ∙ ap (λ e. edn_opening c l ++ (inner ++ e)) is_e))
enclosed_reads left p i c l inner t reads (o, e, inr (u, is_u, is_o), is_e, is) =
    after_reads left p i (Enclosed c l inner) t reads (inr (
      u ++ (inner ++ e),
      ap (λ u. u ++ (inner ++ e)) is_u ∙ ap (λ e. edn_opening c l ++ (inner ++ e)) is_e,
      is ∙ ap (λ o. o ++ (inner ++ e)) is_o ∙ append_assoc (note_before p) u (inner ++ e),
    ))

-- the text of a container and what follows it: its opening, the mark of its length, its members and its closing
pub container_text : (c : Container) (l : ContainerStyle) (ms : List (List ℕ)) (t first mark close rest : List ℕ)
    → EnclosedList c l ms t → edn_opening c l ≡ first ++ mark → edn_closing c l ≡ last_line l ++ close
    → t ++ rest ≡ first ++ (mark ++ list_text l ms (close ++ rest))
container_text c l ms t first mark close rest is opens closes =
    let inner = listed (λ first. before_member (spaced l) first) (after_member l) ms in
    ap (λ x. x ++ rest) (is ∙ ap (λ x. x ++ (inner ++ edn_closing c l)) opens
    ∙ ap (λ x. (first ++ mark) ++ (inner ++ x)) closes)
    ∙ regroup first mark inner (last_line l) close rest

pub container_begun : (c : Container) (l : ContainerStyle) (ms : List (List ℕ)) (t : List ℕ)
    → EnclosedList c l ms t → IsBegun (edn_opening c l) → IsBegun t
container_begun c l ms t is begun = subst IsBegun (sym is) (begun_append (edn_opening c l) _ begun)

-- ---- the count of a container

-- the width that is read of a count
abbrev pub shown_count : Option IntegerWidth → ℕ → Option IntegerWidth
shown_count None n = None
shown_count (Some w) n = Some (longer n w)

count_read : (close : Close) (l : ContainerStyle) (w : Option IntegerWidth) (n : ℕ) (body : List ℕ)
    → is_unmarked body ≡ true → IsApart (gap l ++ body)
    → LengthRead close (shown_count w n) (with_gap l (count_mark (count_of w n)) ++ body) body
count_read close l None n body plain apart = open_read close l body apart
count_read close l (Some w) n body plain apart = width_read close l (longer n w) body (longer_shown n w) plain apart

shown_fits : (w : Option IntegerWidth) (n : ℕ) → FitsCount w n → fits_count (shown_count w n) n ≡ true
shown_fits None n h = refl
shown_fits (Some w) n h = longer_fits n w h

shown_opens : (major : ℕ) (w : Option IntegerWidth) (n : ℕ) → FitsCount w n
    → encoded_open major n (shown_count w n) ≡ encoded_open major n w
shown_opens major None n h = refl
shown_opens major (Some w) n h = longer_encoded major n w h

shown_closes : (w : Option IntegerWidth) (n : ℕ) → encoded_close (shown_count w n) ≡ encoded_close w
shown_closes None n = refl
shown_closes (Some w) n = refl

shown_same : (major : ℕ) (w : Option IntegerWidth) (found n : ℕ) (inner wanted : List ℕ) → FitsCount w n → found ≡ n
    → inner ≡ wanted → encoded_open major found (shown_count w n) ++ (inner ++ encoded_close (shown_count w n))
    ≡ encoded_open major n w ++ (wanted ++ encoded_close w)
shown_same major w found n inner wanted h count same =
    ap (λ m. encoded_open major m (shown_count w n) ++ (inner ++ encoded_close (shown_count w n))) count
    ∙ ap (λ o. o ++ (inner ++ encoded_close (shown_count w n))) (shown_opens major w n h)
    ∙ ap (λ i. encoded_open major n w ++ (i ++ encoded_close (shown_count w n))) same
    ∙ ap (λ c. encoded_open major n w ++ (wanted ++ c)) (shown_closes w n)

-- ---- arrays

array_step : (left : ℕ) (text : List ℕ) → read_item (suc left) (91 ∷ text) ≡ read_array (read_item left) text
unfolding read_item read_core opening_of
array_step left text = refl

pub array_reads : (left : ℕ) (l : ContainerStyle) (is : Items) (w : Option IntegerWidth) (ms : List (List ℕ))
    (t : List ℕ) → FitsCount w (item_count is) → ItemsRead left Bracket is ms
    → EnclosedList (Array (count_of w (item_count is))) l ms t → ReadsAs (suc left) (array is w) t
array_reads left l is w ms t count rs between =
    let n = item_count is in
    let shown = shown_count w n in
    let c = Array (count_of w n) in
    record {
      item = array (items_of rs.items) shown;
      core = t;
      note = [];
      parts = sym (append-nil t);
      is_note = inl refl;
      begun = container_begun c l ms t between refl;
      read = λ rest follows.
          let body = list_text l ms (codes "]" ++ rest) in
          let closes = bracket_closes rest in
          let mark = count_read Bracket l w n body
          (list_unmarked (item_turn (read_item left) Bracket) closes l ms rs.items rs.taken)
          (gap_apart l ms (codes "]" ++ rest)) in
          ap (read_item (suc left))
          (container_text c l ms t (codes "[") (with_gap l (count_mark (count_of w n))) (codes "]") rest between refl
          refl)
          ∙ array_step left (with_gap l (count_mark (count_of w n)) ++ body)
          ∙ ap (λ x. x >>= λ w. read_members (item_turn (read_item left) Bracket) Bracket w.1
          >>= λ is. array_of w.0 is.0 >>= λ i. Some (i, is.1)) mark.1
          ∙ ap (λ x. x >>= λ is. array_of shown is.0 >>= λ i. Some (i, is.1))
          (members_read (item_turn (read_item left) Bracket) closes l mark.0 ms rs.items rs.taken mark.2)
          ∙ ap (λ t. (if t then Some (array (items_of rs.items) shown) else None) >>= λ i. Some (i, rest))
          (ap (fits_count shown) rs.long ∙ shown_fits w n count);
      same = shown_same 4 w (item_count (items_of rs.items)) n (encoded_items (items_of rs.items)) (encoded_items is)
          count rs.count rs.same;
    }

-- ---- maps

map_step : (left : ℕ) (text : List ℕ) → read_item (suc left) (123 ∷ text) ≡ read_map (read_item left) text
unfolding read_item read_core opening_of
map_step left text = refl

pub map_reads : (left : ℕ) (l : ContainerStyle) (ps : Pairs) (w : Option IntegerWidth) (ms : List (List ℕ))
    (t : List ℕ) → FitsCount w (pair_count ps) → PairsRead left ps ms
    → EnclosedList (Map (count_of w (pair_count ps))) l ms t → ReadsAs (suc left) (spec.map ps w) t
map_reads left l ps w ms t count rs between =
    let n = pair_count ps in
    let shown = shown_count w n in
    let c = Map (count_of w n) in
    record {
      item = spec.map (pairs_of rs.pairs) shown;
      core = t;
      note = [];
      parts = sym (append-nil t);
      is_note = inl refl;
      begun = container_begun c l ms t between refl;
      read = λ rest follows.
          let body = list_text l ms (codes "}" ++ rest) in
          let closes = brace_closes rest in
          let mark = count_read Brace l w n body
          (list_unmarked (pair_turn (read_item left)) closes l ms rs.pairs rs.taken)
          (gap_apart l ms (codes "}" ++ rest)) in
          ap (read_item (suc left))
          (container_text c l ms t (codes "{") (with_gap l (count_mark (count_of w n))) (codes "}") rest between refl
          refl)
          ∙ map_step left (with_gap l (count_mark (count_of w n)) ++ body)
          ∙ ap (λ x. x >>= λ w. read_members (pair_turn (read_item left)) Brace w.1
          >>= λ ps. map_of w.0 ps.0 >>= λ i. Some (i, ps.1)) mark.1
          ∙ ap (λ x. x >>= λ ps. map_of shown ps.0 >>= λ i. Some (i, ps.1))
          (members_read (pair_turn (read_item left)) closes l mark.0 ms rs.pairs rs.taken mark.2)
          ∙ ap (λ t. (if t then Some (spec.map (pairs_of rs.pairs) shown) else None) >>= λ i. Some (i, rest))
          (ap (fits_count shown) rs.long ∙ shown_fits w n count);
      same = shown_same 5 w (pair_count (pairs_of rs.pairs)) n (encoded_pairs (pairs_of rs.pairs)) (encoded_pairs ps)
          count rs.count rs.same;
    }

-- ---- strings in chunks

same_chunk : (kind : StringKind) (c : Chunk) → IsChunk kind c
    → chunk_from kind kind c.bytes (Some (longer (length c.bytes) c.width)) ≡ Some (as_read c)
same_chunk kind.Bytes c well = part_chunk kind.Bytes c well
same_chunk kind.Text c well = part_chunk kind.Text c well

chunk_skips : (kind : StringKind) (c : Chunk) (m : List ℕ) → m ≡ quoted_string kind c → Skips m m
chunk_skips kind c m e =
    let begun = subst IsBegun (sym e) (part_begun kind c) in
    record {
      before = [];
      parts = refl;
      started = begun_started m begun;
      skips = λ rest. skip_begun m rest begun;
      begun = begun;
    }

chunk_taken : (left : ℕ) (kind : StringKind) (c : Chunk) (m : List ℕ) → IsChunk kind c → m ≡ quoted_string kind c
    → Takes (chunk_turn (read_item left) kind) Parenthesis m (as_read c)
chunk_taken left kind c m well e = record {
  core = m;
  first = chunk_skips kind c m e;
  takes = λ rest after more follows parts.
      ap (λ t. chunk_turn (read_item left) kind (t ++ rest)) e
      ∙ ap (λ x. x >>= λ c. chunk_from kind c.0.0 c.0.1 c.0.2
      >>= λ chunk. separated Parenthesis true c.1 >>= λ s. Some (chunk ∷ [], s.0, s.1))
      (part_reads (read_embedded (read_item left)) kind c rest well follows)
      ∙ ap (λ x. x >>= λ chunk. separated Parenthesis true rest >>= λ s. Some (chunk ∷ [], s.0, s.1))
      (same_chunk kind c well)
      ∙ ap (λ x. x >>= λ s. Some (as_read c ∷ [], s.0, s.1)) (parts true [] no_notes);
}

-- the texts of chunks, as they are read
record ChunksRead (left : ℕ) (kind : StringKind) (cs : List Chunk) (ms : List (List ℕ)) : Type 0 where
  pub chunks : List Chunk
  pub taken : AllTaken (chunk_turn (read_item left) kind) Parenthesis ms chunks
  pub same : flat_map (encoded_chunk (major_of kind)) chunks ≡ flat_map (encoded_chunk (major_of kind)) cs

chunks_taken : (left : ℕ) (p : EdnPlace) (kind : StringKind) (cs : List Chunk) (ms : List (List ℕ))
    → AllByRecursion (IsChunk kind) cs → ChunkTexts edn_leaves p kind cs ms → ChunksRead left kind cs ms
chunks_taken left p kind [] [] well h = record { chunks = []; taken = tt; same = refl }
chunks_taken left p kind [] (m ∷ ms) well h = absurd h
chunks_taken left p kind (c ∷ cs) [] well h = absurd h
chunks_taken left p kind (c ∷ cs) (m ∷ ms) well h =
    let later = chunks_taken left p kind cs ms well.1 h.1 in
    record {
      chunks = as_read c ∷ later.chunks;
      taken = (chunk_taken left kind c m well.0 h.0, later.taken);
      same = ap (λ e. e ++ flat_map (encoded_chunk (major_of kind)) later.chunks)
          (part_same (major_of kind) kind c well.0)
          ∙ ap (λ e. encoded_chunk (major_of kind) c ++ e) later.same;
    }

chunks_step : (left : ℕ) (text : List ℕ) → read_item (suc left) (40 ∷ text) ≡ read_chunks (read_item left) text
unfolding read_item read_core opening_of
chunks_step left text = refl

-- the kind of the first chunk
first_chunk : (left : ℕ) (kind : StringKind) (l : ContainerStyle) (c : Chunk) (m rest : List ℕ) (ms : List (List ℕ))
    (text : List ℕ) → m ≡ quoted_string kind c
    → skip_blank text ≡ skip_blank (list_text l (m ∷ ms) (codes ")" ++ rest)) → first_kind text ≡ kind
first_chunk left kind l c m rest ms text e blank =
    ap (λ t. kind_from (opening_of t)) (blank
    ∙ members_first (chunk_turn (read_item left) kind) (parenthesis_closes rest) l m m ms (chunk_skips kind c m e)
    ∙ ap (λ m. m ++ after_text l ms (codes ")" ++ rest)) e) ∙ part_kind kind c (after_text l ms (codes ")" ++ rest))

pub chunks_read : (left : ℕ) (p : EdnPlace) (kind : StringKind) (l : ContainerStyle) (c : Chunk) (cs : List Chunk)
    (ms : List (List ℕ)) (t : List ℕ) → AllByRecursion (IsChunk kind) (c ∷ cs)
    → ChunkTexts edn_leaves p kind (c ∷ cs) ms → EnclosedList (Chunks kind) l ms t
    → ReadsAs (suc left) (atom (chunked_string kind (c ∷ cs))) t
chunks_read left p kind l c cs [] t well texts between = absurd texts
chunks_read left p kind l c cs (m ∷ ms) t well texts between =
    let rs = chunks_taken left p kind (c ∷ cs) (m ∷ ms) well texts in
    record {
      item = atom (chunked_string kind rs.chunks);
      core = t;
      note = [];
      parts = sym (append-nil t);
      is_note = inl refl;
      begun = container_begun (Chunks kind) l (m ∷ ms) t between refl;
      read = λ rest follows.
          let body = list_text l (m ∷ ms) (codes ")" ++ rest) in
          let closes = parenthesis_closes rest in
          let mark = open_read Parenthesis l body (gap_apart l (m ∷ ms) (codes ")" ++ rest)) in
          ap (read_item (suc left))
          (container_text (Chunks kind) l (m ∷ ms) t (codes "(") (with_gap l (codes "_")) (codes ")") rest between
          refl refl)
          ∙ chunks_step left (with_gap l (codes "_") ++ body)
          ∙ ap (λ x. x >>= λ w. chunks_after (read_item left) w.0 w.1) mark.1
          ∙ ap (λ k. read_members (chunk_turn (read_item left) k) Parenthesis mark.0
          >>= λ cs. Some (atom (chunked_string k cs.0), cs.1))
          (first_chunk left kind l c m rest ms mark.0 texts.0 mark.2)
          ∙ ap (λ x. x >>= λ cs. Some (atom (chunked_string kind cs.0), cs.1))
          (members_read (chunk_turn (read_item left) kind) closes l mark.0 (m ∷ ms) rs.chunks rs.taken mark.2);
      same = ap (λ e. opening (major_of kind) ∷ (e ++ break_byte ∷ [])) rs.same;
    }
