-- The lines of a dump are the same for an item and for the item with its widths resolved (`resolve`). So a well-formed
-- item has the same dump as the item that its encoding is read back as, and reading the encoding fails only if memory
-- runs out.
use Rattle.std.proofs.Common.{◌≡◌, ℕ, zero, suc, ◌+◌, List, [], ◌∷◌, ◌++◌, map, length, codes, Option, Some, None, Ok}
use Rattle.std.proofs.Common.{refl, sym, ap, ◌∙◌, append-nil}
use Rattle.std.specs.List.{flat_map}
use Rattle.cbor_notes.specs.Element.{element_size}
use Rattle.cbor_notes.specs.Layout.{DumpLine, layout}
use Rattle.cbor_grammar.specs.declared.error.Error.{Error}
use Rattle.cbor_grammar.specs.declared.error.Error.TheVariants as refusal
use Rattle.cbor_grammar.specs.declared.width.IntegerWidth.{IntegerWidth}
use Rattle.cbor_dump.specs.Comments.{float_comment, tag_comment}
use Rattle.cbor_dump.specs.Dump.{Context, dump, top, inside, below, bytes_in, string_lines, atom_lines}
use Rattle.cbor_dump.specs.Dump.{container_line}
use Rattle.cbor_dump.specs.Dump.{close_lines, shared_in, shared_in_items, shared_in_pairs, shared_from, notes}
use Rattle.cbor_dump.specs.Dump.{note_lines}
use Rattle.cbor_dump.specs.Dump.{notes_lines, items_lines, pairs_lines, parts_lines, lines_at, head_line}
use Rattle.cbor_grammar.specs.Item as spec
use Rattle.cbor_grammar.specs.Item.{Chunk, Atom, integer, negative, string, chunked_string, float, simple, Item, atom}
use Rattle.cbor_grammar.specs.Item.{array}
use Rattle.cbor_grammar.specs.Item.{tagged, Items, no_items, item, Pairs, no_pairs, pair, item_count, pair_count}
use Rattle.cbor_dump.specs.Notes.{zone_at, interface_note, members_note, with_length}
use Rattle.cbor_dump.specs.declared.addresses.Family.{Family}
use Rattle.cbor_dump.specs.declared.addresses.Family.TheVariants.{IPv4, IPv6}
use Rattle.cbor_dump.specs.Notes.{value_note, typed_array_note}
use Rattle.cbor_grammar.specs.Reading.{Fails, read_item}
use Rattle.cbor_grammar.specs.declared.strings.StringKind.{StringKind}
use Rattle.cbor_grammar.specs.declared.strings.StringKind.TheVariants.{Bytes, Text}
use Rattle.cbor_grammar.specs.StringKind.{major_of}
use Rattle.cbor_grammar.specs.WellFormed.{WellFormed}
use Rattle.cbor_grammar.specs.Written.{encoded, encoded_head, resolve_chunk, resolve_atom, resolve_count, resolve}
use Rattle.cbor_grammar.specs.Written.{resolve_items}
use Rattle.cbor_grammar.specs.Written.{resolve_pairs}
use Rattle.cbor_grammar.proofs.bytes.Heads.{ok_is}
use Rattle.cbor_grammar.proofs.bytes.Resolved.{written_again}
use Rattle.cbor_grammar.proofs.bytes.Strict.{encoded_head-resolve, float-resolve, item_count-resolve}
use Rattle.cbor_grammar.proofs.bytes.Strict.{pair_count-resolve}

-- ---- notes

zone_same : (is : Items) → zone_at (resolve_items is) ≡ zone_at is
zone_same no_items = refl
zone_same (item (atom (integer n w)) is) = refl
zone_same (item (atom (string Text c)) is) = refl
zone_same _ = refl

interface_same : (f : Family) (bytes : List ℕ) (is : Items)
    → interface_note f bytes (resolve_items is) ≡ interface_note f bytes is
interface_same f bytes no_items = refl
interface_same f bytes (item (atom (integer len w)) is) = ap (with_length f bytes len) (zone_same is)
interface_same f bytes (item (atom (simple n)) is) = rw (zone_same is) refl
interface_same f bytes (item (atom (string Text c)) is) = refl
interface_same f bytes _ = refl

members_same : (f : Family) (is : Items) → members_note f (resolve_items is) ≡ members_note f is
members_same f no_items = refl
members_same f (item (atom (integer len w)) (item (atom (string Bytes c)) is)) = refl
members_same f (item (atom (string Bytes c)) is) = rw (interface_same f c.bytes is) refl
members_same f _ = refl

typed_same : (size : Option ℕ) (i : Item) → typed_array_note size (resolve i) ≡ typed_array_note size i
typed_same None i = refl
typed_same (Some size) (atom (string Bytes c)) = refl
typed_same (Some size) _ = refl

value_same : (known t : ℕ) (i : Item) → value_note known t (resolve i) ≡ value_note known t i
unfolding value_note
value_same known t (atom (integer n w)) = rw (typed_same (element_size t) (atom (integer n w))) refl
value_same known t (atom (negative n w)) = rw (typed_same (element_size t) (atom (negative n w))) refl
value_same known t (atom (string Bytes c)) =
    rw (typed_same (element_size t) (atom (string Bytes c))) refl
value_same known t (atom (string Text c)) = rw (typed_same (element_size t) (atom (string Text c))) refl
value_same known t (atom (chunked_string kind cs)) =
    rw (typed_same (element_size t) (atom (chunked_string kind cs))) refl
value_same known t (atom (float bits w)) = rw (typed_same (element_size t) (atom (float bits w))) refl
value_same known t (atom (simple n)) = refl
value_same known t (array is w) =
    rw (members_same IPv4 is, members_same IPv6 is, typed_same (element_size t) (array is w)) refl
value_same known t (spec.map ps w) = rw (typed_same (element_size t) (spec.map ps w)) refl
value_same known t (tagged u w i) = rw (typed_same (element_size t) (tagged u w i)) refl

bytes_same : (i : Item) → bytes_in (resolve i) ≡ bytes_in i
bytes_same (atom (string Bytes c)) = refl
bytes_same _ = refl

notes_same : (depth left : ℕ) (write : Item → List DumpLine) (known : ℕ) (tag : Option ℕ) (i : Item)
    → notes_lines depth left write known tag (resolve i) ≡ notes_lines depth left write known tag i
notes_same depth left write known None i = refl
notes_same depth left write known (Some t) i =
    let same : notes left write known t (resolve i) ≡ notes left write known t i =
    rw (bytes_same i, value_same known t i) refl in
    ap (flat_map (note_lines depth)) same

-- ---- strings and numbers

string_same : (kind : StringKind) (p : Context) (c : Chunk)
    → string_lines kind p (resolve_chunk c) ≡ string_lines kind p c
string_same kind p c = rw (encoded_head-resolve (major_of kind) (length c.bytes) c.width) refl

chunks_same : (kind : StringKind) (p : Context) (cs : List Chunk)
    → flat_map (string_lines kind p) (map resolve_chunk cs) ≡ flat_map (string_lines kind p) cs
chunks_same kind p [] = refl
chunks_same kind p (c ∷ cs) =
    ap (λ x. x ++ flat_map (string_lines kind p) (map resolve_chunk cs)) (string_same kind p c)
    ∙ ap (λ x. string_lines kind p c ++ x) (chunks_same kind p cs)

atom_same : (p : Context) (a : Atom) → atom_lines p (resolve_atom a) ≡ atom_lines p a
atom_same p (integer n w) = rw (encoded_head-resolve 0 n w) refl
atom_same p (negative n w) = rw (encoded_head-resolve 1 n w) refl
atom_same p (string kind c) = string_same kind p c
atom_same p (chunked_string kind cs) = rw (chunks_same kind (inside p) cs) refl
atom_same p (float bits w) = ap (λ x. head_line p.depth x (float_comment x) ∷ []) (float-resolve bits w)
atom_same p (simple n) = refl

-- ---- shared values

mutual
  shared_same : (i : Item) → shared_in (resolve i) ≡ shared_in i
  shared_same (atom a) = refl
  shared_same (array is w) = shared_items_same is
  shared_same (spec.map ps w) = shared_pairs_same ps
  shared_same (tagged t w i) = ap (shared_from t) (shared_same i)

  shared_items_same : (is : Items) → shared_in_items (resolve_items is) ≡ shared_in_items is
  shared_items_same no_items = refl
  shared_items_same (item i is) = rw (shared_same i, shared_items_same is) refl

  shared_pairs_same : (ps : Pairs) → shared_in_pairs (resolve_pairs ps) ≡ shared_in_pairs ps
  shared_pairs_same no_pairs = refl
  shared_pairs_same (pair k v ps) = rw (shared_same k, shared_same v, shared_pairs_same ps) refl

-- ---- containers

container_same : (depth major : ℕ) (name : List ℕ) (n m : ℕ) (w : Option IntegerWidth) → m ≡ n
    → container_line depth major name m (resolve_count w n) ≡ container_line depth major name n w
container_same depth major name n m None is = ap (λ k. container_line depth major name k None) is
container_same depth major name n m (Some w) is =
    ap (λ k. container_line depth major name k (resolve_count (Some w) n)) is
    ∙ rw (encoded_head-resolve major n w) refl

close_same : (depth n : ℕ) (w : Option IntegerWidth) → close_lines depth (resolve_count w n) ≡ close_lines depth w
close_same depth n None = refl
close_same depth n (Some w) = refl

module _ (write : ℕ → Item → List DumpLine)
    (same : (known : ℕ) (i : Item) → write known (resolve i) ≡ write known i) where
  items_same : (known : ℕ) (is : Items) → items_lines write known (resolve_items is) ≡ items_lines write known is
  items_same known no_items = refl
  items_same known (item i is) =
      ap (λ x. x ++ items_lines write (known + shared_in (resolve i)) (resolve_items is)) (same known i)
      ∙ ap (λ n. write known i ++ items_lines write (known + n) (resolve_items is)) (shared_same i)
      ∙ ap (λ x. write known i ++ x) (items_same (known + shared_in i) is)

  pairs_same : (known : ℕ) (ps : Pairs) → pairs_lines write known (resolve_pairs ps) ≡ pairs_lines write known ps
  pairs_same known no_pairs = refl
  pairs_same known (pair k v ps) =
      let more = λ (n m : ℕ). pairs_lines write (known + n + m) (resolve_pairs ps) in
      ap (λ x. x ++ (write (known + shared_in (resolve k)) (resolve v) ++ more (shared_in (resolve k))
      (shared_in (resolve v)))) (same known k)
      ∙ ap (λ n. write known k ++ (write (known + n) (resolve v) ++ more n (shared_in (resolve v)))) (shared_same k)
      ∙ ap (λ x. write known k ++ (x ++ more (shared_in k) (shared_in (resolve v)))) (same (known + shared_in k) v)
      ∙ ap (λ m. write known k ++ (write (known + shared_in k) v ++ more (shared_in k) m)) (shared_same v)
      ∙ ap (λ x. write known k ++ (write (known + shared_in k) v ++ x))
      (pairs_same (known + shared_in k + shared_in v) ps)

module _ (write : Context → ℕ → Item → List DumpLine)
    (same : (p : Context) (known : ℕ) (i : Item) → write p known (resolve i) ≡ write p known i) where
  parts_same : (p : Context) (known : ℕ) (i : Item)
      → parts_lines write p known (resolve i) ≡ parts_lines write p known i
  parts_same p known (atom a) = atom_same p a
  parts_same p known (array is w) =
      let n : ℕ = item_count is in
      let end : Option IntegerWidth → List DumpLine = λ v. close_lines (p.depth + 1) v in
      ap (λ x. x ∷ (items_lines (write (inside p)) known (resolve_items is) ++ end (resolve_count w n)))
      (container_same p.depth 4 (codes "array") n (item_count (resolve_items is)) w (item_count-resolve is))
      ∙ ap (λ x. container_line p.depth 4 (codes "array") n w ∷ (x ++ end (resolve_count w n)))
      (items_same (write (inside p)) (same (inside p)) known is)
      ∙ ap (λ x. container_line p.depth 4 (codes "array") n w ∷ (items_lines (write (inside p)) known is ++ x))
      (close_same (p.depth + 1) n w)
  parts_same p known (spec.map ps w) =
      let n : ℕ = pair_count ps in
      let end : Option IntegerWidth → List DumpLine = λ v. close_lines (p.depth + 1) v in
      ap (λ x. x ∷ (pairs_lines (write (inside p)) known (resolve_pairs ps) ++ end (resolve_count w n)))
      (container_same p.depth 5 (codes "map") n (pair_count (resolve_pairs ps)) w (pair_count-resolve ps))
      ∙ ap (λ x. container_line p.depth 5 (codes "map") n w ∷ (x ++ end (resolve_count w n)))
      (pairs_same (write (inside p)) (same (inside p)) known ps)
      ∙ ap (λ x. container_line p.depth 5 (codes "map") n w ∷ (pairs_lines (write (inside p)) known ps ++ x))
      (close_same (p.depth + 1) n w)
  parts_same p known (tagged t w i) =
      let said : List ℕ = tag_comment t in
      let value : Item → List DumpLine = λ j. write (below t known p) (shared_from t known) j in
      ap (λ x. head_line p.depth x said ∷ value (resolve i)) (encoded_head-resolve 6 t w)
      ∙ ap (λ x. head_line p.depth (encoded_head 6 t w) said ∷ x) (same (below t known p) (shared_from t known) i)

pub lines_same : (left : ℕ) (p : Context) (known : ℕ) (i : Item)
    → lines_at left p known (resolve i) ≡ lines_at left p known i
unfolding lines_at
lines_same zero p known i = refl
lines_same (suc left) p known i =
    ap (λ x. x ++ notes_lines p.depth left (lines_at left top 0) p.shared p.tag (resolve i))
    (parts_same (lines_at left) (lines_same left) p known i)
    ∙ ap (λ x. parts_lines (lines_at left) p known i ++ x)
    (notes_same p.depth left (lines_at left top 0) p.shared p.tag i)

-- ---- the bytes of an item

pub encoded_read : (i : Item) → WellFormed 1 i → read_item 128 (encoded i) ≡ Ok (resolve i, [])
encoded_read i well = ap (read_item 128) (sym (append-nil (encoded i))) ∙ written_again i [] well

-- the dump of the item that they are is that of the item which they are written for
pub dump_of_encoded : (i j : Item) (rest : List ℕ) → WellFormed 1 i → read_item 128 (encoded i) ≡ Ok (j, rest)
    → dump j ≡ dump i
dump_of_encoded i j rest well read =
    let is : resolve i ≡ j =
    ap (λ (x : Item × List ℕ). x.0) (ok_is (resolve i, []) (j, rest) (sym (encoded_read i well) ∙ read)) in
    ap dump (sym is) ∙ ap layout (lines_same 128 top 0 i)

-- and they are not refused
pub encoded_fails : (i : Item) (e : Error) → WellFormed 1 i → Fails e (read_item 128 (encoded i))
    → e ≡ refusal.Memory
encoded_fails i refusal.Memory well h = refl
encoded_fails i e well h = absurd (let wrong = sym h ∙ encoded_read i well in cc)
