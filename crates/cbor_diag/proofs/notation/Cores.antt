-- Reading notation part by part: what `read_core`, `read_chunk`, `read_chunks`, `read_pair` and `read_item` return,
-- given what their parts return. The loop `read_pieces` is shown one piece at a time. An array or a map that states no
-- width is well formed if its members are, one level deeper.
use Rattle.std.proofs.Common.{◌≡◌, ℕ, zero, suc, ◌+◌, ◌-◌, ◌<◌, ◌≤◌, ◌^◌, ◌⊎◌, inl, inr, Bool, true, false, List}
use Rattle.std.proofs.Common.{[], ◌∷◌, ◌++◌, length, Option, Some, None, Result, Ok, Err, Vec, Global, refl, sym, ap}
use Rattle.std.proofs.Common.{subst, ◌∙◌, append_assoc, arith}
use Rattle.std.specs.List.{AllByRecursion}
use Rattle.std.proofs.lemmas.List.{append-nil}
use Rattle.cbor_grammar.specs.declared.width.IntegerWidth.{IntegerWidth}
use Rattle.cbor_grammar.specs.declared.width.IntegerWidth.TheVariants.{Unknown}
use Rattle.cbor_diag.specs.declared.syntax.DataItem.{DataItem, Array, Map}
use Rattle.cbor_grammar.specs.declared.error.Error.{Error}
use Rattle.cbor_grammar.specs.declared.error.Error.TheVariants as refusal
use Rattle.cbor_notation.specs.declared.start.Start.{Start}
use Rattle.cbor_notation.specs.declared.start.Start.TheVariants as start
use Rattle.cbor_grammar.specs.Item as spec
use Rattle.cbor_grammar.specs.Item.{Chunk, chunked_string, Item, array, atom, item_count, pair_count}
use Rattle.cbor_grammar.specs.Item.{items_of, negative, pairs_of}
use Rattle.cbor_diag.specs.View.{view, items_view, pairs_view}
use Rattle.cbor_grammar.specs.WellFormed.{IsChunk, WellFormed, WellFormedItems, WellFormedPairs, FitsCount}
use Rattle.cbor_grammar.specs.declared.strings.StringKind.{StringKind}
use Rattle.cbor_grammar.specs.declared.strings.StringKind.TheVariants.{Bytes, Text}
use Rattle.cbor_grammar.specs.Reading.{Read, ◌>>=◌, Fails}
use Rattle.cbor_notation.specs.mirror.NotationReading.{or_refused, after_byte, skip_blank, read_pair, first_start}
use Rattle.cbor_notation.specs.mirror.NotationReading.{rest_of, read_integer}
use Rattle.cbor_notation.specs.mirror.NotationReading.{read_negative_number}
use Rattle.cbor_notation.specs.mirror.NotationReading.{read_word}
use Rattle.cbor_notation.specs.mirror.NotationReading.{core_of, read_core, read_item, piece_of, read_piece}
use Rattle.cbor_notation.specs.mirror.NotationReading.{begins_piece}
use Rattle.cbor_notation.specs.mirror.NotationReading.{begins_string, read_pieces, content_of, read_content, kind_from}
use Rattle.cbor_notation.specs.mirror.NotationReading.{checked, with_chunk, read_string, read_chunk, chunks_of}
use Rattle.cbor_notation.specs.mirror.NotationReading.{read_members, read_chunks, read_string_item, read_length}
use Rattle.cbor_grammar.proofs.bytes.Heads.{bind_ok, ok_is}
use Rattle.cbor_diag.proofs.notation.ChunkLoops.{Fails-bind, onto, onto_fails}
use Rattle.cbor_diag.proofs.shared.Views.{item_count_view, pair_count_view}
use Rattle.cbor_diag.proofs.shared.Levels.{array_well, map_well}

pub core_by : (read : List ℕ → Read Item) (text rest : List ℕ) (s : Start) → s ≡ first_start text → rest ≡ rest_of text
    → read_core read text ≡ core_of read s text rest
unfolding read_core
core_by read [] rest s is behind = sym (ap (λ s. core_of read s [] rest) is)
core_by read (b ∷ text) rest s is behind = ap (λ s. core_of read s (b ∷ text) text) (sym is)
    ∙ ap (core_of read s (b ∷ text)) (sym behind)

-- by the start that a match found it to be
pub core_at : {at s : Start} (read : List ℕ → Read Item) (text : List ℕ) {rest : List ℕ} → at ≡ s
    → at ≡ first_start text → rest ≡ rest_of text → read_core read text ≡ core_of read s text rest
core_at {at} {s} read text {rest} is starts behind = core_by read text rest s (sym is ∙ starts) behind

-- an array or a map, from what its length and its members are
module _ {X : Type 0} (member : List ℕ → Read X) (close : ℕ) (make : List X → Option IntegerWidth → Item)
    (behind : List ℕ) {opened : List ℕ} {core : Read Item}
    (is : core ≡ (read_members member close (read_length behind).1
    >>= λ xs. Ok (make xs.0 (read_length behind).0, xs.1))) (opens : opened ≡ (read_length behind).1) where
  container_fails : (e : Error) → Fails e (read_members member close opened) → Fails e core
  container_fails e h =
      subst (λ r. Fails e r) (sym is) (Fails-bind e (read_members member close (read_length behind).1)
      (λ xs. Ok (make xs.0 (read_length behind).0, xs.1))
      (subst (λ b. Fails e (read_members member close b)) opens h))

  container_read : {xs : List X} {after : List ℕ} {i : Item} {w : Option IntegerWidth}
      → w ≡ (read_length behind).0 → read_members member close opened ≡ Ok (xs, after) → i ≡ make xs w
      → core ≡ Ok (i, after)
  container_read {xs} {after} width found made =
      is ∙ ap (λ r. r >>= λ xs. Ok (make xs.0 (read_length behind).0, xs.1))
      (ap (read_members member close) (sym opens) ∙ found)
      ∙ ap (λ w. Ok (make xs w, after)) (sym width) ∙ ap (λ i. Ok (i, after)) (sym made)

-- an array and a map, which these bytes begin
module _ (read : List ℕ → Read Item) (text : List ℕ) {s : Start} {behind opened : List ℕ}
    (begins : s ≡ first_start text) (rest : behind ≡ rest_of text) (opens : opened ≡ (read_length behind).1) where
  pub array_fails : (e : Error) → s ≡ start.Bracket → Fails e (read_members read 93 opened)
      → Fails e (read_core read text)
  array_fails e is =
      container_fails read 93 (λ is w. array (items_of is) w) behind (core_at read text is begins rest) opens e

  pub array_read : {is : List Item} {after : List ℕ} {i : Item} {w : Option IntegerWidth} → s ≡ start.Bracket
      → w ≡ (read_length behind).0 → read_members read 93 opened ≡ Ok (is, after) → i ≡ array (items_of is) w
      → read_core read text ≡ Ok (i, after)
  array_read is =
      container_read read 93 (λ is w. array (items_of is) w) behind (core_at read text is begins rest) opens

  pub map_fails : (e : Error) → s ≡ start.Brace → Fails e (read_members (read_pair read) 125 opened)
      → Fails e (read_core read text)
  map_fails e is =
      container_fails (read_pair read) 125 (λ ps w. spec.map (pairs_of ps) w) behind
      (core_at read text is begins rest) opens e

  pub map_read : {ps : List (Item × Item)} {after : List ℕ} {i : Item} {w : Option IntegerWidth} → s ≡ start.Brace
      → w ≡ (read_length behind).0 → read_members (read_pair read) 125 opened ≡ Ok (ps, after)
      → i ≡ spec.map (pairs_of ps) w → read_core read text ≡ Ok (i, after)
  map_read is =
      container_read (read_pair read) 125 (λ ps w. spec.map (pairs_of ps) w) behind
      (core_at read text is begins rest) opens

-- a negative integer
module _ (read : List ℕ → Read Item) (text : List ℕ) {s : Start} {behind : List ℕ} (begins : s ≡ first_start text)
    (rest : behind ≡ rest_of text) (is : s ≡ start.Minus) where
  pub minus_fails : (e : Error) → Fails e (read_negative_number behind) → Fails e (read_core read text)
  minus_fails e h =
      subst (λ r. Fails e r) (sym (core_at read text is begins rest)) (Fails-bind e (read_negative_number behind)
      (λ n. Ok (atom (negative n.0.0 n.0.1), n.1)) h)

  pub minus_read : {n : ℕ × IntegerWidth} {after : List ℕ} {i : Item} → read_negative_number behind ≡ Ok (n, after)
      → i ≡ atom (negative n.0 n.1) → read_core read text ≡ Ok (i, after)
  minus_read {n} {after} found made =
      core_at read text is begins rest
      ∙ ap (λ r. r >>= λ n. Ok (atom (negative n.0.0 n.0.1), n.1)) found ∙ ap (λ i. Ok (i, after)) (sym made)

-- what is read by the first byte alone

pub core_digit : (read : List ℕ → Read Item) (text : List ℕ) → first_start text ≡ start.Digit
    → read_core read text ≡ read_integer read text
core_digit read text is = core_at read text refl (sym is) refl

pub core_chunks : (read : List ℕ → Read Item) (text : List ℕ) → first_start text ≡ start.Parenthesis
    → read_core read text ≡ read_chunks read (rest_of text)
core_chunks read text is = core_at read text refl (sym is) refl

pub core_text : (read : List ℕ → Read Item) (text : List ℕ) → first_start text ≡ start.Quote
    → read_core read text ≡ read_string_item read Text text
core_text read text is = core_at read text refl (sym is) refl

pub core_word : (read : List ℕ → Read Item) (text : List ℕ) → first_start text ≡ start.Other
    → read_core read text ≡ read_word text
core_word read text is = core_at read text refl (sym is) refl

-- these, for a proof that looks at the first byte
pub ruleset core_by_start = (core_digit, core_chunks, core_text, core_word)

-- what bytes begin with
pub bytes_core : (read : List ℕ → Read Item) (text rest : List ℕ) (s : Start)
    → (s ≡ start.Apostrophe) ⊎ ((s ≡ start.Angle) ⊎ ((s ≡ start.LetterB) ⊎ (s ≡ start.LetterH)))
    → core_of read s text rest ≡ read_string_item read Bytes text
bytes_core read text rest s (inl e) = rw e refl
bytes_core read text rest s (inr (inl e)) = rw e refl
bytes_core read text rest s (inr (inr (inl e))) = rw e refl
bytes_core read text rest s (inr (inr (inr e))) = rw e refl

pub core_bytes : (read : List ℕ → Read Item) (text : List ℕ) {s : Start}
    → (s ≡ start.Apostrophe) ⊎ ((s ≡ start.Angle) ⊎ ((s ≡ start.LetterB) ⊎ (s ≡ start.LetterH)))
    → s ≡ first_start text → read_core read text ≡ read_string_item read Bytes text
core_bytes read text {s} which begins =
    core_by read text (rest_of text) s begins refl ∙ bytes_core read text (rest_of text) s which

pub piece_by : (read : List ℕ → Read Item) (text rest : List ℕ) (s : Start) → s ≡ first_start text → rest ≡ rest_of text
    → read_piece read text ≡ piece_of read s rest
unfolding read_piece
piece_by read [] rest s is behind = sym (ap (λ s. piece_of read s rest) is)
piece_by read (b ∷ text) rest s is behind = ap (λ s. piece_of read s text) (sym is) ∙ ap (piece_of read s) (sym behind)

pub content_by : (read : List ℕ → Read Item) (kind : StringKind) (text : List ℕ) (t : Bool)
    → begins_string kind (first_start text) ≡ t → read_content read kind text ≡ content_of read kind text t
content_by read kind text t e = ap (content_of read kind text) e

-- a string, from its content

no_chunk : (made : Result Chunk Error) (cs : List Chunk) (rest : List ℕ) (e : Error)
    → Fails e (made >>= λ c. Ok (cs ++ c ∷ [])) → Fails e (◌>>=◌ {B = Chunk × List ℕ} made (λ c. Ok (c, rest)))
no_chunk made cs rest refusal.Memory h = tt
no_chunk (Err d) cs rest e h = let same : d ≡ e = cc in ap (λ x. Err x) same
no_chunk (Ok c) cs rest e h = absurd cc

module _ (read : List ℕ → Read Item) (kind : StringKind) (text : List ℕ) {first : List ℕ}
    (blank : first ≡ skip_blank text) where
  by_content : read_chunk read kind text
      ≡ (read_content read kind first >>= λ x. checked kind x.0 >>= λ c. Ok (c, x.1))
  unfolding read_string
  by_content = ap (read_string read kind) (sym blank)

  pub no_content : (e : Error) → Fails e (read_content read kind first) → Fails e (read_chunk read kind text)
  no_content e h = subst (λ r. Fails e r) (sym by_content) (Fails-bind e (read_content read kind first)
      (λ x. checked kind x.0 >>= λ c. Ok (c, x.1)) h)

  module _ {content rest : List ℕ} (found : read_content read kind first ≡ Ok (content, rest)) {held : StringKind}
      (cs : List Chunk) (same : held ≡ kind) where
    from_content : read_chunk read kind text ≡ (checked held content >>= λ c. Ok (c, rest))
    from_content = by_content ∙ ap (λ r. r >>= λ x. checked kind x.0 >>= λ c. Ok (c, x.1)) found
        ∙ ap (λ k. checked k content >>= λ c. Ok (c, rest)) (sym same)

    -- a chunk of this content cannot be added
    pub no_string : (e : Error) → Fails e (with_chunk held cs content) → Fails e (read_chunk read kind text)
    no_string e h = subst (λ r. Fails e r) (sym from_content) (no_chunk (checked held content) cs rest e h)

    -- a chunk of this content was added
    pub string_read : {after : List Chunk} → with_chunk held cs content ≡ Ok after
        → (c : Chunk) × (after ≡ cs ++ c ∷ []) × (read_chunk read kind text ≡ Ok (c, rest))
    string_read {after} e =
        let made = bind_ok (checked held content) (λ c. Ok (cs ++ c ∷ [])) after e in (
          made.0,
          sym (ok_is (cs ++ made.0 ∷ []) after made.2),
          from_content
              ∙ ap (λ r. r >>= λ c. Ok (c, rest)) made.1,
        )

-- an indefinite string, from its chunks

module _ (read : List ℕ → Read Item) (text : List ℕ) {opened first : List ℕ} {kind : StringKind}
    (opens : or_refused (after_byte 95 text) ≡ Ok opened) (blank : first ≡ skip_blank opened)
    (begins : kind ≡ kind_from (first_start first)) where
  by_chunks : read_chunks read text ≡ chunks_of read kind first
  by_chunks = ap (λ r. r >>= λ o. chunks_of read (kind_from (first_start (skip_blank o))) (skip_blank o)) opens
      ∙ ap (λ f. chunks_of read (kind_from (first_start f)) f) (sym blank)
      ∙ ap (λ k. chunks_of read k first) (sym begins)

  pub no_chunks : (e : Error) → Fails e (read_members (read_chunk read kind) 41 first) → Fails e (read_chunks read text)
  no_chunks e h = subst (λ r. Fails e r) (sym by_chunks) (Fails-bind e (read_members (read_chunk read kind) 41 first)
      (λ cs. Ok (atom (chunked_string kind cs.0), cs.1)) h)

  pub chunks_read : {cs : List Chunk} {rest : List ℕ} {i : Item}
      → read_members (read_chunk read kind) 41 first ≡ Ok (cs, rest)
      → i ≡ atom (chunked_string kind cs) → read_chunks read text ≡ Ok (i, rest)
  chunks_read {cs} {rest} {i} e made = by_chunks ∙ ap (λ r. r >>= λ cs. Ok (atom (chunked_string kind cs.0), cs.1)) e
      ∙ ap (λ i. Ok (i, rest)) (sym made)

pub chunks_well : (level : ℕ) (kind : StringKind) (cs : List Chunk) (i : Item) → level ≤ 128
    → AllByRecursion (IsChunk kind) cs → i ≡ atom (chunked_string kind cs) → WellFormed level i
chunks_well level kind cs i low held made = rw made (low, held)

pub item_none : (n : ℕ) (text : List ℕ) → n ≡ 0 → read_item n text ≡ Err refusal.TooDeep
unfolding read_item
item_none n text e = ap (λ k. read_item k text) e

item_some : (n m : ℕ) (text : List ℕ) → n ≡ suc m
    → read_item n text ≡ (read_core (read_item m) (skip_blank text) >>= λ i. Ok (i.0, skip_blank i.1))
unfolding read_item
item_some n m text e = ap (λ k. read_item k text) e

-- an item from what is behind the blank before it
module _ (n m : ℕ) (text : List ℕ) {core : List ℕ} (is : n ≡ suc m) (blank : core ≡ skip_blank text) where
  pub item_fails : (e : Error) → Fails e (read_core (read_item m) core) → Fails e (read_item n text)
  item_fails e h =
      subst (λ r. Fails e r) (sym (item_some n m text is)) (Fails-bind e (read_core (read_item m) (skip_blank text))
      (λ i. Ok (i.0, skip_blank i.1)) (subst (λ b. Fails e (read_core (read_item m) b)) blank h))

  pub item_read : {i : Item} {rest end : List ℕ} → read_core (read_item m) core ≡ Ok (i, rest) → end ≡ skip_blank rest
      → read_item n text ≡ Ok (i, end)
  item_read {i} found ends =
      item_some n m text is
      ∙ ap (λ r. r >>= λ i. Ok (i.0, skip_blank i.1)) (ap (read_core (read_item m)) (sym blank) ∙ found)
      ∙ ap (λ b. Ok (i, b)) (sym ends)

-- ---- the pieces of a string

pub pieces_begin : (read : List ℕ → Read Item) (kind : StringKind) (text content : List ℕ) → content ≡ []
    → (n : ℕ) × (length text < n) × (onto (λ xs. content ++ xs) (read_pieces read kind n text)
    ≡ read_pieces read kind (suc (length text)) text)
pieces_begin read kind text content none =
    (suc (length text), omega arith, rw none (onto_nothing (read_pieces read kind (suc (length text)) text))) where
      onto_nothing : (r : Read (List ℕ)) → onto (λ xs. [] ++ xs) r ≡ r
      onto_nothing (Ok r) = refl
      onto_nothing (Err e) = refl

module _ (read : List ℕ → Read Item) (kind : StringKind) (front : List ℕ) (n : ℕ) (text : List ℕ)
    (total : Read (List ℕ)) (room : length text < n)
    (so_far : onto (λ xs. front ++ xs) (read_pieces read kind n text) ≡ total) where
  room_left : (k : ℕ) → length text < k → (m : ℕ) × (k ≡ suc m)
  room_left zero lt = absurd (omega arith)
  room_left (suc m) lt = (m, refl)

  begun : (k m : ℕ) → k ≡ suc m → begins_piece kind (first_start text) ≡ true
      → read_pieces read kind k text ≡ (read_piece read text >>= λ x. read_pieces read kind m (skip_blank x.1)
      >>= λ xs. Ok (x.0 ++ xs.0, xs.1))
  unfolding read_pieces
  begun k m e begins = ap (λ j. read_pieces read kind j text) e ∙ rw (begins, read_pieces) refl

  pub pieces_end : begins_piece kind (first_start text) ≡ false → total ≡ Ok (front, text)
  unfolding read_pieces
  pieces_end none =
      let left = room_left n room in
      let here : read_pieces read kind n text ≡ Ok ([], text) = ap (λ j. read_pieces read kind j text) left.1
      ∙ rw (none, read_pieces) refl in
      sym so_far ∙ ap (onto (λ xs. front ++ xs)) here ∙ ap (λ xs. Ok (xs, text)) (append-nil front)

  pub piece_fails : (e : Error) → begins_piece kind (first_start text) ≡ true → Fails e (read_piece read text)
      → Fails e total
  piece_fails e begins h =
      let left = room_left n room in
      let failed = Fails-bind e (read_piece read text)
      (λ x. read_pieces read kind left.0 (skip_blank x.1) >>= λ xs. Ok (x.0 ++ xs.0, xs.1)) h in
      onto_fails e (λ xs. front ++ xs) (read_pieces read kind n text) total
      (subst (λ r. Fails e r) (sym (begun n left.0 left.1 begins)) failed) so_far

  joined : (piece : List ℕ) (r : Read (List ℕ))
      → onto (λ xs. front ++ xs) (r >>= λ xs. Ok (piece ++ xs.0, xs.1)) ≡ onto (λ xs. (front ++ piece) ++ xs) r
  joined piece (Ok r) = ap (λ xs. Ok (xs, r.1)) (sym (append_assoc front piece r.0))
  joined piece (Err e) = refl

  pub piece_more : {piece after rest : List ℕ} → begins_piece kind (first_start text) ≡ true
      → read_piece read text ≡ Ok (piece, after) → rest ≡ skip_blank after → length after < length text
      → length rest ≤ length after
      → (m : ℕ) × (length rest < m) × (onto (λ xs. (front ++ piece) ++ xs) (read_pieces read kind m rest) ≡ total)
  piece_more {piece} {after} {rest} begins r blank less shorter =
      let left = room_left n room in
      let fewer : length rest < left.0 = omega (arith, left.1) in
      let many = λ (x : List ℕ × List ℕ). read_pieces read kind left.0 (skip_blank x.1)
      >>= λ xs. Ok (x.0 ++ xs.0, xs.1) in
      let here : read_pieces read kind n text
      ≡ (read_pieces read kind left.0 (skip_blank after) >>= λ xs. Ok (piece ++ xs.0, xs.1)) =
      begun n left.0 left.1 begins ∙ ap (λ o. o >>= many) r in (
        left.0,
        fewer,
        ap (λ b. onto (λ xs. (front ++ piece) ++ xs) (read_pieces read kind left.0 b))
            blank ∙ sym (joined piece (read_pieces read kind left.0 (skip_blank after)))
            ∙ sym (ap (onto (λ xs. front ++ xs)) here) ∙ so_far,
      )

-- ---- a key, `:` and its value, one after the other

module _ (read : List ℕ → Read Item) (text : List ℕ) where
  pub no_key : (e : Error) → Fails e (read text) → Fails e (read_pair read text)
  no_key e h = Fails-bind e (read text) (λ k. or_refused (after_byte 58 k.1) >>= λ rest. read rest
      >>= λ v. Ok ((k.0, v.0), v.1)) h

  module _ {key : Item} {behind : List ℕ} (read_key : read text ≡ Ok (key, behind)) where
    behind_key : read_pair read text ≡ (or_refused (after_byte 58 behind) >>= λ rest. read rest
        >>= λ v. Ok ((key, v.0), v.1))
    behind_key = ap (λ r. r >>= λ k. or_refused (after_byte 58 k.1) >>= λ rest. read rest >>= λ v. Ok ((k.0, v.0), v.1))
        read_key

    pub no_colon : (e : Error) → Fails e (or_refused (after_byte 58 behind)) → Fails e (read_pair read text)
    no_colon e h = subst (λ r. Fails e r) (sym behind_key)
        (Fails-bind e (or_refused (after_byte 58 behind)) (λ rest. read rest >>= λ v. Ok ((key, v.0), v.1)) h)

    module _ {next : List ℕ} (colon : or_refused (after_byte 58 behind) ≡ Ok next) where
      behind_colon : read_pair read text ≡ (read next >>= λ v. Ok ((key, v.0), v.1))
      behind_colon = behind_key ∙ ap (λ r. r >>= λ rest. read rest >>= λ v. Ok ((key, v.0), v.1)) colon

      pub no_value : (e : Error) → Fails e (read next) → Fails e (read_pair read text)
      no_value e h = subst (λ r. Fails e r) (sym behind_colon) (Fails-bind e (read next) (λ v. Ok ((key, v.0), v.1)) h)

      pub pair_read : {value : Item} {after : List ℕ} → read next ≡ Ok (value, after)
          → read_pair read text ≡ Ok ((key, value), after)
      pair_read {value} {after} e = behind_colon ∙ ap (λ r. r >>= λ v. Ok ((key, v.0), v.1)) e

abbrev pub pair_view : DataItem × DataItem → Item × Item
pair_view p = (view p.0, view p.1)

-- a container whose width is not stated, or that has an indefinite length
open_fits : (w : Option IntegerWidth) (n : ℕ) → n < 2 ^ 64 → (w ≡ None) ⊎ (w ≡ Some Unknown) → FitsCount w n
open_fits w n fits (inl e) = subst (λ x. FitsCount x n) (sym e) tt
open_fits w n fits (inr e) = subst (λ x. FitsCount x n) (sym e) fits

pub open_array_well : (inner : ℕ) (v : Vec DataItem Global) {w : Option IntegerWidth} → 1 ≤ inner → inner ≤ 129
    → (w ≡ None) ⊎ (w ≡ Some Unknown) → WellFormedItems inner (items_view v.items)
    → WellFormed (inner - 1) (view (Array v w))
open_array_well inner v {w} low high length_is held =
    let count : item_count (items_view v.items) < 2 ^ 64 = omega (arith, item_count_view v.items, v.ok.0) in
    array_well inner v w low high (open_fits w (item_count (items_view v.items)) count length_is) held

pub open_map_well : (inner : ℕ) (v : Vec (DataItem × DataItem) Global) {w : Option IntegerWidth} → 1 ≤ inner
    → inner ≤ 129 → (w ≡ None) ⊎ (w ≡ Some Unknown) → WellFormedPairs inner (pairs_view v.items)
    → WellFormed (inner - 1) (view (Map v w))
open_map_well inner v {w} low high length_is held =
    let count : pair_count (pairs_view v.items) < 2 ^ 64 = omega (arith, pair_count_view v.items, v.ok.0) in
    map_well inner v w low high (open_fits w (pair_count (pairs_view v.items)) count length_is) held
