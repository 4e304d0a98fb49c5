-- `read_chunks` reads each indefinite string `(_ ..)` that the grammar has (`ChunksOf`): its kind, its chunks and the
-- rest of the text. This needs a `read` that reads the items in the chunks (`ReadsAgain`). A string without a chunk has
-- to be a byte string (`ShowsKind`).
use Rattle.std.proofs.Common.{◌≡◌, ℕ, List, [], ◌∷◌, ◌++◌, codes, Ok, refl, sym, ap, ◌∙◌, subst, inl, inr}
use Rattle.std.proofs.lemmas.List.{append_assoc}
use Rattle.cbor_grammar.specs.Item.{Chunk, Item, atom, chunked_string}
use Rattle.cbor_grammar.specs.declared.strings.StringKind.{StringKind}
use Rattle.cbor_grammar.specs.declared.strings.StringKind.TheVariants.{Bytes, Text}
use Rattle.cbor_grammar.specs.Reading.{Read}
use Rattle.cbor_grammar.specs.Notation.{Blanked, Closes, Members, StringOf, ChunksOf, ShowsKind}
use Rattle.cbor_notation.specs.mirror.NotationReading.{skip_blank, start_of, first_start, read_string, read_chunk}
use Rattle.cbor_notation.specs.mirror.NotationReading.{chunks_of, kind_from, read_chunks, read_members}
use Rattle.cbor_notation.proofs.notation.Ends.{Begins, begins_append, begins_more, begins_ends, blank_passed}
use Rattle.cbor_notation.proofs.notation.Ends.{core_starts, starts_passed}
use Rattle.cbor_notation.proofs.notation.Lists.{ReadsAgain, blanked_parts, blanked_stripped, members_again}
use Rattle.cbor_notation.proofs.notation.Lists.{members_at_blank}
use Rattle.cbor_notation.proofs.notation.Numbers.{at_one_of}
use Rattle.cbor_notation.proofs.notation.Strings.{string_starts, string_begins, string_starts_core, string_again}

-- a chunk with the blanks round it
abbrev pub ChunkOf : StringKind → (List ℕ → Item → Type 0) → List ℕ → Chunk → Type 0
ChunkOf kind Reads member c = Blanked (λ core. StringOf kind Reads core c) member

module _ (Reads : List ℕ → Item → Type 0) (kind : StringKind) where
  -- what is left of a chunk and the rest after the blank
  chunk_passed : (text rest : List ℕ) (c : Chunk) (is : ChunkOf kind Reads text c)
      → skip_blank (text ++ rest) ≡ is.1 ++ (is.2 ++ rest)
  chunk_passed text rest c is =
      ap skip_blank (blanked_parts text is.0 is.1 is.2 rest is.3)
      ∙ starts_passed is.0 (is.1 ++ (is.2 ++ rest)) is.4
      (begins_append core_starts is.1 (is.2 ++ rest) (string_starts_core Reads kind is.1 c is.5))

  chunk_reads : (read : List ℕ → Read Item) → ReadsAgain Reads read
      → ReadsAgain (ChunkOf kind Reads) (read_chunk read kind)
  chunk_reads read it = record {
    again = λ text rest c is follows. ap (read_string read kind) (chunk_passed text rest c is)
        ∙ string_again Reads read it kind is.1 is.2 rest c is.5 is.6 follows;
    stripped = λ text c is. blanked_stripped (StringOf kind Reads) (string_starts_core Reads kind) text c is;
  }

  -- what follows the opening and a blank
  first_chunk : (cs : List Chunk) (c : Chunk) (inner rest : List ℕ)
      → Members (ChunkOf kind Reads) (codes ")") inner (c ∷ cs)
      → Begins (string_starts kind) (skip_blank (inner ++ rest))
  first_chunk cs c inner rest is =
      let first = is.3 in
      let parts : inner ++ rest ≡ is.0 ++ (is.1 ++ rest) = ap (λ (t : List ℕ). t ++ rest) is.2
      ∙ append_assoc is.0 is.1 rest in
      subst (Begins (string_starts kind)) (sym (ap skip_blank parts ∙ chunk_passed is.0 (is.1 ++ rest) c first))
      (begins_append (string_starts kind) first.1 (first.2 ++ (is.1 ++ rest))
      (string_begins Reads kind first.1 c first.5))

  no_chunk : (inner rest : List ℕ) → Members (ChunkOf kind Reads) (codes ")") inner []
      → Begins (codes ",)") (skip_blank (inner ++ rest))
  no_chunk inner rest is =
      let begins : Begins (codes ",)") (is.1 ++ rest) = closing is.1 is.4 in
      subst (Begins (codes ",)")) (sym (ap skip_blank
      (ap (λ (t : List ℕ). t ++ rest) is.2 ∙ append_assoc is.0 is.1 rest)
      ∙ blank_passed (codes ",)") is.0 (is.1 ++ rest) refl is.3 (begins_ends (codes ",)") (is.1 ++ rest) begins)))
      begins
    where
      closing : (end : List ℕ) → Closes (codes ")") end → Begins (codes ",)") (end ++ rest)
      closing end (inl e) = subst (λ (t : List ℕ). Begins (codes ",)") (t ++ rest)) (sym e) refl
      closing end (inr last) = subst (λ (t : List ℕ). Begins (codes ",)") (t ++ rest)) (sym last.1) refl

-- the kind that the first byte has
by_bytes : (text : List ℕ) → Begins (codes "'<bh,)") text → kind_from (first_start text) ≡ Bytes
unfolding start_of
by_bytes [] is = absurd is
by_bytes (b ∷ text) is = at_one_of (λ c. kind_from (start_of c) ≡ Bytes) (codes "'<bh,)") b
    (refl, (refl, (refl, (refl, (refl, (refl, tt)))))) is

by_text : (text : List ℕ) → Begins (codes "\"") text → kind_from (first_start text) ≡ Text
unfolding start_of
by_text [] is = absurd is
by_text (b ∷ text) is = at_one_of (λ c. kind_from (start_of c) ≡ Text) (codes "\"") b (refl, tt) is

module _ (Reads : List ℕ → Item → Type 0) (read : List ℕ → Read Item) (it : ReadsAgain Reads read) where
  shown : (kind : StringKind) (cs : List Chunk) (inner rest : List ℕ)
      → Members (ChunkOf kind Reads) (codes ")") inner cs → ShowsKind kind cs
      → kind_from (first_start (skip_blank (inner ++ rest))) ≡ kind
  shown Bytes [] inner rest is shows = by_bytes (skip_blank (inner ++ rest))
      (begins_more (codes ",)") (codes "'<bh,)") (skip_blank (inner ++ rest)) refl (no_chunk Reads Bytes inner rest is))
  shown Bytes (c ∷ cs) inner rest is shows = by_bytes (skip_blank (inner ++ rest))
      (begins_more (codes "'<bh") (codes "'<bh,)") (skip_blank (inner ++ rest)) refl
      (first_chunk Reads Bytes cs c inner rest is))
  shown Text [] inner rest is shows = absurd cc
  shown Text (c ∷ cs) inner rest is shows =
      by_text (skip_blank (inner ++ rest)) (first_chunk Reads Text cs c inner rest is)

  pub chunks_again : (kind : StringKind) (cs : List Chunk) (text rest : List ℕ) → ChunksOf kind Reads text cs
      → ShowsKind kind cs
      → (opened : List ℕ) × (text ++ rest ≡ codes "(_" ++ opened)
      × (read_chunks read (95 ∷ opened) ≡ Ok (atom (chunked_string kind cs), rest))
  chunks_again kind cs text rest is shows =
      let inner : List ℕ = is.0 in
      let first : List ℕ = skip_blank (inner ++ rest) in
      let members = members_again (ChunkOf kind Reads) (read_chunk read kind) (chunk_reads Reads kind read it) 41 []
      refl cs inner rest is.2 in
      let read_on : read_members (read_chunk read kind) 41 first ≡ Ok (cs, rest) =
      members_at_blank (read_chunk read kind) 41 (inner ++ rest) ∙ members in (
        inner ++ rest,
        ap (λ (t : List ℕ). t ++ rest) is.1 ∙ append_assoc (codes "(_") inner rest,
        ap (λ k. chunks_of read k first) (shown kind cs inner rest is.2 shows) ∙ rw read_on refl,
      )
