-- For `push_parts_front` and `push_joined_front`: if an indefinite string is written chunk by chunk as it is read, what
-- was written is one of its texts (`TextsHere`). The same holds if its chunks are joined to one byte string.
-- `ChunksWritten` holds before the first chunk that is written, and after each.
use Rattle.std.proofs.Common.{◌≡◌, ℕ, zero, suc, ◌+◌, true, false, List, [], ◌∷◌, ◌++◌, length, refl, sym, ap}
use Rattle.std.proofs.Common.{subst, ◌∙◌, append_assoc, arith}
use Rattle.std.proofs.lemmas.List.{append-nil, length-append}
use Rattle.cbor_grammar.specs.declared.layout.ContainerStyle.{ContainerStyle}
use Rattle.cbor_grammar.specs.declared.strings.StringKind.{StringKind}
use Rattle.cbor_grammar.specs.Estimate.{estimated_chunks}
use Rattle.cbor_grammar.specs.Item.{Chunk, atom, chunked_string}
use Rattle.cbor_notation_writer.specs.declared.parts.Container.TheVariants.{Chunks}
use Rattle.cbor_grammar.specs.declared.strings.StringKind.TheVariants.{Bytes}
use Rattle.cbor_grammar.specs.declared.width.IntegerWidth.TheVariants.{Unknown}
use Rattle.cbor_notation_writer.specs.Dialect.{Leaves, listed, ChunkTexts, ChunksText, ChunkedText, joined}
use Rattle.cbor_notation_writer.specs.mirror.Straight.{TextsHere, BeforeChunk, AfterChunks}
use Rattle.cbor_notation_writer.proofs.straight.Texts.{listed_more}

-- the chunks so far after the opening, or nothing
abbrev pub Begun : {P : Type 0} → Leaves P → P → StringKind → ContainerStyle → List ℕ → List ℕ → List (List ℕ) → Type 0
Begun d p kind l old out [] = out ≡ old
Begun d p kind l old out (m ∷ ms) = (o : List ℕ) × d.opening p (Chunks kind) l o
    × (out ≡ (old ++ o) ++ listed (d.start (Chunks kind) l) (d.end (Chunks kind) l) (m ∷ ms))

pub record ChunksWritten {P : Type 0} (d : Leaves P) (p : P) (kind : StringKind) (l : ContainerStyle) (old out : List ℕ)
    (cs : List Chunk) (held : ℕ) : Type 0 where
  pub texts : List (List ℕ)
  pub each : ChunkTexts d p kind cs texts
  pub text : Begun d p kind l old out texts
  pub count : length cs ≡ held

pub no_chunks_written : {P : Type 0} (d : Leaves P) (p : P) (kind : StringKind) (l : ContainerStyle) (old : List ℕ)
    → ChunksWritten d p kind l old old [] 0
no_chunks_written d p kind l old = record { texts = []; each = tt; text = refl; count = refl }

chunks_more : {P : Type 0} (d : Leaves P) (p : P) (kind : StringKind) (cs : List Chunk) (x : Chunk)
    (ms : List (List ℕ)) (m : List ℕ) → ChunkTexts d p kind cs ms → d.part p kind x m
    → ChunkTexts d p kind (cs ++ x ∷ []) (ms ++ m ∷ [])
chunks_more d p kind [] x [] m each one = (one, tt)
chunks_more d p kind [] x (n ∷ ms) m each one = absurd each
chunks_more d p kind (c ∷ cs) x [] m each one = absurd each
chunks_more d p kind (c ∷ cs) x (n ∷ ms) m each one = (each.0, chunks_more d p kind cs x ms m each.1 one)

begun_more : {P : Type 0} (d : Leaves P) (p : P) (kind : StringKind) (l : ContainerStyle)
    (old out started written new : List ℕ) (cs : List Chunk) (held : ℕ) (ms : List (List ℕ)) (m : List ℕ)
    → ChunkTexts d p kind cs ms → length cs ≡ held → Begun d p kind l old out ms
    → (b : List ℕ) × BeforeChunk d p kind l held b × (started ≡ out ++ b) → written ≡ started ++ m
    → new ≡ written ++ d.end (Chunks kind) l
    → Begun d p kind l old new (ms ++ m ∷ [])
begun_more d p kind l old out started written new [] held [] m each count begun b r s =
    let first : BeforeChunk d p kind l zero b.0 = subst (λ n. BeforeChunk d p kind l n b.0) (sym count) b.1 in
    let start : List ℕ = d.start (Chunks kind) l true in
    let end : List ℕ = d.end (Chunks kind) l in
    let joined : ((old ++ (first.0 ++ start)) ++ m) ++ end ≡ (old ++ first.0) ++ (start ++ (m ++ end)) =
    simp append_assoc in
    let none : (old ++ first.0) ++ (start ++ (m ++ end))
    ≡ (old ++ first.0) ++ listed (d.start (Chunks kind) l) end (m ∷ []) =
    ap (λ x. (old ++ first.0) ++ x) (sym (append-nil (start ++ (m ++ end)))) in
    let begins : started ≡ old ++ (first.0 ++ start) =
    b.2 ∙ ap (λ x. x ++ b.0) begun ∙ ap (λ x. old ++ x) first.2 in
    (first.0, first.1, s ∙ ap (λ x. x ++ end) (r ∙ ap (λ x. x ++ m) begins) ∙ joined ∙ none)
begun_more d p kind l old out started written new [] held (n ∷ ms) m each count begun b r s = absurd each
begun_more d p kind l old out started written new (c ∷ cs) held [] m each count begun b r s = absurd each
begun_more d p kind l old out started written new (c ∷ cs) held (n ∷ ms) m each count begun b r s =
    let later : BeforeChunk d p kind l (suc (length cs)) b.0 =
    subst (λ n. BeforeChunk d p kind l n b.0) (sym count) b.1 in
    let start : List ℕ = d.start (Chunks kind) l false in
    let end : List ℕ = d.end (Chunks kind) l in
    let before : List ℕ = listed (d.start (Chunks kind) l) end (n ∷ ms) in
    let o : List ℕ = begun.0 in
    let joined : ((((old ++ o) ++ before) ++ start) ++ m) ++ end ≡ (old ++ o) ++ (before ++ (start ++ (m ++ end))) =
    simp append_assoc in
    let begins : started ≡ ((old ++ o) ++ before) ++ start =
    b.2 ∙ ap (λ x. x ++ b.0) begun.2 ∙ ap (λ x. ((old ++ o) ++ before) ++ x) later in (
      o,
      begun.1,
      s ∙ ap (λ x. x ++ end) (r ∙ ap (λ x. x ++ m) begins) ∙ joined
          ∙ ap (λ x. (old ++ o) ++ x) (sym (listed_more (d.start (Chunks kind) l) end (n ∷ ms) m)),
    )

pub one_chunk_written : {P : Type 0} (d : Leaves P) (p : P) (kind : StringKind) (l : ContainerStyle)
    (old out started written new : List ℕ) (cs : List Chunk) (x : Chunk) (held : ℕ)
    → ChunksWritten d p kind l old out cs held
    → (b : List ℕ) × BeforeChunk d p kind l held b × (started ≡ out ++ b)
    → (m : List ℕ) × d.part p kind x m × (written ≡ started ++ m) → new ≡ written ++ d.end (Chunks kind) l
    → ChunksWritten d p kind l old new (cs ++ x ∷ []) (held + 1)
one_chunk_written d p kind l old out started written new cs x held w b one s = record {
  texts = w.texts ++ one.0 ∷ [];
  each = chunks_more d p kind cs x w.texts one.0 w.each one.1;
  text = begun_more d p kind l old out started written new cs held w.texts one.0 w.each w.count w.text b one.2 s;
  count = omega (arith, length-append cs (x ∷ []), w.count);
}

ended : {P : Type 0} (d : Leaves P) (p : P) (kind : StringKind) (l : ContainerStyle) (old out new : List ℕ)
    (cs : List Chunk) (held : ℕ) (ms : List (List ℕ)) → ChunkTexts d p kind cs ms → length cs ≡ held
    → Begun d p kind l old out ms → (e : List ℕ) × AfterChunks d p kind l held e × (new ≡ out ++ e)
    → (t : List ℕ) × ChunksText d p kind l cs t × (new ≡ old ++ t)
ended d p kind l old out new [] held [] each count begun e =
    (e.0, subst (λ n. AfterChunks d p kind l n e.0) (sym count) e.1, e.2 ∙ ap (λ x. x ++ e.0) begun)
ended d p kind l old out new [] held (n ∷ ms) each count begun e = absurd each
ended d p kind l old out new (c ∷ cs) held [] each count begun e = absurd each
ended d p kind l old out new (c ∷ cs) held (n ∷ ms) each count begun e =
    let inner : List ℕ = listed (d.start (Chunks kind) l) (d.end (Chunks kind) l) (n ∷ ms) in
    let o : List ℕ = begun.0 in
    let last : AfterChunks d p kind l (suc (length cs)) e.0 =
    subst (λ n. AfterChunks d p kind l n e.0) (sym count) e.1 in
    let regroup : ((old ++ o) ++ inner) ++ e.0 ≡ old ++ (o ++ (inner ++ e.0)) = simp append_assoc in (
      o ++ (inner ++ e.0),
      (n ∷ ms, each, (o, e.0, begun.1, last, refl)),
      e.2 ∙ ap (λ x. x ++ e.0) begun.2 ∙ regroup,
    )

pub chunks_written : {P : Type 0} (d : Leaves P) (p : P) (kind : StringKind) (l : ContainerStyle) (old out new : List ℕ)
    (cs : List Chunk) (held : ℕ) → d.joins p kind ≡ false
    → l ≡ d.style p (4 + estimated_chunks kind cs)
    → ChunksWritten d p kind l old out cs held → (e : List ℕ) × AfterChunks d p kind l held e × (new ≡ out ++ e)
    → (t : List ℕ) × TextsHere d p (atom (chunked_string kind cs)) t × (new ≡ old ++ t)
chunks_written d p kind l old out new cs held parts same w e =
    let whole = ended d p kind l old out new cs held w.texts w.each w.count w.text e in
    let at = d.style p (4 + estimated_chunks kind cs) in
    let styled = subst (λ x. ChunkedText d p kind at x cs whole.0) (sym parts)
    (subst (λ x. ChunksText d p kind x cs whole.0) same whole.1) in
    (whole.0, styled, whole.2)

-- ---- chunks that are joined

-- the bytes of one more
pub joined_more : (cs : List Chunk) (c : Chunk) → (joined (cs ++ c ∷ [])).bytes ≡ (joined cs).bytes ++ c.bytes
joined_more [] c = append-nil c.bytes
joined_more (d ∷ cs) c = ap (λ x. d.bytes ++ x) (joined_more cs c) ∙ sym
    (append_assoc d.bytes (joined cs).bytes c.bytes)

pub joined_written : {P : Type 0} (d : Leaves P) (p : P) (old new : List ℕ) (cs : List Chunk) (all : List ℕ)
    → d.joins p Bytes ≡ true → all ≡ (joined cs).bytes
    → (t : List ℕ) × d.string p Bytes (record { bytes = all; width = Unknown }) t × (new ≡ old ++ t)
    → (t : List ℕ) × TextsHere d p (atom (chunked_string Bytes cs)) t × (new ≡ old ++ t)
joined_written d p old new cs all joins is (t, text, written) =
    let whole : Chunk = record { bytes = all; width = Unknown } in
    let l = d.style p (4 + estimated_chunks Bytes cs) in
    let same : whole ≡ joined cs = ap (λ b. record { bytes = b; width = Unknown }) is in
    let as_one = subst (λ x. ChunkedText d p Bytes l x cs t) (sym joins)
    (subst (λ x. d.string p Bytes x t) same text) in
    (t, as_one, written)
