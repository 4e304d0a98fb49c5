-- For strings, as `HeadRefusals` for heads: `read_content` and `read_chunk` return an error if and only if the content
-- or the chunk is cut, is text that is not UTF-8, or, for a chunk, has a head that no chunk can have. If its bound is
-- at least the number of bytes, `read_chunks` returns an error if and only if such a chunk follows whole chunks, and
-- takes one turn for each of these and one for the error.
use Rattle.std.proofs.Common.{Result, ◌≡◌, ℕ, zero, suc, ◌+◌, ◌*◌, ◌/◌, ◌%◌, ◌<◌, ◌≤◌, ◌≢◌, false, ltb, List, [], ◌∷◌}
use Rattle.std.proofs.Common.{◌++◌, length, take, drop, Option, Some, None, Ok, Err, ◌⊎◌, inl, inr, refl, sym, ap}
use Rattle.std.proofs.Common.{subst, ◌∙◌, arith}
use Rattle.std.specs.Prelude.{IsUtf8}
use Rattle.std.specs.Str.{is_utf8}
use Rattle.std.proofs.lemmas.Bool.{cases_lt, cases_eq, lt-ltb, le-ltb, false_from_ne_true, false≢true}
use Rattle.std.proofs.lemmas.List.{take_at, take-append-drop, length-append, length-take}
use Rattle.std.proofs.lemmas.Str.{IsUtf8-from_is_utf8, is_utf8-from_IsUtf8}
use Rattle.cbor_grammar.specs.declared.width.IntegerWidth.{IntegerWidth}
use Rattle.cbor_grammar.specs.declared.error.Error.{Error}
use Rattle.cbor_grammar.specs.declared.error.Error.TheVariants as refusal
use Rattle.cbor_grammar.specs.declared.argument.Argument.{Argument}
use Rattle.cbor_grammar.specs.declared.argument.Argument.TheVariants.{Number, Indefinite}
use Rattle.cbor_grammar.specs.Item.{Chunk}
use Rattle.cbor_grammar.specs.Head.{break_byte, HeadThen}
use Rattle.cbor_grammar.specs.Bytes.{SpellsChunks}
use Rattle.cbor_grammar.specs.declared.strings.StringKind.{StringKind}
use Rattle.cbor_grammar.specs.declared.strings.StringKind.TheVariants.{Bytes, Text}
use Rattle.cbor_grammar.specs.StringKind.{major_of}
use Rattle.cbor_grammar.specs.Refused.{CutHead, cut_head, BadText, CutChunk, NoChunk, no_chunk}
use Rattle.cbor_grammar.specs.Reading.{◌>>=◌, checked_chunk, read_argument, split_at, read_content, chunk_of}
use Rattle.cbor_grammar.specs.Reading.{read_chunk}
use Rattle.cbor_grammar.specs.Reading.{more_chunks, read_chunks}
use Rattle.cbor_grammar.proofs.bytes.Heads.{IsBytes, IsBytes-rest, bind_err, then_err, branch, info_takes, head_then}
use Rattle.cbor_grammar.proofs.bytes.Heads.{opened}
use Rattle.cbor_grammar.proofs.bytes.Chunks.{chunk_ways, chunk_takes, chunk_again, chunk_with, chunk_parts}
use Rattle.cbor_grammar.proofs.bytes.HeadRefusals.{err_is, InfoRefusal, cut_info, bad_info, info_refused, info_refuses}
use Rattle.cbor_grammar.proofs.bytes.HeadRefusals.{info_opens}

-- ---- content

-- fewer bytes than the string claims, or a text that is no UTF-8
pub data ContentRefusal : StringKind → ℕ → List ℕ → Error → Type 0 where
  short_content : {kind : StringKind} {n : ℕ} {b : List ℕ} → length b < n → ContentRefusal kind n b refusal.CutShort
  bad_content : {n : ℕ} {b : List ℕ} (text after : List ℕ) → b ≡ text ++ after → length text ≡ n → ¬ (IsUtf8 text)
      → ContentRefusal Text n b refusal.Utf8

split_ways : (n : ℕ) (b : List ℕ) → ((length b < n) × (split_at n b ≡ Err refusal.CutShort))
    ⊎ ((n ≤ length b) × (split_at n b ≡ Ok (take n b, drop n b)))
split_ways n b =
    elim (cases_lt (length b) n) [
      | inl short ↦ inl (short, rw (lt-ltb (length b) n short) refl)
      | inr long ↦ inr (long, rw (le-ltb (length b) n long) refl)
    ]

short_is : (kind : StringKind) (n : ℕ) (b : List ℕ) (e : Error) → length b < n → refusal.CutShort ≡ e
    → ContentRefusal kind n b e
short_is kind n b e short is = subst (λ (d : Error). ContentRefusal kind n b d) is (short_content short)

made_err : (r : Result Chunk Error) (rest : List ℕ) (e : Error)
    → ◌>>=◌ {B = Chunk × List ℕ} r (λ c. Ok (c, rest)) ≡ Err e → r ≡ Err e
made_err (Ok c) rest e h = absurd cc
made_err (Err d) rest e h = cc

pub content_refused : (kind : StringKind) (n : ℕ) (w : IntegerWidth) (b : List ℕ) (e : Error)
    → read_content kind n w b ≡ Err e → ContentRefusal kind n b e
unfolding read_content
content_refused Bytes n w b e h =
    elim (split_ways n b) [
      | inl s ↦ short_is Bytes n b e s.0 (let f = rw s.1 at h in cc)
      | inr s ↦ absurd (let f = rw s.1 at h in cc)
    ]
content_refused Text n w b e h =
    elim (split_ways n b) [
      | inl s ↦ short_is Text n b e s.0 (let f = rw s.1 at h in cc)
      | inr s ↦
          let f = rw s.1 at h in
          elim (branch (is_utf8 (take n b)) _ _ (Err e) (made_err (checked_chunk Text w (take n b)) (drop n b) e f)) [
            | inl t ↦ absurd cc
            | inr t ↦
                let is : refusal.Utf8 ≡ e = cc in
                let no_text : ¬ (IsUtf8 (take n b)) =
                λ text. false≢true (sym t.0 ∙ is_utf8-from_IsUtf8 (take n b) text) in
                subst (λ (d : Error). ContentRefusal Text n b d) is
                (bad_content (take n b) (drop n b) (sym (take-append-drop n b)) (omega (arith, length-take n b))
                no_text)
          ]
    ]

pub content_refuses : (kind : StringKind) (n : ℕ) (w : IntegerWidth) (b : List ℕ) (e : Error)
    → ContentRefusal kind n b e → read_content kind n w b ≡ Err e
unfolding read_content
content_refuses Bytes n w b e (short_content short) = rw (lt-ltb (length b) n short) refl
content_refuses Text n w b e (short_content short) = rw (lt-ltb (length b) n short) refl
content_refuses Text n w b e (bad_content text after parts len no_text) =
    let long : ltb (length (text ++ after)) n ≡ false = le-ltb _ _ (omega (arith, length-append text after)) in
    let no : is_utf8 text ≡ false = false_from_ne_true (is_utf8 text) (λ t. no_text (IsUtf8-from_is_utf8 text t)) in
    rw (parts, long, take_at text after n len, no) refl

-- ---- one chunk

-- a chunk is cut, or none can begin so, or its text is no UTF-8
pub data ChunkRefusal : StringKind → List ℕ → Error → Type 0 where
  cut_chunk : {kind : StringKind} {b : List ℕ} → CutChunk kind b → ChunkRefusal kind b refusal.CutShort
  bad_chunk : {kind : StringKind} {b : List ℕ} → NoChunk kind b → ChunkRefusal kind b refusal.Head
  bad_text : {b : List ℕ} → BadText b → ChunkRefusal Text b refusal.Utf8

info_chunk : (kind : StringKind) (first : ℕ) (b : List ℕ) (e : Error) → first ≢ break_byte → first / 32 ≡ major_of kind
    → InfoRefusal (first % 32) b e → ChunkRefusal kind (first ∷ b) e
info_chunk kind first b e no_break major (cut_info k small is short) =
    cut_chunk (inl (major, cut_head k small is short))
info_chunk kind first b e no_break major (bad_info least most) = bad_chunk (no_chunk no_break (λ h. omega (arith, h.1)))

content_chunk : (kind : StringKind) (n : ℕ) (w : IntegerWidth) (first : ℕ) (b rest : List ℕ) (e : Error)
    → HeadThen (major_of kind) n w (first ∷ b) (λ r. r ≡ rest) → ContentRefusal kind n rest e
    → ChunkRefusal kind (first ∷ b) e
content_chunk kind n w first b rest e h (short_content short) = cut_chunk (inr (n, w, (h.0, h.1, h.2, rw h.3 short)))
content_chunk Text n w first b rest e h (bad_content text after parts len no_text) =
    bad_text (n, w, (h.0, h.1, h.2, (text, after, h.3 ∙ parts, len, no_text)))

behind_chunk : (kind : StringKind) (first : ℕ) (b rest : List ℕ) (i : Argument) (e : Error) → IsBytes b
    → first ≢ break_byte → first / 32 ≡ major_of kind → read_argument (first % 32) b ≡ Ok (i, rest)
    → chunk_of kind i rest ≡ Err e → ChunkRefusal kind (first ∷ b) e
behind_chunk kind first b rest (Number n w) e fits no_break major read h =
    elim (bind_err (read_content kind n w rest) (λ c. Ok (Some c.0, c.1)) e h) [
      | inl refused ↦
          let whole : 32 * major_of kind + first % 32 ≡ first = rw (← major) (omega arith) in
          let begins = head_then (major_of kind) (first % 32) n w b rest
          (info_takes (first % 32) b rest (Number n w) fits read) in
          content_chunk kind n w first b rest e (rw whole at begins) (content_refused kind n w rest e refused)
      | inr made ↦ absurd cc
    ]
behind_chunk kind first b rest Indefinite e fits no_break major read h =
    let t = info_takes (first % 32) b rest Indefinite fits read in
    let is : refusal.Head ≡ e = cc in
    subst (λ (d : Error). ChunkRefusal kind (first ∷ b) d) is
    (bad_chunk (no_chunk no_break (λ h. omega (arith, h.1, t.0))))

pub chunk_refused : (kind : StringKind) (b : List ℕ) (e : Error) → IsBytes b → read_chunk kind b ≡ Err e
    → ChunkRefusal kind b e
unfolding read_chunk
chunk_refused kind [] e fits h = let is : refusal.CutShort ≡ e =
    cc in subst (λ (d : Error). ChunkRefusal kind [] d) is (cut_chunk tt)
chunk_refused kind (first ∷ b) e fits h =
    elim (chunk_ways kind first b) [
      | inl way ↦ absurd (let wrong = sym way.1 ∙ h in cc)
      | inr ways ↦ elim ways [
        | inl way ↦ elim (bind_err (read_argument (first % 32) b) (λ i. chunk_of kind i.0 i.1) e (sym way.2 ∙ h)) [
          | inl refused ↦ info_chunk kind first b e way.0 way.1 (info_refused (first % 32) b e (omega arith) refused)
          | inr i ↦ behind_chunk kind first b i.0.1 i.0.0 e (IsBytes-rest first b fits) way.0 way.1 i.1 i.2
        ]
        | inr way ↦
            let is : refusal.Head ≡ e = err_is (read_chunk kind (first ∷ b)) refusal.Head e way.2 h in
            subst (λ (d : Error). ChunkRefusal kind (first ∷ b) d) is (bad_chunk (no_chunk way.0 (λ h. way.1 h.0)))
      ]
    ]

content_refuses_chunk : (kind : StringKind) (n : ℕ) (w : IntegerWidth) (b rest : List ℕ) (e : Error)
    → HeadThen (major_of kind) n w b (λ r. r ≡ rest) → ContentRefusal kind n rest e → read_chunk kind b ≡ Err e
content_refuses_chunk kind n w b rest e h refused =
    let o = opened (major_of kind) n w b rest h in
    let bits = o.bits_are in
    elim (chunk_ways kind o.first o.tail) [
      | inl way ↦ absurd (let wrong : 255 % 32 < 28 = rw way.0 at bits in omega arith)
      | inr ways ↦ elim ways [
        | inl way ↦ ap (read_chunk kind) o.parts ∙ way.2 ∙ rw (o.info_is, content_refuses kind n w rest e refused) refl
        | inr way ↦ absurd (way.1 o.major_is)
      ]
    ]

info_refuses_chunk : (kind : StringKind) (first : ℕ) (b : List ℕ) (e : Error) → first ≢ break_byte
    → first / 32 ≡ major_of kind → InfoRefusal (first % 32) b e → read_chunk kind (first ∷ b) ≡ Err e
info_refuses_chunk kind first b e no_break major refused =
    elim (chunk_ways kind first b) [
      | inl way ↦ absurd (no_break way.0)
      | inr ways ↦ elim ways [
        | inl way ↦ way.2 ∙ rw (info_refuses (first % 32) b e refused) refl
        | inr way ↦ absurd (way.1 major)
      ]
    ]

cut_no_break : (first : ℕ) (b : List ℕ) → CutHead (first ∷ b) → first ≢ break_byte
cut_no_break first b (cut_head k small is short) same = omega arith

cut_info_of : (first : ℕ) (b : List ℕ) → CutHead (first ∷ b) → InfoRefusal (first % 32) b refusal.CutShort
cut_info_of first b (cut_head k small is short) = cut_info k small is short

no_chunk_refuses : (kind : StringKind) (b : List ℕ) → NoChunk kind b → read_chunk kind b ≡ Err refusal.Head
no_chunk_refuses kind b (no_chunk {first = first} {rest = rest} no_break other) =
    elim (chunk_ways kind first rest) [
      | inl way ↦ absurd (no_break way.0)
      | inr ways ↦ elim ways [
        | inl way ↦ elim (cases_lt (first % 32) 28) [
          | inl small ↦ absurd (other (way.1, omega arith))
          | inr least ↦ elim (cases_eq (first % 32) 31) [
            | inl opens ↦ way.2 ∙ rw (info_opens (first % 32) rest opens) refl
            | inr closed ↦ way.2 ∙ rw (info_refuses (first % 32) rest refusal.Head (bad_info least (omega arith))) refl
          ]
        ]
        | inr way ↦ way.2
      ]
    ]

pub chunk_refuses : (kind : StringKind) (b : List ℕ) (e : Error) → ChunkRefusal kind b e → read_chunk kind b ≡ Err e
unfolding read_chunk
chunk_refuses kind [] e (cut_chunk h) = refl
chunk_refuses kind (first ∷ b) e (cut_chunk (inl h)) =
    info_refuses_chunk kind first b refusal.CutShort (cut_no_break first b h.1) h.0 (cut_info_of first b h.1)
chunk_refuses kind (first ∷ b) e (cut_chunk (inr h)) =
    content_refuses_chunk kind h.0 h.1 (first ∷ b) h.2.1 refusal.CutShort (h.2.0, h.2.1, h.2.2, refl)
    (short_content h.2.3)
chunk_refuses kind b e (bad_chunk h) = no_chunk_refuses kind b h
chunk_refuses Text b e (bad_text h) =
    content_refuses_chunk Text h.0 h.1 b h.2.1 refusal.Utf8 (h.2.0, h.2.1, h.2.2, refl)
    (bad_content h.2.3.0 h.2.3.1 h.2.3.2 h.2.3.3 h.2.3.4)

-- ---- chunks

-- whole chunks, and a rest that is refused
pub record ChunksStop (kind : StringKind) (b : List ℕ) (e : Error) : Type 0 where
  pub chunks : List Chunk
  pub rest : List ℕ
  pub spelled : SpellsChunks kind b chunks rest
  pub refused : ChunkRefusal kind rest e

stop_here : (kind : StringKind) (b : List ℕ) (e : Error) → ChunkRefusal kind b e → ChunksStop kind b e
stop_here kind b e refused = record { chunks = []; rest = b; spelled = refl; refused = refused }

stop_empty : (kind : StringKind) (b : List ℕ) (e : Error) → length b ≤ 0 → refusal.CutShort ≡ e → ChunksStop kind b e
stop_empty kind [] e bound is = subst (λ (d : Error). ChunksStop kind [] d) is
    (stop_here kind [] refusal.CutShort (cut_chunk tt))
stop_empty kind (first ∷ b) e bound is = absurd (omega arith)

stop_later : (n : ℕ) (kind : StringKind) (b rest : List ℕ) (o : Option Chunk) (e : Error) → IsBytes b
    → read_chunk kind b ≡ Ok (o, rest) → (more_chunks (read_chunks n kind) o rest).1 ≡ Err e
    → (IsBytes rest → length rest < length b → (read_chunks n kind rest).1 ≡ Err e → ChunksStop kind rest e)
    → ChunksStop kind b e
stop_later n kind b rest None e fits read h later = absurd cc
stop_later n kind b rest (Some c) e fits read h later =
    elim (then_err (read_chunks n kind rest) (λ cs. (0, Ok (c ∷ cs.0, cs.1))) e h) [
      | inl more ↦
          let t = chunk_takes kind b rest c fits read in
          let parts = chunk_parts kind b c (λ r. r ≡ rest) t.0 in
          let shorter : length rest < length b = rw (← parts.holds) parts.shorter in
          let s = later t.1 shorter more in
          record {
            chunks = c ∷ s.chunks;
            rest = s.rest;
            spelled = chunk_with kind b rest c (λ r. SpellsChunks kind r s.chunks s.rest) t.0 s.spelled;
            refused = s.refused;
          }
      | inr made ↦ absurd cc
    ]

pub chunks_stop : (n : ℕ) (kind : StringKind) (b : List ℕ) (e : Error) → IsBytes b → length b ≤ n
    → (read_chunks n kind b).1 ≡ Err e → ChunksStop kind b e
unfolding read_chunks
chunks_stop zero kind b e fits bound h = stop_empty kind b e bound cc
chunks_stop (suc n) kind b e fits bound h =
    elim (then_err (1, read_chunk kind b) (λ c. more_chunks (read_chunks n kind) c.0 c.1) e h) [
      | inl refused ↦ stop_here kind b e (chunk_refused kind b e fits refused)
      | inr c ↦ stop_later n kind b c.0.1 c.0.0 e fits c.1 c.2
          (λ left_fits less more. chunks_stop n kind c.0.1 e left_fits (omega arith) more)
    ]

pub empty_refused : (kind : StringKind) (b : List ℕ) (e : Error) → length b ≤ 0 → read_chunk kind b ≡ Err e
    → refusal.CutShort ≡ e
unfolding read_chunk
empty_refused kind [] e bound h = cc
empty_refused kind (first ∷ b) e bound h = absurd (omega arith)

-- a turn for each chunk, and one for what is refused
pub chunks_refuse : (n : ℕ) (kind : StringKind) (cs : List Chunk) (b rest : List ℕ) (e : Error)
    → SpellsChunks kind b cs rest → length b ≤ n → ChunkRefusal kind rest e
    → read_chunks n kind b ≡ (length cs + 1, Err e)
unfolding read_chunks
chunks_refuse zero kind [] b rest e spelled bound refused =
    ap (λ d. (1, Err d)) (empty_refused kind b e bound (rw spelled (chunk_refuses kind rest e refused)))
chunks_refuse (suc n) kind [] b rest e spelled bound refused = rw (spelled, chunk_refuses kind rest e refused) refl
chunks_refuse zero kind (c ∷ cs) b rest e spelled bound refused =
    let parts = chunk_parts kind b c (λ r. SpellsChunks kind r cs rest) spelled in
    let shorter = parts.shorter in
    absurd (omega arith)
chunks_refuse (suc n) kind (c ∷ cs) b rest e spelled bound refused =
    let parts = chunk_parts kind b c (λ r. SpellsChunks kind r cs rest) spelled in
    let shorter = parts.shorter in
    let sum : 1 + (length cs + 1) ≡ suc (length cs) + 1 = omega arith in
    rw (
      chunk_again kind b parts.rest c parts.is,
      chunks_refuse n kind cs parts.rest rest e parts.holds (omega arith)
          refused,
    ) (ap (λ k. (k, Err e)) sum)
