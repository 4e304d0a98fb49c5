-- For strings: if `read_content`, `read_chunk` or `read_chunks` returns a value and a rest, the bytes are those of this
-- value and then the rest (`ContentIs`, `ChunkThen`, `SpellsChunks`). A content, a chunk or chunks with their break are
-- read again from their bytes, whatever bytes follow.
use Rattle.std.proofs.Common.{◌≡◌, ℕ, zero, suc, ◌+◌, ◌*◌, ◌/◌, ◌%◌, ◌<◌, ◌≤◌, ◌≢◌, false, ltb, List, [], ◌∷◌, ◌++◌}
use Rattle.std.proofs.Common.{length, take, drop, Option, Some, None, Ok, Err, ◌⊎◌, inl, inr, refl, sym, ap, subst, ◌∙◌}
use Rattle.std.proofs.Common.{append_assoc, arith}
use Rattle.std.specs.Str.{is_utf8}
use Rattle.std.proofs.lemmas.Bool.{cases_eq, ltb-false, le-ltb, eq-eqb, ne_eqb}
use Rattle.std.proofs.lemmas.List.{take_at, drop_at, take-append-drop, length-append, length-take}
use Rattle.std.proofs.lemmas.Str.{IsUtf8-from_is_utf8, is_utf8-from_IsUtf8}
use Rattle.cbor_grammar.specs.declared.width.IntegerWidth.{IntegerWidth}
use Rattle.cbor_grammar.specs.declared.error.Error.TheVariants as refusal
use Rattle.cbor_grammar.specs.declared.argument.Argument.{Argument}
use Rattle.cbor_grammar.specs.declared.argument.Argument.TheVariants.{Number, Indefinite}
use Rattle.cbor_grammar.specs.Item.{Chunk}
use Rattle.cbor_grammar.specs.Head.{break_byte}
use Rattle.cbor_grammar.specs.Bytes.{ChunkThen, SpellsChunks}
use Rattle.cbor_grammar.specs.declared.strings.StringKind.{StringKind}
use Rattle.cbor_grammar.specs.declared.strings.StringKind.TheVariants.{Bytes, Text}
use Rattle.cbor_grammar.specs.StringKind.{major_of, IsContent}
use Rattle.cbor_grammar.specs.Reading.{checked_chunk, Read, ◌>>=◌, read_argument, split_at, read_content, chunk_of}
use Rattle.cbor_grammar.specs.Reading.{read_chunk, Counted, more_chunks, read_chunks}
use Rattle.cbor_grammar.proofs.bytes.Heads.{IsBytes, IsBytes-drop, IsBytes-rest, bind_ok, then_ok, guard_ok, guard_held}
use Rattle.cbor_grammar.proofs.bytes.Heads.{ok_is, head_append, head_front, head_shorter, ArgumentIs, info_takes}
use Rattle.cbor_grammar.proofs.bytes.Heads.{head_then, opened}

-- ---- content

split_takes : (n : ℕ) (b s rest : List ℕ) → IsBytes b → split_at n b ≡ Ok (s, rest)
    → (length s ≡ n) × (b ≡ s ++ rest) × IsBytes rest
split_takes n b s rest fits e =
    let g = guard_ok (ltb (length b) n) refusal.CutShort (take n b, drop n b) (s, rest) e in
    let long : n ≤ length b = ltb-false _ _ g.0 in
    subst (λ (p : List ℕ × List ℕ). (length p.0 ≡ n) × (b ≡ p.0 ++ p.1) × IsBytes p.1) g.1
    (omega (arith, length-take n b), sym (take-append-drop n b), IsBytes-drop n b fits)

split_again : (s rest : List ℕ) → split_at (length s) (s ++ rest) ≡ Ok (s, rest)
split_again s rest =
    let long : ltb (length (s ++ rest)) (length s) ≡ false = le-ltb _ _ (omega (arith, length-append s rest)) in
    rw (long, take_at s rest (length s) refl, drop_at s rest (length s) refl) refl

abbrev pub ContentIs : StringKind → ℕ → IntegerWidth → List ℕ → Chunk → List ℕ → Type 0
ContentIs kind n w b c rest = (c.width ≡ w) × (length c.bytes ≡ n) × IsContent kind c.bytes × (b ≡ c.bytes ++ rest)
    × IsBytes rest

chunk_held : (kind : StringKind) (w : IntegerWidth) (s : List ℕ) (c : Chunk) → checked_chunk kind w s ≡ Ok c
    → (record { bytes = s; width = w } ≡ c) × IsContent kind s
chunk_held Bytes w s c e = (ok_is (record { bytes = s; width = w }) c e, tt)
chunk_held Text w s c e =
    let g = guard_held (is_utf8 s) refusal.Utf8 (record { bytes = s; width = w }) c e in
    (g.1, IsUtf8-from_is_utf8 s g.0)

pub content_takes : (kind : StringKind) (n : ℕ) (w : IntegerWidth) (b rest : List ℕ) (c : Chunk) → IsBytes b
    → read_content kind n w b ≡ Ok (c, rest) → ContentIs kind n w b c rest
unfolding read_content
content_takes kind n w b rest c fits e =
    let a = bind_ok (split_at n b) (λ s. checked_chunk kind w s.0 >>= λ c. Ok (c, s.1)) (c, rest) e in
    let t = split_takes n b a.0.0 a.0.1 fits a.1 in
    let m = bind_ok (checked_chunk kind w a.0.0) (λ c. Ok (c, a.0.1)) (c, rest) a.2 in
    let held = chunk_held kind w a.0.0 m.0 m.1 in
    subst (λ (x : Chunk × List ℕ). ContentIs kind n w b x.0 x.1) (ok_is (m.0, a.0.1) (c, rest) m.2)
    (subst (λ (x : Chunk). ContentIs kind n w b x a.0.1) held.0 (refl, t.0, held.1, t.1, t.2))

pub content_again : (kind : StringKind) (c : Chunk) (rest : List ℕ) → IsContent kind c.bytes
    → read_content kind (length c.bytes) c.width (c.bytes ++ rest) ≡ Ok (c, rest)
unfolding read_content
content_again Bytes c rest is = rw (split_again c.bytes rest) refl
content_again Text c rest is = rw (split_again c.bytes rest, is_utf8-from_IsUtf8 c.bytes is) refl

-- ---- one chunk

abbrev pub none_left : List ℕ → Read (Option Chunk)
none_left b = Ok (None, b)

-- the three ways of a first byte: a break, a head of that kind, and what can't be there
pub chunk_ways : (kind : StringKind) (first : ℕ) (b : List ℕ)
    → ((first ≡ break_byte) × (read_chunk kind (first ∷ b) ≡ none_left b))
    ⊎ (((first ≢ break_byte) × (first / 32 ≡ major_of kind)
    × (read_chunk kind (first ∷ b) ≡ (read_argument (first % 32) b >>= λ i. chunk_of kind i.0 i.1)))
    ⊎ ((first ≢ break_byte) × (first / 32 ≢ major_of kind) × (read_chunk kind (first ∷ b) ≡ Err refusal.Head)))
unfolding read_chunk
chunk_ways kind first b =
    elim (cases_eq first break_byte) [
      | inl is ↦ inl (is, rw (eq-eqb first break_byte is) refl)
      | inr no_break ↦ elim (cases_eq (first / 32) (major_of kind)) [
        | inl is ↦ inr (inl (
          no_break,
          is,
          rw (ne_eqb first break_byte no_break, eq-eqb (first / 32) (major_of kind) is)
              refl,
        ))
        | inr other ↦ inr (inr (
          no_break,
          other,
          rw (ne_eqb first break_byte no_break, ne_eqb (first / 32) (major_of kind) other) refl,
        ))
      ]
    ]

chunk_of_takes : (kind : StringKind) (bits : ℕ) (i : Argument) (tail b rest : List ℕ) (o : Option Chunk)
    → ArgumentIs bits i tail b → chunk_of kind i b ≡ Ok (o, rest)
    → (c : Chunk) × (o ≡ Some c) × ChunkThen kind c ((32 * major_of kind + bits) ∷ tail) (λ r. r ≡ rest) × IsBytes rest
chunk_of_takes kind bits (Number n w) tail b rest o is e =
    let a = bind_ok (read_content kind n w b) (λ c. Ok (Some c.0, c.1)) (o, rest) e in
    let c : Chunk = a.0.0 in
    let t = content_takes kind n w b a.0.1 c is.3 a.1 in
    let h = head_then (major_of kind) bits n w tail b is in
    let made = ok_is (Some c, a.0.1) (o, rest) a.2 in
    let o-is : Some c ≡ o = ap (λ (p : Option Chunk × List ℕ). p.0) made in
    let rest-is : a.0.1 ≡ rest = ap (λ (p : Option Chunk × List ℕ). p.1) made in (
      c,
      sym o-is,
      (
        t.2,
        rw (t.0, t.1) (
          h.0,
          h.1,
          h.2,
          (rest, h.3 ∙ t.3 ∙ ap (λ (r : List ℕ). c.bytes ++ r) rest-is, refl),
        ),
      ),
      subst IsBytes rest-is t.4,
    )
chunk_of_takes kind bits Indefinite tail b rest o is e = absurd cc

-- a break and none, or a chunk
abbrev pub ChunkIs : (kind : StringKind) (b rest : List ℕ) → Option Chunk → Type 0
ChunkIs kind b rest None = b ≡ break_byte ∷ rest
ChunkIs kind b rest (Some c) = ChunkThen kind c b (λ r. r ≡ rest) × IsBytes rest

pub one_takes : (kind : StringKind) (b rest : List ℕ) (o : Option Chunk) → IsBytes b → read_chunk kind b ≡ Ok (o, rest)
    → ChunkIs kind b rest o
unfolding read_chunk
one_takes kind [] rest o fits e = absurd cc
one_takes kind (first ∷ b) rest o fits e =
    elim (chunk_ways kind first b) [
      | inl w ↦ subst (λ (p : Option Chunk × List ℕ). ChunkIs kind (first ∷ b) p.1 p.0)
          (ok_is (None, b) (o, rest) (sym w.1 ∙ e)) (rw w.0 refl)
      | inr v ↦ elim v [
        | inl w ↦
            let a = bind_ok (read_argument (first % 32) b) (λ i. chunk_of kind i.0 i.1) (o, rest) (sym w.2 ∙ e) in
            let is = info_takes (first % 32) b a.0.1 a.0.0 (IsBytes-rest first b fits) a.1 in
            let t = chunk_of_takes kind (first % 32) a.0.0 b a.0.1 rest o is a.2 in
            let whole : 32 * major_of kind + first % 32 ≡ first = rw (← w.1) (omega arith) in
            rw t.1 (rw whole at t.2, t.3)
        | inr w ↦ absurd (let wrong = sym w.2 ∙ e in cc)
      ]
    ]

pub chunk_takes : (kind : StringKind) (b rest : List ℕ) (c : Chunk) → IsBytes b → read_chunk kind b ≡ Ok (Some c, rest)
    → ChunkThen kind c b (λ r. r ≡ rest) × IsBytes rest
chunk_takes kind b rest c fits e = one_takes kind b rest (Some c) fits e

pub chunk_again : (kind : StringKind) (b rest : List ℕ) (c : Chunk) → ChunkThen kind c b (λ r. r ≡ rest)
    → read_chunk kind b ≡ Ok (Some c, rest)
chunk_again kind b rest c h =
    let o = opened (major_of kind) (length c.bytes) c.width b h.1.1 (h.1.0, h.1.1, h.1.2, refl) in
    let r-is : h.1.1 ≡ c.bytes ++ rest = h.1.3.1 ∙ ap (λ (r : List ℕ). c.bytes ++ r) h.1.3.2 in
    let bits = o.bits_are in
    elim (chunk_ways kind o.first o.tail) [
      | inl w ↦ absurd (let wrong : 255 % 32 < 28 = rw w.0 at bits in omega arith)
      | inr v ↦ elim v [
        | inl w ↦ ap (read_chunk kind) o.parts ∙ w.2 ∙ rw (o.info_is, r-is, content_again kind c rest h.0) refl
        | inr w ↦ absurd (w.1 o.major_is)
      ]
    ]

-- a chunk whose rest is known has what holds of that rest
pub chunk_with : (kind : StringKind) (b rest : List ℕ) (c : Chunk) (Rest : List ℕ → Type 0)
    → ChunkThen kind c b (λ r. r ≡ rest) → Rest rest → ChunkThen kind c b Rest
chunk_with kind b rest c Rest h holds = (h.0, (h.1.0, h.1.1, h.1.2, (h.1.3.0, h.1.3.1, subst Rest (sym h.1.3.2) holds)))

-- the rest of a chunk, which is shorter, and what holds of it
pub record ChunkParts (kind : StringKind) (b : List ℕ) (c : Chunk) (Rest : List ℕ → Type 0) : Type 0 where
  pub rest : List ℕ
  pub is : ChunkThen kind c b (λ r. r ≡ rest)
  pub shorter : length rest < length b
  pub holds : Rest rest

pub chunk_parts : (kind : StringKind) (b : List ℕ) (c : Chunk) (Rest : List ℕ → Type 0) → ChunkThen kind c b Rest
    → ChunkParts kind b c Rest
chunk_parts kind b c Rest h = record {
  rest = h.1.3.0;
  is = (h.0, (h.1.0, h.1.1, h.1.2, (h.1.3.0, h.1.3.1, refl)));
  shorter = omega (
    arith,
    head_shorter (major_of kind) (length c.bytes) c.width b _ h.1,
    length-append c.bytes h.1.3.0,
    ap length h.1.3.1,
  );
  holds = h.1.3.2;
}

-- a chunk with more bytes after it
pub chunk_append : (kind : StringKind) (b more : List ℕ) (c : Chunk) (Rest More : List ℕ → Type 0)
    → ChunkThen kind c b Rest → ((r : List ℕ) → Rest r → More (r ++ more)) → ChunkThen kind c (b ++ more) More
chunk_append kind b more c Rest More h then = (
  h.0,
  head_append (major_of kind) (length c.bytes) c.width b more _ _ h.1
      (λ r s. (s.0 ++ more, ap (λ (x : List ℕ). x ++ more) s.1 ∙ append_assoc c.bytes s.0 more, then s.0 s.2)),
)

-- and without them
pub chunk_front : (kind : StringKind) (b more : List ℕ) (c : Chunk) (Rest Front : List ℕ → Type 0)
    → ChunkThen kind c b Rest → ((r : List ℕ) → Rest r → (f : List ℕ) × (r ≡ f ++ more) × Front f)
    → (front : List ℕ) × (b ≡ front ++ more) × ChunkThen kind c front Front
chunk_front kind b more c Rest Front h then =
    let t = head_front (major_of kind) (length c.bytes) c.width b more _
    (λ r. (rest : List ℕ) × (r ≡ c.bytes ++ rest) × Front rest) h.1 (λ r s.
    let f = then s.0 s.2 in (
      c.bytes ++ f.0,
      s.1 ∙ ap (λ (x : List ℕ). c.bytes ++ x) f.1 ∙ sym (append_assoc c.bytes f.0 more),
      (f.0, refl, f.2),
    )) in
    (t.0, t.1, (h.0, t.2))

-- ---- chunks

more_takes : (kind : StringKind) (read : List ℕ → Counted (List Chunk)) (b r rest : List ℕ) (o : Option Chunk)
    (cs : List Chunk) → IsBytes b → ChunkIs kind b r o
    → ((cs : List Chunk) → IsBytes r → (read r).1 ≡ Ok (cs, rest) → SpellsChunks kind r cs (break_byte ∷ rest)
    × IsBytes rest)
    → (more_chunks read o r).1 ≡ Ok (cs, rest) → SpellsChunks kind b cs (break_byte ∷ rest) × IsBytes rest
more_takes kind read b r rest None cs fits is others e =
    let made = ok_is ([], r) (cs, rest) e in
    let r-fits : IsBytes r = IsBytes-rest break_byte r (subst IsBytes is fits) in
    subst (λ (x : List Chunk × List ℕ). SpellsChunks kind b x.0 (break_byte ∷ x.1) × IsBytes x.1) made (is, r-fits)
more_takes kind read b r rest (Some c) cs fits is others e =
    let a = then_ok (read r) (λ x. (0, Ok (c ∷ x.0, x.1))) (cs, rest) e in
    let made = ok_is (c ∷ a.0.0, a.0.1) (cs, rest) a.2 in
    let rest-is : a.0.1 ≡ rest = ap (λ (x : List Chunk × List ℕ). x.1) made in
    let cs-is : (c ∷ a.0.0) ≡ cs = ap (λ (x : List Chunk × List ℕ). x.0) made in
    let t = others a.0.0 is.1 (a.1 ∙ ap (λ (x : List ℕ). Ok (a.0.0, x)) rest-is) in
    rw (← cs-is) (chunk_with kind b r c (λ x. SpellsChunks kind x a.0.0 (break_byte ∷ rest)) is.0 t.0, t.1)

pub chunks_takes : (n : ℕ) (kind : StringKind) (b rest : List ℕ) (cs : List Chunk) → IsBytes b
    → (read_chunks n kind b).1 ≡ Ok (cs, rest) → SpellsChunks kind b cs (break_byte ∷ rest) × IsBytes rest
unfolding read_chunks
chunks_takes zero kind b rest cs fits e = absurd cc
chunks_takes (suc n) kind b rest cs fits e =
    let a = then_ok (1, read_chunk kind b) (λ c. more_chunks (read_chunks n kind) c.0 c.1) (cs, rest) e in
    more_takes kind (read_chunks n kind) b a.0.1 rest a.0.0 cs fits (one_takes kind b a.0.1 a.0.0 fits a.1)
    (chunks_takes n kind a.0.1 rest) a.2

chunk_at_break : (kind : StringKind) (rest : List ℕ) → read_chunk kind (break_byte ∷ rest) ≡ Ok (None, rest)
unfolding read_chunk
chunk_at_break kind rest = refl

-- a turn for each chunk, and one for the break
pub chunks_again : (n : ℕ) (kind : StringKind) (b rest : List ℕ) (cs : List Chunk) → length b ≤ n
    → SpellsChunks kind b cs (break_byte ∷ rest) → read_chunks n kind b ≡ (length cs + 1, Ok (cs, rest))
unfolding read_chunks
chunks_again zero kind b rest [] le h = absurd (omega (arith, ap length h))
chunks_again (suc n) kind b rest [] le h = rw (h, chunk_at_break kind rest) refl
chunks_again zero kind b rest (c ∷ cs) le h = absurd (omega (arith, (chunk_parts kind b c _ h).shorter))
chunks_again (suc n) kind b rest (c ∷ cs) le h =
    let p = chunk_parts kind b c (λ x. SpellsChunks kind x cs (break_byte ∷ rest)) h in
    let shorter = p.shorter in
    let sum : 1 + (length cs + 1 + 0) ≡ suc (length cs) + 1 = omega arith in
    rw (chunk_again kind b p.rest c p.is, chunks_again n kind p.rest rest cs (omega arith) p.holds)
    (ap (λ k. (k, Ok (c ∷ cs, rest))) sum)

-- chunks with more bytes after their end
pub chunks_append : (kind : StringKind) (cs : List Chunk) (b end more : List ℕ) → SpellsChunks kind b cs end
    → SpellsChunks kind (b ++ more) cs (end ++ more)
chunks_append kind [] b end more h = ap (λ (x : List ℕ). x ++ more) h
chunks_append kind (c ∷ cs) b end more h = chunk_append kind b more c _ _ h (λ r s. chunks_append kind cs r end more s)

-- and without them
pub chunks_front : (kind : StringKind) (cs : List Chunk) (b end more : List ℕ) → SpellsChunks kind b cs (end ++ more)
    → (front : List ℕ) × (b ≡ front ++ more) × SpellsChunks kind front cs end
chunks_front kind [] b end more h = (end, h, refl)
chunks_front kind (c ∷ cs) b end more h = chunk_front kind b more c _ (λ r. SpellsChunks kind r cs end) h
    (λ r s. chunks_front kind cs r end more s)
