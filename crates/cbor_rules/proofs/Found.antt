-- Numbers, floats, simple values and strings, also in chunks: if `kept_atom` reads such an item without a violation
-- after a head without one, the bytes begin with an item that keeps the rules (`Found`).
use Rattle.std.proofs.Common.{◌≡◌, ℕ, zero, suc, ◌+◌, ◌/◌, ◌%◌, ◌≤◌, Bool, true, cond, ltb, List}
use Rattle.std.proofs.Common.{[], ◌∷◌, ◌++◌, length, take, drop, Option, Some, None, Ok, Err, inl, inr, refl, sym, ap}
use Rattle.std.proofs.Common.{subst, ◌∙◌, arith}
use Rattle.std.proofs.lemmas.Bool.{ltb-false, cases_eq, eq-eqb, ne_eqb}
use Rattle.std.proofs.lemmas.List.{length-take}
use Rattle.std.specs.List.{AllByRecursion}
use Rattle.cbor_grammar.specs.declared.width.IntegerWidth.{IntegerWidth}
use Rattle.std.specs.Str.{is_utf8}
use Rattle.cbor_grammar.specs.declared.error.Error.TheVariants as refusal
use Rattle.cbor_grammar.specs.declared.argument.Argument.{Argument}
use Rattle.cbor_grammar.specs.declared.argument.Argument.TheVariants.{Number, Indefinite}
use Rattle.cbor_grammar.specs.declared.head.ItemHead.{ItemHead}
use Rattle.cbor_grammar.specs.declared.head.ItemHead.TheVariants as item_head
use Rattle.cbor_grammar.specs.declared.strings.StringKind.{StringKind}
use Rattle.cbor_grammar.specs.declared.strings.StringKind.TheVariants.{Bytes, Text}
use Rattle.cbor_grammar.specs.StringKind.{major_of}
use Rattle.cbor_grammar.specs.Item.{Chunk, Atom, integer, negative, string, chunked_string, float, simple, Item, atom}
use Rattle.cbor_grammar.specs.Head.{opening, break_byte, head}
use Rattle.cbor_grammar.specs.Bytes.{strict, ChunkThen, SpellsChunks, SpellsAtom, Spells}
use Rattle.cbor_grammar.specs.Reading as reading
use Rattle.cbor_grammar.specs.Reading.{Read, ◌>>=◌, read_head, read_content, read_chunk_length, read_chunk, go_on}
use Rattle.cbor_grammar.specs.Reading.{counted_item, read_body, read_item, after_break, count_width}
use Rattle.cbor_grammar.proofs.bytes.Heads.{IsBytes, IsBytes-rest, bind_ok, guard_ok, guard_held, ok_is}
use Rattle.cbor_grammar.proofs.bytes.Heads.{head_takes}
use Rattle.cbor_grammar.proofs.bytes.Chunks.{chunk_takes, one_takes, chunk_with, chunks_front}
use Rattle.cbor_grammar.proofs.bytes.Found.{item_takes}
use Rattle.cbor_grammar.proofs.bytes.Frames.{Spelled}
use Rattle.cbor_bytes.specs.mirror.Skipping.{rest_of}
use Rattle.cbor_rules.specs.declared.rules.Rules.{Rules}
use Rattle.cbor_rules.specs.declared.check.Chunk as code_chunk
use Rattle.cbor_rules.specs.declared.check.Chunk.TheVariants as code
use Rattle.cbor_rules.specs.declared.kind.ViolationKind.TheVariants as kind_of_violation
use Rattle.cbor_rules.specs.FirstViolation.{kept_then, opened}
use Rattle.cbor_rules.specs.FirstViolation.{head_violation, number_violation, at, unless, chunk_content}
use Rattle.cbor_rules.specs.FirstViolation.{kept_chunk, kept_chunks, chunks_after, kept_atom, simple_violation}
use Rattle.cbor_rules.specs.FirstViolation.{kept_content, text_violation}
use Rattle.cbor_rules.proofs.Texts.{text_found, content_kept}
use Rattle.cbor_rules.specs.Keeps.{float_of, KeepsChunk, KeepsAtom, Keeps}
use Rattle.cbor_rules.proofs.Floats.{float_found}
use Rattle.cbor_rules.proofs.Heads.{then_kept, unless_kept, at_kept, kept_is, test_none, number_found, simple_found}

-- the bytes begin with an item that keeps the rules
pub record Found (rules : Rules) (level : ℕ) (b rest : List ℕ) : Type 0 where
  pub item : Item
  pub front : List ℕ
  pub parts : b ≡ front ++ rest
  pub spells : Spells strict level front item
  pub keeps : Keeps rules level item
  pub rest_bytes : IsBytes rest

-- ---- reading with a value

-- what an item is read as, by its head
by_head : (left : ℕ) (b r : List ℕ) (h : ItemHead) → read_head b ≡ Ok (h, r)
    → read_item (suc left) b ≡ (read_body (counted_item left) (reading.opened h) h r).1
unfolding counted_item
by_head left b r h e = ap (λ q. (go_on 1 q (λ h. read_body (counted_item left) (reading.opened h.0) h.0 h.1)).1) e

-- a content that was skipped was read
content_read : (read : Read Chunk) (rest : List ℕ) → rest_of read ≡ Ok rest → (c : Chunk) × (read ≡ Ok (c, rest))
content_read (Ok x) rest e = (let same : x.1 ≡ rest = cc in (x.0, ap (λ r. Ok (x.0, r)) same))
content_read (Err d) rest e = absurd cc

-- ---- chunks

abbrev pub chunk_at : StringKind → Option (ℕ × IntegerWidth) → List ℕ → Read (Option Chunk)
chunk_at kind None r = Ok (None, r)
chunk_at kind (Some n) r = read_content kind n.0 n.1 r >>= λ c. Ok (Some c.0, c.1)

info_at : (kind : StringKind) (info : Read Argument)
    → (info >>= λ a. reading.chunk_of kind a.0 a.1)
    ≡ (◌>>=◌ info (λ a. reading.length_of a.0 a.1) >>= λ l. chunk_at kind l.0 l.1)
info_at kind (Ok (Number n w, r)) = refl
info_at kind (Ok (Indefinite, r)) = refl
info_at kind (Err e) = refl

-- a chunk is its length and then its content
pub by_length : (kind : StringKind) (b : List ℕ)
    → read_chunk kind b ≡ (read_chunk_length (major_of kind) b >>= λ l. chunk_at kind l.0 l.1)
unfolding read_chunk read_chunk_length
by_length kind [] = refl
by_length kind (first ∷ b) =
    elim (cases_eq first break_byte) [
      | inl is ↦ rw (eq-eqb first break_byte is) refl
      | inr other ↦ elim (cases_eq (first / 32) (major_of kind)) [
        | inl is ↦ rw (ne_eqb first break_byte other, eq-eqb (first / 32) (major_of kind) is)
            (info_at kind (reading.read_argument (first % 32) b))
        | inr wrong ↦ rw (ne_eqb first break_byte other, ne_eqb (first / 32) (major_of kind) wrong) refl
      ]
    ]

-- chunks up to the break, each of which keeps the rules
record FoundChunks (rules : Rules) (kind : StringKind) (b rest : List ℕ) : Type 0 where
  pub chunks : List Chunk
  pub spells : SpellsChunks kind b chunks (break_byte ∷ rest)
  pub keeps : AllByRecursion (KeepsChunk rules kind) chunks
  pub rest_bytes : IsBytes rest

-- the width, the length and the bytes of a content that was read
pub content_width : (kind : StringKind) (n : ℕ) (w : IntegerWidth) (b rest : List ℕ) (c : Chunk)
    → read_content kind n w b ≡ Ok (c, rest) → (c.width ≡ w) × (length c.bytes ≡ n) × (take n b ≡ c.bytes)
unfolding read_content
content_width kind n w b rest c e =
    let a = bind_ok (reading.split_at n b) (λ s. reading.checked_chunk kind w s.0 >>= λ c. Ok (c, s.1)) (c, rest) e in
    let g = guard_ok (ltb (length b) n) refusal.CutShort (take n b, drop n b) a.0 a.1 in
    let long : n ≤ length b = ltb-false (length b) n g.0 in
    let m = bind_ok (reading.checked_chunk kind w a.0.0) (λ c. Ok (c, a.0.1)) (c, rest) a.2 in
    let is = checked kind a.0.0 m.0 m.1 in
    let same : m.0 ≡ c = ap (λ (p : Chunk × List ℕ). p.0) (ok_is (m.0, a.0.1) (c, rest) m.2) in
    let text : take n b ≡ a.0.0 = ap (λ (p : List ℕ × List ℕ). p.0) g.1 in (
      ap (λ (k : Chunk). k.width) (sym same ∙ sym is),
      ap (λ (k : Chunk). length k.bytes) (sym same ∙ sym is) ∙ ap (λ (k : List ℕ). length k) (sym text)
          ∙ (let whole : length (take n b) ≡ n = omega (arith, length-take n b) in whole),
      text ∙ ap (λ (k : Chunk). k.bytes) (is ∙ same),
    )
  where
    checked : (kind : StringKind) (s : List ℕ) (k : Chunk) → reading.checked_chunk kind w s ≡ Ok k
        → (record { bytes = s; width = w }) ≡ k
    checked Bytes s k e = ok_is (record { bytes = s; width = w }) k e
    checked Text s k e = (guard_held (is_utf8 s) refusal.Utf8 (record { bytes = s; width = w }) k e).1

-- a chunk that keeps the rules, or the break
abbrev OneFound : Rules → StringKind → List ℕ → code_chunk.Chunk → List ℕ → Type 0
OneFound rules kind b code.Content rest =
    (c : Chunk) × ChunkThen kind c b (λ r. r ≡ rest) × KeepsChunk rules kind c × IsBytes rest
OneFound rules kind b code.Break rest = (b ≡ break_byte ∷ rest) × IsBytes rest

chunk_found : (rules : Rules) (total : ℕ) (kind : StringKind) (b r : List ℕ) (o : Option (ℕ × IntegerWidth))
    (x : code_chunk.Chunk × List ℕ) → IsBytes b → read_chunk_length (major_of kind) b ≡ Ok (o, r)
    → chunk_content rules total kind b o r ≡ Ok x → OneFound rules kind b x.0 x.1
chunk_found rules total kind b r None x fits len e =
    let read : read_chunk kind b ≡ Ok (None, r) =
    by_length kind b ∙ ap (λ q. ◌>>=◌ q (λ l. chunk_at kind l.0 l.1)) len in
    let is : b ≡ break_byte ∷ r = one_takes kind b r None fits read in
    subst (λ (p : code_chunk.Chunk × List ℕ). OneFound rules kind b p.0 p.1) (kept_is (code.Break, r) x e)
    (is, IsBytes-rest break_byte r (subst IsBytes is fits))
chunk_found rules total kind b r (Some n) x fits len e =
    let u = then_kept (unless total b (number_violation rules n.0 n.1) r)
    (λ r. kept_then (kept_content rules total b kind n.0 n.1 r) (λ after. Ok (code.Content, after))) x e in
    let none = unless_kept total b (number_violation rules n.0 n.1) r u.0 u.1 in
    let t = then_kept (kept_content rules total b kind n.0 n.1 u.0) (λ after. Ok (code.Content, after)) x u.2 in
    let k = content_kept rules total b kind n.0 n.1 u.0 t.0 t.1 in
    let c = content_read (read_content kind n.0 n.1 u.0) t.0 k.0 in
    let its_content : read_content kind n.0 n.1 r ≡ Ok (c.0, t.0) =
    subst (λ (x : List ℕ). read_content kind n.0 n.1 x ≡ Ok (c.0, t.0)) (sym none.1) c.1 in
    let read : read_chunk kind b ≡ Ok (Some c.0, t.0) =
    by_length kind b ∙ ap (λ q. ◌>>=◌ q (λ l. chunk_at kind l.0 l.1)) len
    ∙ ap (λ q. ◌>>=◌ q (λ c. Ok (Some c.0, c.1))) its_content in
    let takes = chunk_takes kind b t.0 c.0 fits read in
    let is = content_width kind n.0 n.1 r t.0 c.0 its_content in
    let short : number_violation rules (length c.0.bytes) c.0.width ≡ None = rw (is.0, is.1) none.0 in
    let bytes : take n.0 u.0 ≡ c.0.bytes = ap (λ (y : List ℕ). take n.0 y) (sym none.1) ∙ is.2 in
    let text = text_found rules kind c.0.bytes (subst (λ (y : List ℕ). text_violation rules kind y ≡ None) bytes k.1) in
    subst (λ (p : code_chunk.Chunk × List ℕ). OneFound rules kind b p.0 p.1) (kept_is (code.Content, t.0) x t.2)
    (c.0, takes.0, (number_found rules (length c.0.bytes) c.0.width takes.0.1.0 short, text), takes.1)

one_found : (rules : Rules) (total : ℕ) (kind : StringKind) (b : List ℕ) (x : code_chunk.Chunk × List ℕ) → IsBytes b
    → kept_chunk rules total kind b ≡ Ok x → OneFound rules kind b x.0 x.1
one_found rules total kind b x fits e =
    let l = then_kept (at total b (read_chunk_length (major_of kind) b))
    (λ c. chunk_content rules total kind b c.0 c.1) x e in
    chunk_found rules total kind b l.0.1 l.0.0 x fits
    (at_kept total b (read_chunk_length (major_of kind) b) l.0 l.1) l.2

chunks_found : (n : ℕ) (rules : Rules) (total : ℕ) (kind : StringKind) (b rest : List ℕ) → IsBytes b
    → kept_chunks n rules total kind b ≡ Ok rest → FoundChunks rules kind b rest
unfolding kept_chunks
chunks_found zero rules total kind b rest fits e = absurd cc
chunks_found (suc n) rules total kind b rest fits e =
    let t = then_kept (kept_chunk rules total kind b)
    (λ c. chunks_after (kept_chunks n rules total kind) c.0 c.1) rest e in
    next (λ r fits e. chunks_found n rules total kind r rest fits e) t.0.0 t.0.1
    (one_found rules total kind b t.0 fits t.1) t.2
  where
    next : ((r : List ℕ) → IsBytes r → kept_chunks n rules total kind r ≡ Ok rest → FoundChunks rules kind r rest)
        → (c : code_chunk.Chunk) (r : List ℕ) → OneFound rules kind b c r
        → chunks_after (kept_chunks n rules total kind) c r ≡ Ok rest → FoundChunks rules kind b rest
    next again code.Content r one e =
        let more = again r one.3 e in
        record {
          chunks = one.0 ∷ more.chunks;
          spells = chunk_with kind b r one.0 (λ x. SpellsChunks kind x more.chunks (break_byte ∷ rest)) one.1
              more.spells;
          keeps = (one.2, more.keeps);
          rest_bytes = more.rest_bytes;
        }
    next again code.Break r one e =
        let same = kept_is r rest e in
        record {
          chunks = [];
          spells = one.0 ∙ ap (λ (x : List ℕ). break_byte ∷ x) same;
          keeps = tt;
          rest_bytes = subst IsBytes same one.1;
        }

-- ---- items without parts

pub definite_found : (t : Bool) → cond t (Some kind_of_violation.Indefinite) None ≡ None → ¬ (t ≡ true)
definite_found t e = let off = test_none t kind_of_violation.Indefinite e in λ on. absurd cc

module _ (rules : Rules) (total level left : ℕ) (b r rest : List ℕ) (sum : level + suc left ≡ 129)
    (fits : IsBytes b) where
  made : (a : Atom) → read_item (suc left) b ≡ Ok (atom a, rest)
      → ((s : Spelled level b (atom a) rest) → SpellsAtom strict s.front a × KeepsAtom rules a)
      → Found rules level b rest
  made a read keeps =
      let s = item_takes level (suc left) b (atom a) rest sum fits read in
      let k = keeps s in
      record {
        item = atom a;
        front = s.front;
        parts = s.parts;
        spells = (s.spells.0, k.0);
        keeps = k.1;
        rest_bytes = s.rest_bytes;
      }

  pub atom_found : (h : ItemHead) → read_head b ≡ Ok (h, r) → head_violation rules level b h r ≡ None → opened h ≡ None
      → kept_atom rules total b h r ≡ Ok rest → Found rules level b rest
  atom_found (item_head.Integer n w) head violation none e =
      made (integer n w)
      (by_head left b r (item_head.Integer n w) head ∙ ap (λ x. Ok (atom (integer n w), x)) (kept_is r rest e))
      (λ s. (s.spells.1, number_found rules n w s.spells.1.0 violation))
  atom_found (item_head.Negative n w) head violation none e =
      made (negative n w)
      (by_head left b r (item_head.Negative n w) head ∙ ap (λ x. Ok (atom (negative n w), x)) (kept_is r rest e))
      (λ s. (s.spells.1, number_found rules n w s.spells.1.0 violation))
  atom_found (item_head.String kind (Number n w)) head violation none e =
      let k = content_kept rules total b kind n w r rest e in
      let c = content_read (read_content kind n w r) rest k.0 in
      let is = content_width kind n w r rest c.0 c.1 in
      let short : number_violation rules (length c.0.bytes) c.0.width ≡ None = rw (is.0, is.1) violation in
      let text = text_found rules kind c.0.bytes
      (subst (λ (y : List ℕ). text_violation rules kind y ≡ None) is.2 k.1) in
      made (string kind c.0)
      (by_head left b r (item_head.String kind (Number n w)) head
      ∙ ap (λ q. ◌>>=◌ q (λ c. Ok (atom (string kind c.0), c.1))) c.1)
      (λ s. (s.spells.1, (number_found rules (length c.0.bytes) c.0.width s.spells.1.1.0 short, text)))
  atom_found (item_head.String kind Indefinite) head violation none e =
      let is = head_takes b r (item_head.String kind Indefinite) fits head in
      let cs = chunks_found (suc (length r)) rules total kind r rest is.1 e in
      let f = chunks_front kind cs.chunks r (break_byte ∷ []) rest cs.spells in
      record {
        item = atom (chunked_string kind cs.chunks);
        front = opening (major_of kind) ∷ f.0;
        parts = is.0 ∙ ap (λ (x : List ℕ). opening (major_of kind) ∷ x) f.1;
        spells = (omega arith, (f.0, refl, f.2));
        keeps = (definite_found rules.definite_lengths violation, cs.keeps);
        rest_bytes = cs.rest_bytes;
      }
  atom_found (item_head.Float bits w) head violation none e =
      made (float bits w)
      (by_head left b r (item_head.Float bits w) head ∙ ap (λ x. Ok (atom (float bits w), x)) (kept_is r rest e))
      (λ s. (s.spells.1, float_found rules (float_of bits w) violation))
  atom_found (item_head.Simple n) head violation none e =
      made (simple n)
      (by_head left b r (item_head.Simple n) head ∙ ap (λ x. Ok (atom (simple n), x)) (kept_is r rest e))
      (λ s. simple_found rules n s.front rest s.spells.1
      (subst (λ x. simple_violation rules n x ≡ None) s.parts violation))
  atom_found (item_head.Array a) head violation none e = absurd cc
  atom_found (item_head.Map a) head violation none e = absurd cc
  atom_found (item_head.Tag n w) head violation none e = absurd cc
