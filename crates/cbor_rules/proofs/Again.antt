-- Numbers, floats, simple values and strings, also in chunks: if such an item keeps the rules (`KeepsAtom`),
-- `kept_item` reads its bytes without a violation, whatever follows them.
use Rattle.std.proofs.Common.{◌≡◌, ℕ, zero, suc, ◌+◌, ◌-◌, ◌<◌, ◌≤◌, Bool, true, cond}
use Rattle.std.proofs.Common.{List, [], ◌∷◌, ◌++◌, length, take, Option, Some, None, Ok, inl, inr, refl, sym, ap, subst}
use Rattle.std.proofs.Common.{◌∙◌, append_assoc, arith}
use Rattle.std.proofs.lemmas.Bool.{le-ltb, ne_eqb}
use Rattle.std.specs.List.{AllByRecursion}
use Rattle.cbor_grammar.specs.declared.width.IntegerWidth.{IntegerWidth}
use Rattle.cbor_grammar.specs.declared.width.IntegerWidth.TheVariants.{Zero, Eight, Sixteen, ThirtyTwo, SixtyFour}
use Rattle.cbor_grammar.specs.declared.width.FloatWidth.TheVariants as float_width
use Rattle.cbor_grammar.specs.declared.argument.Argument.{Argument}
use Rattle.cbor_grammar.specs.declared.argument.Argument.TheVariants.{Number, Indefinite}
use Rattle.cbor_grammar.specs.declared.head.ItemHead.{ItemHead}
use Rattle.cbor_grammar.specs.declared.head.ItemHead.TheVariants as item_head
use Rattle.cbor_grammar.specs.declared.strings.StringKind.{StringKind}
use Rattle.cbor_grammar.specs.StringKind.{major_of}
use Rattle.cbor_grammar.specs.Item.{Chunk, Atom, integer, negative, string, chunked_string, float, simple}
use Rattle.cbor_grammar.specs.Head.{break_byte, HeadThen}
use Rattle.cbor_grammar.specs.WellFormed.{deepest}
use Rattle.cbor_grammar.specs.Bytes.{strict, ChunkThen, SpellsChunks, SpellsAtom}
use Rattle.cbor_grammar.specs.Reading.{read_head, head_of, read_content, read_chunk_length}
use Rattle.cbor_grammar.proofs.bytes.Heads.{bind_ok, ok_is, byte_of, head_append, head_again}
use Rattle.cbor_grammar.proofs.bytes.Chunks.{content_again, chunk_again, chunk_parts, chunks_append}
use Rattle.cbor_grammar.proofs.bytes.FoundAgain.{kind_major, string_head, head_behind}
use Rattle.cbor_bytes.specs.mirror.Skipping.{rest_of}
use Rattle.cbor_rules.specs.declared.rules.Rules.{Rules}
use Rattle.cbor_rules.specs.declared.kind.ViolationKind.TheVariants as kind_of_violation
use Rattle.cbor_rules.specs.declared.check.Chunk.TheVariants as code
use Rattle.cbor_rules.specs.FirstViolation.{Kept, kept_then, opened}
use Rattle.cbor_rules.specs.FirstViolation.{head_violation, number_violation, two_byte_violation}
use Rattle.cbor_rules.specs.FirstViolation.{at, unless, chunk_content}
use Rattle.cbor_rules.specs.FirstViolation.{kept_chunk, chunks_after, kept_chunks, kept_body, kept_item}
use Rattle.cbor_rules.specs.FirstViolation.{kept_content, text_violation}
use Rattle.cbor_rules.specs.Keeps.{KeepsContent, KeepsChunk, KeepsAtom}
use Rattle.cbor_rules.proofs.Texts.{text_again}
use Rattle.cbor_floats.specs.declared.float.EncodedFloat.TheVariants.{Half, Single, Double}
use Rattle.cbor_rules.proofs.Floats.{float_again}
use Rattle.cbor_rules.proofs.Heads.{test_kept, number_again, simple_again}
use Rattle.cbor_rules.proofs.Found.{by_length, chunk_at, content_width}

-- a content that keeps the rules
content_goes : (rules : Rules) (total : ℕ) (b : List ℕ) (kind : StringKind) (n : ℕ) (w : IntegerWidth)
    (r after : List ℕ) (c : Chunk) → read_content kind n w r ≡ Ok (c, after) → KeepsContent rules kind c.bytes
    → kept_content rules total b kind n w r ≡ Ok after
content_goes rules total b kind n w r after c e keeps =
    let is = content_width kind n w r after c e in
    ap (λ q. kept_then (at total b (rest_of q)) (unless total b (text_violation rules kind (take n r)))) e
    ∙ ap (λ k. unless total b k after) (ap (text_violation rules kind) is.2 ∙ text_again rules kind c.bytes keeps)

-- ---- chunks

-- a chunk by its length and its content
record Length (kind : StringKind) (b : List ℕ) (c : Chunk) (after : List ℕ) : Type 0 where
  pub number : ℕ
  pub width : IntegerWidth
  pub rest : List ℕ
  pub len : read_chunk_length (major_of kind) b ≡ Ok (Some (number, width), rest)
  pub content : read_content kind number width rest ≡ Ok (c, after)

chunk_length : (kind : StringKind) (b after : List ℕ) (c : Chunk) → ChunkThen kind c b (λ r. r ≡ after)
    → Length kind b c after
chunk_length kind b after c h =
    let t = bind_ok (read_chunk_length (major_of kind) b) (λ l. chunk_at kind l.0 l.1) (Some c, after)
    (sym (by_length kind b) ∙ chunk_again kind b after c h) in
    go t.0.0 t.0.1 t.1 t.2
  where
    go : (o : Option (ℕ × IntegerWidth)) (r : List ℕ) → read_chunk_length (major_of kind) b ≡ Ok (o, r)
        → chunk_at kind o r ≡ Ok (Some c, after) → Length kind b c after
    go None r len e =
        let same = ok_is (None, r) (Some c, after) e in
        let none : ◌≡◌ {A = Option Chunk} None (Some c) = ap (λ (p : Option Chunk × List ℕ). p.0) same in
        absurd cc
    go (Some n) r len e =
        let t = bind_ok (read_content kind n.0 n.1 r) (λ c. Ok (Some c.0, c.1)) (Some c, after) e in
        let same = ok_is (Some t.0.0, t.0.1) (Some c, after) t.2 in
        let its_chunk : t.0.0 ≡ c = (let some = ap (λ (p : Option Chunk × List ℕ). p.0) same in cc) in
        let its_rest : t.0.1 ≡ after = ap (λ (p : Option Chunk × List ℕ). p.1) same in
        record {
          number = n.0;
          width = n.1;
          rest = r;
          len = len;
          content = t.1 ∙ ap (λ (k : Chunk). Ok (k, t.0.1)) its_chunk ∙ ap (λ (k : List ℕ). Ok (c, k)) its_rest;
        }

chunk_kept : (rules : Rules) (total : ℕ) (kind : StringKind) (b after : List ℕ) (c : Chunk)
    → ChunkThen kind c b (λ r. r ≡ after) → KeepsChunk rules kind c
    → kept_chunk rules total kind b ≡ Ok (code.Content, after)
chunk_kept rules total kind b after c h keeps =
    let l = chunk_length kind b after c h in
    let is = content_width kind l.number l.width l.rest after c l.content in
    let short : number_violation rules l.number l.width ≡ None =
    subst (λ (k : ℕ). number_violation rules k l.width ≡ None) is.1
    (subst (λ (k : IntegerWidth). number_violation rules (length c.bytes) k ≡ None) is.0
    (number_again rules (length c.bytes) c.width keeps.0)) in
    ap (λ q. kept_then (at total b q) (λ c. chunk_content rules total kind b c.0 c.1)) l.len
    ∙ ap (λ k. kept_then (unless total b k l.rest)
    (λ r. kept_then (kept_content rules total b kind l.number l.width r) (λ after. Ok (code.Content, after)))) short
    ∙ ap (λ q. kept_then q (λ after. Ok (code.Content, after)))
    (content_goes rules total b kind l.number l.width l.rest after c l.content keeps.1)

break_kept : (rules : Rules) (total : ℕ) (kind : StringKind) (b rest : List ℕ) → b ≡ break_byte ∷ rest
    → kept_chunk rules total kind b ≡ Ok (code.Break, rest)
unfolding read_chunk_length
break_kept rules total kind b rest e = ap (λ (x : List ℕ). kept_chunk rules total kind x) e

chunks_again : (n : ℕ) (rules : Rules) (total : ℕ) (kind : StringKind) (b rest : List ℕ) (cs : List Chunk)
    → length b < n → SpellsChunks kind b cs (break_byte ∷ rest) → AllByRecursion (KeepsChunk rules kind) cs
    → kept_chunks n rules total kind b ≡ Ok rest
unfolding kept_chunks
chunks_again zero rules total kind b rest cs lt h keeps = absurd (omega arith)
chunks_again (suc n) rules total kind b rest [] lt h keeps =
    ap (λ q. kept_then q (λ c. chunks_after (kept_chunks n rules total kind) c.0 c.1))
    (break_kept rules total kind b rest h)
chunks_again (suc n) rules total kind b rest (c ∷ cs) lt h keeps =
    let p = chunk_parts kind b c _ h in
    ap (λ q. kept_then q (λ c. chunks_after (kept_chunks n rules total kind) c.0 c.1))
    (chunk_kept rules total kind b p.rest c p.is keeps.0)
    ∙ chunks_again n rules total kind p.rest rest cs (omega (arith, p.shorter)) p.holds keeps.1

-- ---- an item by its head

-- the head of a string, with its content after it
pub string_read : (kind : StringKind) (k : Chunk) (x c : List ℕ) → ChunkThen kind k x (λ r. r ≡ [])
    → read_head (x ++ c) ≡ Ok (item_head.String kind (Number (length k.bytes) k.width), k.bytes ++ c)
string_read kind k x c h =
    let a : Argument = Number (length k.bytes) k.width in
    let is = head_append (major_of kind) (length k.bytes) k.width x c _ (λ r. r ≡ k.bytes ++ c) h.1
    (λ r s. ap (λ (y : List ℕ). y ++ c) s.1 ∙ append_assoc k.bytes s.0 c
    ∙ ap (λ (y : List ℕ). k.bytes ++ (y ++ c)) s.2) in
    head_again (major_of kind) a (item_head.String kind a) (x ++ c) (k.bytes ++ c) (omega (arith, kind_major kind)) is
    (string_head kind a)

module _ (rules : Rules) (total level left : ℕ) (sum : level + suc left ≡ 129) where
  pub by_head : (b r : List ℕ) (h : ItemHead) → read_head b ≡ Ok (h, r) → head_violation rules level b h r ≡ None
      → kept_item (suc left) rules total b ≡ kept_body rules total b (kept_item left rules total) (opened h) h r
  unfolding kept_item
  by_head b r h e none =
      let here : level ≡ deepest - left = omega arith in
      let its_none = subst (λ k. head_violation rules k b h r ≡ None) here none in
      let then = λ (x : Kept (ItemHead × List ℕ)). kept_then x
      (λ h. kept_body rules total b (kept_item left rules total) (opened h.0) h.0 h.1) in
      ap (λ q. then (kept_then (at total b q)
      (λ h. unless total b (head_violation rules (deepest - left) b h.0 h.1) h))) e
      ∙ ap (λ k. then (unless total b k (h, r))) its_none

  -- ---- items without parts

  pub definite_again : (t : Bool) → ¬ (t ≡ true) → cond t (Some kind_of_violation.Indefinite) None ≡ None
  definite_again t never = test_kept t kind_of_violation.Indefinite never

  simple_first : (n : ℕ) (c : List ℕ) → n < 24 → two_byte_violation ((224 + n) ∷ c) ≡ None
  simple_first n [] lt = refl
  simple_first n (m ∷ c) lt =
      let other : ¬ (224 + n ≡ 0xf8) = λ e. omega arith in rw (ne_eqb (224 + n) 0xf8 other) refl

  -- a number alone
  number_alone : (major n : ℕ) (w : IntegerWidth) (b c : List ℕ) (h : ItemHead) → major ≤ 7
      → HeadThen major n w b (λ r. r ≡ c) → head_of major (Number n w) ≡ Ok h → head_violation rules level b h c ≡ None
      → kept_body rules total b (kept_item left rules total) (opened h) h c ≡ Ok c
      → kept_item (suc left) rules total b ≡ Ok c
  number_alone major n w b c h le is e none body =
      by_head b c h (head_again major (Number n w) h b c le is e) none ∙ body

  pub atom_again : (a : Atom) (x c : List ℕ) → SpellsAtom strict x a → KeepsAtom rules a
      → kept_item (suc left) rules total (x ++ c) ≡ Ok c
  unfolding head_of
  atom_again (integer n w) x c h keeps =
      number_alone 0 n w (x ++ c) c (item_head.Integer n w) (omega arith) (head_behind 0 n w x c h) refl
      (number_again rules n w keeps) refl
  atom_again (negative n w) x c h keeps =
      number_alone 1 n w (x ++ c) c (item_head.Negative n w) (omega arith) (head_behind 1 n w x c h) refl
      (number_again rules n w keeps) refl
  atom_again (string kind k) x c h keeps =
      by_head (x ++ c) (k.bytes ++ c) (item_head.String kind (Number (length k.bytes) k.width))
      (string_read kind k x c h)
      (number_again rules (length k.bytes) k.width keeps.0)
      ∙ content_goes rules total (x ++ c) kind (length k.bytes) k.width (k.bytes ++ c) c k (content_again kind k c h.0)
      keeps.1
  atom_again (chunked_string kind cs) x c h keeps =
      let r : List ℕ = h.0 ++ c in
      by_head (x ++ c) r (item_head.String kind Indefinite)
      (head_again (major_of kind) Indefinite (item_head.String kind Indefinite) (x ++ c) r
      (omega (arith, kind_major kind)) (ap (λ (y : List ℕ). y ++ c) h.1) (string_head kind Indefinite))
      (definite_again rules.definite_lengths keeps.0)
      ∙ chunks_again (suc (length r)) rules total kind r c cs (omega arith)
      (chunks_append kind cs h.0 (break_byte ∷ []) c h.2) keeps.1
  atom_again (float bits float_width.Unknown) x c h keeps = absurd h
  atom_again (float bits float_width.Sixteen) x c h keeps =
      number_alone 7 bits Sixteen (x ++ c) c (item_head.Float bits float_width.Sixteen) (omega arith)
      (h.0, c, ap (λ (y : List ℕ). y ++ c) h.1, refl) refl (float_again rules (Half bits) keeps) refl
  atom_again (float bits float_width.ThirtyTwo) x c h keeps =
      number_alone 7 bits ThirtyTwo (x ++ c) c (item_head.Float bits float_width.ThirtyTwo) (omega arith)
      (h.0, c, ap (λ (y : List ℕ). y ++ c) h.1, refl) refl (float_again rules (Single bits) keeps) refl
  atom_again (float bits float_width.SixtyFour) x c h keeps =
      number_alone 7 bits SixtyFour (x ++ c) c (item_head.Float bits float_width.SixtyFour) (omega arith)
      (h.0, c, ap (λ (y : List ℕ). y ++ c) h.1, refl) refl (float_again rules (Double bits) keeps) refl
  atom_again (simple n) x c (inl h) keeps =
      number_alone 7 n Zero (x ++ c) c (item_head.Simple n) (omega arith)
      (h.0, c, ap (λ (y : List ℕ). y ++ c) h.1, refl) refl
      (simple_again rules n (x ++ c)
      (subst (λ (y : List ℕ). two_byte_violation (y ++ c) ≡ None) (sym h.1) (simple_first n c h.0)) keeps) refl
  atom_again (simple n) x c (inr h) keeps =
      let least : 32 ≤ n = elim keeps.0 [ inl lt ↦ absurd (omega arith) | inr le ↦ le ] in
      number_alone 7 n Eight (x ++ c) c (item_head.Simple n) (omega arith)
      (h.1, c, ap (λ (y : List ℕ). y ++ c) h.2 ∙ ap (λ (y : List ℕ). 0xf8 ∷ (y ++ c)) (sym (byte_of n h.1)), refl) refl
      (simple_again rules n (x ++ c)
      (subst (λ (y : List ℕ). two_byte_violation (y ++ c) ≡ None) (sym h.2) (rw (le-ltb n 32 least) refl)) keeps) refl
