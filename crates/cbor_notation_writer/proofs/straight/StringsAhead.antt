-- For `string_ahead`, `content_ahead` and `chunks_ahead`: they take from the budget the estimated length of the string
-- that reading gives, or find that the string takes the whole budget (`Estimates`). The content is the bytes that were
-- split off, if it can be read. Each turn of the loop over chunks keeps `ChunksSoFar`.
use Rattle.std.proofs.Common.{◌≡◌, ℕ, zero, suc, ◌+◌, ◌-◌, ◌≤◌, List, [], ◌∷◌, length, Option, Some, None}
use Rattle.std.proofs.Common.{Ok, Err, refl, sym, ap, subst, ◌∙◌, arith}
use Rattle.std.specs.Str.{is_utf8}
use Rattle.std.proofs.lemmas.List.Sums.{sum_by-cons}
use Rattle.cbor_grammar.specs.declared.width.IntegerWidth.{IntegerWidth}
use Rattle.cbor_grammar.specs.declared.error.Error.{Error}
use Rattle.cbor_grammar.specs.declared.error.Error.TheVariants as refusal
use Rattle.cbor_notation_writer.specs.declared.ahead.Ahead.{Ahead}
use Rattle.cbor_grammar.specs.declared.argument.Argument.TheVariants.{Number, Indefinite}
use Rattle.cbor_grammar.specs.Estimate.{estimated_length, estimated_chunks, estimated_string}
use Rattle.cbor_grammar.specs.Item.{Chunk, string, chunked_string, Item, atom}
use Rattle.cbor_grammar.specs.declared.head.ItemHead.TheVariants as item_head
use Rattle.cbor_grammar.specs.Reading.{◌>>=◌, split_at, checked_chunk, read_content}
use Rattle.cbor_grammar.specs.Reading.{read_chunk_length, read_chunk, more_chunks, read_chunks}
use Rattle.cbor_grammar.specs.declared.strings.StringKind.{StringKind}
use Rattle.cbor_grammar.specs.declared.strings.StringKind.TheVariants.{Bytes, Text}
use Rattle.cbor_grammar.specs.StringKind.{major_of}
use Rattle.cbor_notation_writer.specs.mirror.Ahead.{Leaves, Estimates}
use Rattle.cbor_grammar.specs.mirror.AtLevel.{body_read}
use Rattle.cbor_grammar.proofs.bytes.Heads.{bind_ok, then_ok, ok_is, guard_held}
use Rattle.cbor_bytes.proofs.reading.ChunkLengths.{after_length, by_length}

-- ---- strings of definite length

content_of : (kind : StringKind) (w : IntegerWidth) (s : List ℕ) (c : Chunk) → checked_chunk kind w s ≡ Ok c
    → c.bytes ≡ s
content_of Bytes w s c e = ap (λ (x : Chunk). x.bytes) (sym (ok_is (record { bytes = s; width = w }) c e))
content_of Text w s c e = ap (λ (x : Chunk). x.bytes)
    (sym (guard_held (is_utf8 s) refusal.Utf8 (record { bytes = s; width = w }) c e).1)

-- the bytes that were split off are the content
pub content_split : (kind : StringKind) (n : ℕ) (w : IntegerWidth) (b s after : List ℕ) (c : Chunk) (rest : List ℕ)
    → split_at n b ≡ Ok (s, after) → read_content kind n w b ≡ Ok (c, rest) → (c.bytes ≡ s) × (after ≡ rest)
unfolding read_content
content_split kind n w b s after c rest split e =
    let a = bind_ok (split_at n b) (λ s. checked_chunk kind w s.0 >>= λ c. Ok (c, s.1)) (c, rest) e in
    let same : a.0 ≡ (s, after) = ok_is a.0 (s, after) (sym a.1 ∙ split) in
    let m = bind_ok (checked_chunk kind w a.0.0) (λ c. Ok (c, a.0.1)) (c, rest) a.2 in
    let made = ok_is (m.0, a.0.1) (c, rest) m.2 in (
      ap (λ (x : Chunk × List ℕ). x.0.bytes) (sym made) ∙ content_of kind w a.0.0 m.0 m.1
          ∙ ap (λ (x : List ℕ × List ℕ). x.0) same,
      ap (λ (x : List ℕ × List ℕ). x.1) (sym same) ∙ ap (λ (x : Chunk × List ℕ). x.1) made,
    )

pub no_content : (kind : StringKind) (n : ℕ) (w : IntegerWidth) (b : List ℕ) (e : Error) (x : Chunk × List ℕ)
    → split_at n b ≡ Err e → read_content kind n w b ≡ Ok x → ⊥
unfolding read_content
no_content kind n w b e x fails is =
    let a = bind_ok (split_at n b) (λ s. checked_chunk kind w s.0 >>= λ c. Ok (c, s.1)) x is in
    let both : Err e ≡ Ok a.0 = sym fails ∙ a.1 in
    cc

pub string_found : (found : Option Ahead) (budget : ℕ) (kind : StringKind) (n : ℕ) (w : IntegerWidth) (b : List ℕ)
    → ((c : Chunk) (rest : List ℕ) → read_content kind n w b ≡ Ok (c, rest)
    → Leaves found budget (estimated_string kind c) rest)
    → Estimates found budget (body_read (item_head.String kind (Number n w)) b)
string_found found budget kind n w b finds levels i rest is =
    let a = bind_ok (read_content kind n w b) (λ c. Ok (atom (string kind c.0), c.1)) (i, rest) is in
    subst (λ (x : Item × List ℕ). Leaves found budget (estimated_length x.0) x.1)
    (ok_is (atom (string kind a.0.0), a.0.1) (i, rest) a.2) (finds a.0.0 a.0.1 a.1)

-- ---- chunks

-- reading chunks takes up the next one, or the break
next_read : (kind : StringKind) (n : ℕ) (b : List ℕ) (y : List Chunk × List ℕ) → (read_chunks n kind b).1 ≡ Ok y
    → (m : ℕ) × (o : Option Chunk × List ℕ)
    × ((read_chunk_length (major_of kind) b >>= λ n. after_length kind n.0 n.1) ≡ Ok o)
    × ((more_chunks (read_chunks m kind) o.0 o.1).1 ≡ Ok y)
unfolding read_chunks
next_read kind zero b y e = absurd cc
next_read kind (suc n) b y e =
    let t = then_ok (1, read_chunk kind b) (λ c. more_chunks (read_chunks n kind) c.0 c.1) y e in
    (n, t.0, sym (by_length kind b) ∙ t.1, t.2)

-- After the chunks so far this is left of the budget, and these bytes.
abbrev pub ChunksSoFar : ℕ → StringKind → List ℕ → ℕ → List ℕ → Type 0
ChunksSoFar budget kind b left rest = (x : List Chunk × List ℕ) → (read_chunks (length b) kind b).1 ≡ Ok x
    → (n : ℕ) × (y : List Chunk × List ℕ) × ((read_chunks n kind rest).1 ≡ Ok y) × (y.1 ≡ x.1)
    × (left - estimated_chunks kind y.0 ≡ budget - estimated_chunks kind x.0)

pub no_chunks_yet : (budget : ℕ) (kind : StringKind) (b : List ℕ) → ChunksSoFar budget kind b budget b
no_chunks_yet budget kind b x is = (length b, x, is, refl, refl)

one_chunk : (kind : StringKind) (n : ℕ) (b : List ℕ) (y : List Chunk × List ℕ) (k : ℕ) (w : IntegerWidth) (mid : List ℕ)
    → read_chunk_length (major_of kind) b ≡ Ok (Some (k, w), mid) → (read_chunks n kind b).1 ≡ Ok y
    → (m : ℕ) × (c : Chunk × List ℕ) × (z : List Chunk × List ℕ) × (read_content kind k w mid ≡ Ok c)
    × ((read_chunks m kind c.1).1 ≡ Ok z) × ((c.0 ∷ z.0, z.1) ≡ y)
one_chunk kind n b y k w mid len is =
    let t = next_read kind n b y is in
    let here : (read_content kind k w mid >>= λ c. Ok (Some c.0, c.1)) ≡ Ok t.1 =
    sym (ap (λ r. r >>= λ n. after_length kind n.0 n.1) len) ∙ t.2 in
    let c = bind_ok (read_content kind k w mid) (λ c. Ok (Some c.0, c.1)) t.1 here in
    let found = ok_is (Some c.0.0, c.0.1) t.1 c.2 in
    let more : (more_chunks (read_chunks t.0 kind) (Some c.0.0) c.0.1).1 ≡ Ok y =
    subst (λ (o : Option Chunk × List ℕ). (more_chunks (read_chunks t.0 kind) o.0 o.1).1 ≡ Ok y) (sym found) t.3 in
    let z = then_ok (read_chunks t.0 kind c.0.1) (λ cs. (0, Ok (c.0.0 ∷ cs.0, cs.1))) y more in
    (t.0, c.0, z.0, c.1, z.1, ok_is (c.0.0 ∷ z.0.0, z.0.1) y z.2)

-- the string that is read is one of these chunks
abbrev as_item : StringKind → List Chunk × List ℕ → Item × List ℕ
as_item kind x = (atom (chunked_string kind x.0), x.1)

whole_chunks : (kind : StringKind) (b : List ℕ) (levels : ℕ) (y : Item × List ℕ)
    → body_read (item_head.String kind Indefinite) b levels ≡ Ok y
    → (x : List Chunk × List ℕ) × ((read_chunks (length b) kind b).1 ≡ Ok x) × (as_item kind x ≡ y)
whole_chunks kind b levels y is =
    let x = then_ok (read_chunks (length b) kind b) (λ cs. (0, Ok (as_item kind cs))) y is in
    (x.0, x.1, ok_is (as_item kind x.0) y x.2)

pub one_chunk_more : (budget : ℕ) (kind : StringKind) (b : List ℕ) (left : ℕ) (rest : List ℕ) (k : ℕ) (w : IntegerWidth)
    (mid : List ℕ) (a : Ahead) → ChunksSoFar budget kind b left rest
    → read_chunk_length (major_of kind) rest ≡ Ok (Some (k, w), mid)
    → ((c : Chunk) (after : List ℕ) → read_content kind k w mid ≡ Ok (c, after)
    → Leaves (Some a) left (estimated_string kind c) after)
    → ChunksSoFar budget kind b (a.left - 2) a.rest.now
one_chunk_more budget kind b left rest k w mid a so_far len finds x is =
    let s = so_far x is in
    let t = one_chunk kind s.0 rest s.1 k w mid len s.2 in
    let found = finds t.1.0 t.1.1 t.3 in
    let whole : estimated_chunks kind s.1.0 ≡ (estimated_string kind t.1.0 + 2) + estimated_chunks kind t.2.0 =
    ap (λ (y : List Chunk × List ℕ). estimated_chunks kind y.0) (sym t.5)
    ∙ sum_by-cons (λ c. estimated_string kind c + 2) t.1.0 t.2.0 in (
      t.0,
      t.2,
      ap (λ z. (read_chunks t.0 kind z).1) found.2 ∙ t.4,
      ap (λ (y : List Chunk × List ℕ). y.1) t.5 ∙ s.3,
      omega (arith, whole, found.0, found.1, s.4),
    )

pub chunk_takes_all : (budget : ℕ) (kind : StringKind) (b : List ℕ) (left : ℕ) (rest : List ℕ) (k : ℕ)
    (w : IntegerWidth) (mid : List ℕ) → ChunksSoFar budget kind b left rest
    → read_chunk_length (major_of kind) rest ≡ Ok (Some (k, w), mid)
    → ((c : Chunk) (after : List ℕ) → read_content kind k w mid ≡ Ok (c, after)
    → Leaves None left (estimated_string kind c) after)
    → Estimates None (4 + budget) (body_read (item_head.String kind Indefinite) b)
chunk_takes_all budget kind b left rest k w mid so_far len finds levels i after is =
    let x = whole_chunks kind b levels (i, after) is in
    let s = so_far x.0 x.1 in
    let t = one_chunk kind s.0 rest s.1 k w mid len s.2 in
    let found : left ≤ estimated_string kind t.1.0 = finds t.1.0 t.1.1 t.3 in
    let whole : estimated_chunks kind s.1.0 ≡ (estimated_string kind t.1.0 + 2) + estimated_chunks kind t.2.0 =
    ap (λ (y : List Chunk × List ℕ). estimated_chunks kind y.0) (sym t.5)
    ∙ sum_by-cons (λ c. estimated_string kind c + 2) t.1.0 t.2.0 in
    let all : estimated_length i ≡ 4 + estimated_chunks kind x.0.0 =
    ap (λ (y : Item × List ℕ). estimated_length y.0)
    (sym x.2) in
    omega (arith, whole, found, s.4, all)

pub chunks_found : (found : Option Ahead) (budget : ℕ) (kind : StringKind) (b : List ℕ) (left : ℕ) (rest after : List ℕ)
    → ChunksSoFar budget kind b left rest → read_chunk_length (major_of kind) rest ≡ Ok (None, after)
    → ((all size : ℕ) → left ≡ all - size → Leaves found all size after)
    → Estimates found (4 + budget) (body_read (item_head.String kind Indefinite) b)
chunks_found found budget kind b left rest after so_far len finds levels i end is =
    let x = whole_chunks kind b levels (i, end) is in
    let s = so_far x.0 x.1 in
    let t = next_read kind s.0 rest s.1 s.2 in
    let here : (None, after) ≡ t.1 = ok_is (None, after) t.1
    (sym (ap (λ r. r >>= λ n. after_length kind n.0 n.1) len) ∙ t.2) in
    let last : ([], after) ≡ s.1 = ok_is ([], after) s.1
    (subst (λ (o : Option Chunk × List ℕ). (more_chunks (read_chunks t.0 kind) o.0 o.1).1 ≡ Ok s.1) (sym here) t.3) in
    let none : estimated_chunks kind s.1.0 ≡ 0 =
    ap (λ (y : List Chunk × List ℕ). estimated_chunks kind y.0) (sym last) in
    let rest_is : after ≡ x.0.1 = ap (λ (y : List Chunk × List ℕ). y.1) last ∙ s.3 in
    subst (λ (y : Item × List ℕ). Leaves found (4 + budget) (estimated_length y.0) y.1)
    x.2
    (subst (λ z. Leaves found (4 + budget) (4 + estimated_chunks kind x.0.0) z) rest_is
    (finds (4 + budget) (4 + estimated_chunks kind x.0.0) (omega (arith, none, s.4))))

pub chunk_unread : (budget : ℕ) (kind : StringKind) (b : List ℕ) (left : ℕ) (rest : List ℕ) (e : Error)
    → ChunksSoFar budget kind b left rest → read_chunk_length (major_of kind) rest ≡ Err e
    → Estimates None (4 + budget) (body_read (item_head.String kind Indefinite) b)
chunk_unread budget kind b left rest e so_far fails levels i after is =
    let x = whole_chunks kind b levels (i, after) is in
    let s = so_far x.0 x.1 in
    let t = next_read kind s.0 rest s.1 s.2 in
    let wrong : Err e ≡ Ok t.1 = sym (ap (λ r. r >>= λ n. after_length kind n.0 n.1) fails) ∙ t.2 in
    absurd cc
