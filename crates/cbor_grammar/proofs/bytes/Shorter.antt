-- If `read_item` reads an item, fewer bytes are left than before; the same holds if `read_chunk` reads a chunk or a
-- break. If an open container ends (`after_end`), no more bytes are left than before.
use Rattle.std.proofs.Common.{◌≡◌, ℕ, zero, suc, ◌/◌, ◌%◌, ◌<◌, ◌≤◌, cond, ltb, eqb, List, [], ◌∷◌, length, take, drop}
use Rattle.std.proofs.Common.{Option, Some, None, Result, Ok, Err, refl, ap, subst, arith}
use Rattle.std.specs.Int.{Width, byte_len, from_be_bytes}
use Rattle.std.proofs.lemmas.Bool.{cond_both}
use Rattle.std.proofs.lemmas.List.{length-drop}
use Rattle.cbor_grammar.specs.declared.width.IntegerWidth.{IntegerWidth}
use Rattle.cbor_grammar.specs.declared.error.Error.{Error}
use Rattle.cbor_grammar.specs.declared.error.Error.TheVariants as refusal
use Rattle.cbor_grammar.specs.declared.argument.Argument.{Argument}
use Rattle.cbor_grammar.specs.declared.argument.Argument.TheVariants.{Number, Indefinite}
use Rattle.cbor_grammar.specs.Item.{Chunk, string, Item, atom}
use Rattle.cbor_grammar.specs.declared.head.ItemHead.TheVariants as item_head
use Rattle.cbor_grammar.specs.declared.head.ItemHead.{ItemHead}
use Rattle.cbor_grammar.specs.Head.{break_byte}
use Rattle.cbor_grammar.specs.declared.strings.StringKind.{StringKind}
use Rattle.cbor_grammar.specs.StringKind.{major_of}
use Rattle.cbor_grammar.specs.Reading.{checked_chunk, Read, ◌>>=◌, read_number, read_wide, read_argument, head_of}
use Rattle.cbor_grammar.specs.Reading.{read_head, split_at, read_content, chunk_of, read_chunk, Counted, go_on, ◌>>-◌}
use Rattle.cbor_grammar.specs.Reading.{more_chunks, read_chunks, read_atom, Frame, items_in, pairs_in, value_of, tag_of}
use Rattle.cbor_grammar.specs.Reading.{tagged_with, opened, put, after_break, after_members, after_end, closed}
use Rattle.cbor_grammar.specs.Reading.{close_or}
use Rattle.cbor_grammar.specs.Reading.{parts_from, read_body, counted_item, read_item}
use Rattle.cbor_grammar.proofs.bytes.Heads.{info_way, in_byte, in_bytes, no_number, no_meaning}

-- fewer than n bytes are left where something was read
abbrev pub Leaves : {X : Type 0} → ℕ → Read X → Type 0
Leaves n (Ok x) = length x.1 < n
Leaves n (Err e) = Unit {0}

leaves_then : {X Y : Type 0} (n m : ℕ) (r : Read X) (f : X × List ℕ → Read Y) → Leaves n r
    → ((x : X × List ℕ) → length x.1 < n → Leaves m (f x)) → Leaves m (r >>= f)
leaves_then n m (Ok x) f h then = then x h
leaves_then n m (Err e) f h then = tt

-- a step that only makes a value of what was read
leaves_made : {X Y : Type 0} (n m : ℕ) (r : Read X) (f : X → Y) → n ≤ m → Leaves n r
    → Leaves m (r >>= λ x. Ok (f x.0, x.1))
leaves_made n m (Ok x) f le h = omega arith
leaves_made n m (Err e) f le h = tt

some_is : (x y : List ℕ) → Some x ≡ Some y → x ≡ y
some_is x y e = cc

leaves_cut : {X : Type 0} (n k : ℕ) (b : List ℕ) (x : X)
    → Leaves {X = X} (suc (length b)) (cond (ltb (length b) n) (Err refusal.CutShort) (Ok (x, drop k b)))
leaves_cut {X} n k b x = cond_both (ltb (length b) n) (Err refusal.CutShort) (Ok (x, drop k b))
    (Leaves {X = X} (suc (length b))) (λ e. tt) (λ e. omega (arith, length-drop k b))

wide_leaves : (w : Width) (width : IntegerWidth) (b : List ℕ) → Leaves (suc (length b)) (read_wide w width b)
unfolding read_wide
wide_leaves w width b = leaves_made (suc (length b)) (suc (length b)) (read_number w b) (λ n. Number n width)
    (omega arith) (leaves_cut (byte_len w) (byte_len w) b (from_be_bytes w (take (byte_len w) b)))

info_leaves : (bits : ℕ) (b : List ℕ) → Leaves (suc (length b)) (read_argument bits b)
info_leaves bits b =
    elim (info_way bits b) [
      | in_byte lt reads ↦ rw reads (omega arith)
      | in_bytes k w width info reads ↦ rw reads (wide_leaves w width b)
      | no_number is reads ↦ rw reads (omega arith)
      | no_meaning least other reads ↦ rw reads tt
    ]

made_leaves : {X : Type 0} (n : ℕ) (r : Result X Error) (rest : List ℕ) → length rest < n
    → Leaves n (r >>= λ x. Ok (x, rest))
made_leaves n (Ok x) rest lt = lt
made_leaves n (Err e) rest lt = tt

head_leaves : (b : List ℕ) → Leaves (length b) (read_head b)
unfolding read_head
head_leaves [] = tt
head_leaves (first ∷ b) = leaves_then (suc (length b)) (suc (length b)) (read_argument (first % 32) b) _
    (info_leaves (first % 32) b) (λ i lt. made_leaves (suc (length b)) (head_of (first / 32) i.0) i.1 lt)

content_leaves : (kind : StringKind) (n : ℕ) (w : IntegerWidth) (b : List ℕ)
    → Leaves (suc (length b)) (read_content kind n w b)
unfolding read_content
content_leaves kind n w b =
    leaves_then (suc (length b)) (suc (length b)) (split_at n b) _ (leaves_cut n n b (take n b))
    (λ s lt. made_leaves (suc (length b)) (checked_chunk kind w s.0) s.1 lt)

chunk_of_leaves : (kind : StringKind) (i : Argument) (b : List ℕ) → Leaves (suc (length b)) (chunk_of kind i b)
chunk_of_leaves kind (Number n w) b =
    leaves_made (suc (length b)) (suc (length b)) (read_content kind n w b) (λ c. Some c) (omega arith)
    (content_leaves kind n w b)
chunk_of_leaves kind Indefinite b = tt

leaves_less : {X : Type 0} (n m : ℕ) (r : Read X) → n ≤ m → Leaves n r → Leaves m r
leaves_less n m (Ok x) le h = omega arith
leaves_less n m (Err e) le h = tt

pub chunk_leaves : (kind : StringKind) (b : List ℕ) → Leaves (length b) (read_chunk kind b)
unfolding read_chunk
chunk_leaves kind [] = tt
chunk_leaves kind (first ∷ b) =
    let n : ℕ = suc (length b) in
    let others : Read (Option Chunk) = read_argument (first % 32) b >>= λ i. chunk_of kind i.0 i.1 in
    cond_both (eqb first break_byte) (Ok (None, b)) (cond (eqb (first / 32) (major_of kind)) others (Err refusal.Head))
    (Leaves {X = Option Chunk} n) (λ e. omega arith) (λ e.
    cond_both (eqb (first / 32) (major_of kind)) others (Err refusal.Head) (Leaves {X = Option Chunk} n)
    (λ f. leaves_then n n (read_argument (first % 32) b) _ (info_leaves (first % 32) b)
    (λ i lt. leaves_less (suc (length i.1)) n (chunk_of kind i.0 i.1) lt (chunk_of_leaves kind i.0 i.1)))
    (λ f. tt))

-- the same of counted steps
counted_leaves : {X Y : Type 0} (n m : ℕ) (c : Counted X) (f : X × List ℕ → Counted Y) → Leaves n c.1
    → ((x : X × List ℕ) → length x.1 < n → Leaves m (f x).1) → Leaves m (c >>- f).1
counted_leaves {X = X} {Y = Y} n m c f h then = go c.0 c.1 h
  where
    go : (t : ℕ) (r : Read X) → Leaves n r → Leaves m (go_on t r f).1
    go t (Ok x) h = then x h
    go t (Err e) h = tt

chunks_leaves : (n : ℕ) (kind : StringKind) (b : List ℕ) → Leaves (length b) (read_chunks n kind b).1
unfolding read_chunks
chunks_leaves zero kind b = tt
chunks_leaves (suc n) kind b =
    counted_leaves (length b) (length b) (1, read_chunk kind b) _ (chunk_leaves kind b)
    (λ c lt. more (length b) (read_chunks n kind) c.0 c.1 lt (chunks_leaves n kind c.1))
  where
    more : (m : ℕ) (read : List ℕ → Counted (List Chunk)) (o : Option Chunk) (r : List ℕ) → length r < m
        → Leaves (length r) (read r).1 → Leaves m (more_chunks read o r).1
    more m read None r lt h = lt
    more m read (Some c) r lt h = counted_leaves (length r) m (read r) _ h (λ cs less. omega arith)

-- ---- containers

break_leaves : (b after : List ℕ) → after_break b ≡ Some after → length after ≤ length b
break_leaves [] after e = absurd cc
break_leaves (first ∷ b) after e =
    cond_both (eqb first break_byte) (Some b) None (λ (o : Option (List ℕ)). o ≡ Some after
    → length after ≤ suc (length b)) (λ t is. omega (arith, ap length (some_is b after is))) (λ t is. absurd cc) e

members_leave : (a : Argument) (b after : List ℕ) → after_members a b ≡ Some after → length after ≤ length b
members_leave (Number zero w) b after e = omega (arith, ap length (some_is b after e))
members_leave (Number (suc n) w) b after e = absurd cc
members_leave Indefinite b after e = break_leaves b after e

pub end_leaves : (f : Frame) (b after : List ℕ) → after_end f b ≡ Some after → length after ≤ length b
end_leaves (items_in is a) b after e = members_leave a b after e
end_leaves (pairs_in ps a) b after e = members_leave a b after e
end_leaves (value_of ps k a) b after e = absurd cc
end_leaves (tag_of t w) b after e = absurd cc
end_leaves (tagged_with t w i) b after e = omega (arith, ap length (some_is b after e))

-- where a container may be closed
close_leaves : (n : ℕ) (i : Option Item) (o : Option (List ℕ)) (more : Counted Item)
    → ((after : List ℕ) → o ≡ Some after → length after < n) → Leaves n more.1 → Leaves n (close_or i o more).1
close_leaves n (Some i) (Some after) more ends h = ends after refl
close_leaves n (Some i) None more ends h = h
close_leaves n None o more ends h = h

module _ (read : List ℕ → Counted Item) (leaves : (b : List ℕ) → Leaves (length b) (read b).1) where
  parts_leave : (n : ℕ) (f : Frame) (b : List ℕ) → Leaves (suc (length b)) (parts_from n read f b).1
  unfolding parts_from
  parts_leave zero f b = tt
  parts_leave (suc n) f b =
      close_leaves (suc (length b)) (closed f) (after_end f b) _
      (λ after e. let le = end_leaves f b after e in omega arith)
      (counted_leaves (length b) (suc (length b)) (read b) _ (leaves b) (λ i lt.
      leaves_less (suc (length i.1)) (suc (length b)) (parts_from n read (put f i.0) i.1).1 (omega arith)
      (parts_leave n (put f i.0) i.1)))

  atom_leaves : (h : ItemHead) (b : List ℕ) → Leaves (suc (length b)) (read_atom h b).1
  atom_leaves (item_head.Integer n w) b = omega arith
  atom_leaves (item_head.Negative n w) b = omega arith
  atom_leaves (item_head.String kind (Number n w)) b =
      leaves_made (suc (length b)) (suc (length b)) (read_content kind n w b) (λ c. atom (string kind c)) (omega arith)
      (content_leaves kind n w b)
  atom_leaves (item_head.String kind Indefinite) b =
      counted_leaves (length b) (suc (length b)) (read_chunks (length b) kind b) _ (chunks_leaves (length b) kind b)
      (λ cs lt. omega arith)
  atom_leaves (item_head.Float bits w) b = omega arith
  atom_leaves (item_head.Simple n) b = omega arith
  atom_leaves _ b = tt

  body_leaves : (o : Option Frame) (h : ItemHead) (b : List ℕ) → Leaves (suc (length b)) (read_body read o h b).1
  body_leaves (Some f) h b = parts_leave (suc (length b)) f b
  body_leaves None h b = atom_leaves h b

item_leaves : (left : ℕ) (b : List ℕ) → Leaves (length b) (read_item left b)
unfolding counted_item
item_leaves zero b = tt
item_leaves (suc left) b =
    counted_leaves (length b) (length b) (1, read_head b) _ (head_leaves b)
    (λ h lt. leaves_less (suc (length h.1)) (length b) (read_body (counted_item left) (opened h.0) h.0 h.1).1 lt
    (body_leaves (counted_item left) (item_leaves left) (opened h.0) h.0 h.1))

pub item_shorter : (left : ℕ) (b : List ℕ) (i : Item) (rest : List ℕ) → read_item left b ≡ Ok (i, rest)
    → length rest < length b
item_shorter left b i rest e = subst (Leaves (length b)) e (item_leaves left b)
