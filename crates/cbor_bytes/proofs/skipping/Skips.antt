-- For `skip.rt`: skipping the content of a string, the length of a chunk or the head of an item goes on with what
-- follows (`Goes`), or stops because the bytes are cut or show a fault (`StopsSo`). If a first step goes on, both steps
-- together have the result of the second one on the bytes that are left.
use Rattle.std.proofs.Common.{◌≡◌, ◌≢◌, ℕ, zero, suc, ◌-◌, ◌/◌, ◌%◌, ◌<◌, ◌≤◌, List, [], ◌∷◌, ◌++◌, length}
use Rattle.std.proofs.Common.{take, drop, Option, Some, None, Ok, Err, ◌⊎◌, inl, inr, refl, sym, ap, subst, ◌∙◌}
use Rattle.std.proofs.Common.{append_assoc, arith}
use Rattle.std.specs.Prelude.{IsUtf8}
use Rattle.std.proofs.lemmas.Bool.{cases_eq, eq-eqb, ne_eqb}
use Rattle.std.proofs.lemmas.List.{append-nil, length-append, length-take, take-append-drop}
use Rattle.std.proofs.lemmas.Str.{IsUtf8-nil}
use Rattle.cbor_grammar.specs.declared.width.IntegerWidth.{IntegerWidth}
use Rattle.cbor_grammar.specs.declared.error.Error.{Error}
use Rattle.cbor_grammar.specs.declared.error.Error.TheVariants as refusal
use Rattle.cbor_grammar.specs.declared.argument.Argument.{Argument}
use Rattle.cbor_grammar.specs.declared.argument.Argument.TheVariants.{Number, Indefinite}
use Rattle.cbor_grammar.specs.declared.head.ItemHead.{ItemHead}
use Rattle.cbor_bytes.specs.declared.skip.Stop.{Stop}
use Rattle.cbor_bytes.specs.declared.skip.Stop.TheVariants as stops
use Rattle.cbor_grammar.specs.Item.{Chunk}
use Rattle.cbor_grammar.specs.Head.{break_byte}
use Rattle.cbor_grammar.specs.declared.strings.StringKind.{StringKind}
use Rattle.cbor_grammar.specs.declared.strings.StringKind.TheVariants.{Bytes, Text}
use Rattle.cbor_grammar.specs.StringKind.{major_of, IsContent}
use Rattle.cbor_grammar.specs.Refused.{BadHead, no_info, no_length}
use Rattle.cbor_grammar.specs.Reading.{Read, ◌>>=◌, read_argument, head_of, read_head, read_content, length_of}
use Rattle.cbor_grammar.specs.Reading.{read_chunk_length, read_chunk}
use Rattle.cbor_grammar.specs.Reading.{Counted, go_on, ◌>>-◌, more_chunks, read_chunks, opened, read_body, counted_item}
use Rattle.cbor_bytes.specs.mirror.Skipping.{Skip, rest_of, here, Goes, FailsAt, StopsSo, stop_of, skip_content}
use Rattle.cbor_bytes.specs.mirror.Skipping.{skip_chunks, after_chunk_length, skip_item, skip_body}
use Rattle.cbor_grammar.specs.mirror.Counting.{read_item_head}
use Rattle.cbor_bytes.proofs.reading.ChunkLengths.{after_length, by_length}
use Rattle.cbor_grammar.proofs.bytes.Heads.{IsBytes, IsBytes-rest, bind_ok, ok_is, number_bytes, ArgumentIs, info_takes}
use Rattle.cbor_grammar.proofs.bytes.Heads.{info_again}
use Rattle.cbor_grammar.proofs.bytes.Shorter.{Leaves, chunk_leaves}
use Rattle.cbor_grammar.proofs.bytes.Chunks.{content_again}
use Rattle.cbor_grammar.proofs.bytes.HeadRefusals.{InfoRefusal, cut_info, bad_info, info_refused, info_refuses}
use Rattle.cbor_grammar.proofs.bytes.HeadRefusals.{info_opens, err_is}
use Rattle.cbor_grammar.proofs.bytes.HeadRefusals.{HeadRefusal, no_head, short_head, bad_head, head_refused, head_bad}
use Rattle.cbor_grammar.proofs.bytes.StringRefusals.{short_content, bad_content, content_refuses}
use Rattle.cbor_grammar.proofs.bytes.Refusals.{item_nothing}
use Rattle.cbor_grammar.proofs.bytes.Steps.{then_first, first_same}

-- ---- steps

-- no byte is skipped
pub goes_here : {f g : List ℕ → Skip} (b : List ℕ) → ((c : List ℕ) → f c ≡ g c) → Goes f g b b
goes_here b same = record { over = []; parts = refl; along = same }

pub goes_then : {f g h : List ℕ → Skip} {b r s : List ℕ} → Goes f g b r → Goes g h r s → Goes f h b s
goes_then {f = f} {s = s} x y = record {
  over = x.over ++ y.over;
  parts = x.parts ∙ ap (λ (z : List ℕ). x.over ++ z) y.parts ∙ sym (append_assoc x.over y.over s);
  along = λ c. ap f (append_assoc x.over y.over c) ∙ x.along (y.over ++ c) ∙ y.along c;
}

-- what was skipped before the same step
pub goes_within : {f g : List ℕ → Skip} {b r : List ℕ} (F : Skip → Skip) → Goes f g b r
    → Goes (λ c. F (f c)) (λ c. F (g c)) b r
goes_within F x = record { over = x.over; parts = x.parts; along = λ c. ap F (x.along c) }

-- another way to say where it goes on
pub goes_from : {f g h : List ℕ → Skip} {b r : List ℕ} → ((c : List ℕ) → f c ≡ g c) → Goes g h b r → Goes f h b r
goes_from same x = record { over = x.over; parts = x.parts; along = λ c. same (x.over ++ c) ∙ x.along c }

-- the result of skipping at these bytes
pub goes_at : {f g : List ℕ → Skip} {b r : List ℕ} → Goes f g b r → f b ≡ g r
goes_at {f = f} {r = r} x = ap f x.parts ∙ x.along r

pub shows_then : {f g : List ℕ → Skip} {b r : List ℕ} {e : Error} {after : ℕ} → Goes f g b r → FailsAt g r e after
    → FailsAt f b e after
shows_then {f = f} x s = record {
  before = x.over ++ s.before;
  last = s.last;
  behind = s.behind;
  parts = x.parts ∙ ap (λ (z : List ℕ). x.over ++ z) s.parts ∙ sym (append_assoc x.over s.before (s.last ∷ s.behind));
  count = s.count;
  cut = x.along s.before ∙ s.cut;
  fails = ap f (append_assoc x.over s.before (s.last ∷ [])) ∙ x.along (s.before ++ s.last ∷ []) ∙ s.fails;
  other = s.other;
}

pub stops_then : {f g : List ℕ → Skip} {b r : List ℕ} (stop : Stop) → Goes f g b r → StopsSo g r stop → StopsSo f b stop
stops_then stops.Cut x s = goes_at x ∙ s
stops_then (stops.Fault e after) x s = shows_then x s

pub stops_within : (f : List ℕ → Skip) (b : List ℕ) (stop : Stop) (F : Skip → Skip) → ((e : Error) → F (Err e) ≡ Err e)
    → StopsSo f b stop → StopsSo (λ c. F (f c)) b stop
stops_within f b stops.Cut F keeps s = ap F s ∙ keeps refusal.CutShort
stops_within f b (stops.Fault e after) F keeps s = record {
  before = s.before;
  last = s.last;
  behind = s.behind;
  parts = s.parts;
  count = s.count;
  cut = ap F s.cut ∙ keeps refusal.CutShort;
  fails = ap F s.fails ∙ keeps e;
  other = s.other;
}

pub stops_from : (f g : List ℕ → Skip) (b : List ℕ) (stop : Stop) → ((c : List ℕ) → f c ≡ g c) → StopsSo g b stop
    → StopsSo f b stop
stops_from f g b stop same s = stops_then stop (goes_here b same) s

-- the first byte shows it
pub shows_first : (f : List ℕ → Skip) (first : ℕ) (b : List ℕ) (e : Error) → f [] ≡ Err refusal.CutShort
    → f (first ∷ []) ≡ Err e → e ≢ refusal.CutShort → FailsAt f (first ∷ b) e (length (first ∷ b) - 1)
shows_first f first b e cut fails other = record {
  before = [];
  last = first;
  behind = b;
  parts = refl;
  count = omega arith;
  cut = cut;
  fails = fails;
  other = other;
}

-- a stop is a cut, or an error
stop_either : (from : List ℕ → Skip) (b : List ℕ) (e : Error) (after : ℕ)
    → (e ≡ refusal.CutShort → from b ≡ Err refusal.CutShort) → (e ≢ refusal.CutShort → FailsAt from b e after)
    → StopsSo from b (stop_of e after)
stop_either from b refusal.CutShort after cut shows = cut refl
stop_either from b e after cut shows = shows (λ same. absurd cc)

-- ---- what is forgotten

pub bind_here : (r : Skip) → (r >>= here) ≡ r
bind_here (Ok b) = refl
bind_here (Err e) = refl

pub rest_made : {X Y : Type 0} (r : Read X) (f : X → Y) → rest_of (r >>= λ x. Ok (f x.0, x.1)) ≡ rest_of r
rest_made (Ok x) f = refl
rest_made (Err e) f = refl

-- one after the other
pub rest_then : {X Y : Type 0} (c : Counted X) (f : X × List ℕ → Counted Y) (g : List ℕ → Skip)
    → ((x : X × List ℕ) → c.1 ≡ Ok x → rest_of (f x).1 ≡ g x.1) → rest_of (c >>- f).1 ≡ (rest_of c.1 >>= g)
rest_then {X = X} {Y = Y} c f g same = go c.0 c.1 same
  where
    go : (n : ℕ) (r : Read X) → ((x : X × List ℕ) → r ≡ Ok x → rest_of (f x).1 ≡ g x.1)
        → rest_of (go_on n r f).1 ≡ (rest_of r >>= g)
    go n (Ok x) same = same x refl
    go n (Err e) same = refl

-- ---- contents

-- a list has a last, or nothing
last_ways : (x : List ℕ) → (x ≡ []) ⊎ ((front : List ℕ) × (last : ℕ) × (x ≡ front ++ last ∷ []))
last_ways [] = inl refl
last_ways (first ∷ x) =
    elim (last_ways x) [
      | inl none ↦ inr ([], first, ap (λ (z : List ℕ). first ∷ z) none)
      | inr more ↦ inr (first ∷ more.0, more.1, ap (λ (z : List ℕ). first ∷ z) more.2)
    ]

pub content_cut : (kind : StringKind) (n : ℕ) (w : IntegerWidth) (b : List ℕ) → length b < n
    → skip_content kind n w b ≡ Err refusal.CutShort
content_cut kind n w b short = ap rest_of (content_refuses kind n w b refusal.CutShort (short_content short))

pub content_goes : (kind : StringKind) (n : ℕ) (w : IntegerWidth) (b : List ℕ) → n ≤ length b
    → IsContent kind (take n b) → Goes (skip_content kind n w) here b (drop n b)
content_goes kind n w b long holds =
    let chunk : Chunk = record { bytes = take n b; width = w } in
    let count : n ≡ length (take n b) = omega (arith, length-take n b) in
    record {
      over = take n b;
      parts = sym (take-append-drop n b);
      along = λ c. ap (λ k. skip_content kind k w (take n b ++ c)) count
          ∙ ap rest_of (content_again kind chunk c holds);
    }

content_bad : (n : ℕ) (w : IntegerWidth) (b : List ℕ) → n ≤ length b → ¬ (IsUtf8 (take n b))
    → FailsAt (skip_content Text n w) b refusal.Utf8 (length (drop n b))
content_bad n w b long bad =
    elim (last_ways (take n b)) [
      | inl none ↦ absurd (bad (rw none IsUtf8-nil))
      | inr at ↦
          let count : length (at.0 ++ at.1 ∷ []) ≡ n = omega (arith, length-take n b, ap length at.2) in
          record {
            before = at.0;
            last = at.1;
            behind = drop n b;
            parts = sym (take-append-drop n b) ∙ ap (λ (z : List ℕ). z ++ drop n b) at.2
                ∙ append_assoc at.0 (at.1 ∷ []) (drop n b);
            count = refl;
            cut = content_cut Text n w at.0 (omega (arith, length-append at.0 (at.1 ∷ [])));
            fails = ap rest_of (content_refuses Text n w (at.0 ++ at.1 ∷ []) refusal.Utf8
                (bad_content (at.0 ++ at.1 ∷ []) [] (sym (append-nil (at.0 ++ at.1 ∷ []))) count (rw (← at.2) bad)));
            other = λ e. absurd cc;
          }
    ]

pub content_shows : (kind : StringKind) (n : ℕ) (w : IntegerWidth) (b : List ℕ) → n ≤ length b
    → ¬ (IsContent kind (take n b)) → FailsAt (skip_content kind n w) b refusal.Utf8 (length (drop n b))
content_shows Bytes n w b long bad = absurd (bad tt)
content_shows Text n w b long bad = content_bad n w b long bad

-- ---- chunks

-- how many chunks are looked for at most makes no difference
chunks_same : (n m : ℕ) (kind : StringKind) (b : List ℕ) → length b ≤ n → length b ≤ m
    → (read_chunks n kind b).1 ≡ (read_chunks m kind b).1
unfolding read_chunks read_chunk
chunks_same zero zero kind b le_n le_m = refl
chunks_same zero (suc m) kind [] le_n le_m = refl
chunks_same zero (suc m) kind (first ∷ b) le_n le_m = absurd (omega arith)
chunks_same (suc n) zero kind [] le_n le_m = refl
chunks_same (suc n) zero kind (first ∷ b) le_n le_m = absurd (omega arith)
chunks_same (suc n) (suc m) kind b le_n le_m =
    first_same (1, read_chunk kind b) _ _ (λ c e.
    let lt : length c.1 < length b = subst (Leaves (length b)) e (chunk_leaves kind b) in
    more_same c.0 c.1 (chunks_same n m kind c.1 (omega arith) (omega arith)))
  where
    more_same : (o : Option Chunk) (r : List ℕ) → (read_chunks n kind r).1 ≡ (read_chunks m kind r).1
        → (more_chunks (read_chunks n kind) o r).1 ≡ (more_chunks (read_chunks m kind) o r).1
    more_same None r same = refl
    more_same (Some c) r same = then_first (read_chunks n kind r) (read_chunks m kind r) _ same

-- what becomes of chunks after the next one, if there is one
abbrev chunk_then : StringKind → Option Chunk → List ℕ → Skip
chunk_then kind None r = here r
chunk_then kind (Some c) r = skip_chunks kind r

abbrev chunks_after : StringKind → Read (Option Chunk) → Skip
chunks_after kind (Ok x) = chunk_then kind x.0 x.1
chunks_after kind (Err e) = Err e

one_then : (kind : StringKind) (n : ℕ) (o : Option Chunk) (r : List ℕ) → length r ≤ n
    → rest_of (more_chunks (read_chunks n kind) o r).1 ≡ chunk_then kind o r
one_then kind n None r le = refl
one_then kind n (Some c) r le = rest_then (read_chunks n kind r) _ here (λ cs e. refl)
    ∙ bind_here (rest_of (read_chunks n kind r).1) ∙ ap rest_of (chunks_same n (length r) kind r le (omega arith))

next_then : (kind : StringKind) (n : ℕ) (read : Read (Option Chunk)) → Leaves (suc n) read
    → rest_of ((1, read) >>- λ c. more_chunks (read_chunks n kind) c.0 c.1).1 ≡ chunks_after kind read
next_then kind n (Ok x) lt = one_then kind n x.0 x.1 (omega arith)
next_then kind n (Err e) lt = refl

none_next : (kind : StringKind) → skip_chunks kind [] ≡ chunks_after kind (read_chunk kind [])
unfolding read_chunks read_chunk
none_next kind = refl

chunks_next : (kind : StringKind) (b : List ℕ) → skip_chunks kind b ≡ chunks_after kind (read_chunk kind b)
unfolding read_chunks
chunks_next kind [] = none_next kind
chunks_next kind (first ∷ b) = next_then kind (length b) (read_chunk kind (first ∷ b)) (chunk_leaves kind (first ∷ b))

-- the same by the length of the next one
chunks_by_length : (kind : StringKind) (b : List ℕ)
    → skip_chunks kind b ≡ (read_chunk_length (major_of kind) b >>= λ n. after_chunk_length kind n.0 n.1)
chunks_by_length kind b = chunks_next kind b ∙ ap (chunks_after kind) (by_length kind b)
    ∙ then_more (read_chunk_length (major_of kind) b)
  where
    content_then : (read : Read Chunk) → chunks_after kind (read >>= λ c. Ok (Some c.0, c.1))
        ≡ (rest_of read >>= skip_chunks kind)
    content_then (Ok x) = refl
    content_then (Err e) = refl

    then_more : (read : Read (Option (ℕ × IntegerWidth)))
        → chunks_after kind (read >>= λ n. after_length kind n.0 n.1)
        ≡ (read >>= λ n. after_chunk_length kind n.0 n.1)
    then_more (Ok (None, c)) = refl
    then_more (Ok (Some n, c)) = content_then (read_content kind n.0 n.1 c)
    then_more (Err e) = refl

-- the three ways of a first byte, whatever is after it: a break, a head of that major type, and what can't be there
pub length_ways : (major first : ℕ)
    → ((c : List ℕ) → read_chunk_length major (first ∷ c) ≡ Ok (None, c))
    ⊎ (((c : List ℕ) → read_chunk_length major (first ∷ c) ≡ (read_argument (first % 32) c >>= λ a. length_of a.0 a.1))
    ⊎ ((c : List ℕ) → read_chunk_length major (first ∷ c) ≡ Err refusal.Head))
unfolding read_chunk_length
length_ways major first =
    elim (cases_eq first break_byte) [
      | inl is ↦ inl (λ c. rw (eq-eqb first break_byte is) refl)
      | inr no_break ↦ elim (cases_eq (first / 32) major) [
        | inl is ↦ inr (inl (λ c. rw (ne_eqb first break_byte no_break, eq-eqb (first / 32) major is) refl))
        | inr other ↦ inr (inr (λ c. rw (ne_eqb first break_byte no_break, ne_eqb (first / 32) major other) refl))
      ]
    ]

-- the number after five bits of info, whatever is after it
info_over : (bits : ℕ) (i : Argument) (b rest : List ℕ) → ArgumentIs bits i b rest
    → (x : List ℕ) × (b ≡ x ++ rest) × ((c : List ℕ) → read_argument bits (x ++ c) ≡ Ok (i, c))
info_over bits (Number n w) b rest is =
    (number_bytes w n, is.2, λ c. ap (λ k. read_argument k (number_bytes w n ++ c)) is.1 ∙ info_again w n c is.0)
info_over bits Indefinite b rest is = ([], is.1, λ c. info_opens bits c is.0)

-- the head of a chunk, whatever is after it
length_over : (major : ℕ) (o : Option (ℕ × IntegerWidth)) (b rest : List ℕ) → IsBytes b
    → read_chunk_length major b ≡ Ok (o, rest)
    → (x : List ℕ) × (b ≡ x ++ rest) × ((c : List ℕ) → read_chunk_length major (x ++ c) ≡ Ok (o, c))
unfolding read_chunk_length
length_over major o [] rest fits e = absurd cc
length_over major o (first ∷ b) rest fits e =
    elim (length_ways major first) [
      | inl way ↦
          let is = ok_is (None, b) (o, rest) (sym (way b) ∙ e) in (
            first ∷ [],
            ap (λ (p : Option (ℕ × IntegerWidth) × List ℕ). first ∷ p.1) is,
            λ c. way c ∙ ap (λ (p : Option (ℕ × IntegerWidth) × List ℕ). Ok (p.0, c)) is,
          )
      | inr ways ↦ elim ways [
        | inl way ↦
            let a = bind_ok (read_argument (first % 32) b) (λ a. length_of a.0 a.1) (o, rest) (sym (way b) ∙ e) in
            let at = number_at a.0.0 a.0.1 a.2 in
            let f = info_over (first % 32) a.0.0 b rest
            (info_takes (first % 32) b rest a.0.0 (IsBytes-rest first b fits)
            (a.1 ∙ ap (λ (r : List ℕ). Ok (a.0.0, r)) at.0)) in (
              first ∷ f.0,
              ap (λ (z : List ℕ). first ∷ z) f.1,
              λ c. way (f.0 ++ c) ∙ ap (λ q. q >>= λ a. length_of a.0 a.1) (f.2 c) ∙ at.1 c,
            )
        | inr way ↦ absurd (let wrong = sym (way b) ∙ e in cc)
      ]
    ]
  where
    number_at : (i : Argument) (r : List ℕ) → length_of i r ≡ Ok (o, rest)
        → (r ≡ rest) × ((c : List ℕ) → length_of i c ≡ Ok (o, c))
    number_at (Number n w) r e =
        let is = ok_is (Some (n, w), r) (o, rest) e in (
          ap (λ (p : Option (ℕ × IntegerWidth) × List ℕ). p.1) is,
          λ c. ap (λ (p : Option (ℕ × IntegerWidth) × List ℕ). Ok (p.0, c)) is,
        )
    number_at Indefinite r e = absurd cc

pub length_goes : (kind : StringKind) (o : Option (ℕ × IntegerWidth)) (b rest : List ℕ) → IsBytes b
    → read_chunk_length (major_of kind) b ≡ Ok (o, rest) → Goes (skip_chunks kind) (after_chunk_length kind o) b rest
length_goes kind o b rest fits e =
    let f = length_over (major_of kind) o b rest fits e in
    record {
      over = f.0;
      parts = f.1;
      along = λ c. chunks_by_length kind (f.0 ++ c) ∙ ap (λ q. q >>= λ n. after_chunk_length kind n.0 n.1) (f.2 c);
    }

bad_info_from : {bits : ℕ} {b : List ℕ} {e : Error} → InfoRefusal bits b e → e ≢ refusal.CutShort
    → InfoRefusal bits [] refusal.Head × (refusal.Head ≡ e)
bad_info_from (cut_info k small is short) other = absurd (other refl)
bad_info_from (bad_info least most) other = (bad_info least most, refl)

-- no chunk begins so, which the first byte shows
bad_length : (major first : ℕ) (b : List ℕ) (e : Error) → IsBytes b → read_chunk_length major (first ∷ b) ≡ Err e
    → e ≢ refusal.CutShort → (read_chunk_length major (first ∷ []) ≡ Err refusal.Head) × (refusal.Head ≡ e)
bad_length major first b e fits h other =
    elim (length_ways major first) [
      | inl way ↦ absurd (let wrong = sym (way b) ∙ h in cc)
      | inr ways ↦ elim ways [
        | inl way ↦
            let bad = alone (read_argument (first % 32) b) refl (sym (way b) ∙ h) in
            (way [] ∙ bad.0, bad.1)
        | inr way ↦ (way [], err_is (read_chunk_length major (first ∷ b)) refusal.Head e (way b) h)
      ]
    ]
  where
    alone : (r : Read Argument) → read_argument (first % 32) b ≡ r → (r >>= λ a. length_of a.0 a.1) ≡ Err e
        → ((read_argument (first % 32) [] >>= λ a. length_of a.0 a.1) ≡ Err refusal.Head) × (refusal.Head ≡ e)
    alone (Ok (Number n w, c)) is h = absurd cc
    alone (Ok (Indefinite, c)) is h =
        let at = info_takes (first % 32) b c Indefinite fits is in
        (ap (λ q. q >>= λ a. length_of a.0 a.1) (info_opens (first % 32) [] at.0), cc)
    alone (Err d) is h =
        let same : d ≡ e = cc in
        let bad = bad_info_from
        (info_refused (first % 32) b e (omega arith) (is ∙ ap (λ (x : Error). Err x) same)) other in
        (ap (λ q. q >>= λ a. length_of a.0 a.1) (info_refuses (first % 32) [] refusal.Head bad.0), bad.1)

none_length : (major : ℕ) → read_chunk_length major [] ≡ Err refusal.CutShort
unfolding read_chunk_length
none_length major = refl

pub length_stops : (kind : StringKind) (b : List ℕ) (e : Error) → IsBytes b
    → read_chunk_length (major_of kind) b ≡ Err e → StopsSo (skip_chunks kind) b (stop_of e (length b - 1))
length_stops kind b e fits is =
    stop_either (skip_chunks kind) b e (length b - 1)
    (λ cut. refuses b refusal.CutShort (is ∙ ap (λ (d : Error). Err d) cut)) (shows b fits is)
  where
    refuses : (c : List ℕ) (d : Error) → read_chunk_length (major_of kind) c ≡ Err d → skip_chunks kind c ≡ Err d
    refuses c d h = chunks_by_length kind c ∙ ap (λ q. q >>= λ n. after_chunk_length kind n.0 n.1) h

    shows : (b : List ℕ) → IsBytes b → read_chunk_length (major_of kind) b ≡ Err e → e ≢ refusal.CutShort
        → FailsAt (skip_chunks kind) b e (length b - 1)
    shows [] fits h other =
        absurd (other (err_is (read_chunk_length (major_of kind) []) e refusal.CutShort h
        (none_length (major_of kind))))
    shows (first ∷ b) fits h other =
        let bad = bad_length (major_of kind) first b e (IsBytes-rest first b fits) h other in
        shows_first (skip_chunks kind) first b e (refuses [] refusal.CutShort (none_length (major_of kind)))
        (refuses (first ∷ []) e (bad.0 ∙ ap (λ (d : Error). Err d) bad.1)) other

pub no_chunks : (kind : StringKind) → skip_chunks kind [] ≡ Err refusal.CutShort
unfolding read_chunks
no_chunks kind = refl

-- more chunks after a content
pub more_keeps : (kind : StringKind) (e : Error) → (Err e >>= skip_chunks kind) ≡ Err e
more_keeps kind e = refl

-- ---- heads

-- a head whose info is read, whatever is after it
head_reads : (h : ItemHead) (first : ℕ) (b c : List ℕ) (i : Argument) → head_of (first / 32) i ≡ Ok h
    → read_argument (first % 32) b ≡ Ok (i, c) → read_head (first ∷ b) ≡ Ok (h, c)
unfolding read_head
head_reads h first b c i named info = ap (λ r. r >>= λ i. head_of (first / 32) i.0 >>= λ h. Ok (h, i.1)) info
    ∙ ap (λ r. r >>= λ h. Ok (h, c)) named

-- a head that is read, whatever is after it
head_over : (h : ItemHead) (first : ℕ) (b rest : List ℕ) → IsBytes (first ∷ b) → read_head (first ∷ b) ≡ Ok (h, rest)
    → (x : List ℕ) × (b ≡ x ++ rest) × ((c : List ℕ) → read_head (first ∷ (x ++ c)) ≡ Ok (h, c))
unfolding read_head
head_over h first b rest fits e =
    let a = bind_ok (read_argument (first % 32) b) (λ i. head_of (first / 32) i.0 >>= λ h. Ok (h, i.1)) (h, rest) e in
    let o = bind_ok (head_of (first / 32) a.0.0) (λ h. Ok (h, a.0.1)) (h, rest) a.2 in
    let made = ok_is (o.0, a.0.1) (h, rest) o.2 in
    let named : head_of (first / 32) a.0.0 ≡ Ok h = o.1 ∙ ap (λ (p : ItemHead × List ℕ). Ok p.0) made in
    let info : read_argument (first % 32) b ≡ Ok (a.0.0, rest) = a.1
    ∙ ap (λ (p : ItemHead × List ℕ). Ok (a.0.0, p.1)) made in
    let f = info_over (first % 32) a.0.0 b rest
    (info_takes (first % 32) b rest a.0.0 (IsBytes-rest first b fits) info) in
    (f.0, f.1, λ c. head_reads h first (f.0 ++ c) c a.0.0 named (f.2 c))

pub head_goes : (left : ℕ) (h : ItemHead) (b rest : List ℕ) → IsBytes b → read_item_head left b ≡ Ok (h, rest)
    → Goes (skip_item left) (skip_body (left - 1) h) b rest
unfolding counted_item read_head
head_goes zero h b rest fits e = absurd cc
head_goes (suc left) h [] rest fits e = absurd cc
head_goes (suc left) h (first ∷ b) rest fits e =
    let f = head_over h first b rest fits e in
    let same : left ≡ suc left - 1 = omega arith in
    record {
      over = first ∷ f.0;
      parts = ap (λ (z : List ℕ). first ∷ z) f.1;
      along = λ c. ap (λ r. rest_of (go_on 1 r (λ h. read_body (counted_item left) (opened h.0) h.0 h.1)).1) (f.2 c)
          ∙ ap (λ l. skip_body l h c) same;
    }

bad_head_from : {b : List ℕ} {e : Error} → HeadRefusal b e → e ≢ refusal.CutShort → BadHead b × (refusal.Head ≡ e)
bad_head_from no_head other = absurd (other refl)
bad_head_from (short_head h) other = absurd (other refl)
bad_head_from (bad_head h) other = (h, refl)

-- a head that no item has, by its first byte alone
bad_alone : {first : ℕ} {b : List ℕ} → BadHead (first ∷ b) → BadHead (first ∷ [])
bad_alone (no_info least most) = no_info least most
bad_alone (no_length is major) = no_length is major

-- the first byte shows that no item begins so, or that it would be too deep
head_shows : (left : ℕ) (b : List ℕ) (e : Error) → IsBytes b → read_item_head left b ≡ Err e → e ≢ refusal.CutShort
    → FailsAt (skip_item left) b e (length b - 1)
unfolding counted_item read_head
head_shows zero [] e fits h other = absurd (let same : e ≡ refusal.CutShort = cc in other same)
head_shows zero (first ∷ b) e fits h other =
    let same : refusal.TooDeep ≡ e = cc in
    shows_first (skip_item 0) first b e refl (ap (λ (d : Error). Err d) same) other
head_shows (suc left) [] e fits h other = absurd (let same : e ≡ refusal.CutShort = cc in other same)
head_shows (suc left) (first ∷ b) e fits h other =
    let bad = bad_head_from (head_refused (first ∷ b) e fits h) other in
    shows_first (skip_item (suc left)) first b e (ap rest_of (item_nothing (suc left)))
    (ap (λ r. rest_of (go_on 1 r (λ h. read_body (counted_item left) (opened h.0) h.0 h.1)).1)
    (head_bad (first ∷ []) (bad_alone bad.0) ∙ ap (λ (d : Error). Err d) bad.1)) other

head_short : (left : ℕ) (b : List ℕ) → read_item_head left b ≡ Err refusal.CutShort
    → skip_item left b ≡ Err refusal.CutShort
unfolding counted_item
head_short zero b e = ap rest_of e
head_short (suc left) b e =
    ap (λ r. rest_of (go_on 1 r (λ h. read_body (counted_item left) (opened h.0) h.0 h.1)).1) e

pub head_stops : (left : ℕ) (b : List ℕ) (e : Error) → IsBytes b → read_item_head left b ≡ Err e
    → StopsSo (skip_item left) b (stop_of e (length b - 1))
head_stops left b e fits is =
    stop_either (skip_item left) b e (length b - 1)
    (λ cut. head_short left b (is ∙ ap (λ (d : Error). Err d) cut)) (head_shows left b e fits is)

pub no_item : (left : ℕ) → skip_item left [] ≡ Err refusal.CutShort
no_item left = ap rest_of (item_nothing left)
