-- A loop that reads one chunk of an indefinite string in each turn gives the result and the turns of `read_chunks`:
-- after one more chunk, at the break, and if a chunk fails or memory runs out (`FailsIn`). Also, if a counted step
-- fails, the steps that begin with it fail with the same error.
use Rattle.std.proofs.Common.{◌≡◌, ℕ, zero, suc, ◌+◌, ◌<◌, ◌≤◌, List, [], ◌∷◌, ◌++◌, length, Some, None, Ok, Err, refl}
use Rattle.std.proofs.Common.{sym, ap, subst, ◌∙◌, append_assoc, arith}
use Rattle.std.proofs.lemmas.List.{append-nil}
use Rattle.cbor_grammar.specs.declared.error.Error.{Error}
use Rattle.cbor_grammar.specs.declared.error.Error.TheVariants as refusal
use Rattle.cbor_grammar.specs.Item.{Chunk}
use Rattle.cbor_grammar.specs.declared.strings.StringKind.{StringKind}
use Rattle.cbor_grammar.specs.Reading.{Read, Fails, read_chunk, Counted, later, go_on, ◌>>-◌, more_chunks, read_chunks}
use Rattle.cbor_grammar.specs.mirror.Counting.{FailsIn}
use Rattle.cbor_grammar.proofs.bytes.Steps.{later_later, then_later, then_then, then_same, then_grows}

-- ---- what stops a step stops all

pub stops_go : {A B : Type 0} (e : Error) (n : ℕ) (r : Read A) (f : A × List ℕ → Counted B) → Fails e r
    → FailsIn e n (go_on n r f)
stops_go refusal.Memory n r f h = then_grows (n, r) f
stops_go _ n r f h = ap (λ x. go_on n x f) h

pub stops_with : {A B : Type 0} (e : Error) (n : ℕ) (c : Counted A) (f : Counted A → Counted B)
    → ((d : Error) → f (n, Err d) ≡ (n, Err d)) → ((d : Counted A) → d.0 ≤ (f d).0) → FailsIn e n c → FailsIn e n (f c)
stops_with refusal.Memory n c f fails grows h = omega (arith, grows c)
stops_with e n c f fails grows h = ap f h ∙ fails e

pub stops_later : {X : Type 0} (e : Error) (t n : ℕ) (c : Counted X) → FailsIn e n c → FailsIn e (t + n) (later t c)
stops_later refusal.Memory t n c h = omega arith
stops_later _ t n c h = ap (later t) h

pub stops_then : {A B : Type 0} (e : Error) (n : ℕ) (c : Counted A) (f : A × List ℕ → Counted B) → FailsIn e n c
    → FailsIn e n (c >>- f)
stops_then refusal.Memory n c f h = omega (arith, then_grows c f)
stops_then _ n c f h = ap (λ x. x >>- f) h

-- ---- chunks

-- what was read before, joined to what is read after it
abbrev pub onto : List Chunk → Counted (List Chunk) → Counted (List Chunk)
onto front c = c >>- λ cs. (0, Ok (front ++ cs.0, cs.1))

-- nothing has fewer bytes than none
no_room : (n : ℕ) (b : List ℕ) (k : ℕ) → k < length b → length b ≤ n → (m : ℕ) × (n ≡ suc m) × (k ≤ m)
no_room zero b k lt le = absurd (omega arith)
no_room (suc m) b k lt le = (m, refl, omega arith)

pub more_chunk : (kind : StringKind) (front : List Chunk) (t n : ℕ) (b : List ℕ) (c : Chunk) (after : List ℕ)
    (total : Counted (List Chunk)) → read_chunk kind b ≡ Ok (Some c, after) → length after < length b → length b ≤ n
    → later t (onto front (read_chunks n kind b)) ≡ total
    → (m : ℕ) × (length after ≤ m) × (later (t + 1) (onto (front ++ c ∷ []) (read_chunks m kind after)) ≡ total)
unfolding read_chunks
more_chunk kind front t n b c after total e lt le so_far =
    let r = no_room n b (length after) lt le in
    let many : Counted (List Chunk) = read_chunks r.0 kind after in
    let cons : List Chunk × List ℕ → Counted (List Chunk) = λ cs. (0, Ok (c ∷ cs.0, cs.1)) in
    let here : read_chunks n kind b ≡ later 1 (many >>- cons) = ap (λ k. read_chunks k kind b) r.1
    ∙ ap (λ x. go_on 1 x (λ y. more_chunks (read_chunks r.0 kind) y.0 y.1)) e in
    let turned : onto front (many >>- cons) ≡ onto (front ++ c ∷ []) many =
    then_then many cons _ ∙ then_same many _ _
    (λ cs _. ap (λ x. (0, Ok (x, cs.1))) (sym (append_assoc front (c ∷ []) cs.0))) in
    let next : later t (onto front (read_chunks n kind b)) ≡ later (t + 1) (onto (front ++ c ∷ []) many) =
    ap (λ x. later t (onto front x)) here ∙ ap (later t) (then_later 1 (many >>- cons) _ ∙ ap (later 1) turned)
    ∙ later_later t 1 _ in
    (r.0, r.2, sym next ∙ so_far)

-- memory ran out for the chunk that was read
pub chunk_wants : (kind : StringKind) (front : List Chunk) (t n : ℕ) (b : List ℕ) (c : Chunk) (after : List ℕ)
    (total : Counted (List Chunk)) → read_chunk kind b ≡ Ok (Some c, after) → length after < length b → length b ≤ n
    → later t (onto front (read_chunks n kind b)) ≡ total → FailsIn refusal.Memory (t + 1) total
chunk_wants kind front t n b c after total e lt le so_far =
    let next = more_chunk kind front t n b c after total e lt le so_far in
    omega (arith, ap (λ (d : Counted (List Chunk)). d.0) next.2)

pub no_more_chunk : (kind : StringKind) (front : List Chunk) (t n : ℕ) (b after : List ℕ) (total : Counted (List Chunk))
    → read_chunk kind b ≡ Ok (None, after) → length after < length b → length b ≤ n
    → later t (onto front (read_chunks n kind b)) ≡ total → total ≡ (t + 1, Ok (front, after))
unfolding read_chunks
no_more_chunk kind front t n b after total e lt le so_far =
    let r = no_room n b (length after) lt le in
    let here : read_chunks n kind b ≡ (1, Ok ([], after)) = ap (λ k. read_chunks k kind b) r.1
    ∙ ap (λ x. go_on 1 x (λ y. more_chunks (read_chunks r.0 kind) y.0 y.1)) e in
    sym so_far ∙ ap (λ x. later t (onto front x)) here ∙ ap (λ cs. (t + 1, Ok (cs, after))) (append-nil front)

chunks_stop : (e : Error) (kind : StringKind) (n : ℕ) (b : List ℕ) → length b ≤ n → Fails e (read_chunk kind b)
    → FailsIn e 1 (read_chunks n kind b)
unfolding read_chunks read_chunk
chunks_stop e kind zero [] le h = stops_go e 1 (read_chunk kind []) (λ _. (0, Err refusal.CutShort)) h
chunks_stop e kind zero (x ∷ b) le h = absurd (omega arith)
chunks_stop e kind (suc n) b le h = stops_go e 1 (read_chunk kind b) (λ c. more_chunks (read_chunks n kind) c.0 c.1)
    h

pub chunk_fails : (e : Error) (kind : StringKind) (front : List Chunk) (t n : ℕ) (b : List ℕ)
    (total : Counted (List Chunk)) → length b ≤ n → Fails e (read_chunk kind b)
    → later t (onto front (read_chunks n kind b)) ≡ total → FailsIn e (t + 1) total
chunk_fails e kind front t n b total le h so_far =
    subst (λ c. FailsIn e (t + 1) c) so_far (stops_later e t 1 _
    (stops_then e 1 (read_chunks n kind b) _ (chunks_stop e kind n b le h)))
