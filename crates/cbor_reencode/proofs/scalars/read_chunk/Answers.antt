-- The next chunk is what its length and its content say.
use Rattle.std.proofs.Common.{◌≡◌, ℕ, List, subst, ap, ◌∙◌, arith, None, Some, Ok, Option}
use Rattle.cbor_grammar.specs.declared.width.IntegerWidth.{IntegerWidth}
use Rattle.cbor_grammar.specs.declared.strings.StringKind.{StringKind}
use Rattle.cbor_grammar.specs.StringKind.{major_of}
use Rattle.cbor_grammar.specs.mirror.MajorNumber.{major_number}
use Rattle.cbor_grammar.specs.Reading.{read_chunk_length}
use Rattle.cbor_reencode.proofs.Chunks.{break_here, chunk_here}
use Rattle.cbor_reencode.proofs.scalars.read_chunk.Goals as goal

-- the length that was read, by the kind of the string
len_at : (kind : StringKind) (m : ℕ) (b r : List ℕ) (o p : Option (ℕ × IntegerWidth)) → m ≡ major_of kind
    → read_chunk_length m b ≡ Ok (o, r) → o ≡ p → read_chunk_length (major_of kind) b ≡ Ok (p, r)
len_at kind m b r o p is e f =
    subst (λ k. read_chunk_length k b ≡ Ok (p, r)) is (e ∙ ap (λ (x : Option (ℕ × IntegerWidth)). Ok (x, r)) f)

pub returns-in_default-clause-is : goal.returns-in_default-clause-is
returns-in_default-clause-is c =
    let b = c.args.bytes.now in
    let read = c.in_ok-length in
    break_here c.args.kind b read.rest.now (λ i. omega (arith, c.type_inv.bytes i))
    (len_at c.args.kind (major_number c.major.result) b read.rest.now read.length None c.major.ensures
    read.ensures.gives c.in_default.is)

pub returns-clause-is : goal.returns-clause-is
returns-clause-is c =
    let kind = c.args.kind in
    let b = c.args.bytes.now in
    let read = c.in_ok-length in
    let r = read.rest.now in
    let n = c.in-Some.count in
    let t = c.in_ok-content in
    chunk_here kind b r t.content.now t.after.now n c.in-Some.width (λ i. omega (arith, c.type_inv.bytes i))
    (len_at kind (major_number c.major.result) b r read.length (Some (n, c.in-Some.width)) c.major.ensures
    read.ensures.gives c.in-Some.is) t.ensures.parts t.ensures.size t.ensures.holds
