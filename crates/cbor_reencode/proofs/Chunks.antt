-- For `read_chunk`: if `read_chunk_length` finds a break, the bytes begin with the break byte. If it finds a length,
-- and a content of this length follows that the kind of string allows, the bytes begin with the chunk of that content
-- (`ChunkAt`).
use Rattle.std.proofs.Common.{◌≡◌, ℕ, List, ◌∷◌, ◌++◌, length, Some, None, Ok, sym, ap, subst, ◌∙◌}
use Rattle.cbor_grammar.specs.declared.width.IntegerWidth.{IntegerWidth}
use Rattle.cbor_grammar.specs.declared.strings.StringKind.{StringKind}
use Rattle.cbor_grammar.specs.StringKind.{major_of, IsContent}
use Rattle.cbor_grammar.specs.Item.{Chunk}
use Rattle.cbor_grammar.specs.Head.{break_byte}
use Rattle.cbor_grammar.specs.Reading.{◌>>=◌, read_chunk, read_chunk_length, read_content}
use Rattle.cbor_grammar.proofs.bytes.Heads.{IsBytes}
use Rattle.cbor_grammar.proofs.bytes.Chunks.{content_again, chunk_takes, one_takes}
use Rattle.cbor_rules.proofs.Found.{by_length, chunk_at}
use Rattle.cbor_reencode.specs.mirror.Rewritten.{ChunkAt}

pub break_here : (kind : StringKind) (b r : List ℕ) → IsBytes b → read_chunk_length (major_of kind) b ≡ Ok (None, r)
    → b ≡ break_byte ∷ r
break_here kind b r fits len =
    one_takes kind b r None fits (by_length kind b ∙ ap (λ q. ◌>>=◌ q (λ l. chunk_at kind l.0 l.1)) len)

pub chunk_here : (kind : StringKind) (b r content rest : List ℕ) (n : ℕ) (w : IntegerWidth) → IsBytes b
    → read_chunk_length (major_of kind) b ≡ Ok (Some (n, w), r) → r ≡ content ++ rest → length content ≡ n
    → IsContent kind content → ChunkAt kind b content w rest
chunk_here kind b r content rest n w fits len parts size is =
    let c : Chunk = record { bytes = content; width = w } in
    let there : read_content kind n w r ≡ Ok (c, rest) =
    subst (λ k. read_content kind k w r ≡ Ok (c, rest)) size
    (subst (λ (x : List ℕ). read_content kind (length content) w x ≡ Ok (c, rest)) (sym parts)
    (content_again kind c rest is)) in
    let read : read_chunk kind b ≡ Ok (Some c, rest) =
    by_length kind b ∙ ap (λ q. ◌>>=◌ q (λ l. chunk_at kind l.0 l.1)) len
    ∙ ap (λ q. ◌>>=◌ q (λ c. Ok (Some c.0, c.1))) there in
    (chunk_takes kind b rest c fits read).0
