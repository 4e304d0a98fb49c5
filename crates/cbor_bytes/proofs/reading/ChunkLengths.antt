-- `read_chunk` gives the same result as two steps: `read_chunk_length`, and then `read_content` of that length, or no
-- content after the break.
use Rattle.std.proofs.Common.{◌≡◌, ◌==◌, ℕ, ◌/◌, ◌%◌, Bool, true, false, cond, List, [], ◌∷◌}
use Rattle.std.proofs.Common.{Option, Some, None, Ok, Err, refl}
use Rattle.cbor_grammar.specs.declared.error.Error.TheVariants as refusal
use Rattle.cbor_grammar.specs.declared.width.IntegerWidth.{IntegerWidth}
use Rattle.cbor_grammar.specs.declared.argument.Argument.{Argument}
use Rattle.cbor_grammar.specs.declared.argument.Argument.TheVariants.{Number, Indefinite}
use Rattle.cbor_grammar.specs.declared.strings.StringKind.{StringKind}
use Rattle.cbor_grammar.specs.StringKind.{major_of}
use Rattle.cbor_grammar.specs.Head.{break_byte}
use Rattle.cbor_grammar.specs.Item.{Chunk}
use Rattle.cbor_grammar.specs.Reading.{Read, ◌>>=◌, read_argument, read_content, length_of, chunk_of}
use Rattle.cbor_grammar.specs.Reading.{read_chunk_length, read_chunk}

-- a chunk after its length, or none after the break
abbrev pub after_length : StringKind → Option (ℕ × IntegerWidth) → List ℕ → Read (Option Chunk)
after_length kind None b = Ok (None, b)
after_length kind (Some n) b = read_content kind n.0 n.1 b >>= λ c. Ok (Some c.0, c.1)

pub by_length : (kind : StringKind) (b : List ℕ)
    → read_chunk kind b ≡ (read_chunk_length (major_of kind) b >>= λ n. after_length kind n.0 n.1)
unfolding read_chunk read_chunk_length
by_length kind [] = refl
by_length kind (first ∷ b) = go (first == break_byte) (first / 32 == major_of kind) (read_argument (first % 32) b)
  where
    at : (a : Argument) (b : List ℕ) → chunk_of kind a b ≡ (length_of a b >>= λ n. after_length kind n.0 n.1)
    at (Number n w) b = refl
    at Indefinite b = refl

    go : (ends same : Bool) (r : Read Argument)
        → cond ends (Ok (None, b)) (cond same (r >>= λ a. chunk_of kind a.0 a.1) (Err refusal.Head))
        ≡ (cond ends (Ok (None, b)) (cond same (r >>= λ a. length_of a.0 a.1) (Err refusal.Head))
        >>= λ n. after_length kind n.0 n.1)
    go true same r = refl
    go false false r = refl
    go false true (Ok a) = at a.0 a.1
    go false true (Err e) = refl
