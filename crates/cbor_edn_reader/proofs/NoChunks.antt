-- For `end_empty`: if no byte comes after `place`, the definition `no_chunks` reads a string without chunks, and the
-- encoding of this string is what was written. If a byte comes after `place`, `no_chunks` returns nothing.
use Rattle.std.proofs.Common.{◌≡◌, ℕ, ◌+◌, ◌<◌, ◌≤◌, List, [], ◌∷◌, ◌++◌, length, take, drop, Some, None}
use Rattle.std.proofs.Common.{refl, ap, ◌∙◌, append_assoc, arith}
use Rattle.std.proofs.Math.ListN.{drop_of_length-le}
use Rattle.cbor_grammar.specs.declared.strings.StringKind.{StringKind}
use Rattle.cbor_grammar.specs.StringKind.{major_of}
use Rattle.cbor_grammar.specs.Head.{opening}
use Rattle.cbor_grammar.specs.Item.{atom, chunked_string}
use Rattle.cbor_grammar.specs.Written.{encoded, encoded_open}
use Rattle.cbor_edn_grammar.specs.Strings.{no_chunks}

pub some_content : (kind : StringKind) (l : List ℕ) → 0 < length l → no_chunks kind l ≡ None
some_content kind [] some = absurd (omega arith)
some_content kind (b ∷ l) some = refl

pub no_content : (kind : StringKind) (place : ℕ) (l : List ℕ) → length l ≤ place + 1
    → no_chunks kind (drop (place + 1) l) ≡ Some (atom (chunked_string kind []))
no_content kind place l le = ap (no_chunks kind) (drop_of_length-le l le)

pub no_chunks_written : (kind : StringKind) (place : ℕ) (old opened new : List ℕ) → length old ≤ place + 1
    → opened ≡ take place old ++ (encoded_open (major_of kind) 0 None ++ drop (place + 1) old)
    → new ≡ opened ++ 255 ∷ [] → new ≡ take place old ++ encoded (atom (chunked_string kind []))
no_chunks_written kind place old opened new le open_ is =
    is ∙ ap (λ b. b ++ 255 ∷ [])
    (open_ ∙ ap (λ d. take place old ++ (opening (major_of kind) ∷ d)) (drop_of_length-le old le))
    ∙ append_assoc (take place old) (opening (major_of kind) ∷ []) (255 ∷ [])
