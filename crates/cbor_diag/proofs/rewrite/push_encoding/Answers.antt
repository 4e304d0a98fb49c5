-- Bytes without a simple value that is too long are appended as they are, others as they are read and written.
use Rattle.std.proofs.Common.{ℕ, List, ◌++◌, length, sym, ap, subst, ◌∙◌, arith}
use Rattle.std.proofs.Math.Seq.{take-length}
use Rattle.cbor_grammar.specs.Item.{Item}
use Rattle.cbor_grammar.specs.Facts.{IsItem, BeginsWithItem}
use Rattle.cbor_grammar.proofs.bytes.FoundAgain.{spelled_begins}
use Rattle.cbor_bytes.proofs.bytes.StrictHeads.{strict_is}
use Rattle.cbor_diag.proofs.rewrite.push_encoding.Goals as goal

begins_whole : (b : List ℕ) (i : Item) → IsItem b i → BeginsWithItem b i (length b)
begins_whole b i s = (
  omega (arith, ap length (spelled_begins 1 b i s).parts),
  omega arith,
  subst (λ (x : List ℕ). IsItem x i) (sym (take-length b)) s,
)

pub returns-in_ok-extend_from_slice-clause-bytes : goal.returns-in_ok-extend_from_slice-clause-bytes
returns-in_ok-extend_from_slice-clause-bytes c = λ i s.
    let is = strict_is c.args.bytes.now i _ (begins_whole c.args.bytes.now i s) (omega arith)
    (c.is_strict.ensures c.if-is_strict.true) in
    c.in_ok-extend_from_slice.ensures.items ∙ ap (λ x. c.args.out.now.items ++ x) is.1
