use Rattle.std.proofs.Common.{◌≡◌, ◌+◌, length}
use Rattle.cbor_edn_grammar.specs.Word.{run_len}
use Rattle.cbor_edn_grammar.proofs.word.word_len.Given as goal

abbrev pub invariant-word : goal.invariant-word
invariant-word l = (l.len + length l.rest ≡ length l.text)
    × (l.len + run_len l.number l.signed l.rest ≡ run_len l.number l.number l.text)

abbrev pub decreases-word : goal.decreases-word
decreases-word l = length l.rest
