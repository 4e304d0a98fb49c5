-- After the whole characters, the fault is in the one that begins there.
use Rattle.std.proofs.Common.{◌<◌, length, sym, subst, arith}
use Rattle.std.proofs.lemmas.List.{take_rest}
use Rattle.cbor_bytes.specs.mirror.Characters.{NoCharFirst}
use Rattle.cbor_bytes.proofs.bytes.Characters.{no_char_first, fault_is, not_text}
use Rattle.cbor_bytes.proofs.utf8.utf8_fault.Goals as goal

pub begun_len-requires : goal.begun_len-requires
begun_len-requires c =
    let b = c.args.bytes.now in
    let whole = c.whole_chars-whole in
    subst NoCharFirst (sym (take_rest b whole.result)) (no_char_first b whole.result whole.ensures)

pub returns-clause-fault : goal.returns-clause-fault
returns-clause-fault c =
    let b = c.args.bytes.now in
    let whole = c.whole_chars-whole in
    let short : whole.result < length b = omega (arith, whole.ensures.within) in
    let rest = take_rest b whole.result in
    fault_is b whole.result whole.ensures c.begun_len.result (rw rest at c.begun_len.ensures.within) short
    (rw rest at c.begun_len.ensures.begins) (rw rest at c.begun_len.ensures.stops)

pub returns-clause-none : goal.returns-clause-none
returns-clause-none c =
    let b = c.args.bytes.now in
    let whole = c.whole_chars-whole in
    let short : whole.result < length b = omega (arith, whole.ensures.within) in (
      λ e. let bad : ⊥ = cc e in absurd bad,
      λ text. absurd (not_text b whole.result whole.ensures short text),
    )
