-- That five inputs have a fault is shown part by part.
use lib.Utf8.{encode}
use Rattle.std.proofs.Common.{◌≡◌, false, [], ◌∷◌, refl, sym, ◌∙◌, arith, inr}
use Rattle.std.proofs.lemmas.Bool.{false≢true}
use Rattle.std.specs.Str.{chars, is_utf8}
use Rattle.cbor_grammar.specs.declared.width.IntegerWidth.TheVariants.{Zero}
use Rattle.cbor_grammar.specs.declared.strings.StringKind.TheVariants.{Bytes}
use Rattle.cbor_grammar.specs.Refused.{no_length, part, at_open_value, no_chunk, too_deep, bad_head, bad_text}
use Rattle.cbor_grammar.specs.Refused.{bad_chunk_head, bad_part}
use Rattle.cbor_grammar.specs.Examples.{small}
use Rattle.cbor_grammar.proofs.shared.Utf8.{utf8_passes}
use Rattle.cbor_grammar.proofs.examples.faults.Goals as goal

pub returns-clause-stray : goal.returns-clause-stray
returns-clause-stray c = bad_head (omega arith) (no_length refl (inr (omega arith)))

-- two keys and a value are whole, and the break is in the second value's place
pub returns-clause-value : goal.returns-clause-value
returns-clause-value c =
    bad_part part (0xff ∷ []) (omega arith)
    (at_open_value 1 (1 ∷ 2 ∷ 3 ∷ []) refl (
      1 ∷ [],
      2 ∷ 3 ∷ [],
      small 1,
      refl,
      (omega arith, (omega arith, [], refl, refl)),
      (
        2 ∷ [],
        3 ∷ [],
        small 2,
        refl,
        (omega arith, (omega arith, [], refl, refl)),
        (3 ∷ [], [], small 3, refl, (omega arith, (omega arith, [], refl, refl)), refl),
      ),
    ))
    tt
    (bad_head (omega arith) (no_length refl (inr (omega arith))))

-- the byte ff begins no character
fails : is_utf8 (0xff ∷ []) ≡ false
unfolding is_utf8 chars encode
fails = refl

pub returns-clause-text : goal.returns-clause-text
returns-clause-text c =
    bad_text (omega arith) (
      1,
      Zero,
      (
        omega arith,
        0xff ∷ [],
        refl,
        (0xff ∷ [], [], refl, refl, λ h. false≢true (sym fails ∙ utf8_passes (0xff ∷ []) h)),
      ),
    )

pub returns-clause-chunk : goal.returns-clause-chunk
returns-clause-chunk c =
    bad_chunk_head Bytes (0x61 ∷ []) (omega arith) (
      record { bytes = 1 ∷ []; width = Zero } ∷ [],
      0x41 ∷ 1 ∷ 0x61 ∷ [],
      refl,
      (tt, (omega arith, 1 ∷ 0x61 ∷ [], refl, (0x61 ∷ [], refl, refl))),
    )
    (no_chunk (λ e. omega arith) (λ h. omega arith))

pub returns-clause-deep : goal.returns-clause-deep
returns-clause-deep c = too_deep refl
