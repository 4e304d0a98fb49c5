use Rattle.std.proofs.Common.{Bool, ap, ◌∙◌, sym, ◌%◌, ◌/◌, le-leb}
use borrow.Author.Tests.{lt-leb}
use lib.Ieee.{neg}
use Rattle.cbor_floats.specs.Value.{half_value, half_of_fields}
use Rattle.cbor_floats.proofs.Halves.{negated}
use Rattle.cbor_floats.proofs.half.half_value.Goals as goal

pub returns-then-bits-lt-SIGN : goal.returns-then-bits-lt-SIGN
unfolding half_value
returns-then-bits-lt-SIGN c =
    let b = c.args.bits in
    c.value_of_fields-size.ensures ∙ ap (λ (s : Bool). half_of_fields s (b % 32768 / 1024) (b % 1024))
    (sym (lt-leb 32768 b c.if-bits-lt-SIGN.true))

pub returns-else-bits-lt-SIGN : goal.returns-else-bits-lt-SIGN
unfolding half_value
returns-else-bits-lt-SIGN c =
    let b = c.args.bits in
    ap neg c.value_of_fields-size.ensures ∙ negated (b % 32768 / 1024) (b % 1024)
    ∙ ap (λ (s : Bool). half_of_fields s (b % 32768 / 1024) (b % 1024)) (sym (le-leb 32768 b c.if-bits-lt-SIGN.false))
