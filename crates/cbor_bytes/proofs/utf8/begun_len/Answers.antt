-- A character begins with the bytes that were tested, and with no further one.
use Rattle.std.proofs.Common.{inl, inr, arith, rules}
use Rattle.cbor_bytes.proofs.bytes.Characters.{first_stops, first_begins, second_stops, second_begins, third_stops}
use Rattle.cbor_bytes.proofs.bytes.Characters.{third_begins, fourth_stops}
use Rattle.cbor_bytes.proofs.utf8.begun_len.Goals.{then-first-lt194-via-then-first-lt194}
use Rattle.cbor_bytes.proofs.utf8.begun_len.Goals.{then-first-lt194-via-else-first-lt194+then-first-gt244}
use Rattle.cbor_bytes.proofs.utf8.begun_len.Goals.{then-third-lt128-via-then-third-lt128}
use Rattle.cbor_bytes.proofs.utf8.begun_len.Goals.{then-third-lt128-via-else-third-lt128+then-third-gt191}
use Rattle.cbor_bytes.proofs.utf8.begun_len.Goals as goal

pub returns-then-first-lt194-clause-stops : goal.returns-then-first-lt194-clause-stops
returns-then-first-lt194-clause-stops c = λ some. first_stops c.args.bytes.now c.requires
    (elim c.then-first-lt194.branch [
      | then-first-lt194-via-then-first-lt194 w ↦ inl (omega arith)
      | then-first-lt194-via-else-first-lt194+then-first-gt244 w ↦ inr (omega arith)
    ]) some

pub returns-in_default-bytes-clause-begins : goal.returns-in_default-bytes-clause-begins
returns-in_default-bytes-clause-begins c =
    first_begins c.args.bytes.now c.requires (omega arith, omega arith) (omega arith)

pub returns-then-not-may_follow-clause-begins : goal.returns-then-not-may_follow-clause-begins
returns-then-not-may_follow-clause-begins c =
    first_begins c.args.bytes.now c.requires (omega arith, omega arith) (omega arith)

pub returns-then-not-may_follow-clause-stops : goal.returns-then-not-may_follow-clause-stops
returns-then-not-may_follow-clause-stops c = λ some.
    second_stops c.args.bytes.now c.requires (omega arith, omega arith) (search rules) some

pub returns-in_default-bytes-2-clause-begins : goal.returns-in_default-bytes-2-clause-begins
returns-in_default-bytes-2-clause-begins c =
    second_begins c.args.bytes.now c.requires (omega arith, omega arith) (search rules) (omega arith)

pub returns-then-third-lt128-clause-begins : goal.returns-then-third-lt128-clause-begins
returns-then-third-lt128-clause-begins c =
    second_begins c.args.bytes.now c.requires (omega arith, omega arith) (search rules) (omega arith)

pub returns-then-third-lt128-clause-stops : goal.returns-then-third-lt128-clause-stops
returns-then-third-lt128-clause-stops c = λ some.
    third_stops c.args.bytes.now c.requires (omega arith, omega arith) (search rules)
    (elim c.then-third-lt128.branch [
      | then-third-lt128-via-then-third-lt128 w ↦ inl (omega arith)
      | then-third-lt128-via-else-third-lt128+then-third-gt191 w ↦ inr (omega arith)
    ]) some

pub returns-clause-begins : goal.returns-clause-begins
returns-clause-begins c = third_begins c.args.bytes.now c.requires (omega arith, omega arith) (search rules)
    (omega arith, omega arith) (omega arith)

pub returns-clause-stops : goal.returns-clause-stops
returns-clause-stops c = λ more. fourth_stops c.args.bytes.now c.requires (omega arith, omega arith) (search rules)
    (omega arith, omega arith) (omega arith) more
