use Rattle.std.proofs.Common.{codes, inl, inr, arith}
use Rattle.std.proofs.lemmas.Slice.Eq.{text_from_reads}
use Rattle.cbor_floats.proofs.Halves.{nan_is, infinity_is, minus_infinity_is}
use Rattle.cbor_floats.proofs.decimal.word.Goals as goal

pub returns-in-NaN : goal.returns-in-NaN
returns-in-NaN c = inl (
  text_from_reads c.args.text.now (codes "NaN") (omega arith)
      (omega arith, (omega arith, (omega arith, tt))),
  nan_is,
)

pub returns-in-Infinity : goal.returns-in-Infinity
returns-in-Infinity c =
    inr (inl (
      text_from_reads c.args.text.now (codes "Infinity") (omega arith) (
        omega arith,
        (
          omega arith,
          (
            omega arith,
            (
              omega arith,
              (omega arith, (omega arith, (omega arith, (omega arith, tt)))),
            ),
          ),
        ),
      ),
      infinity_is,
    ))

pub returns-in-45 : goal.returns-in-45
returns-in-45 c =
    inr (inr (
      text_from_reads c.args.text.now (codes "-Infinity") (omega arith) (
        omega arith,
        (
          omega arith,
          (
            omega arith,
            (
              omega arith,
              (omega arith, (omega arith, (omega arith, (omega arith, (omega arith, tt))))),
            ),
          ),
        ),
      ),
      minus_infinity_is,
    ))
