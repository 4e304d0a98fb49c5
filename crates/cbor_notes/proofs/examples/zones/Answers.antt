use Rattle.std.proofs.Common.{inl, inr, refl, ap, length, arith}
use Rattle.cbor_notes.specs.DateTime.{ahead, behind}
use Rattle.cbor_notes.proofs.dates.DateTexts.{IsOffset-parts}
use Rattle.cbor_notes.proofs.examples.zones.Goals as goal

pub returns-clause-utc : goal.returns-clause-utc
returns-clause-utc c = inl (inr refl, refl)

pub returns-clause-ahead : goal.returns-clause-ahead
returns-clause-ahead c = inr (ahead 1 30 (omega arith) (omega arith) refl refl)

pub returns-clause-behind : goal.returns-clause-behind
returns-clause-behind c = inr (behind 8 0 (omega arith) (omega arith) refl refl)

-- five characters are neither `Z` nor an offset
pub returns-clause-past : goal.returns-clause-past
returns-clause-past c = λ is. elim is [
  | inl utc ↦ elim utc.0 [
    | inl upper ↦ absurd (omega (arith, ap length upper))
    | inr lower ↦ absurd (omega (arith, ap length lower))
  ]
  | inr offset ↦ absurd (omega (arith, (IsOffset-parts _ _ offset).length_is))
]
