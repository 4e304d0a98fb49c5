use Rattle.std.proofs.Common.{refl, inl, inr}
use Rattle.cbor_diag_c.proofs.error.text.Goals as goal

pub returns-in-None-2 : goal.returns-in-None-2
returns-in-None-2 c = inr (inr (inl (c.if-number-eq12.true, refl)))

pub returns-in-None-3 : goal.returns-in-None-3
returns-in-None-3 c = inr (inr (inr (inl (c.if-number-eq13.true, refl))))

pub returns-in-None-6 : goal.returns-in-None-6
returns-in-None-6 c = inr (inr (inr (inr (inr (inr (inl (c.if-number-eq16.true, refl)))))))

pub returns-in-None-8 : goal.returns-in-None-8
returns-in-None-8 c = inr (inr (inr (inr (inr (inr (inr (inr (inl (c.if-number-eq18.true, refl)))))))))
