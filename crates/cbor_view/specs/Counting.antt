-- `Counted` wraps a reader or a writer. It records how many calls failed (`failures_of`), and whether the last read or
-- write asked for at least one byte, did not fail and moved none (`moved_none`).
use Rattle.std.specs.Prelude.{ℕ, ◌+◌, ◌-◌, ◌^◌, ◌==◌, min, nat_lt, Bool, false, ◌&&◌, Result, Ok, Err}
use Rattle.cbor_view.specs.declared.counted.Counted.{Counted}

-- the reader or the writer itself
abbrev pub inner_of : {T : Type 0} → Counted T → T
inner_of c = c.inner

-- how many calls failed
abbrev pub failures_of : {T : Type 0} → Counted T → ℕ
failures_of c = c.failures

-- whether the last read or write was of at least one byte, did not fail and moved none
abbrev pub moved_none : {T : Type 0} → Counted T → Bool
moved_none c = c.moved_none

-- the next count, which stays at the greatest
abbrev pub one_more : ℕ → ℕ
one_more n = min (n + 1) (2 ^ 64 - 1)

-- the count after a call with this result
abbrev pub failures_after : {X E : Type 0} → ℕ → Result X E → ℕ
failures_after n (Ok x) = n
failures_after n (Err e) = one_more n

-- whether a read or write of `asked` bytes, with this result, was of at least one and moved none
abbrev pub moves_none : {E : Type 0} → ℕ → Result ℕ E → Bool
moves_none asked (Ok moved) = nat_lt 0 asked && (moved == 0)
moves_none asked (Err e) = false
