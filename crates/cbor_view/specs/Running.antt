-- The words of the laws on a run of the filter `cbor_view`. It reads all input (`ReadsAll`), and writes given bytes
-- (`Writes`) or only a beginning of them (`WritesPart`). `OnRefused`, `OnOutOfMemory`, `OnReadFailed` and
-- `OnWriteFailed` state a fact for one kind of failure.
use Rattle.std.specs.Prelude.{◌≡◌, ◌≢◌, ℕ, ◌<◌, List, length, take, true, Option, IfSome, Result, Err, ⊤, ◌⊎◌}
use Rattle.std.specs.Io.KnownBytes.{Appends, IsAtEnd}
use Rattle.cbor_grammar.specs.declared.error.Error.{Error}
use Rattle.cbor_grammar.specs.declared.error.Error.TheVariants as refusal
use Rattle.cbor_view.specs.declared.counted.Counted.{Counted}
use Rattle.cbor_view.specs.declared.error.ViewError.{ViewError}
use Rattle.cbor_view.specs.declared.error.ViewError.TheVariants as view_error
use Rattle.cbor_view.specs.Counting.{inner_of, failures_of, moved_none, one_more}

-- ---- what was read

-- these are all the bytes that the reader had, if they are known
abbrev pub HadAll : {T : Type 0} → (T → Option (List ℕ)) → Counted T → List ℕ → Type 0
HadAll remaining input all = IfSome (remaining (inner_of input)) (λ bytes. bytes ≡ all)

-- the last read asked for at least one byte and got none, and nothing is left
abbrev pub IsReadOut : {T : Type 0} → (T → Option (List ℕ)) → Counted T → Type 0
IsReadOut remaining input = (moved_none input ≡ true) × IsAtEnd (remaining (inner_of input))

-- no call failed
abbrev pub NoFailure : {T : Type 0} → Counted T → Counted T → Type 0
NoFailure old new = failures_of new ≡ failures_of old

-- one call failed
abbrev pub OneFailure : {T : Type 0} → Counted T → Counted T → Type 0
OneFailure old new = failures_of new ≡ one_more (failures_of old)

-- the input is these bytes, all of them were read, and no read failed
abbrev pub ReadsAll : {T : Type 0} → (T → Option (List ℕ)) → Counted T → Counted T → List ℕ → Type 0
ReadsAll remaining old new all = HadAll remaining old all × IsReadOut remaining new × NoFailure old new

-- ---- what was written

-- the writer took these bytes and no others, if its bytes are known
abbrev pub Gains : {T : Type 0} → (T → Option (List ℕ)) → Counted T → Counted T → List ℕ → Type 0
Gains contents old new bytes = Appends (contents (inner_of old)) (contents (inner_of new)) bytes

-- the writer took a beginning of these bytes, and not all of them
abbrev pub GainsPart : {T : Type 0} → (T → Option (List ℕ)) → Counted T → Counted T → List ℕ → Type 0
GainsPart contents old new bytes =
    (n : ℕ) × (n < length bytes) × Gains contents old new (take n bytes)

-- a write failed, or the last write was of at least one byte and took none
abbrev pub Stops : {T : Type 0} → Counted T → Counted T → Type 0
Stops old new = OneFailure old new ⊎ (NoFailure old new × (moved_none new ≡ true))

-- these bytes were written and no others, and no write failed
abbrev pub Writes : {T : Type 0} → (T → Option (List ℕ)) → Counted T → Counted T → List ℕ → Type 0
Writes contents old new bytes = Gains contents old new bytes × NoFailure old new

-- a beginning of these bytes was written, and not all of them, because a write failed or took nothing
abbrev pub WritesPart : {T : Type 0} → (T → Option (List ℕ)) → Counted T → Counted T → List ℕ → Type 0
WritesPart contents old new bytes = GainsPart contents old new bytes × Stops old new

-- ---- the five ends of a run: it is done (`OnOk`), or one of these

-- the input was refused, for this reason
abbrev pub OnRefused : {X : Type 0} → Result X ViewError → (Error → Type 0) → Type 0
OnRefused (Err (view_error.Item e)) P = e ≢ refusal.Memory → P e
OnRefused _ P = ⊤

-- memory ran out
abbrev pub OnOutOfMemory : {X : Type 0} → Result X ViewError → Type 0 → Type 0
OnOutOfMemory (Err (view_error.Item e)) P = e ≡ refusal.Memory → P
OnOutOfMemory _ P = ⊤

-- a read failed
abbrev pub OnReadFailed : {X : Type 0} → Result X ViewError → Type 0 → Type 0
OnReadFailed (Err view_error.Read) P = P
OnReadFailed _ P = ⊤

-- a write failed, or took nothing
abbrev pub OnWriteFailed : {X : Type 0} → Result X ViewError → Type 0 → Type 0
OnWriteFailed (Err view_error.Write) P = P
OnWriteFailed _ P = ⊤

-- one of two facts: of a write that failed, and of every other end
abbrev pub IfWriteFailed : {X : Type 0} → Result X ViewError → Type 0 → Type 0 → Type 0
IfWriteFailed (Err view_error.Write) P Q = P
IfWriteFailed _ P Q = Q
