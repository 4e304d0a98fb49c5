-- For `due.rt`, `containers.rt` and `progress.rt` in `skip`, which skip over an item whose bytes come in pieces.
-- `skip_due` and `skip_from` skip what is due after the bytes so far. `Waits` and `Pauses` say why skipping pauses. For
-- `utf8.rt`: the longest front of bytes that is UTF-8 (`WholeChars`). No public clause names these definitions.
use Rattle.std.specs.Prelude.{◌≡◌, ℕ, ◌<◌, ◌≤◌, Bool, true, false, if◌then◌else◌, nat_lt, List, length, take, Err}
use Rattle.std.specs.Prelude.{IsUtf8}
use Rattle.cbor_grammar.specs.declared.width.IntegerWidth.TheVariants.{Zero}
use Rattle.cbor_grammar.specs.declared.error.Error.TheVariants.{CutShort, Utf8}
use Rattle.cbor_bytes.specs.declared.skip.due.Due.{Due}
use Rattle.cbor_bytes.specs.declared.skip.due.Due.TheVariants as due
use Rattle.cbor_bytes.specs.declared.skip.due.Pause.{Pause}
use Rattle.cbor_bytes.specs.declared.skip.due.Pause.TheVariants as pause
use Rattle.cbor_bytes.specs.declared.skip.to_come.ToCome.{ToCome}
use Rattle.cbor_grammar.specs.declared.strings.StringKind.{StringKind}
use Rattle.cbor_grammar.specs.Reading.{◌>>=◌}
use Rattle.cbor_bytes.specs.mirror.Skipping.{Skip, here, Goes, FailsAt, skip_content, skip_chunks, skip_open}

-- the longest front of some bytes that is UTF-8
pub record WholeChars (b : List ℕ) (n : ℕ) : Type 0 where
  pub within : n ≤ length b
  pub front : IsUtf8 (take n b)
  pub longest : (m : ℕ) → n < m → m ≤ length b → ¬ (IsUtf8 (take m b))

-- chunks, and the break, after one of them
abbrev pub then_chunks : Bool → StringKind → Skip → Skip
then_chunks true kind r = r >>= skip_chunks kind
then_chunks false kind r = r

-- the rest of a text that is not UTF-8, with this many bytes before its last
abbrev pub skip_bad : ℕ → List ℕ → Skip
skip_bad more b = if nat_lt more (length b) then Err Utf8 else Err CutShort

-- what is due of a string
abbrev pub skip_due : Due → List ℕ → Skip
skip_due due.Part b = here b
skip_due (due.Content kind left chunked) b =
    then_chunks chunked kind (skip_content kind left Zero b)
skip_due (due.Chunk kind) b = skip_chunks kind b
skip_due (due.BadText more) b = skip_bad more b

-- the same, and then what is open round it
abbrev pub skip_from : List ToCome → ToCome → Due → List ℕ → Skip
skip_from outer top d b = skip_due d b >>= skip_open outer top

-- Skipping goes on so at a rest of few bytes, which end before it does.
pub record Waits (from to : List ℕ → Skip) (b rest : List ℕ) : Type 0 where
  pub goes : Goes from to b rest
  pub cut : to rest ≡ Err CutShort
  pub few : length rest ≤ 8

-- Why a string or an item is incomplete. The first argument says how skipping goes on at what is due: with that
-- alone,
-- or also with what is open round it.
abbrev pub Pauses : (Due → List ℕ → Skip) → (List ℕ → Skip) → List ℕ → Pause → Type 0
Pauses to from b (pause.Cut d rest) = Waits from (to d) b rest.now
Pauses to from b (pause.Fault error after) = FailsAt from b error after

-- the bytes from there on are few
abbrev pub IsFew : Pause → Type 0
IsFew (pause.Cut d rest) = length rest.now ≤ 8
IsFew (pause.Fault error after) = Unit {0}
