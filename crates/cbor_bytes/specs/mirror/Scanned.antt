-- For a `Progress` of `skip/progress.rt`: what is still to be skipped (`skip_rest`), why the bytes so far are no
-- complete item (`StopsAt`, `StopsAfter`), and which `Extent` is the answer (`answer_of`). No public clause names these
-- definitions.
use Rattle.std.specs.Prelude.{◌≡◌, ℕ, ◌-◌, List, [], length, Option, Some, None, Result, Ok, Err}
use Rattle.cbor_bytes.specs.declared.skip.answer.Extent.{Extent}
use Rattle.cbor_bytes.specs.declared.skip.answer.Extent.TheVariants as extent
use Rattle.cbor_bytes.specs.declared.skip.Stop.{Stop}
use Rattle.cbor_bytes.specs.declared.skip.Stop.TheVariants as stops
use Rattle.cbor_bytes.specs.declared.skip.progress.Progress.{Progress}
use Rattle.cbor_grammar.specs.WellFormed.{deepest}
use Rattle.cbor_bytes.specs.mirror.Skipping.{Skip, here, Goes, FailsAt, skip_item}
use Rattle.cbor_bytes.specs.mirror.Scanning.{skip_from, Waits}

-- what is due, and what is open round it
abbrev pub skip_rest : Progress → List ℕ → Skip
skip_rest p = skip_from p.containers.outer p.containers.top p.due

-- the bytes end so, with this many after what is skipped
abbrev pub EndsBefore : (List ℕ → Skip) → List ℕ → ℕ → Type 0
EndsBefore from b after = (rest : List ℕ) × Goes from here b rest × (length rest ≡ after)

-- why there is no complete item, and what is still to come where the bytes end
abbrev pub StopsAt : Progress → (List ℕ → Skip) → List ℕ → Stop → Type 0
StopsAt p from b stops.Cut = Waits from (skip_rest p) b p.held
StopsAt p from b (stops.Fault error after) = FailsAt from b error after

-- what is still to come after these bytes: all of an item, while none came
abbrev pub WaitsAfter : Option Progress → List ℕ → Type 0
WaitsAfter None b = b ≡ []
WaitsAfter (Some p) b = Waits (skip_item deepest) (skip_rest p) b p.held

-- why these bytes are no complete item
abbrev pub StopsAfter : Option Progress → List ℕ → Stop → Type 0
StopsAfter progress b stops.Cut = WaitsAfter progress b
StopsAfter progress b (stops.Fault error after) = FailsAt (skip_item deepest) b error after

-- the answer for this many bytes, of how many follow the item or why there is none
abbrev pub answer_of : ℕ → Result ℕ Stop → Extent
answer_of fed (Ok after) = extent.Item (fed - after)
answer_of fed (Err stops.Cut) = extent.Cut
answer_of fed (Err (stops.Fault error after)) = extent.Fault error (fed - after)
