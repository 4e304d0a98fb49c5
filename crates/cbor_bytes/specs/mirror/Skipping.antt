-- For `skip.rt` and the files in `skip`: to skip is to read by `specs/Reading.antt` of `cbor_grammar` and to keep only
-- the bytes that are left, or the error (`Skip`, `skip_item`). `skip_open` skips what is still to come in open
-- containers. `Goes` and `FailsAt` say how skipping goes on, or fails, after some bytes. No public clause names these
-- definitions.
use Rattle.std.specs.Prelude.{◌≡◌, ◌≢◌, ℕ, ◌-◌, List, [], ◌∷◌, ◌++◌, length, Option, Some, None, Result, Ok, Err}
use Rattle.cbor_grammar.specs.declared.width.IntegerWidth.{IntegerWidth}
use Rattle.cbor_grammar.specs.declared.width.IntegerWidth.TheVariants.{Zero}
use Rattle.cbor_grammar.specs.declared.error.Error.{Error}
use Rattle.cbor_grammar.specs.declared.error.Error.TheVariants.{CutShort}
use Rattle.cbor_bytes.specs.declared.skip.Stop.{Stop}
use Rattle.cbor_bytes.specs.declared.skip.Stop.TheVariants as stops
use Rattle.cbor_bytes.specs.declared.skip.to_come.ToCome.{ToCome}
use Rattle.cbor_bytes.specs.declared.skip.to_come.ToCome.TheVariants as to_come
use Rattle.cbor_grammar.specs.Item.{Item, atom, simple, no_items, no_pairs}
use Rattle.cbor_grammar.specs.declared.head.ItemHead.{ItemHead}
use Rattle.cbor_grammar.specs.WellFormed.{deepest}
use Rattle.cbor_grammar.specs.declared.strings.StringKind.{StringKind}
use Rattle.cbor_grammar.specs.declared.argument.Argument.{Argument}
use Rattle.cbor_grammar.specs.declared.argument.Argument.TheVariants.{Number, Indefinite}
use Rattle.cbor_grammar.specs.Reading.{Read, ◌>>=◌, read_content, read_chunks, Frame, items_in, pairs_in, value_of}
use Rattle.cbor_grammar.specs.Reading.{tag_of}
use Rattle.cbor_grammar.specs.Reading.{tagged_with, opened, read_parts, read_body, counted_item, read_item}

-- ---- skipping

-- the bytes that are left, or the first refusal
abbrev pub Skip : Type 0
Skip = Result (List ℕ) Error

-- the bytes after what was read
abbrev pub rest_of : {X : Type 0} → Read X → Skip
rest_of (Ok x) = Ok x.1
rest_of (Err e) = Err e

-- nothing is left to skip
abbrev pub here : List ℕ → Skip
here b = Ok b

abbrev pub skip_content : StringKind → ℕ → IntegerWidth → List ℕ → Skip
skip_content kind n w b = rest_of (read_content kind n w b)

abbrev pub skip_chunks : StringKind → List ℕ → Skip
skip_chunks kind b = rest_of (read_chunks (length b) kind b).1

-- an item with `left` levels left for it, and the same after its head
abbrev pub skip_item : ℕ → List ℕ → Skip
skip_item left b = rest_of (read_item left b)

abbrev pub skip_body : ℕ → ItemHead → List ℕ → Skip
skip_body left h b = rest_of (read_body (counted_item left) (opened h) h b).1

-- ---- steps of the code

-- Over some bytes one way of skipping goes on as another, whatever follows them.
pub record Goes (from to : List ℕ → Skip) (b rest : List ℕ) : Type 0 where
  pub over : List ℕ
  pub parts : b ≡ over ++ rest
  pub along : (c : List ℕ) → from (over ++ c) ≡ to c

-- An error that some first bytes show, which end with one more than are cut, and how many follow them.
pub record FailsAt (from : List ℕ → Skip) (b : List ℕ) (error : Error) (after : ℕ) : Type 0 where
  pub before : List ℕ
  pub last : ℕ
  pub behind : List ℕ
  pub parts : b ≡ before ++ last ∷ behind
  pub count : length behind ≡ after
  pub cut : from before ≡ Err CutShort
  pub fails : from (before ++ last ∷ []) ≡ Err error
  pub other : error ≢ CutShort

abbrev pub StopsSo : (List ℕ → Skip) → List ℕ → Stop → Type 0
StopsSo from b stops.Cut = from b ≡ Err CutShort
StopsSo from b (stops.Fault error after) = FailsAt from b error after

-- where reading refuses so
abbrev pub stop_of : Error → ℕ → Stop
stop_of CutShort after = stops.Cut
stop_of error after = stops.Fault error after

-- a chunk and those after it, after its length; or what is after the break
abbrev pub after_chunk_length : StringKind → Option (ℕ × IntegerWidth) → List ℕ → Skip
after_chunk_length kind (Some n) b = skip_content kind n.0 n.1 b >>= skip_chunks kind
after_chunk_length kind None b = here b

-- ---- what is still to come

-- any item: which one was read makes no difference to what is still to come
abbrev pub some_item : Item
some_item = atom (simple 0)

-- this many parts, or all up to a break; the width of a count makes no difference either
abbrev pub argument_of : Option ℕ → Argument
argument_of (Some n) = Number n Zero
argument_of None = Indefinite

abbrev pub any_width : Argument → Argument
any_width (Number n w) = Number n Zero
any_width Indefinite = Indefinite

-- a container with as much to come, where nothing was read but a key
abbrev pub emptied : Frame → Frame
emptied (items_in is left) = items_in no_items (any_width left)
emptied (pairs_in ps left) = pairs_in no_pairs (any_width left)
emptied (value_of ps k left) = value_of no_pairs some_item (any_width left)
emptied (tag_of t w) = items_in no_items (Number 1 Zero)
emptied (tagged_with t w i) = items_in no_items (Number 0 Zero)

abbrev pub frame_of : ToCome → Frame
frame_of (to_come.Items left) = items_in no_items (argument_of left)
frame_of (to_come.Pairs left) = pairs_in no_pairs (argument_of left)
frame_of (to_come.Value left) = value_of no_pairs some_item (argument_of left)

-- the parts, with `left` levels left for each
abbrev pub skip_frame : ℕ → Frame → List ℕ → Skip
skip_frame left f b = rest_of (read_parts (counted_item left) f b).1

abbrev pub skip_parts : ℕ → ToCome → List ℕ → Skip
skip_parts left t b = skip_frame left (frame_of t) b

-- what an item has still to come, with `left` levels left for its parts
abbrev pub begun : ℕ → Option ToCome → List ℕ → Skip
begun left None b = here b
begun left (Some parts) b = skip_parts left parts b

-- ---- containers in containers

-- The containers that are open, the outermost first, given what is left after the innermost part; the levels
-- are those that are left for the parts of the outermost.
abbrev pub closing : ℕ → List ToCome → Skip → Skip
closing left [] r = r
closing left (t ∷ ts) r = closing (left - 1) ts r >>= skip_parts left t

-- the same, where these are open round one with this much to come
abbrev pub skip_open : List ToCome → ToCome → List ℕ → Skip
skip_open outer top b = closing deepest outer (skip_parts (deepest - length outer) top b)
