-- For `frame.rt` and `stack.rt` in `parse/binary`: the open containers of `specs/Reading.antt` of `cbor_grammar` that a
-- `Frame` and a `Stack` of the code stand for (`frame`, `frames`). `ReservesFew`: memory is reserved for few members at
-- once.
use Rattle.std.specs.Prelude.{ℕ, ◌+◌, ◌*◌, ◌≤◌, vec_capacity, List, length, map, Some, None}
use Rattle.cbor_diag.specs.declared.parse.binary.frame.Frame as code
use Rattle.cbor_diag.specs.declared.parse.binary.frame.Frame.TheVariants as code_frame
use Rattle.cbor_diag.specs.View.{view, items_view, pairs_view}
use Rattle.cbor_grammar.specs.Reading.{Frame, items_in, pairs_in, value_of, tag_of, tagged_with}
use Rattle.cbor_grammar.specs.mirror.Lengths.{left_of}

abbrev pub frame : code.Frame → Frame
frame (code_frame.Array content len) = items_in (items_view content.items) (left_of len (length content.items))
frame (code_frame.Map content None len) = pairs_in (pairs_view content.items) (left_of len (length content.items))
frame (code_frame.Map content (Some key) len) =
    value_of (pairs_view content.items) (view key) (left_of len (length content.items + 1))
frame (code_frame.Tag tag width None) = tag_of tag.0 width
frame (code_frame.Tag tag width (Some value)) = tagged_with tag.0 width (view value)

-- those that a stack holds
abbrev pub frames : List code.Frame → List Frame
frames xs = map frame xs

-- memory is reserved for few members at once, and only where as many bytes follow
abbrev pub ReservesFew : ℕ → code.Frame → Type 0
ReservesFew following (code_frame.Array content len) = (vec_capacity content ≤ following) × (vec_capacity content ≤ 32)
ReservesFew following (code_frame.Map content key len) =
    (2 * vec_capacity content ≤ following) × (vec_capacity content ≤ 32)
ReservesFew following (code_frame.Tag tag width value) = Unit {0}
