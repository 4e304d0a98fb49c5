-- Lists in EDN (arrays, maps, strings in chunks, items between `<<` and `>>`, and a whole text): the width after the
-- opening, what separates members, and what closes the list.
use Rattle.std.specs.Prelude.{ℕ, ◌-◌, List, [], ◌∷◌, codes, length, take, Option, Some, None, Bool, true, false}
use Rattle.std.specs.Prelude.{◌==◌, ◌&&◌, ◌||◌, if◌then◌else◌, is_some, not, nat_eq}
use Rattle.std.specs.List.{list_any}
use Rattle.cbor_grammar.specs.declared.width.IntegerWidth.{IntegerWidth}
use Rattle.cbor_grammar.specs.declared.width.IntegerWidth.TheVariants.{Unknown}
use Rattle.cbor_edn_grammar.specs.declared.close.Close.{Close}
use Rattle.cbor_edn_grammar.specs.declared.close.Close.TheVariants.{Bracket, Brace, Parenthesis, Angles, End}
use Rattle.cbor_edn_grammar.specs.Reading.{Read, ◌>>=◌, after_byte, after_bytes, repeated}
use Rattle.cbor_edn_grammar.specs.Blank.{skip_blank, is_apart}
use Rattle.cbor_edn_grammar.specs.Word.{word_of, after_word}
use Rattle.cbor_edn_grammar.specs.Strings.{begins_string, stated_by}

-- the end of the text closes the outermost list
abbrev pub at_end : List ℕ → Option (List ℕ)
at_end [] = Some []
at_end (b ∷ text) = None

-- the text after what closes a list, where that is next
abbrev pub after_close : Close → List ℕ → Option (List ℕ)
after_close Bracket text = after_bytes (codes "]") text
after_close Brace text = after_bytes (codes "}") text
after_close Parenthesis text = after_bytes (codes ")") text
after_close Angles text = after_bytes (codes ">>") text
after_close End text = at_end text

-- after `_` a blank has to follow, or what closes the list; after a width a blank
abbrev pub is_length_end : Close → Option IntegerWidth → List ℕ → Bool
is_length_end close None text = is_apart text || is_some (after_close close text)
is_length_end close (Some width) text = is_apart text

abbrev pub ended_length : Close → Option IntegerWidth → List ℕ → Read (Option IntegerWidth)
ended_length close width text = if is_length_end close width text then Some (width, text) else None

-- the width of the count right after the opening, which is none for an indefinite length
abbrev pub read_length : Close → List ℕ → Read (Option IntegerWidth)
read_length close [] = Some (Some Unknown, [])
read_length close (b ∷ text) =
    if b == 95 then (stated_by (word_of (b ∷ text)) >>= λ width. ended_length close width (after_word (b ∷ text)))
    else Some (Some Unknown, b ∷ text)

-- after a comma: whether another member follows, since a last comma is allowed
abbrev pub after_comma : Close → List ℕ → Bool × List ℕ
after_comma close text = elim (after_close close text) [ Some rest ↦ (false, rest) | None ↦ (true, text) ]

-- a line ends between a text and what comes next in it
abbrev pub ends_line : List ℕ → List ℕ → Bool
ends_line text next = list_any (λ b. nat_eq b 10) (take (length text - length next) text)

-- the next item of a whole text is on another line
abbrev pub on_new_line : Close → List ℕ → List ℕ → Bool
on_new_line End text next = ends_line text next
on_new_line close text next = false

-- Without a comma a blank has to come before the next member. Two strings are apart by it alone only in a whole text,
-- on lines of their own.
abbrev pub after_gap : Close → Bool → List ℕ → List ℕ → Read Bool
after_gap close is_string text next =
    if is_apart text && not (is_string && (begins_string next && not (on_new_line close text next)))
    then Some (true, next) else None

abbrev pub separated_by : Close → Bool → List ℕ → List ℕ → Option (List ℕ) → Read Bool
separated_by close is_string text next (Some rest) = Some (after_comma close (skip_blank rest))
separated_by close is_string text next None = after_gap close is_string text next

abbrev pub closed_by : Close → Bool → List ℕ → List ℕ → Option (List ℕ) → Read Bool
closed_by close is_string text next (Some rest) = Some (false, rest)
closed_by close is_string text next None = separated_by close is_string text next (after_byte 44 next)

-- after a member, which may be a string: whether another one follows, and the text from there on
unfoldable pub separated : Close → Bool → List ℕ → Read Bool
separated close is_string text =
    closed_by close is_string text (skip_blank text) (after_close close (skip_blank text))

abbrev pub members_or_close : {X : Type 0} → (List ℕ → Option (List X × Bool × List ℕ)) → List ℕ → Option (List ℕ)
    → Read (List X)
members_or_close turn first (Some rest) = Some ([], rest)
members_or_close turn first None = repeated turn first

-- the members of a list after its opening, up to what closes it
unfoldable pub read_members : {X : Type 0} → (List ℕ → Option (List X × Bool × List ℕ)) → Close → List ℕ
    → Read (List X)
read_members turn close text = members_or_close turn (skip_blank text) (after_close close (skip_blank text))
