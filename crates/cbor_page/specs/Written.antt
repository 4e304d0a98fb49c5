-- How far the text and the bytes of a `Source` are written (`Done`): not past their ends (`IsWithin`), or up to them
-- (`IsAll`). `Writes`: the output grew by markup of the text and the bytes between two places. `ShowsTo`: it grew by
-- markup of any text and of the bytes between two places.
use Rattle.std.specs.Prelude.{◌≡◌, ◌≤◌, ◌-◌, ℕ, List, ◌++◌, length, take, drop}
use Rattle.cbor_page.specs.declared.source.Source.{Source}
use Rattle.cbor_page.specs.declared.source.Done.{Done}
use Rattle.cbor_page.specs.Markup.{IsMarkup}

-- no more than there is
abbrev pub IsWithin : Source → Done → Type 0
IsWithin source done = (done.text ≤ length source.text.now) × (done.bytes ≤ length source.bytes.now)

-- all that there is
abbrev pub IsAll : Source → Done → Type 0
IsAll source done = (done.text ≡ length source.text.now) × (done.bytes ≡ length source.bytes.now)

-- from one place to a later one
abbrev pub part : List ℕ → ℕ → ℕ → List ℕ
part list from to = take (to - from) (drop from list)

-- After the old output comes markup of the text and the bytes between the two places.
pub record Writes (source : Source) (done after : Done) (old new : List ℕ) : Type 0 where
  pub text_goes_on : done.text ≤ after.text
  pub bytes_go_on : done.bytes ≤ after.bytes
  pub within : IsWithin source after
  pub added : List ℕ
  pub new_is : new ≡ old ++ added
  pub markup : IsMarkup (part source.text.now done.text after.text) (part source.bytes.now done.bytes after.bytes) added

-- After the old output come lines that show the bytes between the two places.
pub record ShowsTo (bytes : List ℕ) (done after : ℕ) (old new : List ℕ) : Type 0 where
  pub goes_on : done ≤ after
  pub within : after ≤ length bytes
  pub text : List ℕ
  pub added : List ℕ
  pub new_is : new ≡ old ++ added
  pub markup : IsMarkup text (part bytes done after) added
