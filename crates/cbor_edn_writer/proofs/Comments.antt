-- Each comment after an item is one between slashes, or nothing (`AnyNote`): the writer's own (`note_is_any`), and a
-- caller's (`comment_after_note`).
use Rattle.std.proofs.Common.{◌≡◌, ◌⊎◌, ℕ, List, [], ◌++◌, codes, Bool, true, false, not, Option, Some, None}
use Rattle.std.proofs.Common.{if◌then◌else◌, refl, sym, subst, inl, inr}
use Rattle.std.specs.List.{list_any}
use Rattle.std.proofs.lemmas.Bool.{and_parts, not-true}
use Rattle.cbor_notation_writer.specs.Dialect.{Texts}
use Rattle.cbor_edn_writer.specs.EdnLeaves.{ends_note, begins_note, is_note, comment_after, own_comment, Said}
use Rattle.cbor_edn_writer.specs.EdnLeaves.{NoteAfter}
use Rattle.cbor_edn_writer.specs.declared.print.place.EdnPlace.{EdnPlace}

-- a note: printable ASCII characters, and no slash
abbrev pub IsNote : List ℕ → Type 0
IsNote note = list_any ends_note note ≡ false

-- a note between slashes that begins no other comment, or nothing
abbrev pub AnyNote : Texts
AnyNote t = (t ≡ [])
    ⊎ ((note : List ℕ) × IsNote note × (t ≡ codes " /" ++ (note ++ codes "/")) × (begins_note note ≡ true))

-- what is written of a note's text, by whether it may be one
pub by_note : (P : List ℕ → Type 0) (note t : List ℕ) → P [] → (IsNote note → begins_note note ≡ true → P t)
    → P (if is_note note then t else [])
by_note P note t none some = either (is_note note) refl
  where
    either : (test : Bool) → is_note note ≡ test → P (if test then t else [])
    either false e = none
    either true e =
        let parts = and_parts (begins_note note) (not (list_any ends_note note)) e in
        some (not-true (list_any ends_note note) parts.1) parts.0

pub comment_after_note : (note : List ℕ) → AnyNote (comment_after note)
comment_after_note note =
    by_note AnyNote note (codes " /" ++ (note ++ codes "/")) (inl refl)
    (λ is begins. inr (note, is, refl, begins))

own_note : (said : Option (List ℕ)) → AnyNote (own_comment said)
own_note None = inl refl
own_note (Some note) = comment_after_note note

pub note_is_any : (p : EdnPlace) (says : Said) (t : List ℕ) → NoteAfter p says t → AnyNote t
note_is_any p says t (inl none) = inl none.1
note_is_any p says t (inr some) = subst AnyNote (sym some.3) (own_note some.1)
