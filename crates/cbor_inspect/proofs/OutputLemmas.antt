-- Without steps, viewers append the output of the whole item at the front; with steps, they append that of its parts.
-- In both cases it is what is shown of the first item (`IsShownOfFirst`). `slice_rotate_right` moves the end of a list
-- to its front.
use Rattle.std.proofs.Common.{◌≡◌, ℕ, ◌-◌, List, [], ◌∷◌, ◌++◌, length, take, drop, refl, sym, ap, subst}
use Rattle.std.proofs.Common.{◌∙◌, arith, Result, Ok, Err, IfOk, length-append, append-nil}
use Rattle.std.specs.List.{slice_rotate_right}
use Rattle.std.proofs.lemmas.List.{take_at, drop_at}
use Rattle.cbor_grammar.specs.Item.{Item}
use Rattle.cbor_grammar.specs.Facts.{BeginsWithItem}
use Rattle.cbor_paths.specs.declared.step.Step.{Step}
use Rattle.cbor_inspect.specs.Forms.{IsForm}
use Rattle.cbor_inspect.specs.Shows.{ShowsPart}
use Rattle.cbor_paths.specs.Sequence.{ShowsEach, ShowsFront, IsShownOfFirst}
use Rattle.cbor_paths.specs.declared.end.End.{End}
use Rattle.cbor_inspect.specs.declared.items.Show.{Show}
use Rattle.cbor_inspect.specs.Shows.{Shows, steps_of}
use Rattle.cbor_paths.proofs.Sequences.{one_shown, shows_both}

-- without steps what is written is that of the item
pub front_shown : (show : Show) (steps : List Step) (b output : List ℕ) (n : ℕ) → steps ≡ []
    → ShowsFront (IsForm show) b output n → ShowsFront (ShowsPart show steps) b output n
front_shown show steps b output n none h =
    subst (λ (s : List Step). ShowsFront (ShowsPart show s) b output n) (sym none) h

-- with steps it is that of parts
abbrev pub ShowsParts : Show → List ℕ → Type 0
ShowsParts show output = (parts : List Item) × ShowsEach (IsForm show) parts output

pub parts_shown : (show : Show) (steps : List Step) (i : Item) (output : List ℕ) → (length steps ≡ 0 → ⊥)
    → ShowsParts show output → ShowsPart show steps i output
parts_shown show [] i output some h = absurd (some refl)
parts_shown show (s ∷ steps) i output some h = h

-- one more part
pub one_more : (Shows : Item → List ℕ → Type 0) (is : List Item) (j : Item) (a b : List ℕ) → ShowsEach Shows is a
    → Shows j b → ShowsEach Shows (is ++ j ∷ []) (a ++ b)
one_more Shows is j a b first more = shows_both Shows is (j ∷ []) a b first (b, [], sym (append-nil b), more, refl)

-- what is behind goes to the front
pub rotated : (x y : List ℕ) → slice_rotate_right (x ++ y) (length y) ≡ y ++ x
rotated x y =
    let n : length (x ++ y) - length y ≡ length x = omega (arith, length-append x y) in
    ap (λ (k : ℕ). drop k (x ++ y) ++ take k (x ++ y)) n
    ∙ ap (λ (l : List ℕ). l ++ take (length x) (x ++ y)) (drop_at x y (length x) refl)
    ∙ ap (λ (l : List ℕ). y ++ l) (take_at x y (length x) refl)

-- ---- what was appended to the output

pub no_steps : (steps : List Step) → length steps ≡ 0 → steps ≡ []
no_steps [] e = refl
no_steps (s ∷ steps) e = absurd (omega (arith, e))

abbrev pub Appends : List ℕ → List ℕ → (List ℕ → Type 0) → Type 0
Appends old new Written = (written : List ℕ) × (new ≡ old ++ written) × Written written

pub first_appended : (show : Show) (b old new : List ℕ) (r : Result ℕ End) → (length (steps_of show) ≡ 0 → ⊥)
    → IfOk r (λ n. (i : Item) × BeginsWithItem b i n)
    → IfOk r (λ n. (written : List ℕ) × (new ≡ old ++ written)
    × (parts : List Item) × ShowsEach (IsForm show) parts written)
    → IfOk r (λ n. Appends old new (λ w. IsShownOfFirst (Shows show) b w (drop n b)))
first_appended show b old new (Ok n) some item h = (
  h.0,
  h.1,
  one_shown (Shows show) b n item.0 h.0 item.1.2 (parts_shown show (steps_of show) item.0 h.0 some (h.2, h.3)),
)
first_appended show b old new (Err e) some item h = tt

pub whole_appended : (show : Show) (b old new : List ℕ) (r : Result ℕ End) → steps_of show ≡ []
    → IfOk r (λ n. Appends old new (λ w. ShowsFront (IsForm show) b w n))
    → IfOk r (λ n. Appends old new (λ w. IsShownOfFirst (Shows show) b w (drop n b)))
whole_appended show b old new (Ok n) none h =
    let shown = front_shown show (steps_of show) b h.0 n none h.2 in
    (h.0, h.1, one_shown (Shows show) b n shown.0 h.0 shown.1.2 shown.2)
whole_appended show b old new (Err e) none h = tt
