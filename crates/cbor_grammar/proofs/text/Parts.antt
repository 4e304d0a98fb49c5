-- At a level up to 128, the text of an item (`text_at_level`) is `text_with`, with the items in it written one level
-- deeper. If code has appended the parts in order (members between brackets, or a tag and its item in parentheses), it
-- has appended the text of the whole.
use Rattle.std.specs.Prelude.{Result}
use Rattle.std.proofs.Common.{◌≡◌, ℕ, suc, ◌+◌, ◌≤◌, List, ◌++◌, codes, Option, Some}
use Rattle.std.proofs.Common.{None, sym, ap, subst, ◌∙◌, append_assoc, arith}
use Rattle.cbor_grammar.specs.declared.width.IntegerWidth.{IntegerWidth}
use Rattle.cbor_tokens.specs.Appends.{Appends}
use Rattle.cbor_grammar.specs.Context.{Context}
use Rattle.cbor_grammar.specs.declared.layout.Content.{Content}
use Rattle.cbor_grammar.specs.declared.layout.Content.TheVariants.{Bytes}
use Rattle.cbor_grammar.specs.declared.layout.ContainerStyle.{ContainerStyle}
use Rattle.cbor_grammar.specs.Item as spec
use Rattle.cbor_grammar.specs.Item.{Item, atom, array, tagged}
use Rattle.cbor_grammar.specs.WellFormed.{levels_left, WellFormed}
use Rattle.cbor_grammar.specs.NotationText.{Writer, number, content_below, below, members}
use Rattle.cbor_grammar.specs.NotationText.{last_line, bracketed, text_with, text_at}
use Rattle.cbor_grammar.specs.NotationText.{text_at_level}

-- how many levels are left below an item, and what writes an item there
abbrev pub left_below : ℕ → ℕ
left_below level = levels_left (level + 1)

abbrev pub write_below : ℕ → Writer
write_below level = text_at_level (level + 1)

-- what the bytes of a byte string right below this tag, if there is one, are shown as
abbrev pub content_of : Option ℕ → Content
content_of None = Bytes
content_of (Some t) = content_below t

pub text_opens : (level : ℕ) (c : Context) (i : Item) → level ≤ 128
    → text_at_level level c i ≡ text_with (left_below level) (write_below level) c i
unfolding text_at
text_opens level c i le =
    let levels : levels_left level ≡ suc (left_below level) = omega arith in
    ap (λ n. text_at n c i) levels

pub well_level : (level : ℕ) (i : Item) → WellFormed level i → level ≤ 128
well_level level (atom a) h = h.0
well_level level (array is w) h = h.0
well_level level (spec.map ps w) h = h.0
well_level level (tagged t w i) h = h.0

-- what is written of an item that is this one
pub shown : {T E : Type 0} (r : Result T E) (level : ℕ) (c : Context) (i j : Item) (out new : List ℕ)
    → WellFormed level i → i ≡ j
    → Appends r out new (text_with (left_below level) (write_below level) c j)
    → Appends r out new (text_at_level level c i)
shown r level c i j out new well is h =
    let opens = sym (text_opens level c j (well_level level i well)) in
    subst (Appends r out new) (opens ∙ ap (text_at_level level c) (sym is)) h

-- what is written of members between brackets, in the style of their container
pub bracketed_written : (l : ContainerStyle) (opening closing : List ℕ) (ms : List (List ℕ))
    (out opened written new : List ℕ)
    → opened ≡ out ++ opening → written ≡ opened ++ members l ms → new ≡ written ++ (last_line l ++ closing)
    → new ≡ out ++ bracketed l opening ms closing
bracketed_written l opening closing ms out opened written new p q r =
    r ∙ ap (λ x. x ++ (last_line l ++ closing)) (q ∙ ap (λ x. x ++ members l ms) p) ∙ simp append_assoc

-- what is written of a container, an item without its level
pub opened_again : (level : ℕ) (c : Context) (i : Item) (out new : List ℕ) → level ≤ 128
    → new ≡ out ++ text_with (left_below level) (write_below level) c i → new ≡ out ++ text_at_level level c i
opened_again level c i out new le h = h ∙ ap (λ x. out ++ x) (sym (text_opens level c i le))

pub tag_shown : (level : ℕ) (c : Context) (v : Item) (t : ℕ) (w : IntegerWidth) (out a b e new : List ℕ) → level ≤ 128
    → a ≡ out ++ number t w → b ≡ a ++ codes "(" → e ≡ b ++ write_below level (below t c) v → new ≡ e ++ codes ")"
    → new ≡ out ++ text_at_level level c (tagged t w v)
tag_shown level c v t w out a b e new le p q r s =
    let inner = r ∙ ap (λ x. x ++ write_below level (below t c) v) (q ∙ ap (λ x. x ++ codes "(") p) in
    opened_again level c (tagged t w v) out new le (s ∙ ap (λ x. x ++ codes ")") inner ∙ simp append_assoc)
