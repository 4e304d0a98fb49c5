-- `text_violation` finds nothing in the content of a string if and only if the content keeps the rules
-- (`KeepsContent`): a text is in NFC if the rules ask for that. If `kept_content` reads a content, the content has no
-- violation, and `skip_content` ends at the same place.
use Rattle.std.proofs.Common.{◌≡◌, ℕ, Bool, true, false, cond, List, take, Some, None, Ok, refl, ap, ◌∙◌}
use Rattle.std.specs.Cmp.Lexicographic.{bytes_decides}
use Rattle.std.specs.Prelude.{chars}
use Rattle.unicode_normalization.specs.Forms.{nfc, is_nfc, IsInForm, Nfc}
use Rattle.cbor_grammar.specs.declared.width.IntegerWidth.{IntegerWidth}
use Rattle.cbor_grammar.specs.declared.strings.StringKind.{StringKind}
use Rattle.cbor_grammar.specs.declared.strings.StringKind.TheVariants.{Bytes, Text}
use Rattle.cbor_bytes.specs.mirror.Skipping.{skip_content}
use Rattle.cbor_rules.specs.declared.rules.Rules.{Rules}
use Rattle.cbor_rules.specs.declared.kind.ViolationKind.TheVariants as kind
use Rattle.cbor_rules.specs.FirstViolation.{at, unless, nfc_violation, text_violation, kept_content}
use Rattle.cbor_rules.specs.Keeps.{KeepsContent}
use Rattle.cbor_rules.proofs.Heads.{then_kept, unless_kept, at_kept, tested, untested}

in_form : (t : Bool) → cond t None (Some kind.NotNfc) ≡ None → t ≡ true
in_form true e = refl
in_form false e = absurd cc

nfc_found : (content : List ℕ) → nfc_violation content ≡ None → IsInForm Nfc (chars content)
nfc_found content e =
    let cs = chars content in (bytes_decides (nfc cs) cs).0 (in_form (is_nfc cs) e)

nfc_again : (content : List ℕ) → IsInForm Nfc (chars content) → nfc_violation content ≡ None
nfc_again content is =
    let cs = chars content in
    ap (λ (t : Bool). cond t None (Some kind.NotNfc)) ((bytes_decides (nfc cs) cs).1 is)

pub text_found : (rules : Rules) (kind : StringKind) (content : List ℕ) → text_violation rules kind content ≡ None
    → KeepsContent rules kind content
text_found rules Bytes content e = tt
text_found rules Text content e = λ on. nfc_found content (tested rules.nfc (nfc_violation content) on e)

pub text_again : (rules : Rules) (kind : StringKind) (content : List ℕ) → KeepsContent rules kind content
    → text_violation rules kind content ≡ None
text_again rules Bytes content keeps = refl
text_again rules Text content keeps = untested rules.nfc (nfc_violation content) (λ on. nfc_again content (keeps on))

-- a content that was read without a violation
pub content_kept : (rules : Rules) (total : ℕ) (b : List ℕ) (kind : StringKind) (n : ℕ) (w : IntegerWidth)
    (r after : List ℕ) → kept_content rules total b kind n w r ≡ Ok after
    → (skip_content kind n w r ≡ Ok after) × (text_violation rules kind (take n r) ≡ None)
content_kept rules total b kind n w r after e =
    let violation = text_violation rules kind (take n r) in
    let t = then_kept (at total b (skip_content kind n w r)) (unless total b violation) after e in
    let u = unless_kept total b violation t.0 after t.2 in (
      at_kept total b (skip_content kind n w r) t.0 t.1 ∙ ap (λ (x : List ℕ). Ok x) u.1,
      u.0,
    )
