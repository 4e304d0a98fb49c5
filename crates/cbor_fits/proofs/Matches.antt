-- For `Tables::is_match`: if the first of the patterns that are left is one of the node, `is_match_of` says whether the
-- text matches this pattern, whatever patterns follow.
use Rattle.std.proofs.Common.{◌≡◌, ℕ, ◌+◌, ◌<◌, List, ◌∷◌, length, get_or, drop, cond, is_some, sym, ap, ◌∙◌, eq-eqb}
use Rattle.std.proofs.lemmas.List.{at_drop_more}
use Rattle.regex.specs.Patterns.{find_str}
use Rattle.regex.specs.Strings.{regex_pattern}
use Rattle.cbor_fits.specs.Tables.{is_match_of}
use Rattle.cbor_cddl.specs.declared.compiled.Pattern.{Pattern}

pub match_here : (n : ℕ) (ps : List Pattern) (i : ℕ) (t : List ℕ) (p : Pattern) → i < length ps → p ≡ get_or ps i p
    → p.node ≡ n → is_match_of n (drop i ps) t ≡ is_some (find_str (regex_pattern p.regex) t 0)
match_here n ps i t p h is e =
    at_drop_more (λ qs. is_match_of n qs t) ps i p h ∙ (ap (λ q. is_match_of n (q ∷ drop (i + 1) ps) t) (sym is)
    ∙ ap (λ b. cond b (is_some (find_str (regex_pattern p.regex) t 0)) (is_match_of n (drop (i + 1) ps) t))
    (eq-eqb p.node n e))
