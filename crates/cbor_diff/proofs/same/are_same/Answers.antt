-- Items have one core deterministic encoding at most, and the same items the same one.
use Rattle.std.proofs.Common.{ℕ, List, inr, sym, subst, ◌∙◌}
use Rattle.std.proofs.lemmas.Bool.Decides.{Decides-eqb}
use Rattle.std.proofs.lemmas.Slice.Eq.{slice_eq-Decides}
use Rattle.cbor_rules.specs.declared.rules.TheConstants.Rules.{CORE}
use Rattle.cbor_reencode.specs.Reencoded.{IsReencoded}
use Rattle.cbor_diff.proofs.Cores.{same_cores, other_first, other_second}
use Rattle.cbor_diff.proofs.same.are_same.Goals as goal

pub returns-in_default : goal.returns-in_default
returns-in_default c =
    let eq = slice_eq-Decides Decides-eqb c.args.old.now c.args.new.now c.eq.result c.eq.ensures in (
      λ e. absurd cc,
      λ same. absurd (other_first c.args.old.now c.args.new.now
          (λ e. (let wrong = sym (eq.1 e) ∙ c.if-eq.false in absurd cc))
          (c.in_ok-first.ensures.none c.in_default.is) same),
    )

pub returns-in_default-2 : goal.returns-in_default-2
returns-in_default-2 c =
    let eq = slice_eq-Decides Decides-eqb c.args.old.now c.args.new.now c.eq.result c.eq.ensures in (
      λ e. absurd cc,
      λ same. absurd (other_second c.args.old.now c.args.new.now
          (λ e. (let wrong = sym (eq.1 e) ∙ c.if-eq.false in absurd cc))
          (c.in_ok-second.ensures.none c.in_default-2.is) same),
    )

pub returns : goal.returns
returns c =
    let eq = slice_eq-Decides Decides-eqb c.in-Some.first.items c.in-Some-2.second.items c.eq-2.result c.eq-2.ensures in
    let first = rw c.in-Some.is at c.in_ok-first.ensures.some in
    let second = rw c.in-Some-2.is at c.in_ok-second.ensures.some in (
      λ e. inr (
        c.in-Some.first.items,
        first,
        subst (λ (x : List ℕ). IsReencoded CORE c.args.new.now x) (sym (eq.0 e)) second,
      ),
      λ same. eq.1 (same_cores c.args.old.now c.args.new.now c.in-Some.first.items c.in-Some-2.second.items first
          second same),
    )
