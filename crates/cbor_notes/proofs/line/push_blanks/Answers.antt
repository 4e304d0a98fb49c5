use Rattle.std.proofs.Common.{◌≡◌, ◌++◌, ◌-◌, ◌∙◌, ap, replicate, arith, string_bytes}
use Rattle.std.proofs.lemmas.Grind.{common_steps}
use Rattle.cbor_notes.proofs.columns.Spaces.{blanks_split}
use Rattle.cbor_notes.proofs.line.push_blanks.Goals as goal

pub more-preserved : goal.more-preserved
more-preserved c =
    let pushed : string_bytes c.push_str.new.self ≡ string_bytes c.more.out ++ replicate 64 32 =
    c.in_ok-push_str.ensures.bytes ∙ ap (λ x. string_bytes c.more.out ++ x) c.blanks.ensures.value in (
      ap (λ x. x ++ replicate (c.more.left - 64) 32) pushed
          ∙ blanks_split (string_bytes c.more.out) 64 c.more.left (omega arith)
          ∙ c.more.invariant.0,
      omega (arith, c.in_ok-push_str.ensures.len),
      omega arith,
    )

pub returns-clause-bytes : goal.returns-clause-bytes
returns-clause-bytes c =
    let whole : string_bytes c.more.out ++ c.blanks-2.result.now ≡ string_bytes c.args.out.now
    ++ replicate c.args.count 32 = ap (λ x. string_bytes c.more.out ++ x) c.blanks-2.ensures.value
    ∙ c.more.invariant.0 in
    grind (arith, common_steps)
