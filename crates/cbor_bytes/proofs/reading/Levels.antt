-- What `read_item` returns at a level (`read_at`): up to level 128 it is what reading behind the head returns
-- (`read_behind`), or the error of the head. At a deeper level it is always the error `no_level_left`.
use Rattle.std.proofs.Common.{◌≡◌, ℕ, ◌+◌, ◌<◌, ◌≤◌, List, Ok, Err, sym, ap, subst, ◌∙◌, arith, inl, inr}
use Rattle.std.proofs.lemmas.Bool.{cases_lt}
use Rattle.cbor_grammar.specs.declared.error.Error.{Error}
use Rattle.cbor_grammar.specs.Item.{Item}
use Rattle.cbor_grammar.specs.declared.head.ItemHead.{ItemHead}
use Rattle.cbor_grammar.specs.Reading.{Fails, opened, read_body, read_head, no_level_left, counted_item, read_item}
use Rattle.cbor_grammar.specs.WellFormed.{levels_left}
use Rattle.cbor_grammar.specs.mirror.AtLevel.{read_at, read_behind}
use Rattle.cbor_bytes.proofs.reading.Readings.{fails_then, ok_then, one_more}

pub head_reads : (level : ℕ) (b : List ℕ) (h : ItemHead) (rest : List ℕ) → level ≤ 128
    → read_head b ≡ Ok (h, rest) → read_at level b ≡ read_behind level h rest
unfolding counted_item
head_reads level b h rest le e = ap (λ n. read_item n b) (one_more level le)
    ∙ ok_then (1, read_head b) (h, rest) (λ x. read_body (counted_item (levels_left (level + 1))) (opened x.0) x.0 x.1)
    e

-- an error after a head
pub behind_fails : (level : ℕ) (b : List ℕ) (h : ItemHead) (rest : List ℕ) (e : Error) → level ≤ 128
    → read_head b ≡ Ok (h, rest) → Fails e (read_behind level h rest) → Fails e (read_at level b)
behind_fails level b h rest e le is fails = subst (Fails e) (sym (head_reads level b h rest le is)) fails

pub head_fails : (level : ℕ) (b : List ℕ) (e : Error) → level ≤ 128 → Fails e (read_head b)
    → Fails e (read_at level b)
unfolding counted_item
head_fails level b e le h = subst (λ n. Fails e (read_item n b)) (sym (one_more level le))
    (fails_then e (1, read_head b) (λ x. read_body (counted_item (levels_left (level + 1))) (opened x.0) x.0 x.1) h)

pub too_deep : (level : ℕ) (b : List ℕ) → 128 < level → read_at level b ≡ Err (no_level_left b)
unfolding counted_item
too_deep level b lt = let none : levels_left level ≡ 0 = omega arith in ap (λ n. read_item n b) none

-- an item that is read is at one of the levels
pub level_read : (level : ℕ) (b rest : List ℕ) (i : Item) → read_at level b ≡ Ok (i, rest) → level ≤ 128
level_read level b rest i e =
    elim (cases_lt 128 level) [
      | inl lt ↦ absurd (let wrong = sym (too_deep level b lt) ∙ e in cc)
      | inr le ↦ le
    ]

-- what is read at a level that is known by another name
pub same_read : (n level : ℕ) (b rest : List ℕ) (i : Item) → n ≡ level → read_at n b ≡ Ok (i, rest)
    → read_at level b ≡ Ok (i, rest)
same_read n level b rest i same e = ap (λ k. read_at k b) (sym same) ∙ e

pub same_fails : (e : Error) (n level : ℕ) (b : List ℕ) → n ≡ level → Fails e (read_at n b) → Fails e (read_at level b)
same_fails e n level b same h = subst (λ k. Fails e (read_at k b)) same h
