-- `cbor_diag_scanner_feed` keeps its contract: it lends the scanner at its pointer to `CountedScanner::feed` and passes
-- `end` on to it. The proof goes through its MIR by hand.
use Rattle.std.proofs.Common.{◌≢◌, ℕ, ℤ, ◌^◌, ◌<◌, List, [], ◌∷◌, length, refl, w64, MutBor}
use Rattle.std.proofs.raw_atomic.Walks.{proved}
use base.Fraction.{full_share}
use base.Logic.{id⊢, sep, ex, ex_i}
use base.Fml.{ftrue, flft, flent}
use mir.Syntax.{named}
use mir.Val.{vptr}
use prog.Wp.{WpFn}
use contract.Monad.{fact}
use contract.Running.{tables}
use types.Logic.{sem}
use types.Kit.{‵, raw, ◌⊛◌, some, later, prop, at_ret, ◌$◌, ◌∵◌, !, qed, done, move, keep, use1, use2, use3}
use types.Kit.{split, split3, join, fsplit, fsplit3, fjoin, pick, await, regoal, suffices}
use types.Kit.{group}
use types.Run.{enter, of_opd, addr, stop, no_more, and_then, first, blocks, exec, returns}
use types.ByLocal.{alloc_all, pass_all, free_all, look_at, get, through, sets, sets_last, lands_as, env}
use types.Tokens.{lft_new, lft_end}
use denote.Builtin.{SliceRefOf, u8, usize, i64}
use denote.Exit.{yes}
use denote.Laws.{shows, Is}
use denote.Lend.{lends_ref, ref_back}
use denote.Memory.{mem}
use types.SemTy.{Body}
use denote.RattleType.{owns}
use denote.RawPtr.{Ptr, RawPtr, block_ptr, lies_at, in_a_block, rawptr_vals, rawptr_Tells}
use denote.Ref.{MutRef, mut_vals, mut_Tells}
use denote.Signature.{plain, types_at}
use denote.Signed.{sint_Lawful}
use denote.Slice.{shr_slice_vals, shr_slice_Tells}
use denote.Steps.{nothing, peeks}
use denote.Triple.Call.{calls_at}
use denote.Triple.Clauses.{lasts, Lasts}
use denote.Triple.Spec.{triple_of}
use denote.Triple.Walked.{Stays, walk_of, stay_dropped, Goes-dropped, gave_ref, Goes-gave_ref, ends_at}
use denote.Triple.Table.{framed}
use Rattle.cbor_bytes.specs.declared.skip.answer.Extent.{Extent}
use Rattle.cbor_bytes.specs.declared.skip.answer.Extent.TheVariants.{Cut}
use Rattle.cbor_bytes.specs.Extent.{IsExtent}
use Rattle.cbor_diag_c.specs.Answers.{IfLength, IfError}
use Rattle.cbor_diag_c.specs.Beginnings.{IsItemOf, IsCutOrFault, IsReturned}
use Rattle.cbor_diag_c.specs.Pieces.{HasScanned, IfFed}
use Rattle.cbor_diag_c.specs.contracts.scanner.CountedScanner.{the_row as R}
use Rattle.cbor_diag_c.specs.contracts.scanner.CountedScanner.feed as g
use Rattle.cbor_diag_c.proofs.scanner.CountedScanner.feed.Met.{met}
use Rattle.cbor_diag_c.specs.contracts.scanner.cbor_diag_scanner_feed as f
use Rattle.cbor_diag_c.proofs.scanner.cbor_diag_scanner_feed.Statement.{statement}
use Rattle.cbor_diag_c.proofs.scanner.cbor_diag_scanner_feed.Code as code

abbrev stayed : Stays f.ended.signature.params f.ended.kept
stayed = (stay_dropped _ yes, (stay_dropped _ yes, (gave_ref (1 ∷ []) tt (plain (λ _. usize)), tt)))

pub cbor_diag_scanner_feed_spec : {M : Type 1} → statement M
cbor_diag_scanner_feed_spec 𝓤 𝓛 𝓜 𝓡 wired =
    let c = f.clauses 𝓛 𝓜.mem 𝓡.returns in let W = walk_of 𝓛 f.ended stayed c in let 𝓣 = tables 𝓤 𝓛.H 𝓜 𝓡 𝓡.env in
    proved 𝓛 f.ended stayed c 𝓜 𝓡 (
      Goes-dropped 𝓛 2 (plain (λ _. RawPtr)) yes (λ κs x w. refl),
      (
        Goes-dropped 𝓛 2 (SliceRefOf (0 ∷ []) tt (plain (λ _. u8)) (λ _. tt)) yes (λ κs x w. refl),
        (Goes-gave_ref 𝓛 2 1 tt (plain (λ _. usize)), tt),
      ),
    )
    f.Key.name code.function (code.unfolded 𝓤 𝓛.H 𝓜 𝓡 wired)
    (λ κs. (rawptr_vals, (shr_slice_vals, (mut_vals, tt))))
    (λ κs. (rawptr_Tells, (shr_slice_Tells (named 0) κs.0 u8, (mut_Tells (named 1) κs.1.0 usize, tt))))
    (λ κs qs bounds a n are.
    let input = a.1.0 in let end = a.1.1.0 in
    let κ₀ = κs.0 in let κ₁ = κs.1.0 in let q₀ = qs.0 in let q₁ = qs.1.0 in
    let y : Ptr → W.Ghost = λ p.
    ((κs, qs, bounds, (p, (input, (end, tt))), (rawptr_vals p, (shr_slice_vals input, (mut_vals end, tt)))), n) in
    let fits : length input.now < 2 ^ 64 = are.1.0.0.1.0 in
    qed 𝓛 (((‵ (flft κ₀ q₀) ⊛ ‵ (flft κ₁ q₁) ⊛ ‵ ftrue)
    ⊛ ‵ (owns (types_at f.ended.signature.params κs) a (y a.0).0.4)) ∷ ‵ (lies_at R full_share a.0 n) ∷ []) ∵
    split ! $ split3 ! $ move ! (3 ∷ []) $ fsplit3 ! $ move ! (2 ∷ []) $ fsplit ! $ keep ! (7 ∷ 0 ∷ 3 ∷ 4 ∷ 5 ∷ []) $
    -- [the scanner; end; input; the two tokens]
    in_a_block ! a.0 (λ p. lies_at R full_share p n) (id⊢ 𝓤 _) (λ b o e.
    regoal ! (λ p. prop (WpFn 𝓤 𝓛.H 𝓣.C 𝓣.Λ code.function (W.args (y p)) (W.post (y p)))) e refl $
    enter ! _ _ _ _ _ $
    alloc_all ! (λ l. pass_all ! refl ((tt, tt), ((tt, (tt, (record { fits = fits }, tt))), ((tt, tt), tt))) $
    -- let place = scanner as *mut Scanner;
    sets ! (of_opd ! (get ! refl)) refl (tt, tt) $ sets ! (of_opd ! (get ! refl)) refl (tt, tt) $
    -- &mut *place
    first ! $ blocks ! $ sets_last ! (addr ! (through ! refl (stop !))) refl (tt, tt) $
    exec ! 𝓣.C 𝓣.Λ (env code.Mir.locals l) code.Mir.t-4 (at_ret _ (W.post (y (block_ptr b o)))) $
    sets ! (of_opd ! (get ! refl)) refl (tt, tt) $
    -- input, end
    sets ! (of_opd ! (get ! refl)) refl (tt, (tt, (record { fits = fits }, tt))) $
    sets ! (addr ! (through ! refl (stop !))) refl (tt, tt) $
    lft_new ! tt (λ α. move ! (1 ∷ []) $
    let Ref = λ (γ : ℕ) (h : R.Denot).
    (MutRef (named 0) (α ∷ []) R).own_val (record { ref_ptr = (b, o); ghost_name = γ; now = h }) (vptr b o ∷ []) in
    use1 𝓛 (later (some (λ (γ : ℕ). ‵ (Ref γ n) ⊛ ‵ (flent (α ∷ []) (Body (mem R) b o γ)))))
    (lends_ref 𝓛 R (named 0) (α ∷ []) n b o) $ await ! tt $ pick ! (λ γ. split ! $
    let Scanned = λ (h : R.Denot). raw (fact 𝓤 (IfFed n input.now (HasScanned h))) in
    let Kept = λ (h : R.Denot).
    sep 𝓤 (sem 𝓛 (lies_at R full_share (block_ptr b o) h)) (fact 𝓤 (IfFed n input.now (HasScanned h))) in
    let Answers = λ (r : ℤ) (last : ℕ).
    raw (fact 𝓤 (IfFed n input.now (λ bytes. IfLength r (λ k. IsItemOf bytes k last))))
    ⊛ raw (fact 𝓤 (IfFed n input.now (λ bytes. IfError r (λ k. IsCutOrFault bytes k last))))
    ⊛ raw (fact 𝓤 ((found : Extent) → IfFed n input.now
    (λ bytes. IsExtent bytes found → IsReturned found (length bytes) r last)))
    ⊛ raw (fact 𝓤 ((fed : List ℕ) (found : Extent) → HasScanned n fed → IsExtent fed found → found ≢ Cut
    → IsReturned found (length fed) r last)) in
    -- [the loan; what comes back of it; the token of α; end; input; the two tokens]
    let G = triple_of 𝓛 g.signature (g.spec 𝓛 𝓜.mem 𝓡.returns) in
    let loan : MutBor R.Denot = record { ref_ptr = (b, o); ghost_name = γ; now = n } in
    let z : G.Ghost = (
      (
        (α ∷ [], (κ₀, (κ₁, tt))),
        (full_share, (q₀, (q₁, tt))),
        tt,
        (loan, (input, (end, tt))),
        (mut_vals loan, (shr_slice_vals input, (mut_vals end, tt))),
      ),
      tt,
    ) in
    nothing ! $ move ! (4 ∷ 0 ∷ []) $ fjoin ! $ move ! (4 ∷ 0 ∷ []) $ fjoin ! $ move ! (1 ∷ 0 ∷ []) $ fjoin ! $
    nothing ! $ move ! (5 ∷ 0 ∷ []) $ join ! $ move ! (4 ∷ 0 ∷ []) $ join ! $ move ! (3 ∷ 0 ∷ []) $ join ! $ join ! $
    nothing ! $ move ! (1 ∷ 0 ∷ []) $ join ! $ use1 𝓛 (raw (G.pre z)) (id⊢ 𝓤 _) $
    calls_at ! (framed 𝓤 𝓛.H 𝓜 𝓣) G (met 𝓤 𝓛 𝓜 𝓡 (code.calls-cbor_diag_c::scanner::CountedScanner::feed 𝓡.env wired)) z
    (and_then ! (get ! refl) (and_then ! (get ! refl) (and_then ! (get ! refl) (no_more !)))) (λ v.
    use1 𝓛 (later (some (λ (r : ℤ). ((‵ (flft (α ∷ []) full_share) ⊛ ‵ (flft κ₀ q₀) ⊛ ‵ (flft κ₁ q₁) ⊛ ‵ ftrue)
    ⊛ ‵ (i64.own_val r (v ∷ []))) ⊛
    some (λ (ws : Lasts g.ended z.0.0 z.0.3). ‵ (lasts g.ended z.0.0 z.0.3 ws) ⊛ Scanned ws.0
    ⊛ Answers r ws.1.1.0)))) (id⊢ 𝓤 _) $
    await ! tt $ pick ! (λ r. split ! $ split ! $ split ! $ lft_end ! tt $ move ! (3 ∷ []) $
    pick ! (λ ws. split ! $ fsplit ! $ fsplit ! $
    -- [the loan's last value; its borrow; what is left of input and end; the answers; α is over; the two tokens;
    --  the result; what comes back]
    move ! (4 ∷ 7 ∷ 0 ∷ []) $ use3 𝓛 (later (‵ ((mem R).own_at ws.0 b o))) (ref_back 𝓛 R (α ∷ []) γ ws.0 b o) $
    await ! tt $
    -- [the scanner; the loan's borrow; what is left; the answers; the two tokens; the result]
    move ! (5 ∷ []) $
    peeks ! i64 (Is i64) (shows 𝓛 i64) r (v ∷ []) (λ is. lands_as ! refl refl ((sint_Lawful 𝓛 w64).typed r _ is).0 $
    returns ! (look_at ! 0 refl) $ free_all ! refl $
    move ! (4 ∷ []) $ split ! $ move ! (3 ∷ 0 ∷ []) $ use2 𝓛 (raw (ex 𝓤 Kept)) (ex_i 𝓤 Kept ws.0) $
    -- [the scanner, which has scanned the input; the answers; the result; the loan's borrow; what is left;
    --  the two tokens]
    suffices ! _ (ends_at 𝓛 f.ended stayed c (y (block_ptr b o)) v r (tt, (tt, (ws.1.1.0, tt))) (tt, (tt, (tt, tt)))) $
    move ! (4 ∷ []) $ nothing ! $ fjoin ! $ keep ! (5 ∷ 0 ∷ 3 ∷ 1 ∷ 2 ∷ []) $ group ! 3 $ done !)))))))))
