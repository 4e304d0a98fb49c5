-- For `run_seq.rt`: if items are written and then more items, the output is that of all of them (`IsOutputOfFirst`,
-- `Writes`). If a run ends with an error, what was written is the output of the items so far, or a beginning of it if a
-- write failed. `?` returns an error unchanged.
use Rattle.std.proofs.Common.{◌≡◌, ℕ, ◌+◌, List, [], ◌∷◌, ◌++◌, Option, Some, None, IfSome, Result, Ok, Err}
use Rattle.std.proofs.Common.{inl, inr, length, take, drop, refl, sym, ap, subst, ◌∙◌, arith, append-nil}
use Rattle.std.proofs.Common.{length-append, take-append-drop}
use Rattle.std.proofs.Math.Seq.{take-append-add}
use Rattle.std.proofs.lemmas.Grind.{flat_map-append}
use Rattle.std.specs.Result.{IsErrAnd}
use Rattle.std.proofs.KnownBytes.{Appends-trans}
use Rattle.cbor_diag.specs.Item.{Item}
use Rattle.cbor_diag.specs.Facts.{IsItem}
use Rattle.cbor_diag.specs.declared.conversion.form.To.{To}
use Rattle.cbor_view.specs.declared.counted.Counted.{Counted}
use Rattle.cbor_view.specs.declared.error.ViewError.{ViewError}
use Rattle.cbor_view.specs.declared.error.ViewError.TheVariants as view_error
use Rattle.cbor_diag.specs.Output.{output_of}
use Rattle.cbor_view.specs.Running.{Gains, NoFailure, Stops, Writes, WritesPart, IfWriteFailed}
use Rattle.cbor_view.specs.Running.{OnRefused, OnOutOfMemory, OnWriteFailed}
use Rattle.cbor_view.specs.Sequence.{ItemsThen, IsOutputOfFirst, EndsTheItems, IsOutputBefore}

-- before any item
pub none_written : (to : To) (b : List ℕ) → IsOutputOfFirst to b [] b
none_written to b = record { items = []; input_is = refl; output_is = refl }

-- the item at the front
pub one_written : (to : To) (b : List ℕ) (used : ℕ) (i : Item) → IsItem (take used b) i
    → IsOutputOfFirst to b (output_of to i) (drop used b)
one_written to b used i h = record {
  items = i ∷ [];
  input_is = (take used b, drop used b, sym (take-append-drop used b), h, refl);
  output_is = sym (append-nil (output_of to i));
}

items_then : (b : List ℕ) (is js : List Item) (mid rest : List ℕ) → ItemsThen b is mid → ItemsThen mid js rest
    → ItemsThen b (is ++ js) rest
items_then b [] js mid rest first more = subst (λ (x : List ℕ). ItemsThen x js rest) (sym first) more
items_then b (i ∷ is) js mid rest first more =
    (first.0, first.1, first.2, first.3, items_then first.1 is js mid rest first.4 more)

-- the items after the first ones
pub more_written : (to : To) (b out mid more rest : List ℕ) → IsOutputOfFirst to b out mid
    → IsOutputOfFirst to mid more rest → IsOutputOfFirst to b (out ++ more) rest
more_written to b out mid more rest first second = record {
  items = first.items ++ second.items;
  input_is = items_then b first.items second.items mid rest first.input_is second.input_is;
  output_is = simp flat_map-append (cc (first.output_is, second.output_is));
}

-- what follows, after what came before
pub writes_more : {T : Type 0} (contents : T → Option (List ℕ)) (old mid new : Counted T) (out more : List ℕ)
    → Writes contents old mid out → Writes contents mid new more → Writes contents old new (out ++ more)
writes_more contents old mid new out more first then =
    (Appends-trans _ _ _ out more first.0 then.0, then.1 ∙ first.1)

stops_later : {T : Type 0} (old mid new : Counted T) → NoFailure old mid → Stops mid new → Stops old new
stops_later old mid new none (inl failed) = inl (rw none at failed)
stops_later old mid new none (inr stopped) = inr (stopped.0 ∙ none, stopped.1)

-- a beginning of what follows, after all that came before
pub part_later : {T : Type 0} (contents : T → Option (List ℕ)) (old mid new : Counted T) (out more : List ℕ)
    → Writes contents old mid out → WritesPart contents mid new more → WritesPart contents old new (out ++ more)
part_later contents old mid new out more first part =
    let taken = part.0 in (
      (
        length out + taken.0,
        omega (arith, length-append out more, taken.1),
        subst (λ (x : List ℕ). Gains contents old new x) (sym (take-append-add out more taken.0))
            (Appends-trans _ _ _ out (take taken.0 more) first.0 taken.2),
      ),
      stops_later old mid new first.1 part.1,
    )

-- ---- the end after a block

-- `?` returns the error unchanged
pub same_end : {X : Type 0} (s r : Result X ViewError) (e : ViewError) → IsErrAnd s (λ v. v ≡ e) → r ≡ Err e → s ≡ r
same_end (Ok x) r e is was = absurd is
same_end {X = X} (Err v) r e is was = let P : ViewError → Result X ViewError = λ d. Err d in ap P is ∙ sym was

-- A block of output was written, or a beginning of it, after what was written of the items before, and then
-- the sequence ends.
module _ {T : Type 0} (contents : T → Option (List ℕ)) (old mid new : Counted T) (to : To)
    (all out rest block after : List ℕ)
    (first : IsOutputOfFirst to all out rest) (before : Writes contents old mid out)
    (second : IsOutputOfFirst to rest block after) where
  -- the block, or a beginning of it where a write failed
  abbrev pub Took : {X : Type 0} → Result X ViewError → Type 0
  Took r = IfWriteFailed r (WritesPart contents mid new block) (Writes contents mid new block)

  pub end_refused : {X : Type 0} (r : Result X ViewError) → Took r
      → OnRefused r (EndsTheItems after)
      → OnRefused r (λ e. (written : List ℕ) × IsOutputBefore to all e written × Writes contents old new written)
  end_refused (Ok x) took h = tt
  end_refused (Err (view_error.Item e)) took h =
      λ ample. (
        out ++ block,
        (after, more_written to all out rest block after first second, h ample),
        writes_more contents old mid new out block before took,
      )
  end_refused (Err view_error.Read) took h = tt
  end_refused (Err view_error.Write) took h = tt

  pub end_memory : {X : Type 0} (r : Result X ViewError) → Took r
      → OnOutOfMemory r ((written left : List ℕ) × IsOutputOfFirst to all written left
      × Writes contents old new written)
  end_memory (Ok x) took = tt
  end_memory (Err (view_error.Item e)) took =
      λ memory. (
        out ++ block,
        after,
        more_written to all out rest block after first second,
        writes_more contents old mid new out block before took,
      )
  end_memory (Err view_error.Read) took = tt
  end_memory (Err view_error.Write) took = tt

  pub end_write : {X : Type 0} (r : Result X ViewError) → Took r
      → OnWriteFailed r ((written left : List ℕ) × IsOutputOfFirst to all written left
      × WritesPart contents old new written)
  end_write (Ok x) took = tt
  end_write (Err (view_error.Item e)) took = tt
  end_write (Err view_error.Read) took = tt
  end_write (Err view_error.Write) took = (
    out ++ block,
    after,
    more_written to all out rest block after first second,
    part_later contents old mid new out block before took,
  )

-- a reader had some bytes, whether they are known or not
pub had_some : (told : Option (List ℕ)) → (all : List ℕ) × IfSome told (λ bytes. bytes ≡ all)
had_some None = ([], tt)
had_some (Some bytes) = (bytes, refl)

-- what holds if memory ran out in a call, holds if `?` hands on its error
pub memory_passed : {X Y P Q : Type 0} (s : Result X ViewError) (r : Result Y ViewError) (e : ViewError)
    → IsErrAnd s (λ v. v ≡ e) → r ≡ Err e → OnOutOfMemory r P → (P → Q) → OnOutOfMemory s Q
memory_passed (Ok x) r e is was h more = absurd is
memory_passed {Y = Y} {P = P} (Err (view_error.Item d)) r e is was h more =
    let error : ViewError → Result Y ViewError = λ v. Err v in
    let then = subst (λ (x : Result Y ViewError). OnOutOfMemory x P) (was ∙ ap error (sym is)) h in
    λ memory. more (then memory)
memory_passed (Err view_error.Read) r e is was h more = tt
memory_passed (Err view_error.Write) r e is was h more = tt
