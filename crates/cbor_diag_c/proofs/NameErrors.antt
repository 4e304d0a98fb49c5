-- For `name_of`: each error that the call returns instead of a name (`HasNoName`) is one that the call for C may return
-- (`IsNoNamed`): out of memory, the input is no item, or it has no such part.
use Rattle.std.proofs.Common.{ℕ, List, refl, inl, inr}
use Rattle.cbor_grammar.specs.declared.error.Error.TheVariants as refusal
use Rattle.cbor_inspect.specs.Named.{HasNoName}
use Rattle.cbor_inspect.specs.declared.name.NameError.{NameError}
use Rattle.cbor_inspect.specs.declared.name.NameError.TheVariants.{Cbor, NoPart}
use Rattle.cbor_diag_c.specs.Names.{IsNoNamed}

pub no_name : (b path : List ℕ) (e : NameError) → HasNoName b e → IsNoNamed b path e
no_name b path (Cbor refusal.Memory) h = inl refl
no_name b path (Cbor refusal.CutShort) h = inr (inl h)
no_name b path (Cbor refusal.Head) h = inr (inl h)
no_name b path (Cbor refusal.Utf8) h = inr (inl h)
no_name b path (Cbor refusal.TooDeep) h = inr (inl h)
no_name b path (Cbor refusal.Remaining) h = inr (inl h)
no_name b path (Cbor refusal.OddHex) h = inr (inl h)
no_name b path (Cbor refusal.BadHex) h = inr (inl h)
no_name b path (Cbor refusal.Notation) h = inr (inl h)
no_name b path (Cbor refusal.PastWidth) h = inr (inl h)
no_name b path NoPart h = h
