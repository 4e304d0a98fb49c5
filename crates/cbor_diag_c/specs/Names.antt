-- The errors of the C calls that show names or paths, by their numbers: `IsNoName` for `cbor_diag_name_at`, and
-- `IsNotShown` for `cbor_diag_named` and `cbor_diag_paths`. An error says that the input is not an item, that the path
-- is not text or leads to no part, or that no type has the given name.
use Rattle.std.specs.Prelude.{◌≡◌, ◌≢◌, ◌⊎◌, ℕ, List, [], IsUtf8}
use Rattle.cbor_grammar.specs.declared.error.Error.{Error}
use Rattle.cbor_grammar.specs.declared.error.Error.TheVariants as refusal
use Rattle.cbor_grammar.specs.Item.{Item}
use Rattle.cbor_grammar.specs.Facts.{IsItem, IsNoItem}
use Rattle.cbor_grammar.specs.Refusals.{number_of}
use Rattle.cbor_inspect.specs.declared.name.NameError.{NameError}
use Rattle.cbor_inspect.specs.declared.name.NameError.TheVariants.{Cbor, NoPart}
use Rattle.cbor_diag_c.specs.Answers.{no_part, no_type}

-- the input is an item
abbrev pub IsOneItem : List ℕ → Type 0
IsOneItem input = (i : Item) × IsItem input i

-- the input is no item, or the path is no text; nothing is said of memory
abbrev pub IsNoItemOrText : List ℕ → List ℕ → Error → Type 0
IsNoItemOrText input path e = (e ≡ refusal.Memory) ⊎ (IsNoItem input e ⊎ ((e ≡ refusal.Utf8) × ¬ IsUtf8 path))

-- the same, or an item has no such part
abbrev pub IsNoNamed : List ℕ → List ℕ → NameError → Type 0
IsNoNamed input path (Cbor e) = IsNoItemOrText input path e
IsNoNamed input path NoPart = IsOneItem input

-- the same by the number of the error, or no type has the name that is given
abbrev pub IsNoName : List ℕ → List ℕ → List ℕ → ℕ → Type 0
IsNoName input path kind n =
    (n ≡ 1)
    ⊎ ((e : Error) × (n ≡ number_of e) × IsNoItemOrText input path e)
    ⊎ ((n ≡ no_part) × IsOneItem input)
    ⊎ ((n ≡ no_type) × (kind ≢ []))

-- the input is no item; nothing is said of memory
abbrev pub IsNoItemOrMemory : List ℕ → Error → Type 0
IsNoItemOrMemory input e = (e ≡ refusal.Memory) ⊎ IsNoItem input e

-- the same by the number of the error, or no type has the name that is given
abbrev pub IsNotShown : List ℕ → List ℕ → ℕ → Type 0
IsNotShown input kind n =
    (n ≡ 1)
    ⊎ ((e : Error) × (n ≡ number_of e) × IsNoItemOrMemory input e)
    ⊎ ((n ≡ no_type) × (kind ≢ []))
