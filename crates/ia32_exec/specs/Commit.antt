-- The numbers that an instruction writes, in their order.
use Rattle.std.specs.Prelude.{ℕ, ◌+◌, ◌*◌, zero, suc, List, [], ◌∷◌, ◌++◌, slice_index}
use Rattle.ia32_types.specs.declared.size.Size.TheVariants.{Long}
use Rattle.ia32_exec.specs.declared.outcome.Store.{Store}
use Rattle.ia32_exec.specs.declared.outcome.Stores.{Stores}
use Rattle.ia32_exec.specs.declared.outcome.Stores.TheVariants.{Nothing, One, Eight}
use Rattle.ia32_exec.specs.Memory.{store}

-- the first n numbers of a list, of 4 bytes each, from an address upward
abbrev pub longs_to : ℕ → ℕ → List ℕ → List Store
longs_to zero at vs = []
longs_to (suc n) at vs = longs_to n at vs ++ (store (at + 4 * n) Long (slice_index vs n) ∷ [])

-- the writes in their order
abbrev pub list_of : Stores → List Store
list_of Nothing = []
list_of (One w) = w ∷ []
list_of (Eight at vs) = longs_to 8 at vs
