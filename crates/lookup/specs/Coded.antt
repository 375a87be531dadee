-- Elements written one behind the other in an array, as the operations of a formula are. Assumes nothing.
use Rattle.std.specs.Prelude.{ℕ, ◌+◌, List, [], ◌∷◌, set}

-- an array with other elements as the entries from k on
unfoldable pub written : {A : Type 0} → List A → ℕ → List A → List A
written t k [] = t
written t k (o ∷ os) = written (set t k o) (k + 1) os
