-- The outputs laid in a work buffer, one behind the other. A term has w bytes.
-- Assumes nothing.
use Rattle.std.specs.Prelude.{ℕ, ◌+◌, ◌*◌, ◌≤◌, ◌<◌, ◌≡◌, List, [], map, length, get_or}
use Rattle.poly.specs.Poly.{Poly}
use Rattle.verdict.specs.Lists.{poured}
use Rattle.values.specs.declared.shelf.Shelf.{Shelf}
use Rattle.values.specs.declared.source.Scope.{Scope}
use Rattle.values.specs.Load.{most_term_bytes}
use Rattle.values.specs.Shelf.{Laid}
use Rattle.values.specs.Raw.{most_standing}
use Rattle.values.specs.Source.{reach}

-- the value at a place, in the buffer `left`
abbrev pub placed : ℕ → List ℕ → Shelf → Scope → ℕ → Poly
placed w left d s i = get_or (reach w left d s) i []

-- the terms of all outputs
abbrev pub output_terms : ℕ → List ℕ → Shelf → Scope → List ℕ → Poly
output_terms w left d s outputs = poured (map (placed w left d s) outputs)

-- there is room for the terms of all outputs behind `from` terms of the second buffer
pub record OutputsAsked (left : List ℕ) (outputs : List ℕ) (s : Scope) (d : Shelf) (right : List ℕ)
    (from w : ℕ) : Type 0 where
  pub wide : s.begins * s.width < w
  pub most : w ≤ most_term_bytes
  pub few : length outputs ≤ 8
  pub held : d.top * w ≤ length left
  pub room : (from + length (output_terms w left d s outputs)) * w ≤ length right

-- behind the first `from` terms stand those of all outputs
pub record OutputsLaid (left : List ℕ) (outputs : List ℕ) (s : Scope) (d : Shelf) (right right' : List ℕ)
    (from w k : ℕ) : Type 0 where
  pub count : k ≡ from + length (output_terms w left d s outputs)
  pub laid : Laid w right right' from (length (output_terms w left d s outputs)) (output_terms w left d s outputs)

-- the number of terms of all outputs, in every buffer with this directory
pub record OutputsSized (outputs : List ℕ) (s : Scope) (d : Shelf) (k : ℕ) : Type 0 where
  pub means : (w : ℕ) (b : List ℕ) → k ≡ length (output_terms w b d s outputs)
  pub most : k ≤ length outputs * most_standing
