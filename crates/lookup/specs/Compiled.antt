-- What a formula looked up gives: its value, and its operations in a lent array. Assumes nothing.
use Rattle.std.specs.Prelude.{ℕ, ◌+◌, ◌-◌, ◌≤◌, ◌≡◌, List, Bool, length, take, drop}
use Rattle.std.specs.Prelude.{Option, None as none, Some as some}
use Rattle.rules.specs.declared.types.Operand.{Operand}
use Rattle.rules.specs.declared.types.Op.{Op}
use Rattle.lookup.specs.declared.scope.TermFound.{TermFound}
use Rattle.lookup.specs.declared.compile.Compiled.{Compiled}
use Rattle.lookup.specs.declared.compile.Lookup.{Lookup}
use Rattle.tokens.specs.Ascii.{is_mark}
use Rattle.tokens.specs.Split.{until}
use Rattle.tokens.specs.Token.{◌>>=◌, Name, name, read_name, read_term}
use Rattle.grammar.specs.Formula.{Formula, Parsed, front, operations, parsed}
use Rattle.rules.specs.Limits.{most_names, most_statements}
use Rattle.rules.specs.Scope.{unknown_formula, value_of, compiled}
use Rattle.lookup.specs.Names.{names_in, given_in}
use Rattle.lookup.specs.Found.{term_found}
use Rattle.lookup.specs.Coded.{written}

-- the names of the set that a formula reads
abbrev pub set_in : Lookup → List Name
set_in w = given_in w.set

-- the names of the maps
abbrev pub maps_in : Lookup → List Name
maps_in w = names_in w.set.text.now w.set.table.now w.maps

-- what was looked up
abbrev pub compiled_of : ℕ → Bool → Operand → ℕ → Compiled
compiled_of end unknown operand done = record { end = end; unknown = unknown; operand = operand; done = done }

-- a part that ends at a place, with what was looked up for it
abbrev pub looked : ℕ → TermFound → ℕ → Compiled
looked end x k = compiled_of end x.unknown x.operand k

-- the map whose name stands at place `at` of f, or none
abbrev pub MapLooked : List Name → List ℕ → ℕ → ℕ → Option Compiled → Type 0
MapLooked maps f at k r =
    r ≡ (read_name (front (drop at f)) >>= λ g.
    some (looked (at + until is_mark (drop at f)) (term_found maps (name g)) k))

-- the operand from place `at` of f to the mark, or none
abbrev pub TermLooked : List Name → List ℕ → ℕ → ℕ → ℕ → Option Compiled → Type 0
TermLooked ms f at mark k r =
    r ≡ (read_term (take (mark - at) (drop at f)) >>= λ a. some (looked mark (term_found ms a) k))

-- the formula e at place `at` of f looked up, its operations written from entry k on; u stands behind it
pub record CompileIs (ms maps : List Name) (base at k : ℕ) (f : List ℕ) (entry exit : List Op) (r : Compiled)
    (e : Formula) (u : List ℕ) : Type 0 where
  pub from : at ≤ r.end
  pub within : r.end ≤ length f
  pub behind : drop r.end f ≡ u
  pub unknown : r.unknown ≡ unknown_formula ms maps e
  pub operand : r.operand ≡ value_of ms (base + k) e
  pub done : r.done ≡ k + operations e
  pub codes : exit ≡ written entry k (compiled ms maps (base + k) e)

-- the formula at place `at` of f, which is one
abbrev pub Compiles : List Name → List Name → ℕ → ℕ → ℕ → List ℕ → List Op → List Op → Compiled → Option Parsed → Type 0
Compiles ms maps base at k f entry exit r none = Unit {0}
Compiles ms maps base at k f entry exit r (some p) = CompileIs ms maps base at k f entry exit r p.0 p.1

-- there is a formula, and room for its operations
abbrev pub Room : ℕ → Option Parsed → Type 0
Room done none = ⊥
Room done (some p) = done + operations p.0 ≤ most_statements

-- the values have places, and the field stands in the text
pub record Looks (w : Lookup) : Type 0 where
  pub based : w.base ≤ most_names
  pub field : w.field.now ≡ take (length w.field.now) (drop w.from w.set.text.now)
  pub inside : w.from + length w.field.now ≤ length w.set.text.now

-- a formula stands at place `at` of the field, with room for its operations from entry k on
abbrev pub Compilable : Lookup → ℕ → ℕ → Type 0
Compilable w at k = Looks w × (at ≤ length w.field.now) × Room k (parsed (drop at w.field.now))

-- the whole outcome of looking up the formula at place `at` of the field
abbrev pub CompilesAt : (entry exit : List Op) → Lookup → ℕ → ℕ → Compiled → Type 0
CompilesAt entry exit w at k r =
    Compiles (set_in w) (maps_in w) w.base at k w.field.now entry exit r (parsed (drop at w.field.now))

-- the whole outcome of looking up a map
abbrev pub MapLookedAt : Lookup → ℕ → ℕ → Option Compiled → Type 0
MapLookedAt w at k r = MapLooked (maps_in w) w.field.now at k r

-- the whole outcome of looking up an operand
abbrev pub TermLookedAt : Lookup → ℕ → ℕ → ℕ → Option Compiled → Type 0
TermLookedAt w at mark k r = TermLooked (set_in w) w.field.now at mark k r
