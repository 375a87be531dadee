-- What the reading loop stores behind a record: the table of names and the arrays. In all of it k is what was known
-- above the record. Assumes nothing.
use Rattle.std.specs.Prelude.{ℕ, ◌+◌, ◌≡◌, cond, List, eqb, length, set}
use Rattle.rules.specs.declared.types.Op.{Op}
use Rattle.rules.specs.declared.types.Statement.{Statement}
use Rattle.rules.specs.declared.types.AffineMap.{AffineMap}
use Rattle.lines.specs.declared.known.Known.{Known}
use Rattle.lines.specs.declared.step.Letting.{Letting}
use Rattle.lines.specs.declared.step.Put.{Put}
use Rattle.lines.specs.declared.step.Put.TheVariants.{Nothing, Map, Input, Stated, Let}
use Rattle.grammar.specs.Formula.{read_formula}
use Rattle.rules.specs.Order.{in_masked}
use Rattle.rules.specs.Limits.{most_statements, origin_from, masked_from}
use Rattle.lookup.specs.Names.{put, put_shares}
use Rattle.lookup.specs.Coded.{written}
use Rattle.grammar.specs.declared.line.NameRef.{NameRef}
use Rattle.lines.specs.Stage.{stage_of}
use Rattle.lines.specs.Known.{Arrays, Kept, map_names, block_names}
use Rattle.lines.specs.Lets.{field_of, statements_of, put_let}
use Rattle.lines.specs.Given.{given_from}

-- the entry of the next name of the block that a statement stands in
abbrev pub name_slot : Known → ℕ
name_slot k = cond (eqb (stage_of k.stage) in_masked) (masked_from + k.parts) (origin_from + k.wholes)

-- the table behind a record
abbrev pub table_after : List NameRef → Known → Put → List NameRef
table_after t k Nothing = t
table_after t k (Map x f) = put t k.mapped x
table_after t k (Input x) = put_shares (put t (origin_from + k.wholes) x) (masked_from + k.parts) x k.shares
table_after t k (Stated x st) = put t (name_slot k) x
table_after t k (Let x f) = put_let t (name_slot k) x f.count

-- the maps behind a record
abbrev pub maps_after : List AffineMap → Known → Put → List AffineMap
maps_after fs k Nothing = fs
maps_after fs k (Map x f) = set fs k.mapped f
maps_after fs k (Input x) = fs
maps_after fs k (Stated x given) = fs
maps_after fs k (Let x l) = fs

-- the statements of a `let`, its field in the text s and the names above it in the table t
abbrev pub let_statements : List ℕ → List NameRef → Known → Letting → List Statement
let_statements s t k f =
    statements_of f.line (block_names s t k) (map_names s t k) (read_formula (field_of s f))

-- the array codes, where it has its size, holds the operations of a `let`
abbrev pub LetsHeld : List ℕ → List NameRef → List Op → Known → Put → Type 0
LetsHeld s t codes k Nothing = Unit {0}
LetsHeld s t codes k (Map x f) = Unit {0}
LetsHeld s t codes k (Input x) = Unit {0}
LetsHeld s t codes k (Stated x st) = Unit {0}
LetsHeld s t codes k (Let x f) =
    length codes ≡ most_statements → given_from codes (Let x f) 0 f.count ≡ let_statements s t k f

-- the arrays behind a record
abbrev pub arrays_after : List ℕ → List NameRef → Arrays → Known → Put → Arrays
arrays_after s t a k Nothing = a
arrays_after s t a k (Map x f) = record { maps = set a.maps k.mapped f; statements = a.statements }
arrays_after s t a k (Input x) = a
arrays_after s t a k (Stated x st) =
    record { maps = a.maps; statements = set a.statements (k.origin + k.masked) st }
arrays_after s t a k (Let x f) =
    record { maps = a.maps; statements = written a.statements (k.origin + k.masked) (let_statements s t k f) }

-- all that the loop holds behind a record that gives p, j being known behind it; s is the text
unfoldable pub after : List ℕ → Kept → Known → Put → Kept
after s h j p =
    record {
      names = table_after h.names h.known p;
      known = j;
      arrays = arrays_after s h.names h.arrays h.known p;
    }
