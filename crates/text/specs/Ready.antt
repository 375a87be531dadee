-- What reading gives of the routine of an accepted text, and that it has one proof at most.
-- Assumes nothing.
use Rattle.std.specs.Prelude.{ℕ, suc, List, [], ◌∷◌}
use Rattle.std.specs.Coded.{×_prop, Unit-prop, le_prop, Coded-set, coded_ℕ}
use Rattle.rules.specs.declared.types.Operand.{Operand}
use Rattle.rules.specs.declared.types.Operand.TheVariants.{Place, Byte}
use Rattle.rules.specs.declared.types.Op.{Op}
use Rattle.rules.specs.declared.types.Op.TheVariants.{Set, Xor, Mul, App, Rand}
use Rattle.rules.specs.declared.types.Statement.{Statement}
use Rattle.rules.specs.declared.types.AffineMap.{AffineMap}
use Rattle.rules.specs.Read.{Routine}
use Rattle.rules.specs.Formed.{Each, Formed, FormedOperand, FormedOp, FormedMap}
use Rattle.rules.specs.Ranged.{Reads, ReadsOp, ReadsAbove, Ranged}
use Rattle.text.specs.declared.routine.Routine as code
use Rattle.text.specs.Routine.{routine_of, Counted}

-- the counts are within their limits, constants are bytes, and each place that is read is given above
pub record Ready (r : code.Routine) : Type 0 where
  pub counted : Counted r
  pub formed : Formed (routine_of r)
  pub ranged : Ranged (routine_of r)

-- ---- each of these has one proof at most

-- what each element of a list has
Each-prop : {X : Type 0} {P : X → Type 0} → ((x : X) → IsProp (P x)) → (l : List X) → IsProp (Each P l)
Each-prop h [] = Unit-prop
Each-prop h (x ∷ xs) = ×_prop (h x) (Each-prop h xs)

-- a constant operand is a byte
operand-prop : (a : Operand) → IsProp (FormedOperand a)
operand-prop (Place i) = Unit-prop
operand-prop (Byte b) = le_prop

-- the constants of an operation are bytes
op-prop : (o : Op) → IsProp (FormedOp o)
op-prop (Set a) = operand-prop a
op-prop (Xor a b) = ×_prop (operand-prop a) (operand-prop b)
op-prop (Mul a b) = ×_prop (operand-prop a) (operand-prop b)
op-prop (App f a) = operand-prop a
op-prop (Rand v) = Unit-prop

-- a map has a byte and eight columns of bytes
map-prop : (f : AffineMap) → IsProp (FormedMap f)
map-prop f x y i = record {
  constant = le_prop x.constant y.constant i;
  eight = Coded-set coded_ℕ _ _ x.eight y.eight i;
  columns = Each-prop (λ b. le_prop) f.columns x.columns y.columns i;
}

-- the routine is well formed
Formed-prop : (r : Routine) → IsProp (Formed r)
Formed-prop r x y i = record {
  maps = Each-prop map-prop r.maps x.maps y.maps i;
  origin = Each-prop (λ s. op-prop s.op) r.origin x.origin y.origin i;
  masked = Each-prop (λ s. op-prop s.op) r.masked x.masked y.masked i;
  fits = le_prop x.fits y.fits i;
  room = le_prop x.room y.room i;
}

-- an operand is given so far
reads-prop : (at : ℕ) (a : Operand) → IsProp (Reads at a)
reads-prop at (Place i) = le_prop
reads-prop at (Byte b) = Unit-prop

-- so is what an operation reads
reads_op-prop : (m v at : ℕ) (o : Op) → IsProp (ReadsOp m v at o)
reads_op-prop m v at (Set a) = reads-prop at a
reads_op-prop m v at (Xor a b) = ×_prop (reads-prop at a) (reads-prop at b)
reads_op-prop m v at (Mul a b) = ×_prop (reads-prop at a) (reads-prop at b)
reads_op-prop m v at (App f a) = ×_prop le_prop (reads-prop at a)
reads_op-prop m v at (Rand x) = le_prop

-- so is what each statement of a block reads
above-prop : (m v at : ℕ) (ss : List Statement) → IsProp (ReadsAbove m v at ss)
above-prop m v at [] = Unit-prop
above-prop m v at (s ∷ ss) = ×_prop (reads_op-prop m v at s.op) (above-prop m v (suc at) ss)

-- each place that is read is given above
Ranged-prop : (r : Routine) → IsProp (Ranged r)
Ranged-prop r x y i = record {
  origin = above-prop _ _ _ r.origin x.origin y.origin i;
  masked = above-prop _ _ _ r.masked x.masked y.masked i;
  result = le_prop x.result y.result i;
  outputs = Each-prop (λ p. le_prop) r.outputs x.outputs y.outputs i;
  count = Coded-set coded_ℕ _ _ x.count y.count i;
}

-- the counts are within their limits
Counted-prop : (r : code.Routine) → IsProp (Counted r)
Counted-prop r x y i = record {
  maps = le_prop x.maps y.maps i;
  inputs = le_prop x.inputs y.inputs i;
  fits = le_prop x.fits y.fits i;
  room = le_prop x.room y.room i;
  statements = le_prop x.statements y.statements i;
  outputs = le_prop x.outputs y.outputs i;
}

-- all of them
pub Ready-prop : (r : code.Routine) → IsProp (Ready r)
Ready-prop r x y i = record {
  counted = Counted-prop r x.counted y.counted i;
  formed = Formed-prop (routine_of r) x.formed y.formed i;
  ranged = Ranged-prop (routine_of r) x.ranged y.ranged i;
}
