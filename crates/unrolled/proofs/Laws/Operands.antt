-- The names and operands of the lines of a `let`: what is needed of the names that its statements give, and that each
-- operand stands for the value that it stands for in the formula. Assumes nothing.
use Prim.Native.Nat.{ℕ, suc, ◌+◌, ◌≤◌, ◌<◌}
use native.Mathlib.Omega.{arith}
use mathlib.Core.Path.{◌≡◌, refl, sym, ap, ap₂, ◌∙◌, subst}
use mathlib.Core.Logic.{inl}
use mathlib.Core.Bool.{Bool, true, false}
use mathlib.Core.List.{List, ◌∷◌, ◌++◌, append_assoc}
use lib.Dec.{eqb}
use lib.ListN.{length, take, drop, get_or, length-append}
use lib.Seq.{take-take, get_or-take, split_at, length-take-le}
use Rattle.tokens.specs.declared.word.Word.TheVariants as Word
use Rattle.tokens.specs.Token.{Name, Term, name, byte}
use Rattle.tokens.proofs.Laws.Written.{Named}
use Rattle.tokens.proofs.Laws.Terms.{Termed, named-termed}
use Rattle.grammar.specs.declared.record.Binary.{Binary}
use Rattle.grammar.specs.Formula.{Formula, operand, operations}
use Rattle.grammar.specs.Formula as formula
use Rattle.grammar.specs.Record.{Form, xor, mul}
use Rattle.grammar.proofs.Laws.Written.{SpeltForm, word_for}
use Rattle.grammar.proofs.Laws.Spelt.{Spelt}
use Rattle.rules.specs.declared.types.Operand.{Operand}
use Rattle.rules.specs.declared.types.Operand.TheVariants.{Place}
use Rattle.rules.specs.declared.types.Op.{Op}
use Rattle.rules.specs.Limits.{most_variables, most_statements}
use Rattle.rules.specs.Order.{in_masked, may_stand}
use Rattle.rules.specs.State.{State}
use Rattle.rules.specs.Stated.{unnamed}
use Rattle.rules.specs.Scope.{place_of, missing, unknown_term, unknown_form, unknown_formula, drawn}
use Rattle.rules.specs.Faults.{statement_count}
use Rattle.rules.specs.Scope.{operand_in, op_in, value_of}
use Rattle.unrolled.specs.Unrolled.{term_for}
use Rattle.unrolled.proofs.Laws.Set.{In, in_left, in_right, missing_in, place-left, place-next}
use Rattle.unrolled.proofs.Laws.Blocks.{names_of}

-- What a `let` needs of the names ns that its statements give, in a block that holds ms: each is a name that a field
-- spells, and is new behind those before it; names that are given keep their places.
pub record Ready (b : Bool) (q : State) (ms ns : List Name) : Type 0 where
  pub block : eqb q.stage in_masked ≡ b
  pub stands : may_stand Word.Let q.stage ≡ true
  pub size : length (names_of b q) ≡ length ms
  pub holds : (n : Name) → Named n → missing ms n ≡ false → In n (names_of b q)
  pub place : (n : Name) → Named n → missing ms n ≡ false → place_of n (names_of b q) ≡ place_of n ms
  pub named : (i : ℕ) → i < length ns → Named (get_or ns i unnamed)
  pub fresh : (i : ℕ) → i < length ns → In (get_or ns i unnamed) (names_of b q ++ take i ns) → ⊥
  pub room : statement_count q + length ns ≤ most_statements
  pub few : q.variables ≤ most_variables

module _ (b : Bool) (q : State) (ms ns : List Name) (R : Ready b q ms ns) where
  -- the names before place i of a `let`, behind those of the block
  abbrev pub up_to : ℕ → List Name
  up_to i = names_of b q ++ take i ns

  -- the value of an operation before place i
  inner-place : (i j : ℕ) → j < i → i ≤ length ns
      → In (get_or ns j unnamed) (up_to i) × (place_of (get_or ns j unnamed) (up_to i) ≡ length ms + j)
  inner-place i j h l =
      let y = get_or ns j unnamed in
      let rest : List Name = drop (suc j) (take i ns) in
      let size : length (take i ns) ≡ i = length-take-le i ns l in
      let split : take i ns ≡ take j ns ++ y ∷ rest =
      split_at (take i ns) j unnamed (omega arith)
      ∙ ap₂ {C = List Name} (λ (a : List Name) (z : Name). a ++ z ∷ rest)
      (take-take j i ns (omega arith)) (get_or-take i ns j unnamed h) in
      let whole : up_to i ≡ up_to j ++ y ∷ rest =
      ap (λ (a : List Name). names_of b q ++ a) split ∙ sym (append_assoc (names_of b q) (take j ns) (y ∷ rest)) in
      let there = place-next y (up_to j) rest (R.fresh j (omega arith)) in
      let count : length (up_to j) ≡ length ms + j =
      omega (arith, R.size, length-append (names_of b q) (take j ns), length-take-le j ns (omega arith)) in (
        subst (In y) (sym whole) (in_right y (up_to j) (y ∷ rest) (inl refl)),
        ap (place_of y) whole ∙ there ∙ count,
      )

  -- what is known of the operand that a part's value is
  pub record OperandIs (i at : ℕ) (g : Formula) : Type 0 where
    pub termed : Termed (term_for ns at g)
    pub known : unknown_term (up_to i) (term_for ns at g) ≡ false
    pub value : operand_in (up_to i) (term_for ns at g) ≡ value_of ms (length ms + at) g

  -- the value of an operation
  inner-is : (i j p : ℕ) → j < i → i ≤ length ns → p ≡ length ms + j
      → Termed (name (get_or ns j unnamed)) × (unknown_term (up_to i) (name (get_or ns j unnamed)) ≡ false)
      × (operand_in (up_to i) (name (get_or ns j unnamed)) ≡ Place p)
  unfolding unknown_term operand_in
  inner-is i j p h l e =
      let k = inner-place i j h l in (
        named-termed (get_or ns j unnamed) (R.named j (omega arith)),
        missing_in (get_or ns j unnamed) (up_to i) k.0,
        ap Place (k.1 ∙ sym e),
      )

  -- THEOREM: an operand of a line stands for the value that it stands for in the formula
  pub term_is : (g : Formula) (at i : ℕ) → at + operations g ≤ i → i ≤ length ns → Spelt g
      → (maps : List Name) → unknown_formula ms maps g ≡ false → OperandIs i at g
  unfolding term_for value_of operations unknown_formula unknown_term operand_in
  term_is (operand (name n)) at i h l S maps e =
      let k = R.holds n S.named e in
      record {
        termed = S;
        known = missing_in n (up_to i) (in_left n (names_of b q) (take i ns) k);
        value = ap Place (place-left n (names_of b q) (take i ns) k ∙ R.place n S.named e);
      }
  term_is (operand (byte c)) at i h l S maps e = record { termed = S; known = refl; value = refl }
  term_is (formula.xor a c) at i h l S maps e =
      let k = inner-is i (at + (operations a + operations c)) (length ms + at + (operations a + operations c))
      (omega arith) l (omega arith) in
      record { termed = k.0; known = k.1; value = k.2 }
  term_is (formula.mul a c) at i h l S maps e =
      let k = inner-is i (at + (operations a + operations c)) (length ms + at + (operations a + operations c))
      (omega arith) l (omega arith) in
      record { termed = k.0; known = k.1; value = k.2 }
  term_is (formula.app f a) at i h l S maps e =
      let k = inner-is i (at + operations a) (length ms + at + operations a) (omega arith) l (omega arith) in
      record { termed = k.0; known = k.1; value = k.2 }

-- ---- operations on two values

-- the statement that is an operation on two operands
abbrev pub two_form : Binary → Term → Term → Form
two_form Binary.Xor = xor
two_form Binary.Mul = mul

-- what it computes
abbrev pub two_op : Binary → Operand → Operand → Op
two_op Binary.Xor = Op.Xor
two_op Binary.Mul = Op.Mul

module _ (x y : Term) where
  -- its operands are spelt
  pub two-spelt : (g : Binary) → Termed x → Termed y → SpeltForm (two_form g x y)
  two-spelt Binary.Xor h k = (h, k)
  two-spelt Binary.Mul h k = (h, k)

  -- it draws no variable
  pub two-draws : (g : Binary) → drawn (two_form g x y) ≡ 0
  unfolding drawn
  two-draws Binary.Xor = refl
  two-draws Binary.Mul = refl

  -- it stands where a `let` does
  pub two-stands : (g : Binary) (stage : ℕ) → may_stand Word.Let stage ≡ true
      → may_stand (word_for (two_form g x y)) stage ≡ true
  two-stands Binary.Xor stage h = h
  two-stands Binary.Mul stage h = h

  -- it reads what is given where its operands are
  pub two-known : (g : Binary) (l maps : List Name) → unknown_term l x ≡ false → unknown_term l y ≡ false
      → unknown_form l maps (two_form g x y) ≡ false
  unfolding unknown_form
  two-known Binary.Xor l maps h k = rw (h, k)
  two-known Binary.Mul l maps h k = rw (h, k)

  -- its operation is that on the operands by their places
  pub two_computes : (g : Binary) (l maps : List Name) (v : ℕ)
      → op_in l maps v (two_form g x y) ≡ two_op g (operand_in l x) (operand_in l y)
  unfolding op_in
  two_computes Binary.Xor l maps v = refl
  two_computes Binary.Mul l maps v = refl
