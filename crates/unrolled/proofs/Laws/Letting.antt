-- The lines of a formula are taken one after another, and their statements compute what its operations do.
-- Assumes nothing.
use Prim.Native.Nat.{ℕ, suc, ◌+◌, ◌≤◌, ◌<◌}
use native.Mathlib.Omega.{arith}
use mathlib.Core.Path.{◌≡◌, refl, sym, ap, ap₂, ◌∙◌, subst}
use mathlib.Core.Bool.{Bool, true, false}
use mathlib.Core.List.{List, [], ◌∷◌, ◌++◌, append_assoc, append-nil, map-append}
use Rattle.std.specs.Prelude.{Option, Some as some}
use lib.ListN.{length, take, get_or, length-append, length-map}
use lib.Seq.{take-suc, take-length}
use Rattle.tokens.specs.Byte.{Each}
use Rattle.tokens.specs.Token.{Name}
use Rattle.grammar.specs.declared.record.Binary.{Binary}
use Rattle.grammar.specs.Formula.{Formula, operand, operations}
use Rattle.grammar.specs.Formula as formula
use Rattle.grammar.specs.Record.{Form, set, app}
use Rattle.grammar.specs.Written.{written_line}
use Rattle.grammar.proofs.Laws.Written.{SpeltForm, word_for}
use Rattle.grammar.proofs.Laws.Spelt.{Spelt}
use Rattle.rules.specs.declared.types.Op.{Op}
use Rattle.rules.specs.declared.types.Statement.{Statement}
use Rattle.rules.specs.Order.{may_stand}
use Rattle.rules.specs.State.{State}
use Rattle.rules.specs.Stated.{unnamed}
use Rattle.rules.specs.Scope.{place_of, missing, unknown_form, unknown_formula, drawn, let_count, operand_in, op_in}
use Rattle.rules.specs.Scope.{value_of, compiled, let_ops}
use Rattle.unrolled.specs.Unrolled.{term_for, lines_for, let_lines, record_of}
use Rattle.unrolled.proofs.Laws.Set.{given_out}
use Rattle.unrolled.proofs.Laws.Runs.{runs, runs-next, runs_none, runs_append}
use Rattle.tokens.proofs.Laws.Flags.{or_false}
use Rattle.rules.proofs.Laws.Letting.{compiled-length, each_append}
use Rattle.unrolled.proofs.Laws.Load.{Plain}
use Rattle.unrolled.proofs.Laws.Blocks.{grown, grown-none, ops_of, statement_at}
use Rattle.unrolled.proofs.Laws.Written.{written-plain, written-taken, written-op}
use Rattle.unrolled.proofs.Laws.Operands.{Ready, up_to, term_is, two_form, two_op, two-spelt, two-draws}
use Rattle.unrolled.proofs.Laws.Operands.{two-stands, two-known, two_computes}

module _ (b : Bool) (q : State) (ms ns : List Name) (R : Ready b q ms ns) where
  -- the lines ls are taken behind `at` statements of the `let`, and add c statements, which compute ops
  record Goes (at c n : ℕ) (sts : List Statement) (ls : List (List ℕ)) (ops : List Op) : Type 0 where
    more : List Statement
    goes : runs (grown b q (take at ns) sts) n ls ≡ some (grown b q (take (at + c) ns) (sts ++ more))
    same : ops_of more ≡ ops
    plain : Each (λ l. Plain (record_of l)) ls

  -- one line
  one-goes : (i n : ℕ) (sts : List Statement) (f : Form) (o : Op) → i < length ns → length sts ≡ i → SpeltForm f
      → drawn f ≡ 0 → may_stand (word_for f) q.stage ≡ true → unknown_form (up_to b q ms ns R i) q.map_names f ≡ false
      → op_in (up_to b q ms ns R i) q.map_names q.variables f ≡ o
      → Goes i 1 n sts (written_line (get_or ns i unnamed) f ∷ []) (o ∷ [])
  one-goes i n sts f o h l F z may known e =
      let x = get_or ns i unnamed in
      let t = written-taken b q (take i ns) sts R.block (n + 1) x f z (R.named i h) F may
      (given_out x (up_to b q ms ns R i) (R.fresh i h)) known (omega (arith, R.room)) R.few in
      let next-names : take i ns ++ x ∷ [] ≡ take (i + 1) ns =
      sym (take-suc ns i unnamed h) ∙ (let s : suc i ≡ i + 1 = omega arith in ap (λ (j : ℕ). take j ns) s) in
      let st = statement_at b (grown b q (take i ns) sts) (n + 1) f in
      record {
        more = st ∷ [];
        goes = runs-next (grown b q (take i ns) sts) n (written_line x f) [] t
            ∙ runs_none (grown b q (take i ns ++ x ∷ []) (sts ++ st ∷ [])) (n + 1)
            ∙ ap (λ (l : List Name). some (grown b q l (sts ++ st ∷ []))) next-names;
        same = ap (λ (p : Op). p ∷ []) (written-op b q (take i ns) sts R.block (n + 1) f ∙ e);
        plain = (written-plain x f (R.named i h) F, tt);
      }

  -- lines, and lines behind them
  join_goes : (at c d n : ℕ) (sts : List Statement) (ks ls : List (List ℕ)) (ops more : List Op) → length sts ≡ at
      → length ops ≡ c → Goes at c n sts ks ops
      → ((m : ℕ) (ss : List Statement) → length ss ≡ at + c → Goes (at + c) d m ss ls more)
      → Goes at (c + d) n sts (ks ++ ls) (ops ++ more)
  join_goes at c d n sts ks ls ops more h k G f =
      let count : length (sts ++ G.more) ≡ at + c =
      omega (arith, length-append sts G.more, sym (length-map G.more (λ s. s.op)) ∙ ap length G.same) in
      let D = f (n + length ks) (sts ++ G.more) count in
      let far : at + c + d ≡ at + (c + d) = omega arith in
      record {
        more = G.more ++ D.more;
        goes = runs_append ks ls (grown b q (take at ns) sts) (grown b q (take (at + c) ns) (sts ++ G.more)) n
            G.goes
            ∙ D.goes
            ∙ ap₂ {C = Option State} (λ (j : ℕ) (ss : List Statement). some (grown b q (take j ns) ss)) far
            (append_assoc sts G.more D.more);
        same = map-append (λ s. s.op) G.more D.more ∙ ap₂ {C = List Op} ◌++◌ G.same D.same;
        plain = each_append (λ l. Plain (record_of l)) ks ls G.plain D.plain;
      }

  -- no line
  none-goes : (at n : ℕ) (sts : List Statement) → Goes at 0 n sts [] []
  none-goes at n sts =
      let far : at ≡ at + 0 = omega arith in
      record {
        more = [];
        goes = runs_none (grown b q (take at ns) sts) n
            ∙ ap₂ {C = Option State} (λ (j : ℕ) (ss : List Statement). some (grown b q (take j ns) ss)) far
            (sym (append-nil sts));
        same = refl;
        plain = tt;
      }

  -- two parts, and a line that reads both
  two-goes : (g : Binary) (a c : Formula) (at n : ℕ) (sts : List Statement) → length sts ≡ at
      → at + (operations a + operations c + 1) ≤ length ns → Spelt a → Spelt c
      → (let maps = q.map_names in unknown_formula ms maps a ≡ false → unknown_formula ms maps c ≡ false
      → Goes at (operations a) n sts (lines_for ns at a) (compiled ms maps (length ms + at) a)
      → ((m : ℕ) (ss : List Statement) → length ss ≡ at + operations a → Goes (at + operations a) (operations c) m ss
      (lines_for ns (at + operations a) c) (compiled ms maps (length ms + (at + operations a)) c))
      → Goes at (operations a + operations c + 1) n sts
      (lines_for ns at a ++ lines_for ns (at + operations a) c
      ++ written_line (get_or ns (at + (operations a + operations c)) unnamed)
      (two_form g (term_for ns at a) (term_for ns (at + operations a) c)) ∷ [])
      (compiled ms maps (length ms + at) a ++ compiled ms maps (length ms + at + operations a) c
      ++ two_op g (value_of ms (length ms + at) a) (value_of ms (length ms + at + operations a) c) ∷ []))
  two-goes g a c at n sts h l S P d e A C =
      let maps = q.map_names in
      let i = at + (operations a + operations c) in
      let far : length ms + (at + operations a) ≡ length ms + at + operations a = omega arith in
      let u = compiled ms maps (length ms + at) a in
      let v = compiled ms maps (length ms + at + operations a) c in
      let lu : length u ≡ operations a = compiled-length ms maps (length ms + at) a in
      let lv : length v ≡ operations c = compiled-length ms maps (length ms + at + operations a) c in
      let x = term_is b q ms ns R a at i (omega arith) (omega arith) S maps d in
      let y = term_is b q ms ns R c (at + operations a) i (omega arith) (omega arith) P maps e in
      let k = term_for ns at a in
      let j = term_for ns (at + operations a) c in
      let f = two_form g k j in
      let o = two_op g (value_of ms (length ms + at) a) (value_of ms (length ms + at + operations a) c) in
      join_goes at (operations a + operations c) 1 n sts (lines_for ns at a ++ lines_for ns (at + operations a) c)
      (written_line (get_or ns i unnamed) f ∷ []) (u ++ v) (o ∷ []) h (omega (arith, length-append u v))
      (join_goes at (operations a) (operations c) n sts (lines_for ns at a) (lines_for ns (at + operations a) c) u v h lu
      A
      (λ m ss r. subst (λ (p : ℕ). Goes (at + operations a) (operations c) m ss (lines_for ns (at + operations a) c)
      (compiled ms maps p c)) far (C m ss r)))
      (λ m ss r. one-goes i m ss f o (omega arith) r (two-spelt k j g x.termed y.termed) (two-draws k j g)
      (two-stands k j g q.stage R.stands) (two-known k j g (up_to b q ms ns R i) maps x.known y.known)
      (two_computes k j g (up_to b q ms ns R i) maps q.variables
      ∙ ap₂ {C = Op} (two_op g) x.value (y.value ∙ ap (λ (p : ℕ). value_of ms p c) far)))

  -- THEOREM: the lines of a formula
  formula-goes : (g : Formula) (at n : ℕ) (sts : List Statement) → length sts ≡ at → at + operations g ≤ length ns
      → Spelt g → unknown_formula ms q.map_names g ≡ false
      → Goes at (operations g) n sts (lines_for ns at g) (compiled ms q.map_names (length ms + at) g)
  unfolding lines_for compiled operations unknown_formula drawn unknown_form op_in
  formula-goes (operand a) at n sts h l S e = none-goes at n sts
  formula-goes (formula.xor a c) at n sts h l S e =
      let k = or_false (unknown_formula ms q.map_names a) (unknown_formula ms q.map_names c) e in
      two-goes Binary.Xor a c at n sts h l S.0 S.1 k.0 k.1
      (formula-goes a at n sts h (omega arith) S.0 k.0)
      (λ m ss r. formula-goes c (at + operations a) m ss r (omega arith) S.1 k.1)
  formula-goes (formula.mul a c) at n sts h l S e =
      let k = or_false (unknown_formula ms q.map_names a) (unknown_formula ms q.map_names c) e in
      two-goes Binary.Mul a c at n sts h l S.0 S.1 k.0 k.1
      (formula-goes a at n sts h (omega arith) S.0 k.0)
      (λ m ss r. formula-goes c (at + operations a) m ss r (omega arith) S.1 k.1)
  formula-goes (formula.app f a) at n sts h l S e =
      let maps = q.map_names in
      let i = at + operations a in
      let k = or_false (missing maps f) (unknown_formula ms maps a) e in
      let x = term_is b q ms ns R a at i (omega arith) (omega arith) S.1 maps k.1 in
      let o = Op.App (place_of f maps) (value_of ms (length ms + at) a) in
      join_goes at (operations a) 1 n sts (lines_for ns at a)
      (written_line (get_or ns i unnamed) (app f (term_for ns at a)) ∷ []) (compiled ms maps (length ms + at) a) (o ∷ []) h
      (compiled-length ms maps (length ms + at) a)
      (formula-goes a at n sts h (omega arith) S.1 k.1)
      (λ m ss r. one-goes i m ss (app f (term_for ns at a)) o (omega arith) r
      (S.0, x.termed) refl R.stands (rw (k.0, x.known)) (ap (Op.App (place_of f maps)) x.value))

  -- the lines of a `let`, from the start
  let_goes : (f : Formula) (n : ℕ) → length ns ≡ let_count f → Spelt f → unknown_formula ms q.map_names f ≡ false
      → Goes 0 (let_count f) n [] (let_lines ns f) (let_ops ms q.map_names (length ms) f)
  unfolding let_lines let_ops let_count operations term_for value_of unknown_formula drawn unknown_form op_in
  let_goes (operand a) n c S e =
      let x = term_is b q ms ns R (operand a) 0 0 (omega arith) (omega arith) S q.map_names e in
      one-goes 0 n [] (set a) (Op.Set (operand_in ms a)) (omega arith) refl S refl R.stands x.known
      (ap Op.Set x.value)
  let_goes (formula.xor a d) n c S e =
      let z : length ms + 0 ≡ length ms = omega arith in
      subst (λ (p : ℕ). Goes 0 (operations a + operations d + 1) n [] (lines_for ns 0 (formula.xor a d))
      (compiled ms q.map_names p (formula.xor a d))) z
      (formula-goes (formula.xor a d) 0 n [] refl (omega arith) S e)
  let_goes (formula.mul a d) n c S e =
      let z : length ms + 0 ≡ length ms = omega arith in
      subst (λ (p : ℕ). Goes 0 (operations a + operations d + 1) n [] (lines_for ns 0 (formula.mul a d))
      (compiled ms q.map_names p (formula.mul a d))) z
      (formula-goes (formula.mul a d) 0 n [] refl (omega arith) S e)
  let_goes (formula.app f a) n c S e =
      let z : length ms + 0 ≡ length ms = omega arith in
      subst (λ (p : ℕ). Goes 0 (operations a + 1) n [] (lines_for ns 0 (formula.app f a))
      (compiled ms q.map_names p (formula.app f a))) z
      (formula-goes (formula.app f a) 0 n [] refl (omega arith) S e)

  -- THEOREM: the lines of a `let` are taken, and their statements compute what its operations do
  pub let_taken : (f : Formula) (n : ℕ) → length ns ≡ let_count f → Spelt f → unknown_formula ms q.map_names f ≡ false
      → (more : List Statement) × (runs q n (let_lines ns f) ≡ some (grown b q ns more))
      × (ops_of more ≡ let_ops ms q.map_names (length ms) f) × Each (λ l. Plain (record_of l)) (let_lines ns f)
  let_taken f n c S e =
      let G = let_goes f n c S e in
      let whole : take (0 + let_count f) ns ≡ ns =
      (let z : 0 + let_count f ≡ length ns = omega arith in ap (λ (i : ℕ). take i ns) z) ∙ take-length ns in (
        G.more,
        ap (λ (t : State). runs t n (let_lines ns f)) (sym (grown-none b q)) ∙ G.goes
            ∙ ap (λ (l : List Name). some (grown b q l G.more)) whole,
        G.same,
        G.plain,
      )
