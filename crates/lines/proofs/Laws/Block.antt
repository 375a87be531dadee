-- What the loop holds behind the statements of one line stands for what the definition says: a `let`, and a
-- statement, which is the case of one. Assumes nothing.
use Prim.Native.Nat.{ℕ, ◌+◌, ◌-◌, ◌≤◌}
use native.Mathlib.Omega.{arith}
use mathlib.Core.Path.{◌≡◌, refl, sym, ◌∙◌, ap}
use mathlib.Core.Bool.{Bool, true, false, cond}
use mathlib.Core.List.{List, [], ◌∷◌, ◌++◌}
use lib.Dec.{eqb}
use lib.ListN.{length, take, drop, replicate, length-drop}
use borrow.Author.Tests.{eqb-false}
use Rattle.grammar.specs.declared.line.NameRef.{NameRef}
use Rattle.grammar.specs.Line.{name_in}
use Rattle.rules.specs.declared.types.Statement.{Statement}
use Rattle.lines.specs.declared.step.Letting.{Letting}
use Rattle.lines.specs.declared.step.Put.TheVariants.{Stated, Let}
use Rattle.rules.specs.Order.{in_masked}
use Rattle.rules.specs.Stated.{unnamed, stating_all, origin_as, masked_as, with_origin, with_masked}
use Rattle.rules.specs.Stated.{with_origin_all, with_masked_all}
use Rattle.rules.specs.Limits.{origin_from, masked_from}
use Rattle.lookup.specs.Names.{listed, names_in}
use Rattle.lookup.specs.Coded.{written}
use Rattle.lines.specs.Lets.{put_nameless, put_let}
use Rattle.lines.specs.Stage.{stage_of}
use Rattle.lines.specs.Known.{Kept, kept, arrays, state_in, Sound, Sized}
use Rattle.lines.specs.Added.{origin_more, masked_more, stated, StatementsFit}
use Rattle.lines.specs.Stored.{name_slot, let_statements, after}
use Rattle.lines.proofs.Laws.States.{take_none, state-same}
use Rattle.lines.proofs.Laws.Lets.{all-front, all_drop, all-low, let_apart, listed_let}

-- what is held behind the statements, in the masked block or not; the last of their c values has the name x
abbrev held : Kept → NameRef → ℕ → ℕ → List Statement → Bool → Kept
held h x c drawn sts b =
    let k = h.known in
    kept (put_let h.names (cond b (masked_from + k.parts) (origin_from + k.wholes)) x c)
    (cond b (masked_more k drawn c) (origin_more k c))
    (arrays h.arrays.maps (written h.arrays.statements (k.origin + k.masked) sts))

module _ (s : List ℕ) (h : Kept) (K : Sound h.known) (Z : Sized h) (x : NameRef) (c drawn : ℕ)
    (f : StatementsFit h.known c) (sts : List Statement) (l : length sts ≡ c) where
  origin-means : h.known.masked ≡ 0 → state_in s (held h x c drawn sts false)
      ≡ origin_as (stating_all (name_in s x) sts (state_in s h).origin) (state_in s h)
  unfolding state_in names_in
  origin-means z =
      let k = h.known in
      let t = h.names in
      let o = k.wholes in
      let ss = h.arrays.statements in
      let few : o + c ≤ 272 = omega (arith, K.wholes, K.inputs, f.1) in
      let at : k.origin + k.masked ≡ k.origin = omega (arith, z) in
      let room : k.origin + length sts ≤ length ss = omega (arith, Z.statements, f.1, l) in
      let maps = let_apart t (origin_from + o) x c f.0 s 0 k.mapped
      (λ i a b p q. omega (arith, K.mapped, b, p)) in
      let origin = listed_let s t x origin_from o c f.0 (omega (arith, few)) Z.names
      ∙ ap (λ (n : ℕ). listed s t origin_from o ++ (replicate (n - 1) unnamed ++ name_in s x ∷ [])) (sym l) in
      let masked = let_apart t (origin_from + o) x c f.0 s masked_from k.parts
      (λ i a b p q. omega (arith, few, a, q)) in
      let mine = (λ i. take (k.origin + sym l i) (written ss (at i) sts)) ∙ all-front ss k.origin sts room in
      let others =
      take_none k.masked (drop (k.origin + c) (written ss (k.origin + k.masked) sts)) (drop k.origin ss) z in
      state-same k k.inputs k.variables maps refl origin mine masked others

  masked-means : state_in s (held h x c drawn sts true)
      ≡ masked_as (stating_all (name_in s x) sts (state_in s h).masked) ((state_in s h).variables + drawn)
      (state_in s h)
  unfolding state_in names_in
  masked-means =
      let k = h.known in
      let t = h.names in
      let p = k.parts in
      let ss = h.arrays.statements in
      let few : p + c ≤ 272 = omega (arith, K.parts, K.variables, f.1) in
      let wholes : k.wholes ≤ 272 = omega (arith, K.wholes, K.inputs, f.1) in
      let room : k.masked + length sts ≤ length (drop k.origin ss) =
      omega (arith, Z.statements, f.1, l, length-drop k.origin ss) in
      let maps = let_apart t (masked_from + p) x c f.0 s 0 k.mapped
      (λ i a b d e. omega (arith, K.mapped, b, d)) in
      let origin = let_apart t (masked_from + p) x c f.0 s origin_from k.wholes
      (λ i a b d e. omega (arith, wholes, b, d)) in
      let masked = listed_let s t x masked_from p c f.0 (omega (arith, few)) Z.names
      ∙ ap (λ (n : ℕ). listed s t masked_from p ++ (replicate (n - 1) unnamed ++ name_in s x ∷ [])) (sym l) in
      let others = all-low k.origin ss (k.origin + k.masked) sts (omega arith) in
      let mine = (λ i. take (k.masked + sym l i) (all_drop k.origin ss k.masked sts i))
      ∙ all-front (drop k.origin ss) k.masked sts room in
      state-same k k.inputs (k.variables + drawn) maps refl origin others masked mine

  -- so many statements more in their block
  block-means : (b : Bool) → eqb (stage_of h.known.stage) in_masked ≡ b → stage_of h.known.stage ≤ in_masked
      → state_in s (held h x c drawn sts b)
      ≡ cond b (masked_as (stating_all (name_in s x) sts (state_in s h).masked) ((state_in s h).variables + drawn)
      (state_in s h))
      (origin_as (stating_all (name_in s x) sts (state_in s h).origin) (state_in s h))
  block-means true e low = masked-means
  block-means false e low = origin-means (K.apart (omega (arith, low, eqb-false (stage_of h.known.stage) in_masked e)))

none_more : (n : ℕ) → n + 0 ≡ n
none_more n = omega arith

module _ (s : List ℕ) (h : Kept) (K : Sound h.known) (Z : Sized h) (x : NameRef) where
  -- the statements of a `let` in its block
  pub let_means : (f : Letting) → StatementsFit h.known f.count → stage_of h.known.stage ≤ in_masked
      → let sts = let_statements s h.names h.known f in length sts ≡ f.count
      → state_in s (after s h (stated h.known 0 f.count) (Let x f))
      ≡ cond (eqb (stage_of h.known.stage) in_masked) (with_masked_all (name_in s x) sts (state_in s h))
      (with_origin_all (name_in s x) sts (state_in s h))
  unfolding after with_masked_all with_origin_all
  let_means f fit low l =
      simp (none_more (state_in s h).variables) at
      (block-means s h K Z x f.count 0 fit (let_statements s h.names h.known f) l
      (eqb (stage_of h.known.stage) in_masked) refl low)

  -- a statement in its block
  pub stated-means : (drawn : ℕ) (st : Statement) → StatementsFit h.known 1 → stage_of h.known.stage ≤ in_masked
      → state_in s (after s h (stated h.known drawn 1) (Stated x st))
      ≡ cond (eqb (stage_of h.known.stage) in_masked) (with_masked drawn (name_in s x) st (state_in s h))
      (with_origin (name_in s x) st (state_in s h))
  unfolding after with_masked with_origin put_nameless written
  stated-means drawn st fit low =
      simp (none_more (name_slot h.known)) at
      (block-means s h K Z x 1 drawn fit (st ∷ []) refl (eqb (stage_of h.known.stage) in_masked) refl low)
