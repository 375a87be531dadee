-- What is known where values without a name have free names and statements other lines, and how it is tied to what is
-- known otherwise. Assumes nothing.
use Prim.Native.Nat.{ℕ, zero, suc, ◌+◌, ◌≤◌, ◌<◌}
use native.Mathlib.Omega.{arith}
use native.Mathlib.Decide.{dec_le}
use mathlib.Core.Path.{◌≡◌, refl, sym, ap, ap₂, ◌∙◌, subst}
use mathlib.Core.Logic.{inl, inr}
use mathlib.Core.Bool.{Bool, true, false}
use mathlib.Core.List.{List, [], ◌∷◌, ◌++◌, map-append}
use lib.ListN.{length, get_or, length-map, get_or-eq_default}
use Rattle.tokens.specs.Token.{Name}
use Rattle.tokens.proofs.Laws.Flags.{true-false}
use Rattle.tokens.proofs.Laws.Written.{Named}
use Rattle.rules.specs.declared.types.Op.{Op}
use Rattle.rules.specs.declared.types.Statement.{Statement}
use Rattle.rules.specs.State.{State}
use Rattle.rules.specs.Stated.{unnamed}
use Rattle.rules.specs.Scope.{share_names}
use Rattle.rules.specs.Faults.{statement_count}
use Rattle.unrolled.specs.Unrolled.{is_unnamed, unnamed_in, free_names}
use Rattle.unrolled.proofs.Laws.Set.{In}
use Rattle.unrolled.proofs.Laws.Free.{named-not, free_out}
use Rattle.unrolled.proofs.Laws.Filled.{filled, filled_append, Off}
use Rattle.unrolled.proofs.Laws.Blocks.{resting, names_of, grown, ops_of}

-- ---- names that are no free names

-- an element of a list
pub get_d_in : (l : List Name) (j : ℕ) (d : Name) → j < length l → In (get_or l j d) l
get_d_in [] j d h = absurd (omega arith)
get_d_in (x ∷ l) zero d h = inl refl
get_d_in (x ∷ l) (suc j) d h = inr (get_d_in l j d (omega arith))

unnamed-not : Unit {0} → is_unnamed unnamed ≡ true
unfolding is_unnamed
unnamed-not u = refl

-- THEOREM: a name of the set that a field spells is no free name of it
pub off_used : (ms : List Name) (n : Name) → Named n → In n ms → Off (free_names ms) n
off_used ms n h k = record { named = named-not n h; apart = λ j e. go (dec_le (suc j) (length (free_names ms))) e }
  where
    go : {j : ℕ} → Dec (suc j ≤ length (free_names ms)) → n ≡ get_or (free_names ms) j unnamed → ⊥
    go {j} (yes l) e =
        free_out ms n (subst (λ (x : Name). In x (free_names ms)) (sym e) (get_d_in (free_names ms) j unnamed l)) k
    go {j} (no l) e =
        let d = get_or-eq_default (free_names ms) unnamed {n = j} (omega arith) in
        true-false (sym (unnamed-not tt) ∙ ap is_unnamed (sym (e ∙ d)) ∙ named-not n h)

-- names that each have a field's name stay as they are
filled-plain : (free : List Name) (k : ℕ) (ns : List Name) → ((n : Name) → In n ns → is_unnamed n ≡ false)
    → filled free k ns ≡ ns
unfolding filled
filled-plain free k [] h = refl
filled-plain free k (n ∷ ns) h =
    rw (h n (inl refl)) (ap (λ (l : List Name). n ∷ l) (filled-plain free k ns (λ x i. h x (inr i))))

-- such names added behind
pub filled_more : (free : List Name) (ms ns : List Name) → ((n : Name) → In n ns → is_unnamed n ≡ false)
    → filled free 0 ms ++ ns ≡ filled free 0 (ms ++ ns)
filled_more free ms ns h =
    ap (λ (l : List Name). filled free 0 ms ++ l) (sym (filled-plain free (0 + unnamed_in ms) ns h))
    ∙ sym (filled_append free 0 ms ns)

-- a name
pub one-named : (x : Name) → Named x → (n : Name) → In n (x ∷ []) → is_unnamed n ≡ false
one-named x h n (inl e) = ap is_unnamed e ∙ named-not x h
one-named x h n (inr e) = absurd e

-- the shares of a name
pub shares-named : (x : Name) → Named x → (i k : ℕ) (n : Name) → In n (share_names x i k) → is_unnamed n ≡ false
unfolding share_names is_unnamed
shares-named x h i zero n e = absurd e
shares-named x h i (suc k) n (inl e) = ap is_unnamed e ∙ named-not x h
shares-named x h i (suc k) n (inr e) = shares-named x h (i + 1) k n e

-- ---- statements

-- as many, where they compute the same
pub same_count : (xs ys : List Statement) → ops_of xs ≡ ops_of ys → length xs ≡ length ys
same_count xs ys e = sym (length-map xs (λ s. s.op)) ∙ ap length e ∙ length-map ys (λ s. s.op)

-- statements and more of them, that compute the same
ops-more : (xs ys zs ws : List Statement) → ops_of xs ≡ ops_of ys → ops_of zs ≡ ops_of ws
    → ops_of (xs ++ zs) ≡ ops_of (ys ++ ws)
ops-more xs ys zs ws e f =
    map-append (λ s. s.op) xs zs ∙ ap₂ {C = List Op} ◌++◌ e f ∙ sym (map-append (λ s. s.op) ys ws)

-- ---- what is known

module _ (last : State) where
  -- the free names of a block, by what is known behind the text
  abbrev pub free_of : Bool → List Name
  free_of b = free_names (names_of b last)

  -- what is known, where values without a name have free names, and statements are os and ms
  unfoldable pub renamed : State → List Statement → List Statement → State
  renamed s os ms =
      resting s (filled (free_of false) 0 s.origin.names) os (filled (free_of true) 0 s.masked.names) ms

  -- the names of a block
  pub renamed-names : (b : Bool) (s : State) (os ms : List Statement)
      → names_of b (renamed s os ms) ≡ filled (free_of b) 0 (names_of b s)
  unfolding renamed resting names_of
  renamed-names true s os ms = refl
  renamed-names false s os ms = refl

  -- the second is what is known so, and its statements compute the same
  pub record Related (t q : State) : Type 0 where
    pub os : List Statement
    pub ms : List Statement
    pub is : q ≡ renamed t os ms
    pub origin : ops_of os ≡ ops_of t.origin.statements
    pub masked : ops_of ms ≡ ops_of t.masked.statements

  -- as many statements
  pub related-count : (t q : State) → Related t q → statement_count q ≡ statement_count t
  unfolding statement_count renamed resting
  related-count t q R =
      ap statement_count R.is
      ∙ ap₂ {C = ℕ} ◌+◌ (same_count R.os t.origin.statements R.origin)
      (same_count R.ms t.masked.statements R.masked)

  -- one block grows in both
  pub grown-related : (b : Bool) (t q : State) (ns ks : List Name) (sts ss : List Statement) → Related t q
      → filled (free_of b) 0 (names_of b t) ++ ks ≡ filled (free_of b) 0 (names_of b t ++ ns) → ops_of ss ≡ ops_of sts
      → Related (grown b t ns sts) (grown b q ks ss)
  unfolding grown renamed resting names_of
  grown-related true t q ns ks sts ss R e f = record {
    os = R.os;
    ms = R.ms ++ ss;
    is = ap (λ (x : State). grown true x ks ss) R.is
        ∙ ap (λ (l : List Name). resting t (filled (free_of false) 0 t.origin.names) R.os l (R.ms ++ ss)) e;
    origin = R.origin;
    masked = ops-more R.ms t.masked.statements ss sts R.masked f;
  }
  grown-related false t q ns ks sts ss R e f = record {
    os = R.os ++ ss;
    ms = R.ms;
    is = ap (λ (x : State). grown false x ks ss) R.is
        ∙ ap (λ (l : List Name). resting t l (R.os ++ ss) (filled (free_of true) 0 t.masked.names) R.ms) e;
    origin = ops-more R.os t.origin.statements ss sts R.origin f;
    masked = R.masked;
  }
