-- A function that takes one parameter, which it does not change, and says something of it and of its result: how a walk
-- of its code ends, and that a walk from every value gives the contract. Assumes nothing.
use mathlib.Core.Path.{◌≡◌, refl}
use Prim.Native.Nat.{ℕ}
use mathlib.Core.List.{List, [], ◌∷◌}
use lib.ListN.{length}
use seplogic.Ra.Ura.{Ura}
use mir.Syntax.{Callee as Name, named, w8, Fn}
use mir.Val.{Val}
use base.Logic.{SProp, ent, emp, via, fst∗}
use base.Fml.{Lft, Share, Fml, ftrue, flft}
use prog.Model.{Model}
use prog.Routine.{Env as Binds}
use prog.Wp.{WpFn, Closed}
use types.Logic.{Logic}
use contract.Lifetimes.{Lfts}
use contract.Running.{Running, tables, tables_of}
use types.Kit.{‵, ◌⊛◌, ⋆, ◌$◌, ◌∵◌, !, qed, move, keep, use1, split, fsplit, fjoin, suffices, frame, done}
use sound.WpLaws.{FmC, fm_of, WpFn-mono}
use denote.Builtin.{u8}
use denote.Exit.{yes, Last, left}
use denote.Laws.{Is, Tells}
use denote.Plain.{uint_row_laws}
use denote.RattleType.{RattleType, Denots, owns}
use denote.Ref.{Bor}
use denote.Signature.{plain, types_at}
use denote.Slice.{slice_val, ShrSlice, shr_slice_Tells, shr_slice_copy}
use denote.Steps.{nothing}
use denote.Triple.Clauses.{Ended, closing}
use denote.Triple.Entry.{on_entry}
use denote.Triple.Spec.{Meets}
use denote.Triple.Table.{entered}
use denote.Triple.Walked.{says, Stays, stay_none, walk_of, Goes-none, ends_at, walked, walk_Meets}
use Rattle.reader.proofs.Laws.Says.{shape, saying}

-- a parameter: its type, its machine value, and that nothing is bound for it and said of it at exit
pub record Param : Type 2 where
  pub row : Lfts 1 → RattleType
  pub val : (κs : Lfts 1) → (row κs).Denot → Val
  pub tells : (κs : Lfts 1) → Tells (row κs) (Is (row κs)) (λ x. val κs x ∷ [])
  pub last : (κs : Lfts 1) (x : (row κs).Denot) → Last ((row κs).exit yes) x
  pub silent : (κs : Lfts 1) (x : (row κs).Denot) (w : Last ((row κs).exit yes) x)
      → left ((row κs).exit yes) x w ≡ ftrue

-- a `&[u8]`
abbrev pub bytes : Param
bytes = record {
  row = λ κs. ShrSlice (named 0) κs.0 u8;
  val = λ κs s. slice_val s.ref_ptr (length s.now);
  tells = λ κs. shr_slice_Tells (named 0) κs.0 u8;
  last = λ κs x. tt;
  silent = λ κs x f. refl;
}

-- what it owns
abbrev pub OwnBytes : Lft → Bor (List ℕ) → Fml
OwnBytes κ s = (bytes.row (κ, tt)).own_val s (bytes.val (κ, tt) s ∷ [])

module _ (P : Param) (F : Lfts 1 → RattleType) where
  -- the parameter is taken, and a value of type F is returned
  abbrev pub taking : Ended
  taking = shape (plain P.row ∷ []) (yes, tt) F

  -- at exit it is owned as it was passed
  abbrev stayed : Stays taking.signature.params taking.kept
  stayed = (stay_none P.row yes, tt)

module _ (P : Param) {M : Type 1} {𝓤 : Ura M} (𝓛 : Logic 𝓤) where
  -- where a walk from x begins: the token of its lifetime, and what x owns
  abbrev pub Entry : (κ : Lft) → Share → (P.row (κ, tt)).Denot → SProp 𝓤
  Entry κ q x =
      on_entry 𝓛 (taking P P.row).signature (κ, tt) (q, tt) (x, tt) (P.val (κ, tt) x ∷ [], tt)

module _ {M : Type 1} {𝓤 : Ura M} (𝓛 : Logic 𝓤) (κ : Lft) (q : Share) where
  -- what x owns and the token are what a function has that x was passed to
  pub handed : (P : Param) (x : (P.row (κ, tt)).Denot) (vs : List Val)
      → ent 𝓤 (⋆ 𝓛 (‵ ((P.row (κ, tt)).own_val x vs) ∷ (‵ (flft κ q) ⊛ ‵ ftrue) ∷ []))
      (on_entry 𝓛 (taking P P.row).signature (κ, tt) (q, tt) (x, tt) (vs, tt))
  handed P x vs =
      qed 𝓛 (‵ ((P.row (κ, tt)).own_val x vs) ∷ (‵ (flft κ q) ⊛ ‵ ftrue) ∷ []) ∵
      nothing ! $ move ! (1 ∷ 0 ∷ []) $ fjoin ! $ move ! (1 ∷ 0 ∷ []) $ frame ! $ done !

  -- what a `&[u8]` owns is had twice, beside the token
  pub doubled : (s : Bor (List ℕ)) → ent 𝓤 (Entry bytes 𝓛 κ q s)
      (⋆ 𝓛 (‵ (OwnBytes κ s) ∷ (‵ (flft κ q) ⊛ ‵ ftrue) ∷ ‵ (OwnBytes κ s) ∷ []))
  doubled s =
      qed 𝓛 ((‵ (flft κ q) ⊛ ‵ ftrue) ∷ ‵ (owns (bytes.row (κ, tt) ∷ []) (s, tt) (bytes.val (κ, tt) s ∷ [], tt))
      ∷ []) ∵
      move ! (1 ∷ []) $ fsplit ! $ use1 𝓛 (‵ (OwnBytes κ s) ⊛ ‵ (OwnBytes κ s))
      ((shr_slice_copy 𝓛 (named 0) κ u8 (uint_row_laws w8)).twice s (bytes.val (κ, tt) s ∷ [])) $ split ! $
      keep ! (0 ∷ 3 ∷ 1 ∷ []) $ done !

module _ (P : Param) (F : Lfts 1 → RattleType) (Says : (κs : Lfts 1) → (P.row κs).Denot → (F κs).Denot → Type 0) where
  -- what is said of the one argument
  abbrev pub of_one : (κs : Lfts 1) → Denots (types_at {n = 1} (plain P.row ∷ []) κs) → (F κs).Denot → Type 0
  of_one κs a r = Says κs a.0 r

  module _ {M : Type 1} {𝓤 : Ura M} (𝓛 : Logic 𝓤) where
    -- where a walk from x ends
    abbrev pub Post : (κ : Lft) → Share → (P.row (κ, tt)).Denot → Val → SProp 𝓤
    Post κ q x =
        (walk_of 𝓛 (taking P F) (stayed P F) (saying (plain P.row ∷ []) (yes, tt) F of_one 𝓤)).post
        (((κ, tt), (q, tt), tt, (x, tt), (P.val (κ, tt) x ∷ [], tt)), tt)

    -- it ends with a result of which Says is said, the token, and what x owns
    pub leaves : (κ : Lft) (q : Share) (x : (P.row (κ, tt)).Denot) (r : (F (κ, tt)).Denot) (u : Val)
        → Says (κ, tt) x r
        → ent 𝓤 (⋆ 𝓛 (‵ ((F (κ, tt)).own_val r (u ∷ [])) ∷ (‵ (flft κ q) ⊛ ‵ ftrue)
        ∷ ‵ ((P.row (κ, tt)).own_val x (P.val (κ, tt) x ∷ [])) ∷ [])) (Post κ q x u)
    leaves κ q x r u e =
        qed 𝓛 (‵ ((F (κ, tt)).own_val r (u ∷ [])) ∷ (‵ (flft κ q) ⊛ ‵ ftrue)
        ∷ ‵ ((P.row (κ, tt)).own_val x (P.val (κ, tt) x ∷ [])) ∷ []) ∵
        suffices ! _ (ends_at 𝓛 (taking P F) (stayed P F) (saying (plain P.row ∷ []) (yes, tt) F of_one 𝓤)
        (((κ, tt), (q, tt), tt, (x, tt), (P.val (κ, tt) x ∷ [], tt)), tt) u r (P.last (κ, tt) x, tt) (tt, tt)) $
        says ! e $ move ! (1 ∷ []) $ frame ! $ nothing ! $ move ! (2 ∷ 0 ∷ []) $ fjoin ! $ frame ! $ done !

  -- the code of function k, walked from every x, gives its contract
  pub walked_from : {M : Type 1} {𝓤 : Ura M} (𝓛 : Logic 𝓤) (𝓜 : Model 𝓤 𝓛.H) (𝓡 : Running 𝓤 𝓛.H 𝓜)
      (env : Binds) (k : Name) (code : Fn)
      → Closed 𝓤 𝓛.H (tables 𝓤 𝓛.H 𝓜 𝓡 env).C (tables 𝓤 𝓛.H 𝓜 𝓡 env).Λ k code
      → (FmC 𝓤 𝓛.H 𝓛.laws (tables 𝓤 𝓛.H 𝓜 𝓡 env).C
      → (κ : Lft) (q : Share) (x : (P.row (κ, tt)).Denot) → Is (P.row (κ, tt)) x (P.val (κ, tt) x ∷ [])
      → ent 𝓤 (Entry P 𝓛 κ q x)
      (WpFn 𝓤 𝓛.H (tables 𝓤 𝓛.H 𝓜 𝓡 env).C (tables 𝓤 𝓛.H 𝓜 𝓡 env).Λ code (P.val (κ, tt) x ∷ [])
      (Post 𝓛 κ q x)))
      → Meets 𝓛 (taking P F).signature (𝓡.run (env k))
      (closing 𝓛 (taking P F) (saying (plain P.row ∷ []) (yes, tt) F of_one 𝓤))
  unfolding tables_of
  walked_from {𝓤 = 𝓤} 𝓛 𝓜 𝓡 env k code closed walk =
      let 𝓣 = tables_of 𝓤 𝓛.H 𝓜 (tables 𝓤 𝓛.H 𝓜 𝓡 env) in
      let told = saying (plain P.row ∷ []) (yes, tt) F of_one 𝓤 in
      let run = WpFn 𝓤 𝓛.H (tables 𝓤 𝓛.H 𝓜 𝓡 env).C (tables 𝓤 𝓛.H 𝓜 𝓡 env).Λ code in
      entered 𝓤 𝓛.H _ (tables 𝓤 𝓛.H 𝓜 𝓡 env).C (tables 𝓤 𝓛.H 𝓜 𝓡 env).Λ k code closed
      (walk_Meets 𝓛 (taking P F) (stayed P F)
      (Goes-none 𝓛 1 P.row yes P.silent, tt) told run (WpFn-mono 𝓤 𝓛.H 𝓛.laws 𝓣 code)
      (walked 𝓛 (taking P F) (stayed P F) told run (λ κs. ((λ x. P.val κs x ∷ []), tt))
      (λ κs. (P.tells κs, tt)) (λ κs qs bounds a g are. via 𝓤 _ (fst∗ 𝓤 _ (emp 𝓤))
      (walk (fm_of 𝓤 𝓛.H 𝓛.laws 𝓣) κs.0 qs.0 a.0 are.0))))
