-- A function is called on a reader's text and place: the step of a walk that takes the reader apart for the call, and
-- the walk of any function that does this alone and returns the answer. Of the callee its contract alone is known.
-- Assumes nothing.
use mathlib.Core.Path.{◌≡◌, refl}
use Prim.Native.Nat.{ℕ, ◌+◌}
use mathlib.Core.List.{List, [], ◌∷◌}
use mathlib.Core.Option.{some}
use lib.Dec.{T as Holds}
use seplogic.Ra.Ura.{Ura}
use mir.Syntax.{Callee as Name, Ty, ty_int, ty_ref, imm, named, erased, w8, w64, Opd as Operand, copy, Place, place, field}
use mir.Syntax.{Body, seq, assign, call, return, rv_opd, local, value_local, Fn}
use mir.Val.{Val, WT, has_ty}
use base.Logic.{ent}
use base.Fml.{Lft, Share, ftrue, flft}
use prog.Model.{Model}
use prog.Routine.{Routine, Env as Binds}
use prog.Memory.{field_of as field_at}
use prog.Wp.{Env, spot_of, Calls, Loops, WpFn, Closed}
use types.Logic.{Logic}
use contract.Lifetimes.{Lfts}
use contract.Running.{Running, tables}
use types.Kit.{Item, Post as After, Seq, runs, lands, nth, ‵, raw, ◌⊛◌, ◌$◌, ◌∵◌, !, qed, by, move, use1, split}
use types.Part.{Part, whole, sub, look_in}
use types.Run.{Opds, Rv, look, init, forget, stop, fld, from, load, of_opd, and_then, no_more, assigns, land, returns}
use types.Run.{enter, alloc1, alloc0, params1, pass1, pass0, free1, free0}
use sound.WpLaws.{FmC}
use denote.Builtin.{usize}
use denote.Exit.{yes}
use denote.Laws.{Is}
use denote.RattleType.{RattleType, Denots, flat}
use denote.Signature.{Slot, plain, types_at}
use denote.Slice.{slice_ty}
use denote.Triple.Clauses.{closing}
use denote.Triple.Entry.{on_entry}
use denote.Triple.Spec.{Meets}
use denote.Triple.Statement.{Contract, Triple}
use denote.Triple.Table.{cited}
use Rattle.reader.specs.declared.reader.Reader.{Reader}
use Rattle.reader.proofs.Laws.Held.{B, mach, Typed, Own, fields, passed, reader, typed, apart}
use Rattle.reader.proofs.Laws.Says.{shape, saying, Saying, to, answers}
use Rattle.reader.proofs.Laws.Taken.{bytes, taking, of_one, Entry, Post, leaves, walked_from}
use Rattle.reader.proofs.reader.Reader.TheLaws as T'

-- ---- the call

-- a text and two numbers
abbrev parts : List (Slot 1)
parts = plain bytes.row ∷ plain (λ _. usize) ∷ plain (λ _. usize) ∷ []

module _ (R : RattleType) (Found : Reader → R.Denot → Type 0) where
  -- Found is said of the reader that they make
  abbrev of_parts : (κs : Lfts 1) → Denots (types_at {n = 1} parts κs) → R.Denot → Type 0
  of_parts κs a r = Found (record { text = a.0; at = a.1.0; line = a.1.1.0 }) r

  -- the contract of a function on a text and a place
  abbrev pub Callee : {M : Type 1} {𝓤 : Ura M} (𝓛 : Logic 𝓤) → Contract 𝓤
  Callee {𝓤 = 𝓤} 𝓛 = Saying parts (yes, (yes, (yes, tt))) (λ _. R) of_parts 𝓤 𝓛

-- field k of a struct that lies in a local, entry n of what there is, is read
pub field_of : {M : Type 1} {𝓤 : Ura M} {𝓛 : Logic 𝓤} {K : Type 0} {Γ : List (Item 𝓤)}
    {E : Env 𝓤 𝓛.H} → K → (n : ℕ) {i k o : ℕ} {τ : Ty} {s : Share} {v : Val} {back : Val → Item 𝓤}
    → field_at (spot_of 𝓤 𝓛.H E i).0 k ≡ some (τ, o)
    → Part K 𝓛 (nth 𝓛 n Γ) s τ (spot_of 𝓤 𝓛.H E i).1 ((spot_of 𝓤 𝓛.H E i).2 + o) v back
    → Rv K 𝓛 Γ E (rv_opd (copy (place i (field k ∷ [])))) v
field_of t n is_field lies = of_opd t (load t (from t (fld t is_field (stop t))) (look_in t n lies))

module _ (R : RattleType) (Found : Reader → R.Denot → Type 0) {M : Type 1} {𝓤 : Ura M} {𝓛 : Logic 𝓤}
    {K : Type 0} {Γ : List (Item 𝓤)} {E : Env 𝓤 𝓛.H} {C : Calls 𝓤 𝓛.H} {Λ : Loops 𝓤 𝓛.H}
    {p : After 𝓤 𝓛.H} where
  -- Reader d is taken apart and f called: behind the call there are its result, of which Found holds, the token, and
  -- what the reader owns. What it owns is had twice: one copy is kept, the other goes to the call.
  open 𝓛 use {H}

  pub calls_on : K → FmC 𝓤 H 𝓛.laws C → {f : Name} → Triple 𝓤 (C f) (Callee R Found 𝓛)
      → (κ : Lft) (q : Share) (d : Reader) → Typed d → {xs : List Operand} {to-place : Place} {rest : Body}
      → Opds K 𝓛 (raw ((Callee R Found 𝓛).pre
      (to parts (yes, (yes, (yes, tt))) (λ _. R) (of_parts R Found) 𝓤 𝓛 κ q (fields κ d) (passed d)))
      ∷ ‵ (Own κ d) ∷ Γ) E xs (flat (types_at {n = 1} parts (κ, tt)) (passed d))
      → ((u : Val) (r : R.Denot) → Found d r → Is R r (u ∷ [])
      → Seq K 𝓛 (‵ (R.own_val r (u ∷ [])) ∷ (‵ (flft κ q) ⊛ ‵ ftrue) ∷ ‵ (Own κ d) ∷ Γ)
      (lands C Λ E to-place u rest p))
      → Seq K 𝓛 (raw (Entry reader 𝓛 κ q d) ∷ Γ) (runs C Λ E (seq (call f xs to-place) rest) p)
  calls_on t fm known κ q d wt opds go =
      use1 𝓛 (raw (on_entry 𝓛 (shape parts (yes, (yes, (yes, tt))) (λ _. R)).signature (κ, tt) (q, tt) (fields κ d)
      (passed d)) ⊛ ‵ (Own κ d)) (apart 𝓛 κ q d wt.1.1.0.fits wt.1.1.1.0.fits) $ split t $
      answers parts (yes, (yes, (yes, tt))) (λ _. R) (of_parts R Found) t fm known κ q (fields κ d) (passed d) opds go

-- ---- a function that returns the answer of the call

-- field k of the reader is copied to local i
abbrev copied : ℕ → ℕ → Body
copied i k = assign (place i []) (rv_opd (copy (place 1 (field k ∷ []))))

-- its code: the reader is taken apart, and f is called on its text and place; the result is of machine type τ
abbrev pub passing : Ty → Name → Fn
passing τ f = record {
  lifetimes = 1;
  outlives = [];
  ty_params = [];
  givens = 0;
  params = 1;
  locals = local τ value_local ∷ local (T'.mir (named 0)) value_local
      ∷ local (slice_ty (ty_ref erased imm (ty_int w8))) value_local ∷ local (ty_int w64) value_local
      ∷ local (ty_int w64) value_local ∷ [];
  body = seq (copied 2 0) (seq (copied 3 1) (seq (copied 4 2)
      (seq (call f (copy (place 2 []) ∷ copy (place 3 []) ∷ copy (place 4 []) ∷ []) (place 0 [])) return)));
}

module _ (R : RattleType) (τ : Ty) (f : Name) (Found : Reader → R.Denot → Type 0) {M : Type 1} {𝓤 : Ura M} (𝓛 : Logic 𝓤)
    (fits : (r : R.Denot) (u : Val) → Is R r (u ∷ []) → Holds (has_ty τ u) × WT u) where
  open 𝓛 use {H}

  walk : (C : Calls 𝓤 H) (Λ : Loops 𝓤 H)
      → Triple 𝓤 (C f) (Callee R Found 𝓛) → FmC 𝓤 H 𝓛.laws C → (κ : Lft) (q : Share) (d : Reader) → Typed d
      → ent 𝓤 (Entry reader 𝓛 κ q d)
      (WpFn 𝓤 H C Λ (passing τ f) (mach d ∷ []) (Post reader (λ _. R) (λ _. Found) 𝓛 κ q d))
  walk C Λ known fm κ q d wt =
      qed 𝓛 (raw (Entry reader 𝓛 κ q d) ∷ []) ∵ enter ! C Λ (passing τ f) (mach d ∷ []) _ $
      alloc1 ! (λ l₀. alloc1 ! (λ l₁. alloc1 ! (λ l₂. alloc1 ! (λ l₃. alloc1 ! (λ l₄. alloc0 ! $
      params1 ! $ pass1 ! (init ! 6 refl wt) $ pass0 ! $
      assigns ! (field_of ! 6 refl (sub ! 0 refl (whole !))) (from ! (stop !)) (init ! 4 refl (tt, wt.1.0)) $
      assigns ! (field_of ! 6 refl (sub ! 1 refl (whole !))) (from ! (stop !)) (init ! 2 refl (tt, wt.1.1.0)) $
      assigns ! (field_of ! 6 refl (sub ! 2 refl (whole !))) (from ! (stop !)) (init ! 0 refl (tt, wt.1.1.1.0)) $
      move ! (10 ∷ []) $ calls_on R Found ! fm known κ q d wt (and_then ! (load ! (from ! (stop !)) (look ! 6 refl))
      (and_then ! (load ! (from ! (stop !)) (look ! 4 refl))
      (and_then ! (load ! (from ! (stop !)) (look ! 2 refl)) (no_more !)))) (λ u r e is.
      -- [the result; the token; what the reader owns; _4; …; _3; …; _2; …; _1; …; room for _0; …]
      land ! (from ! (stop !)) (init ! 11 refl (fits r u is)) $ returns ! (look ! 11 refl) $
      forget ! 3 refl $ forget ! 5 refl $ forget ! 7 refl $ forget ! 9 refl $ forget ! 11 refl $
      move ! (11 ∷ 12 ∷ []) $ free1 ! $ move ! (9 ∷ 10 ∷ []) $ free1 ! $ move ! (7 ∷ 8 ∷ []) $ free1 ! $
      move ! (5 ∷ 6 ∷ []) $ free1 ! $ move ! (3 ∷ 4 ∷ []) $ free1 ! $ free0 ! $
      by ! (leaves reader (λ _. R) (λ _. Found) 𝓛 κ q d r u e)))))))

  -- function k, whose code is that, says of its reader and its result what f says
  pub passed_on : (𝓜 : Model 𝓤 H) (𝓡 : Running 𝓤 H 𝓜) (env : Binds) (k : Name)
      → Closed 𝓤 H (tables 𝓤 H 𝓜 𝓡 env).C (tables 𝓤 H 𝓜 𝓡 env).Λ k (passing τ f)
      → (callee : Routine) → env f ≡ callee → Triple 𝓤 (𝓡.run callee) (Callee R Found 𝓛)
      → Meets 𝓛 (taking reader (λ _. R)).signature (𝓡.run (env k)) (closing 𝓛
      (taking reader (λ _. R)) (saying (plain B ∷ []) (yes, tt) (λ _. R) (of_one reader (λ _. R) (λ _. Found)) 𝓤))
  passed_on 𝓜 𝓡 env k closed callee is_f met =
      walked_from reader (λ _. R) (λ _. Found) 𝓛 𝓜 𝓡 env k (passing τ f) closed (λ fm κ q d is.
      walk (tables 𝓤 H 𝓜 𝓡 env).C (tables 𝓤 H 𝓜 𝓡 env).Λ
      (cited 𝓤 H (Callee R Found 𝓛) 𝓜 𝓡 env f callee is_f met) fm κ q d (typed 𝓛 κ q d is))
