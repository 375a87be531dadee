-- Functions of one lifetime that ask nothing and say something of their arguments and of their result: their contract,
-- and the call of one as a step of a walk, where its contract alone is known. Assumes nothing.
use mathlib.Core.List.{List, [], ◌∷◌}
use seplogic.Ra.Ura.{Ura}
use mir.Syntax.{Callee as Name, Opd as Operand, Place, Body, seq, call}
use mir.Val.{Val}
use base.Logic.{ent, sep, emp, via, comm∗, emp∗, snd∗, ex_e, id⊢}
use base.Fml.{Lft, Share, ftrue, flft}
use prog.Wp.{Env, Calls, Loops}
use types.Logic.{Logic, sem}
use contract.Lifetimes.{Lfts}
use contract.Monad.{fact}
use types.Kit.{Item, Post, Seq, runs, lands, ‵, raw, ◌⊛◌, some, later, ◌$◌, move, use1, split, pick, await}
use types.Run.{Opds}
use sound.WpLaws.{FmC}
use denote.Laws.{Is, shows}
use denote.RattleType.{RattleType, Denots, Valss, flat}
use denote.Signature.{Slot, plain, types_at}
use denote.Steps.{peeks, heard}
use denote.Triple.Call.{calls_at}
use denote.Triple.Clauses.{Clauses, Ended, closing, ensured, lasts}
use denote.Triple.End.{Kepts}
use denote.Triple.Entry.{on_entry}
use denote.Triple.Spec.{triple_of}
use denote.Triple.Statement.{Contract, Triple}

module _ (ss : List (Slot 1)) (ks : Kepts ss) (F : Lfts 1 → RattleType) where
  -- ss are taken, and a value of type F is returned
  abbrev pub shape : Ended
  shape = record { signature = record { lifetimes = 1; outlives = []; params = ss; result = plain F }; kept = ks }

module _ (ss : List (Slot 1)) (ks : Kepts ss) (F : Lfts 1 → RattleType)
    (Says : (κs : Lfts 1) → Denots (types_at ss κs) → (F κs).Denot → Type 0) {M : Type 1} (𝓤 : Ura M) where
  -- nothing is asked, and Says is said of the arguments and the result
  abbrev pub saying : Clauses 𝓤 (shape ss ks F)
  saying κs a = record { ghost = Unit {0}; requires = λ g. emp 𝓤; ensures = λ g r e. fact 𝓤 (Says κs a r) }

  module _ (𝓛 : Logic 𝓤) where
    abbrev pub Saying : Contract 𝓤
    Saying = triple_of 𝓛 (shape ss ks F).signature (closing 𝓛 (shape ss ks F) saying)

    module _ (κ : Lft) (q : Share) (a : Denots (types_at ss (κ, tt))) (vss : Valss (types_at ss (κ, tt))) where
      -- it is called with the arguments a, whose machine values are vss
      abbrev pub to : Saying.Ghost
      to = (((κ, tt), (q, tt), tt, a, vss), tt)

      asked : ent 𝓤 (on_entry 𝓛 (shape ss ks F).signature (κ, tt) (q, tt) a vss) (Saying.pre to)
      asked =
          let P = on_entry 𝓛 (shape ss ks F).signature (κ, tt) (q, tt) a vss in
          via 𝓤 (sep 𝓤 (emp 𝓤) P) (emp∗ 𝓤 P) (comm∗ 𝓤 (emp 𝓤) P)

      -- of what it ensures, the clause alone: what is said of last values is dropped
      said : (r : (F (κ, tt)).Denot)
          → ent 𝓤 (ensured 𝓛 (shape ss ks F) saying (κ, tt) a tt r) (fact 𝓤 (Says (κ, tt) a r))
      said r =
          ex_e 𝓤 _ (λ ws. snd∗ 𝓤 (sem 𝓛 (lasts (shape ss ks F) (κ, tt) a ws)) (fact 𝓤 (Says (κ, tt) a r)))

module _ (ss : List (Slot 1)) (ks : Kepts ss) (F : Lfts 1 → RattleType)
    (Says : (κs : Lfts 1) → Denots (types_at ss κs) → (F κs).Denot → Type 0) {M : Type 1} {𝓤 : Ura M} {𝓛 : Logic 𝓤}
    {K : Type 0} {Γ : List (Item 𝓤)} {E : Env 𝓤 𝓛.H} {C : Calls 𝓤 𝓛.H} {Λ : Loops 𝓤 𝓛.H}
    {p : Post 𝓤 𝓛.H} where
  -- it is called: behind the call there are its result, of which Says is said, and the token
  open 𝓛 use {H}

  pub answers : K → FmC 𝓤 H 𝓛.laws C → {f : Name} → Triple 𝓤 (C f) (Saying ss ks F Says 𝓤 𝓛)
      → (κ : Lft) (q : Share) (a : Denots (types_at ss (κ, tt))) (vss : Valss (types_at ss (κ, tt)))
      → {xs : List Operand} {to-place : Place} {rest : Body}
      → Opds K 𝓛 (raw ((Saying ss ks F Says 𝓤 𝓛).pre (to ss ks F Says 𝓤 𝓛 κ q a vss)) ∷ Γ) E xs
      (flat (types_at ss (κ, tt)) vss)
      → ((u : Val) (r : (F (κ, tt)).Denot) → Says (κ, tt) a r → Is (F (κ, tt)) r (u ∷ [])
      → Seq K 𝓛 (‵ ((F (κ, tt)).own_val r (u ∷ [])) ∷ (‵ (flft κ q) ⊛ ‵ ftrue) ∷ Γ) (lands C Λ E to-place u rest p))
      → Seq K 𝓛 (raw (on_entry 𝓛 (shape ss ks F).signature (κ, tt) (q, tt) a vss) ∷ Γ)
      (runs C Λ E (seq (call f xs to-place) rest) p)
  answers t fm known κ q a vss opds go =
      use1 𝓛 (raw ((Saying ss ks F Says 𝓤 𝓛).pre (to ss ks F Says 𝓤 𝓛 κ q a vss)))
      (asked ss ks F Says 𝓤 𝓛 κ q a vss) $
      calls_at t fm (Saying ss ks F Says 𝓤 𝓛) known (to ss ks F Says 𝓤 𝓛 κ q a vss) opds (λ u.
      use1 𝓛 (later (some (λ (r : (F (κ, tt)).Denot). ((‵ (flft κ q) ⊛ ‵ ftrue) ⊛ ‵ ((F (κ, tt)).own_val r (u ∷ [])))
      ⊛ raw (ensured 𝓛 (shape ss ks F) (saying ss ks F Says 𝓤) (κ, tt) a tt r)))) (id⊢ 𝓤 _) $
      await t tt $ pick t (λ r. split t $ move t (1 ∷ []) $
      use1 𝓛 (raw (fact 𝓤 (Says (κ, tt) a r))) (said ss ks F Says 𝓤 𝓛 κ q a vss r) $
      heard t (Says (κ, tt) a r) (λ e. split t $ move t (1 ∷ []) $
      peeks t (F (κ, tt)) (Is (F (κ, tt))) (shows 𝓛 (F (κ, tt))) r (u ∷ []) (λ is. go u r e is))))
