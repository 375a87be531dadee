-- What a reader owns, for the walks that take one apart: its text and its place, for a function that is called on them.
-- Assumes nothing.
use mathlib.Core.Path.{◌≡◌, refl}
use Prim.Native.Nat.{◌<◌, ◌^◌}
use mathlib.Core.List.{List, [], ◌∷◌}
use lib.Dec.{T as Holds}
use lib.ListN.{length}
use seplogic.Ra.Ura.{Ura}
use mir.Syntax.{named, w64}
use mir.Val.{Val, vint, WT, has_ty}
use base.Logic.{ent, sep}
use base.Fml.{Lft, Share, Fml, ftrue, flft}
use types.Logic.{Logic, sem}
use contract.Lifetimes.{Lfts}
use types.Kit.{‵, ◌⊛◌, given, ◌$◌, ◌∵◌, !, qed, move, drop, use1, split, join, learn, fsplit, fjoin, frame, done}
use denote.RattleType.{RattleType, owns}
use denote.Laws.{Is}
use denote.Plain.{uint_Makes}
use denote.Builtin.{u8, usize}
use denote.Signature.{named_lft}
use denote.Slice.{slice_val, ShrSlice}
use denote.Steps.{owned, nothing}
use denote.Struct.Declared.{Declared}
use denote.Struct.Laws as LL
use denote.Struct.Rest.{all_own, field_own, rest, own_open, own_out}
use denote.Struct.Values.{Values}
use Rattle.reader.specs.declared.reader.Reader.{Reader}
use Rattle.reader.proofs.Laws.Taken.{Param, Entry}
use Rattle.reader.specs.contracts.reader.Reader as T
use Rattle.reader.proofs.reader.Reader.TheLaws as T'

-- the reader's type, over the signature's lifetimes
abbrev pub B : Lfts 1 → RattleType
B κs = T.the_row (named_lft 1 0 tt κs)

-- the machine value of a reader
abbrev pub mach : Reader → Val
mach d = T'.lowered d

-- it is of the reader's type
abbrev pub Typed : Reader → Type 0
Typed d = Holds (has_ty (T'.mir (named 0)) (mach d)) × WT (mach d)

-- the machine values of a reader's fields
abbrev pub passed : Reader → List Val × (List Val × (List Val × Unit {0}))
passed d =
    (slice_val d.text.ref_ptr (length d.text.now) ∷ [], (vint w64 d.at ∷ [], (vint w64 d.line ∷ [], tt)))

module _ (κ : Lft) where
  -- what a reader owns
  abbrev pub Own : Reader → Fml
  Own d = (B (κ, tt)).own_val d (mach d ∷ [])

  -- the reader's type and its laws
  abbrev pub D : Declared
  D = T.the_type (named_lft 1 0 tt (κ, tt))

  abbrev pub L : LL.Laws D
  L = T'.the_laws (named_lft 1 0 tt (κ, tt))

  -- the fields of a reader, in their order
  abbrev pub fields : Reader → Values D.parts
  fields d = (d.text, (d.at, (d.line, tt)))

  -- what the text and the numbers of a reader own
  abbrev pub Parts : Reader → Fml
  Parts d = owns (ShrSlice (named 0) κ u8 ∷ usize ∷ usize ∷ []) (fields d) (passed d)

-- a reader as a parameter
abbrev pub reader : Param
reader = record {
  row = B;
  val = λ κs d. mach d;
  tells = λ κs. LL.tells (T.the_type (named_lft 1 0 tt κs)) (T'.the_laws (named_lft 1 0 tt κs));
  last = λ κs x. tt;
  silent = λ κs x f. refl;
}

module _ {M : Type 1} {𝓤 : Ura M} (𝓛 : Logic 𝓤) (κ : Lft) (q : Share) (d : Reader) where
  -- what a reader owns is had twice
  pub twice : ent 𝓤 (sem 𝓛 (Own κ d)) (sep 𝓤 (sem 𝓛 (Own κ d)) (sem 𝓛 (Own κ d)))
  twice = (LL.copy (D κ) (T'.the_copy (named_lft 1 0 tt (κ, tt))) 𝓛).twice d (mach d ∷ [])

  -- its machine value is of its type
  pub typed : Is (B (κ, tt)) d (mach d ∷ []) → Typed d
  typed is = ((LL.lawful (D κ) (L κ) 𝓛).typed d _ is).0

  -- what a reader owns gives what a function on its text and place asks, beside the token, and is kept
  pub apart : d.at < 2 ^ 64 → d.line < 2 ^ 64
      → ent 𝓤 (Entry reader 𝓛 κ q d)
      (sep 𝓤 (sep 𝓤 (sep 𝓤 (sem 𝓛 (flft κ q)) (sem 𝓛 ftrue)) (sem 𝓛 (Parts κ d))) (sem 𝓛 (Own κ d)))
  apart at-fits line-fits =
      qed 𝓛 ((‵ (flft κ q) ⊛ ‵ ftrue) ∷ ‵ (owns (B (κ, tt) ∷ []) (d, tt) (mach d ∷ [], tt)) ∷ []) ∵
      move ! (1 ∷ []) $ fsplit ! $ move ! (1 ∷ []) $ drop ! $ use1 𝓛 (‵ (Own κ d) ⊛ ‵ (Own κ d)) twice $ split ! $
      use1 𝓛 (given (mach d ∷ [] ≡ mach d ∷ []) (‵ (all_own (D κ).parts (L κ) (fields κ d))))
      (own_open 𝓛 (D κ) (L κ) (fields κ d) (mach d)) $
      learn ! (λ _. use1 𝓛 (‵ (field_own (D κ).parts (L κ) 0 d.text) ⊛ ‵ (rest (D κ).parts (L κ) 0 (fields κ d)))
      (own_out 𝓛 (D κ).parts (L κ) 0 (fields κ d)) $ split ! $
      -- [what the text owns; what the numbers own; what the reader owns; the token]
      move ! (1 ∷ []) $ drop ! $ nothing ! $
      owned ! usize (Is usize) (uint_Makes 𝓛 w64) d.line _ (refl, line-fits) $ fjoin ! $
      owned ! usize (Is usize) (uint_Makes 𝓛 w64) d.at _ (refl, at-fits) $ fjoin ! $
      move ! (1 ∷ 0 ∷ []) $ fjoin ! $ move ! (2 ∷ 0 ∷ []) $ join ! $ frame ! $ done !)
