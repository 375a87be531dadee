-- What is handed out at a place: that the place is brought within the text, and what each way out of the code gives.
-- Assumes nothing.
use Prim.Native.Nat.{ℕ, ◌≤◌}
use Rattle.std.specs.Prelude.{min}
use native.Mathlib.Omega.{arith}
use mathlib.Core.Path.{◌≡◌, refl, ap, sym, subst, ◌∙◌}
use mathlib.Core.Bool.{Bool, true, false, cond}
use mathlib.Core.List.{List}
use Rattle.std.specs.Prelude.{Option, None as none, Some as some}
use lib.ListN.{length}
use Rattle.tokens.specs.declared.word.Word.{Word}
use Rattle.grammar.specs.declared.line.Line.{Line}
use Rattle.grammar.specs.declared.record.Rec.{Rec}
use Rattle.reader.specs.declared.cursor.Cursor.{Cursor}
use Rattle.reader.specs.declared.cursor.Ahead.{Ahead}
use Rattle.tokens.specs.Ascii.{all, allowed}
use Rattle.tokens.specs.Token.{◌>>=◌, is_some, Name}
use Rattle.grammar.specs.Line.{pieces_in, field_in}
use Rattle.grammar.specs.Formula.{Formula}
use Rattle.grammar.specs.Record.{Record, record_for, output, nests}
use Rattle.tokens.specs.Word.{word_of}
use Rattle.grammar.specs.Recorded.{record_in, map_in, let_in, columns_of, formula_of, names_of}
use Rattle.reader.specs.Cursor.{look_at}
use Rattle.reader.specs.Reader.{placed, given, refused, formed, bytes_of, line_given, last_given}
use Rattle.reader.specs.Reader.{ahead_given, record_ahead, behind_of, place_behind}
use Rattle.reader.specs.declared.handed.Handed.{Handed}
use Rattle.reader.specs.Handed.{handed_in, HandedIs, has_fields, deep, nests_in}

-- ---- places

-- a place brought within the text lies within it
pub placed_in : (s : List ℕ) (at line : ℕ) (p : Cursor) → p ≡ placed s at line
    → (p.at ≤ length s) × (p.line ≤ p.at)
unfolding placed
placed_in s at line p e = rw e (omega arith, omega arith)

-- a place within the text stays as it is
pub placed_same : (s : List ℕ) (p : Cursor) → p.at ≤ length s → p.line ≤ p.at → placed s p.at p.line ≡ p
unfolding placed
placed_same s p h k =
    let at : min p.at (length s) ≡ p.at = omega arith in
    let line : min p.line (min p.at (length s)) ≡ p.line = omega arith in
    λ i. record { at = at i; line = line i }

-- a place past the end is brought to the end
pub placed_past : (s : List ℕ) (at line : ℕ) → length s ≤ at → length s ≤ (placed s at line).at
unfolding placed
placed_past s at line h = omega arith

-- ---- a record that was read whole

map-some : (x : Name) (v : ℕ) (o : Option (List ℕ)) → is_some (map_in x v o) ≡ is_some o
map-some x v none = refl
map-some x v (some l) = refl

let_some : (x : Name) (o : Option Formula) → is_some (let_in x o) ≡ is_some o
let_some x none = refl
let_some x (some f) = refl

names-some : (o : Option (List Name)) → is_some (o >>= λ xs. some (output xs)) ≡ is_some o
names-some none = refl
names-some (some l) = refl

-- the code's record stands for one exactly when all that it leaves in its line was read
pub fields-some : (s : List ℕ) (ps : List (List ℕ)) (r : Rec) → is_some (record_in s ps r) ≡ has_fields ps r
unfolding record_in
fields-some s ps (Rec.Shares k) = refl
fields-some s ps (Rec.Map n c) = map-some _ c (columns_of ps)
fields-some s ps (Rec.Input n) = refl
fields-some s ps Rec.Origin = refl
fields-some s ps (Rec.Assign n f) = refl
fields-some s ps (Rec.Let n) = let_some _ (formula_of ps)
fields-some s ps (Rec.Result n) = refl
fields-some s ps Rec.Masked = refl
fields-some s ps Rec.Output = names-some (names_of ps)

-- ---- a line that its line feed ends

-- where a record nests, told of an answer that holds one
abbrev Nests : Bool → Option Record → Type 0
Nests b none = Unit {0}
Nests b (some x) = nests x ≡ b

let_nests : (x : Name) (o : Option Formula) → Nests (deep o) (let_in x o)
unfolding nests
let_nests x none = tt
let_nests x (some f) = refl

map-nests : (x : Name) (v : ℕ) (o : Option (List ℕ)) → Nests false (map_in x v o)
unfolding nests
map-nests x v none = tt
map-nests x v (some l) = refl

names-nests : (o : Option (List Name)) → Nests false (o >>= λ xs. some (output xs))
unfolding nests
names-nests none = tt
names-nests (some l) = refl

-- the record that the code's record stands for nests where the code's does
nests-told : (s : List ℕ) (ps : List (List ℕ)) (r : Rec) → Nests (nests_in ps r) (record_in s ps r)
unfolding record_in nests
nests-told s ps (Rec.Shares k) = refl
nests-told s ps (Rec.Map n c) = map-nests _ c (columns_of ps)
nests-told s ps (Rec.Input n) = refl
nests-told s ps Rec.Origin = refl
nests-told s ps (Rec.Assign n f) = refl
nests-told s ps (Rec.Let n) = let_nests _ (formula_of ps)
nests-told s ps (Rec.Result n) = refl
nests-told s ps Rec.Masked = refl
nests-told s ps Rec.Output = names-nests (names_of ps)

formed-some : (l : Line) (c : Cursor) (o : Option Record) → is_some o ≡ true → Nests false o
    → (o >>= λ x. some (given l x c)) ≡ some (formed l c o)
formed-some l c none e n = let z : ◌≡◌ {A = ℕ} 0 1 = cc in absurd (omega arith)
formed-some l c (some r) e n = rw n

formed-deep : (l : Line) (c : Cursor) (o : Option Record) → is_some o ≡ true → Nests true o
    → refused 13 c ≡ formed l c o
formed-deep l c none e n = let z : ◌≡◌ {A = ℕ} 0 1 = cc in absurd (omega arith)
formed-deep l c (some r) e n = rw n

formed-none : (l : Line) (c : Cursor) (o : Option Record) → is_some o ≡ false → refused 5 c ≡ formed l c o
formed-none l c none e = refl
formed-none l c (some r) e = let z : ◌≡◌ {A = ℕ} 0 1 = cc in absurd (omega arith)

module _ (s : List ℕ) (l : Line) (c : Cursor) where
  -- a byte that is not allowed: refusal 3
  pub line_foul : all allowed (bytes_of s l) ≡ false → refused 3 c ≡ line_given s l c
  unfolding line_given
  line_foul e = rw e

  module _ (clean : all allowed (bytes_of s l) ≡ true) (w : Word) (told : w ≡ word_of (field_in s l 0)) where
    line-formed : {o : Option Record} → o ≡ record_for w (pieces_in s l) → formed l c o ≡ line_given s l c
    unfolding line_given
    line-formed e = ap (formed l c) (e ∙ ap (λ (x : Word). record_for x (pieces_in s l)) told) ∙ rw clean

    -- a field was not read: refusal 5
    pub line-none : none ≡ record_for w (pieces_in s l) → refused 5 c ≡ line_given s l c
    line-none e = line-formed e

    module _ (r : Rec) (reads : record_in s (pieces_in s l) r ≡ record_for w (pieces_in s l)) where
      -- all that the record leaves in its line was read, and it does not nest above 8
      pub line_record : true ≡ has_fields (pieces_in s l) r → false ≡ nests_in (pieces_in s l) r
          → (record_in s (pieces_in s l) r >>= λ x. some (given l x c)) ≡ some (line_given s l c)
      line_record e n =
          formed-some l c (record_in s (pieces_in s l) r) (fields-some s (pieces_in s l) r ∙ sym e)
          (subst (λ (b : Bool). Nests b (record_in s (pieces_in s l) r)) (sym n) (nests-told s (pieces_in s l) r))
          ∙ ap some (line-formed reads)

      -- it was, and the record nests above 8: refusal 13
      pub line-deep : true ≡ has_fields (pieces_in s l) r → true ≡ nests_in (pieces_in s l) r
          → refused 13 c ≡ line_given s l c
      line-deep e n =
          formed-deep l c (record_in s (pieces_in s l) r) (fields-some s (pieces_in s l) r ∙ sym e)
          (subst (λ (b : Bool). Nests b (record_in s (pieces_in s l) r)) (sym n) (nests-told s (pieces_in s l) r))
          ∙ line-formed reads

      -- a part of it was not read: refusal 5
      pub line-unformed : false ≡ has_fields (pieces_in s l) r → refused 5 c ≡ line_given s l c
      line-unformed e =
          formed-none l c (record_in s (pieces_in s l) r) (fields-some s (pieces_in s l) r ∙ sym e) ∙ line-formed reads

-- a line that lacks its line feed: refusal 4, or 3 before it
pub last-told : (s : List ℕ) (l : Line) (c : Cursor) {b : Bool} → b ≡ all allowed (bytes_of s l)
    → refused (cond b 4 3) c ≡ last_given s l c
unfolding last_given
last-told s l c e = ap (λ (b : Bool). refused (cond b 4 3) c) e

-- ---- the place behind

behind-formed : (p : Cursor) (l : Line) (c : Cursor) (o : Option Record) → behind_of p (formed l c o) ≡ c
behind-formed p l c none = refl
behind-formed p l c (some r) = go (nests r)
  where
    go : (b : Bool) → behind_of p (cond b (refused 13 c) (given l r c)) ≡ c
    go true = refl
    go false = refl

-- behind a line that its line feed ends
pub behind-line : (s : List ℕ) (p : Cursor) (l : Line) (c : Cursor) → behind_of p (line_given s l c) ≡ c
unfolding line_given
behind-line s p l c = go (all allowed (bytes_of s l))
  where
    go : (b : Bool) → behind_of p (cond b (formed l c (record_for (word_of (field_in s l 0)) (pieces_in s l)))
        (refused 3 c)) ≡ c
    go true = behind-formed p l c (record_for (word_of (field_in s l 0)) (pieces_in s l))
    go false = refl

-- What is ahead of a place p within the text, told by the code's answer.
module _ (s : List ℕ) (at line : ℕ) (p : Cursor) (e : p ≡ placed s at line) {x : Ahead} (a : x ≡ look_at s p) where
  -- what is handed out
  pub ahead-told : ahead_given s p x ≡ record_ahead s at line
  unfolding record_ahead
  ahead-told = ap (ahead_given s p) a ∙ ap (λ (q : Cursor). ahead_given s q (look_at s q)) e

  -- the place behind it
  pub behind-told : behind_of p (ahead_given s p x) ≡ place_behind s at line
  unfolding place_behind
  behind-told = ap (behind_of p) ahead-told ∙ ap (λ (q : Cursor). behind_of q (record_ahead s at line)) e

-- two answers at one place stand for the same record or refusal, with the same line and the same place behind it
pub handed_unique : (s : List ℕ) (at line : ℕ) (r q : Option Handed) → HandedIs s at line r → HandedIs s at line q
    → handed_in s r ≡ handed_in s q
handed_unique s at line r q e f = e ∙ sym f
