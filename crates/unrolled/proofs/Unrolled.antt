-- THEOREM: the unrolled form of an accepted text is an accepted text, and its routine is the same apart from line
-- numbers. It turns on the walk over both, line by line, where values without a name have free names.
-- Assumes nothing.
use Prim.Native.Nat.{ℕ, suc, ◌+◌, ◌≤◌}
use native.Mathlib.Omega.{arith}
use mathlib.Core.Path.{◌≡◌, refl, sym, ap, ap₂, ◌∙◌, subst}
use mathlib.Core.Bool.{Bool, true, false, cond}
use mathlib.Core.List.{List, [], ◌∷◌, ◌++◌, append_assoc, map as map_list}
use Rattle.std.specs.Prelude.{Option, None as none, Some as some}
use lib.Dec.{ltb}
use lib.ListN.{length}
use borrow.Author.Tests.{le-ltb}
use Rattle.tokens.specs.Ascii.{all, line_feed, ascii, same_bytes}
use Rattle.tokens.specs.Byte.{Each}
use Rattle.tokens.specs.Split.{pieces}
use Rattle.tokens.specs.Word.{spelt, words, word_of}
use Rattle.tokens.specs.Written.{joined_by}
use Rattle.tokens.proofs.Laws.Some.{some_same}
use Rattle.tokens.proofs.Laws.Joined.{Without, pieces-joined, joined-pieces, weight, joined_length}
use Rattle.grammar.specs.Record.{Record, record_for}
use Rattle.grammar.proofs.Laws.Written.{line_no_feed}
use Rattle.rules.specs.declared.types.Statement.{Statement}
use Rattle.rules.specs.Limits.{most_bytes}
use Rattle.rules.specs.Order.{at_end}
use Rattle.rules.specs.State.{State, start}
use Rattle.rules.specs.Read.{Routine, refused, accepted, Outcome, stop, take_record, take_pieces, take_line, take_lines}
use Rattle.rules.specs.Read.{routine, read_text}
use Rattle.unrolled.specs.Unrolled.{record_of, lines_of, unrolled_lines, led, behind_lines, unrolled}
use Rattle.unrolled.specs.Lines.{unlined_statement, unlined}
use Rattle.unrolled.proofs.Laws.Filled.{filled}
use Rattle.unrolled.proofs.Laws.Steps.{line_taken}
use Rattle.unrolled.proofs.Laws.Runs.{runs, runs-first, runs-behind, Ended, accepted-runs, runs-accepted}
use Rattle.unrolled.proofs.Laws.Runs.{refused-accepted}
use Rattle.rules.proofs.Laws.Limits.{start-bounded}
use Rattle.unrolled.proofs.Laws.Bounded.{runs-bounded}
use Rattle.unrolled.proofs.Laws.Load.{Plain, most_plain, load-most, runs-load}
use Rattle.unrolled.proofs.Laws.Blocks.{ops_of, resting}
use Rattle.unrolled.proofs.Laws.Related.{renamed, Related}
use Rattle.rules.proofs.Laws.Letting.{each_append}
use Rattle.unrolled.proofs.Laws.Unrolling.{line_stays, lines_unroll}

-- ---- the empty piece behind the last line feed

-- it makes no record
empty_none : record_of [] ≡ none
unfolding record_of pieces word_of words spelt ascii same_bytes record_for
empty_none = refl

-- it is not taken
empty_stops : (s : State) (n : ℕ) → take_line s n [] ≡ stop 5
unfolding take_line all take_pieces take_record pieces word_of words spelt ascii same_bytes record_for
empty_stops s n = refl

-- lines that are all taken, and what stands behind them
unrolled_append : (last : State) (ls ks : List (List ℕ)) (s f : State) (n : ℕ) → runs s n ls ≡ some f
    → unrolled_lines last s n (ls ++ ks) ≡ unrolled_lines last s n ls ++ unrolled_lines last f (n + length ls) ks
unfolding unrolled_lines runs led
unrolled_append last [] ks s f n e =
    let z : n ≡ n + 0 = omega arith in
    ap₂ {C = List (List ℕ)} (λ (x : State) (m : ℕ). unrolled_lines last x m ks) (some_same e) z
unrolled_append last (l ∷ ls) ks s f n e =
    let a = runs-first s f n l ls e in
    let z : n + 1 + length ls ≡ n + suc (length ls) = omega arith in
    let here = lines_of last s l (record_of l) in
    ap (λ (o : Outcome). here ++ unrolled_lines last (led s o) (n + 1) (ls ++ ks)) a.1
    ∙ ap (λ (x : List (List ℕ)). here ++ x) (unrolled_append last ls ks a.0 f (n + 1) a.2
    ∙ ap (λ (m : ℕ). unrolled_lines last a.0 (n + 1) ls ++ unrolled_lines last f m ks) z)
    ∙ sym (append_assoc here (unrolled_lines last a.0 (n + 1) ls) (unrolled_lines last f (n + suc (length ls)) ks))
    ∙ ap (λ (o : Outcome). (here ++ unrolled_lines last (led s o) (n + 1) ls)
    ++ unrolled_lines last f (n + suc (length ls)) ks) (sym a.1)

empty_stays : (last s : State) (n : ℕ) → unrolled_lines last s n ([] ∷ []) ≡ [] ∷ []
unfolding unrolled_lines lines_of
empty_stays last s n = ap (λ (o : Option Record). lines_of last s [] o ++ []) empty_none

empty_behind : (s : State) (n : ℕ) → behind_lines s n ([] ∷ []) ≡ s
unfolding behind_lines led
empty_behind s n = ap (led s) (empty_stops s (n + 1))

-- the unrolled form of an accepted text, by its lines
unrolled_lines_lem : (s : List ℕ) (ls : List (List ℕ)) (f : State) → pieces line_feed s ≡ ls ++ [] ∷ []
    → runs start 0 ls ≡ some f → unrolled s ≡ joined_by line_feed (unrolled_lines f start 0 ls ++ [] ∷ [])
unfolding unrolled
unrolled_lines_lem s ls f p e =
    ap (λ (ps : List (List ℕ)). joined_by line_feed (unrolled_lines (behind_lines start 0 ps) start 0 ps)) p
    ∙ ap (λ (t : State). joined_by line_feed (unrolled_lines t start 0 (ls ++ [] ∷ [])))
    (runs-behind ls ([] ∷ []) start f 0 e ∙ empty_behind f (0 + length ls))
    ∙ ap (joined_by line_feed) (unrolled_append f ls ([] ∷ []) start f 0 e
    ∙ ap (λ (x : List (List ℕ)). unrolled_lines f start 0 ls ++ x) (empty_stays f f (0 + length ls)))

-- ---- its bytes

-- lines that are all taken hold no line feed
runs_feeds : (ls : List (List ℕ)) (s f : State) (n : ℕ) → runs s n ls ≡ some f → Each (Without line_feed) (ls ++ [] ∷ [])
unfolding runs all
runs_feeds [] s f n e = (refl, tt)
runs_feeds (l ∷ ls) s f n e =
    let a = runs-first s f n l ls e in
    let T = line_taken s (n + 1) l a.0 a.1 in
    (line_no_feed l T.bytes, runs_feeds ls a.0 f (n + 1) a.2)

-- they are cut where they were joined
feeds_cut : (ls : List (List ℕ)) → Each (Without line_feed) (ls ++ [] ∷ [])
    → pieces line_feed (joined_by line_feed (ls ++ [] ∷ [])) ≡ ls ++ [] ∷ []
feeds_cut [] h = pieces-joined line_feed [] [] h
feeds_cut (l ∷ ls) h = pieces-joined line_feed l (ls ++ [] ∷ []) h

weight-last : (ls : List (List ℕ)) → weight (ls ++ [] ∷ []) ≡ weight ls + 1
unfolding weight
weight-last [] = refl
weight-last (l ∷ ls) = let e = weight-last ls in omega arith

-- as many bytes as they weigh
feeds_length : (ls : List (List ℕ)) → length (joined_by line_feed (ls ++ [] ∷ [])) ≡ weight ls
feeds_length ls = omega (arith, join ls, weight-last ls)
  where
    join : (ls : List (List ℕ)) → length (joined_by line_feed (ls ++ [] ∷ [])) + 1 ≡ weight (ls ++ [] ∷ [])
    join [] = joined_length line_feed [] []
    join (l ∷ ls) = joined_length line_feed l (ls ++ [] ∷ [])

-- ---- the routine

-- statements that compute the same are the same apart from their lines
ops-unlined : (ss : List Statement)
    → map_list unlined_statement ss ≡ map_list (λ o. record { op = o; line = 0 }) (ops_of ss)
unfolding unlined_statement
ops-unlined [] = refl
ops-unlined (s ∷ ss) = ap (λ (l : List Statement). record { op = s.op; line = 0 } ∷ l) (ops-unlined ss)

same-unlined : (xs ys : List Statement) → ops_of xs ≡ ops_of ys
    → map_list unlined_statement xs ≡ map_list unlined_statement ys
same-unlined xs ys e =
    ops-unlined xs ∙ ap (map_list {B = Statement} (λ o. record { op = o; line = 0 })) e ∙ sym (ops-unlined ys)

-- what is alike gives the same routine apart from line numbers
related-unlined : (last t q : State) (n m : ℕ) → Related last t q → unlined (routine q m) ≡ unlined (routine t n)
unfolding unlined routine renamed resting
related-unlined last t q n m R =
    ap (λ (x : State). unlined (routine x m)) R.is
    ∙ (λ i. record {
      shares = t.shares;
      maps = t.maps;
      inputs = t.inputs;
      variables = t.variables;
      origin = same-unlined R.os t.origin.statements R.origin i;
      result = t.result;
      masked = same-unlined R.ms t.masked.statements R.masked i;
      outputs = t.outputs;
      output_line = 0;
    })

-- nothing is renamed at the start
start-renamed : (last : State) → renamed last start [] [] ≡ start
unfolding renamed resting start filled
start-renamed last = refl

-- ---- the theorem

-- What is known of the unrolled form of a text that holds r: it is accepted, its routine is r apart from line numbers,
-- none of its lines is a `let`, and it is shorter than a text may be.
pub record Unrolled (s : List ℕ) (r : Routine) : Type 0 where
  pub held : Routine
  pub accepts : read_text (unrolled s) ≡ accepted held
  pub same : unlined held ≡ unlined r
  pub plain : Each (λ l. Plain (record_of l)) (pieces line_feed (unrolled s))
  pub short : length (unrolled s) ≤ most_plain

lines-unrolled : (s : List ℕ) (r : Routine) → Ended start 0 (pieces line_feed s) r → Unrolled s r
unfolding read_text renamed resting start
lines-unrolled s r E =
    let ls = E.lines in
    let f = E.last in
    let D = runs-bounded ls start f 0 start-bounded E.taken in
    let U = lines_unroll ls f start [] [] refl refl start-bounded D 0 0 E.taken in
    let us = unrolled_lines f start 0 ls in
    let t = U.led in
    let run : runs start 0 us ≡ some t = ap (λ (x : State). runs x 0 us) (sym (start-renamed f)) ∙ U.taken in
    let whole = unrolled_lines_lem s ls f E.parts E.taken in
    let ends : t.stage ≡ at_end = ap (λ (x : State). x.stage) U.related.is ∙ E.ends in
    let few : weight us ≤ most_plain =
    omega (arith, runs-load us start t 0 U.plain run, load-most t (runs-bounded us start t 0 start-bounded run)) in
    let cut = feeds_cut us (runs_feeds us start t 0 run) in
    record {
      held = routine t (0 + length us);
      accepts = ap read_text whole
          ∙ ap (λ (b : Bool). cond b (refused 2 0)
          (take_lines start 0 (pieces line_feed (joined_by line_feed (us ++ [] ∷ [])))))
          (le-ltb most_bytes (length (joined_by line_feed (us ++ [] ∷ []))) (omega (arith, few, feeds_length us)))
          ∙ ap (take_lines start 0) cut ∙ runs-accepted us start t 0 run ends;
      same = related-unlined f f t (0 + length ls) (0 + length us) U.related ∙ ap unlined (sym E.holds);
      plain = subst (Each (λ l. Plain (record_of l))) (sym (ap (pieces line_feed) whole ∙ cut))
          (each_append (λ l. Plain (record_of l)) us ([] ∷ []) U.plain (subst Plain (sym empty_none) tt, tt));
      short = omega (arith, few, feeds_length us, ap length whole);
    }

-- THEOREM
pub text-unrolled : (s : List ℕ) (r : Routine) → read_text s ≡ accepted r → Unrolled s r
unfolding read_text
text-unrolled s r e = go (ltb most_bytes (length s)) e
  where
    go : (b : Bool) → cond b (refused 2 0) (take_lines start 0 (pieces line_feed s)) ≡ accepted r → Unrolled s r
    go true h = refused-accepted h
    go false h = lines-unrolled s r (accepted-runs start 0 (pieces line_feed s) r h)

-- ---- texts without `let`

lines_stay : (last : State) (ls : List (List ℕ)) (s : State) (n : ℕ) → Each (λ l. Plain (record_of l)) ls
    → unrolled_lines last s n ls ≡ ls
unfolding unrolled_lines
lines_stay last [] s n h = refl
lines_stay last (l ∷ ls) s n h =
    ap₂ {C = List (List ℕ)} ◌++◌ (line_stays last s l (record_of l) h.0)
    (lines_stay last ls (led s (take_line s (n + 1) l)) (n + 1) h.1)

-- THEOREM: a text without `let` is its own unrolled form
pub text-stays : (s : List ℕ) → Each (λ l. Plain (record_of l)) (pieces line_feed s) → unrolled s ≡ s
unfolding unrolled
text-stays s h =
    ap (joined_by line_feed) (lines_stay (behind_lines start 0 (pieces line_feed s)) (pieces line_feed s) start 0 h)
    ∙ joined-pieces line_feed s
