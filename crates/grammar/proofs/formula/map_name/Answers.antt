-- The part before the mark has its form or not. Assumes nothing.
use Rattle.grammar.proofs.Laws.Measured.{plain-leaf, mark_front}
use Rattle.grammar.specs.Measured.{alone, leaf}
use Rattle.tokens.specs.Answer.{name_read}
use Rattle.tokens.specs.Token.{◌>>=◌, provided, is_some, read_name, read_plain}
use Rattle.tokens.specs.Ascii.{is_mark}
use Rattle.tokens.specs.Limits.{no_part}
use Rattle.tokens.specs.Split.{until}
use Rattle.grammar.specs.Formula.{front}
use Rattle.grammar.specs.declared.formula.FormulaRead.{FormulaRead}
use Rattle.tokens.specs.declared.token.NameForm.{NameForm}
use Rattle.std.specs.Prelude.{Option, None, Some}
use Prim.Native.Nat.{ℕ, ◌+◌}
use lib.Dec.{eqb}
use lib.ListN.{drop}
use mathlib.Core.List.{List}
use mathlib.Core.Path.{◌≡◌, ap, ◌∙◌}
use Rattle.grammar.proofs.formula.map_name.Goals as goal
use Rattle.grammar.proofs.formula.map_name.Goals.{After-name}

-- whether the part has its form, which is o
answered : (d : After-name) (o : Option NameForm) → o ≡ name_read (read_name d.part.result.now)
    → let a = d.args in
    (o >>= λ n. provided (eqb n.part no_part) (alone d.find_mark-mark.result))
    ≡ leaf (is_some (read_plain (front (drop a.at a.f.now)))) (a.at + until is_mark (drop a.at a.f.now))
answered d o k =
    let a = d.args in
    let m = d.find_mark-mark.result in
    let e = d.find_mark-mark.ensures in
    let rest = drop a.at a.f.now in
    plain-leaf (front rest) m o
    (k ∙ ap (λ (t : List ℕ). name_read (read_name t)) (d.part.ensures ∙ mark_front a.f.now a.at m d.requires e))
    ∙ ap (leaf (is_some (read_plain (front rest)))) e

pub returns-in_err-n : goal.returns-in_err-n
returns-in_err-n c = c.from_residual.ensures ∙ answered (goal.at.returns-in_err-n c).After-name None c.in_err-n.ensures

pub returns : goal.returns
returns c =
    c.then_some.ensures
    ∙ ap (λ (r : FormulaRead). provided (eqb c.in_ok-n.n.part no_part) r) c.part_read.ensures
    ∙ answered (goal.at.returns c).After-name (Some c.in_ok-n.n) c.in_ok-n.ensures
