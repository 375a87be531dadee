-- A formula is read by its first mark: the parts of an operation are formulas that start behind it. Assumes nothing.
use native.Mathlib.Omega.{arith}
use mathlib.Core.Path.{◌≡◌, sym, subst, ◌∙◌}
use lib.ListN.{length}
use Prim.Native.Nat.{ℕ, ◌+◌, ◌-◌, ◌<◌}
use Rattle.std.specs.Prelude.{Some as some}
use Rattle.tokens.specs.Ascii.{closing}
use Rattle.grammar.specs.declared.formula.FormulaRead.{FormulaRead}
use Rattle.grammar.specs.Formula.{depth, operations}
use Rattle.grammar.proofs.Laws.Measured.{passed-either, found-place}
use Rattle.grammar.proofs.Laws.Paired.{Marked, FirstIs, first-formula, first-map, first-place, first-none, map_read}
use Rattle.grammar.proofs.Laws.Paired.{mark_two, mark_image, operand_read, unknown-read, comma-none, left_place}
use Rattle.grammar.proofs.Laws.Paired.{pair_read}
use Rattle.grammar.proofs.formula.+formula.Goals as goal
use Rattle.grammar.proofs.formula.+formula.Goals.{After-find_mark-mark, In-Two, In-Image, Joined-operation_at}
use Rattle.grammar.proofs.formula.+formula.Goals.{in-Two+in_ok-first-in-Two, in-Image+in_ok-first-in-Image}

-- the mark that was found
marked : (t : ℕ) (c : After-find_mark-mark t) → Marked c.args.f.now c.args.at c.find_mark-mark.result
marked t c = record { inside = c.requires; found = c.find_mark-mark.ensures }

-- the ( of an operation on two formulas stands in the field
two-inside : (t : ℕ) (c : In-Two t) → c.find_mark-mark.result < length c.args.f.now
two-inside t c =
    mark_two c.args.f.now c.args.at c.find_mark-mark.result c.requires c.find_mark-mark.ensures
    (sym c.operation_at.ensures ∙ c.in-Two.is)

-- the ( of an image stands in the field
image-inside : (t : ℕ) (c : In-Image t) → c.find_mark-mark.result < length c.args.f.now
image-inside t c =
    mark_image c.args.f.now c.args.at c.find_mark-mark.result c.requires c.find_mark-mark.ensures
    (sym c.operation_at.ensures ∙ c.in-Image.is)

-- the first part that was read
first-is : (t : ℕ) (c : Joined-operation_at t)
    → FirstIs c.args.f.now c.args.at c.find_mark-mark.result (some c.match-operation_at.first)
first-is t c =
    let known = c.operation_at.ensures in
    let mark = c.find_mark-mark.result in
    let is : FormulaRead → Type 0 = λ r. FirstIs c.args.f.now c.args.at mark (some r) in
    elim c.match-operation_at.branch [
      | in-Two+in_ok-first-in-Two w ↦
          subst is (sym w.first-is) (first-formula _ (sym known ∙ w.in-Two.is) w.in_ok-first-in-Two.ensures)
      | in-Image+in_ok-first-in-Image w ↦
          let inside = mark_image c.args.f.now c.args.at mark c.requires c.find_mark-mark.ensures
          (sym known ∙ w.in-Image.is) in
          subst is (sym w.first-is)
          (first-map (sym known ∙ w.in-Image.is)
          (map_read c.args.f.now (mark + 1) (omega arith) w.in_ok-first-in-Image.ensures))
    ]

pub overflow_add-mark : goal.overflow_add-mark
overflow_add-mark t c = omega (arith, two-inside t (goal.at.overflow_add-mark t c).In-Two)

pub formula-requires : goal.formula-requires
formula-requires t c =
    let at : length c.args.f.now - c.args.at ≡ t = c.decreases in
    let mark = c.find_mark-mark.ensures in
    let inside = two-inside t (goal.at.formula-requires t c).In-Two in
    (omega arith, omega arith)

pub returns-in_err-first-in-Two : goal.returns-in_err-first-in-Two
returns-in_err-first-in-Two t c =
    rw c.from_residual.ensures
    (first-none (marked t (goal.at.returns-in_err-first-in-Two t c).After-find_mark-mark)
    (first-formula _ (sym c.operation_at.ensures ∙ c.in-Two.is) c.in_err-first-in-Two.ensures))

pub overflow_add-mark-in-Image : goal.overflow_add-mark-in-Image
overflow_add-mark-in-Image t c = omega (arith, image-inside t (goal.at.overflow_add-mark-in-Image t c).In-Image)

pub map_name-requires : goal.map_name-requires
map_name-requires t c = omega (arith, image-inside t (goal.at.map_name-requires t c).In-Image)

pub returns-in_err-first-in-Image : goal.returns-in_err-first-in-Image
returns-in_err-first-in-Image t c =
    let p = goal.at.returns-in_err-first-in-Image t c in
    rw c.from_residual-in_err-first-in-Image.ensures
    (first-none (marked t p.After-find_mark-mark)
    (first-map (sym c.operation_at.ensures ∙ c.in-Image.is)
    (map_read c.args.f.now (c.find_mark-mark.result + 1) (omega (arith, image-inside t p.In-Image))
    c.in_err-first-in-Image.ensures)))

pub returns-in-Unknown : goal.returns-in-Unknown
returns-in-Unknown t c =
    unknown-read (marked t (goal.at.returns-in-Unknown t c).After-find_mark-mark)
    (sym c.operation_at.ensures ∙ c.in-Unknown.is)

pub returns-in-Operand : goal.returns-in-Operand
returns-in-Operand t c =
    operand_read (marked t (goal.at.returns-in-Operand t c).After-find_mark-mark)
    (sym c.operation_at.ensures ∙ c.in-Operand.is) c.operand.ensures

pub passed-requires : goal.passed-requires
passed-requires t c = (first-place (first-is t (goal.at.passed-requires t c).Joined-operation_at)).within

pub returns-in_err-left : goal.returns-in_err-left
returns-in_err-left t c =
    let p = goal.at.returns-in_err-left t c in
    rw c.from_residual-in_err-left.ensures
    (comma-none (marked t p.After-find_mark-mark) _ (first-is t p.Joined-operation_at) c.in_err-left.ensures)

pub formula-second-requires : goal.formula-second-requires
formula-second-requires t c =
    let p = goal.at.formula-second-requires t c in
    let at : length c.args.f.now - c.args.at ≡ t = c.decreases in
    let mark = c.find_mark-mark.ensures in
    let left =
    left_place (marked t p.After-find_mark-mark) _ _ (first-is t p.Joined-operation_at) c.in_ok-left.ensures in
    (omega arith, left.within)

pub paired-requires : goal.paired-requires
paired-requires t c =
    let p = goal.at.paired-requires t c in
    let left =
    left_place (marked t p.After-find_mark-mark) _ _ (first-is t p.Joined-operation_at) c.in_ok-left.ensures in (
      record { from = omega (arith, left.from); within = left.within; nested = left.nested },
      found-place depth operations _ _ _ _ c.formula-second.ensures,
    )

pub returns : goal.returns
returns t c =
    let p = goal.at.returns t c in
    rw c.paired.ensures
    (pair_read (marked t p.After-find_mark-mark) _ _ (first-is t p.Joined-operation_at) c.in_ok-left.ensures _
    (passed-either depth operations _ _ closing _ _ c.formula-second.ensures))
