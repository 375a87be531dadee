use Prim.Native.Nat.{ℕ, ◌+◌, ◌<◌}
use Rattle.grammar.proofs.Laws.Each.{onto, onto-none, each-pass, each_fail, each-done}
use Rattle.grammar.proofs.Laws.Each.{counted-right, counted_wrong}
use Rattle.tokens.proofs.Laws.Flags.{and-true}
use Rattle.grammar.specs.Line.{name_in}
use Rattle.grammar.specs.TextLine.{pieces_of}
use Rattle.grammar.specs.Record.{each, may_have}
use Rattle.grammar.specs.Recorded.{names_of, names_read, outputs_in}
use Rattle.tokens.specs.Token.{Name, read_name}
use Rattle.tokens.specs.declared.word.Word.TheVariants as Word
use Rattle.std.specs.Prelude.{Some as some}
use borrow.Author.Tests.{leb-true}
use lib.Dec.{leb}
use lib.ListN.{length, take, drop, set, length-set}
use lib.Seq.{take-suc-set}
use mathlib.Core.Bool.{true}
use mathlib.Core.List.{List, [], ◌∷◌, ◌++◌, map, map-append}
use mathlib.Core.Path.{◌≡◌, refl, sym, ap, ◌∙◌}
use native.Mathlib.Numerals.{add-one}
use native.Mathlib.Omega.{arith}
use Rattle.grammar.proofs.lists.read_outputs.Goals as goal
use Rattle.grammar.proofs.lists.read_outputs.Goals.{After-may_have}

-- whether the line has a number of fields that an output may have
told : (d : After-may_have)
    → (let a = d.args in
    d.may_have.result ≡ may_have Word.Output (length (pieces_of a.l)))
told d = d.may_have.ensures ∙ ap (may_have Word.Output) d.piece_count-n.ensures

pub returns-then-not-may_have : goal.returns-then-not-may_have
unfolding names_of
returns-then-not-may_have c =
    let ps = pieces_of c.args.l in
    counted_wrong Word.Output ps (each read_name (drop 1 ps))
    (sym (told (goal.at.returns-then-not-may_have c).After-may_have) ∙ c.if-not-may_have.true)

pub loop-j-init : goal.loop-j-init
unfolding names_of
loop-j-init c =
    let ps = pieces_of c.args.l in
    let size = c.piece_count-n.ensures in
    let o = each read_name (drop 1 ps) in
    let fits : may_have Word.Output (length ps) ≡ true =
    sym (told (goal.at.loop-j-init c).After-may_have) ∙ c.if-not-may_have.false in
    let ends = and-true (leb 2 (length ps)) (leb (length ps) 9) fits in
    let low = leb-true 2 (length ps) ends.0 in
    let high = leb-true (length ps) 9 ends.1 in
    (refl, omega arith, omega arith, counted-right Word.Output ps o fits ∙ onto-none o)

pub returns-in_err-items : goal.returns-in_err-items
returns-in_err-items c =
    let t = c.args.l.text.now in
    let j = c.loop-j.j in
    ap (outputs_in t) c.from_residual.ensures
    ∙ each_fail read_name (pieces_of c.args.l) (1 + j) (map (name_in t) (take j c.loop-j.items)) c.loop-j.invariant.3
    (omega arith) (sym c.in_err-items.ensures)

pub loop-j-preserved : goal.loop-j-preserved
loop-j-preserved c =
    let t = c.args.l.text.now in
    let ps = pieces_of c.args.l in
    let j = c.loop-j.j in
    let x = c.in_ok-items.field-0 in
    let items = c.loop-j.items in
    let inside : j < length items = omega arith in
    let longer : take (j + 1) (set items j x) ≡ take j items ++ x ∷ [] = rw add-one (take-suc-set items j x inside) in
    let place : 1 + j + 1 ≡ 1 + (j + 1) = omega arith in (
      length-set items j x ∙ c.loop-j.invariant.0,
      c.loop-j.invariant.1,
      c.loop-j.invariant.2,
      each-pass read_name ps (1 + j) (map (name_in t) (take j items)) c.loop-j.invariant.3 (name_in t x) (omega arith)
          (sym c.in_ok-items.ensures)
          ∙ ap (λ (k : ℕ). onto (map (name_in t) (take j items) ++ name_in t x ∷ []) (each read_name (drop k ps))) place
          ∙ ap (λ (acc : List Name). onto acc (each read_name (drop (1 + (j + 1)) ps)))
          (sym (ap (map (name_in t)) longer ∙ map-append (name_in t) (take j items) (x ∷ []))),
    )

pub returns : goal.returns
unfolding names_read
returns c =
    let t = c.args.l.text.now in
    let j = c.loop-j.j in
    let items = c.loop-j.items in
    ap (λ (k : ℕ). some (map (name_in t) (take k items))) (omega arith)
    ∙ each-done read_name (pieces_of c.args.l) (1 + j) (map (name_in t) (take j items)) c.loop-j.invariant.3
    (omega arith)
