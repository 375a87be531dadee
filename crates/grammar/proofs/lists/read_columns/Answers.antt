use Prim.Native.Nat.{ℕ, ◌+◌, ◌<◌}
use Rattle.grammar.proofs.Laws.Each.{onto, onto-none, each-pass, each_fail, each-done}
use Rattle.grammar.proofs.Laws.Each.{counted-right, counted_wrong}
use Rattle.grammar.specs.TextLine.{pieces_of}
use Rattle.grammar.specs.Record.{each, may_have}
use Rattle.grammar.specs.Recorded.{columns_of}
use Rattle.tokens.specs.Token.{read_hex}
use Rattle.tokens.specs.declared.word.Word.TheVariants as Word
use borrow.Author.Tests.{eqb-true}
use lib.ListN.{length, take, drop, set, length-set}
use lib.Seq.{take-suc-set, take_all}
use mathlib.Core.Bool.{true}
use mathlib.Core.List.{List, [], ◌∷◌, ◌++◌}
use Rattle.std.specs.Prelude.{Some as some}
use mathlib.Core.Path.{◌≡◌, refl, sym, ap, ◌∙◌}
use native.Mathlib.Numerals.{add-one}
use native.Mathlib.Omega.{arith}
use Rattle.grammar.proofs.lists.read_columns.Goals as goal

pub returns-then-not-fits_word : goal.returns-then-not-fits_word
unfolding columns_of
returns-then-not-fits_word c =
    let ps = pieces_of c.args.l in
    counted_wrong Word.Map ps (each read_hex (drop 3 ps)) (sym c.fits_word.ensures ∙ c.if-not-fits_word.true)

pub loop-j-init : goal.loop-j-init
unfolding columns_of
loop-j-init c =
    let ps = pieces_of c.args.l in
    let o = each read_hex (drop 3 ps) in
    let fits : may_have Word.Map (length ps) ≡ true = sym c.fits_word.ensures ∙ c.if-not-fits_word.false in
    (refl, eqb-true (length ps) 11 fits, counted-right Word.Map ps o fits ∙ onto-none o)

pub returns-in_err-bytes : goal.returns-in_err-bytes
returns-in_err-bytes c =
    let ps = pieces_of c.args.l in
    let j = c.loop-j.j in
    c.from_residual.ensures
    ∙ each_fail read_hex ps (3 + j) (take j c.loop-j.bytes) c.loop-j.invariant.2 (omega arith)
    (sym c.in_err-bytes.ensures)

pub loop-j-preserved : goal.loop-j-preserved
loop-j-preserved c =
    let ps = pieces_of c.args.l in
    let j = c.loop-j.j in
    let v = c.in_ok-bytes.field-0 in
    let bytes = c.loop-j.bytes in
    let inside : j < length bytes = omega arith in
    let longer : take (j + 1) (set bytes j v) ≡ take j bytes ++ v ∷ [] = rw add-one (take-suc-set bytes j v inside) in
    let place : 3 + j + 1 ≡ 3 + (j + 1) = omega arith in (
      length-set bytes j v ∙ c.loop-j.invariant.0,
      c.loop-j.invariant.1,
      each-pass read_hex ps (3 + j) (take j bytes) c.loop-j.invariant.2 v (omega arith) (sym c.in_ok-bytes.ensures)
          ∙ ap (λ (k : ℕ). onto (take j bytes ++ v ∷ []) (each read_hex (drop k ps))) place
          ∙ ap (λ (acc : List ℕ). onto acc (each read_hex (drop (3 + (j + 1)) ps))) (sym longer),
    )

pub returns : goal.returns
returns c =
    let ps = pieces_of c.args.l in
    let j = c.loop-j.j in
    ap some (sym (take_all j c.loop-j.bytes (omega arith)))
    ∙ each-done read_hex ps (3 + j) (take j c.loop-j.bytes) c.loop-j.invariant.2 (omega arith)
