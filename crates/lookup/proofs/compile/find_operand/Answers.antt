-- The operand, at its place in the text. Assumes nothing.
use Rattle.lookup.proofs.Laws.Looking.{term-looked}
use Rattle.lookup.specs.Compiled.{set_in, looked}
use Rattle.lookup.specs.Found.{term_found}
use Rattle.lookup.specs.declared.compile.Compiled.{Compiled}
use Rattle.tokens.specs.Token.{◌>>=◌, Term, read_term}
use Rattle.std.proofs.Common.{rules}
use Rattle.std.specs.Prelude.{Option, Some, None}
use mathlib.Core.Path.{◌≡◌, ap, ◌∙◌}
use Rattle.lookup.proofs.compile.find_operand.Goals as goal
use Rattle.lookup.proofs.compile.find_operand.Goals.{Start}

-- the outcome, by the operand that was read
abbrev told : (c : Start) → Option Term → Option Compiled
told c o =
    let a = c.args in
    o >>= λ x. Some (looked a.mark (term_found (set_in a.w) x) a.done)

pub returns-in_err-a : goal.returns-in_err-a
returns-in_err-a c =
    let a = c.args in
    let q : c.from_residual.result ≡ None = search rules in
    q ∙ ap (told (goal.at.returns-in_err-a c).Start) (c.in_err-a.ensures
    ∙ ap read_term (term-looked a.w a.at a.mark c.requires.0 c.requires.1 c.requires.2))

pub returns : goal.returns
returns c =
    let a = c.args in
    (λ i. Some (c.made.ensures i)) ∙ (λ i. Some (looked a.mark (c.find_term-x.ensures i) a.done))
    ∙ ap (told (goal.at.returns c).Start) (c.in_ok-a.ensures
    ∙ ap read_term (term-looked a.w a.at a.mark c.requires.0 c.requires.1 c.requires.2))
