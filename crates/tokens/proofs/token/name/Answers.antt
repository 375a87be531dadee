-- Where the bytes before the dot are right, the form of what stands behind them decides. Assumes nothing.
use Rattle.std.proofs.Common.{ℕ, List, ◌≡◌, ◌≤◌, ◌∙◌, sym, true, arith, length, get_or}
use Rattle.std.specs.Prelude.{Option, Some, None, option_map}
use borrow.Author.Tests.{le-leb}
use lib.Seq.{length-take-le}
use Rattle.tokens.proofs.Laws.Run.{run_le}
use Rattle.tokens.specs.Answer.{name_read}
use Rattle.tokens.specs.Ascii.{is_letter}
use Rattle.tokens.specs.Token.{name_run, read_part, read_name}
use Rattle.tokens.proofs.token.name.Goals as goal

module _ (s : List ℕ) (n : ℕ) (e : n ≡ name_run s) where
  -- o is what stands behind the name's bytes
  right : 1 ≤ n → n ≤ 12 → is_letter (get_or s 0 0) ≡ true → (o : Option ℕ) → o ≡ read_part n s
      → option_map (λ p. record { letters = n; part = p }) o ≡ name_read (read_name s)
  unfolding read_name
  right a b l None q = simp (← e, le-leb 1 n a, le-leb n 12 b, l, ← q)
  right a b l (Some p) q =
      let h : n ≤ length s = omega (arith, run_le s) in
      simp (← e, le-leb 1 n a, le-leb n 12 b, l, ← q, length-take-le n s h)

pub returns-in_err-part : goal.returns-in_err-part
returns-in_err-part c =
    c.from_residual.ensures
    ∙ right c.args.f.now _ c.name_run-letters.ensures (omega arith) (omega arith)
    (sym c.is_letter.ensures ∙ c.if-not-is_letter.false) None c.in_err-part.ensures

pub returns : goal.returns
returns c = right c.args.f.now _ c.name_run-letters.ensures (omega arith) (omega arith)
    (sym c.is_letter.ensures ∙ c.if-not-is_letter.false) (Some c.in_ok-part.part) c.in_ok-part.ensures
