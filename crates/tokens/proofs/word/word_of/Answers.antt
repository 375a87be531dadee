-- The first of the spellings that the code's list has, in their order, says which word it is. Assumes nothing.
use Rattle.std.proofs.Common.{rules, tests, ◌≡◌, refl, ap, sym, ◌∙◌, List, ℕ}
use mathlib.Core.List.{map}
use lib.Dec.{eqb}
use Rattle.std.proofs.lemmas.Iterator.{YieldsList-from_slice}
use Rattle.std.proofs.lemmas.Iterator.Search.{find_from_yields_List}
use Rattle.std.specs.Slice.Iter.{iter_rest}
use Rattle.std.specs.Borrow.{Bor}
use Rattle.std.specs.Cmp.Lexicographic.{pointwise}
use Rattle.std.specs.Option.{option_map}
use Rattle.std.specs.Prelude.{Option}
use Rattle.tokens.proofs.Laws.Word.{word_at, found-spelt}
use Rattle.tokens.specs.Ascii.{ascii}
use Rattle.tokens.specs.Word.{words, word_of, spelt}
use Rattle.tokens.specs.declared.word.Word.{Word}
use Rattle.tokens.specs.declared.word.Word.TheVariants.{Unknown}
use Rattle.tokens.proofs.word.word_of.Goals as goal
use Rattle.tokens.proofs.word.word_of.Goals.{After-find}

-- what was found among the spellings is the word
told : (c : After-find) → word_at (option_map (λ x. x.now) c.find.result) ≡ word_of c.args.f.now
unfolding word_of words ascii
told c =
    let f = c.args.f.now in
    let ws : List (Bor (List ℕ) × Word) = iter_rest c.iter.result in
    let found =
    find_from_yields_List (λ p. pointwise eqb f p.0.now) _ _ c.find.result c.find.ensures.ran
    (YieldsList-from_slice ws refl) (λ x b q k. search (rules, tests)) in
    found-spelt f ws found
    ∙ ap (λ (ps : List (Bor (List ℕ) × Word)). spelt Unknown f (map (λ p. (p.0.now, p.1)) ps)) c.iter.ensures.rest

pub returns-in-Some : goal.returns-in-Some
returns-in-Some c =
    ap (λ (r : Option (Bor (Bor (List ℕ) × Word))). word_at (option_map (λ x. x.now) r)) (sym c.in-Some.is)
    ∙ told (goal.at.returns-in-Some c).After-find

pub returns-in-None : goal.returns-in-None
returns-in-None c =
    ap (λ (r : Option (Bor (Bor (List ℕ) × Word))). word_at (option_map (λ x. x.now) r)) (sym c.in-None.is)
    ∙ told (goal.at.returns-in-None c).After-find
