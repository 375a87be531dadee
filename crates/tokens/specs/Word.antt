-- The word that a line begins with. Assumes nothing.
use Rattle.std.specs.Prelude.{ℕ, cond, List, [], ◌∷◌}
use Rattle.tokens.specs.declared.word.Word.{Word}
use Rattle.tokens.specs.declared.word.Word.TheVariants.{Set, Xor, Mul, App, Let, Rand, Shares, Map, Input}
use Rattle.tokens.specs.declared.word.Word.TheVariants.{Origin, Result, Masked, Output, Unknown}
use Rattle.tokens.specs.Ascii.{ascii, same_bytes}

-- what stands beside the first spelling that has the bytes of w, or `other` where none has
unfoldable pub spelt : {A : Type 0} → A → List ℕ → List (List ℕ × A) → A
spelt other w [] = other
spelt other w (p ∷ ps) = let rest = spelt other w ps in cond (same_bytes w p.0) p.1 rest

-- the words of records, each beside its spelling
unfoldable pub words : List (List ℕ × Word)
words =
    (ascii "xor", Xor) ∷ (ascii "mul", Mul) ∷ (ascii "set", Set) ∷ (ascii "let", Let) ∷ (ascii "app", App)
    ∷ (ascii "rand", Rand) ∷ (ascii "shares", Shares) ∷ (ascii "map", Map) ∷ (ascii "input", Input)
    ∷ (ascii "origin", Origin) ∷ (ascii "result", Result) ∷ (ascii "masked", Masked) ∷ (ascii "output", Output) ∷ []

-- the word that the bytes spell
unfoldable pub word_of : List ℕ → Word
word_of w = spelt Unknown w words
