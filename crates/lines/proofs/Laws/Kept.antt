-- What the loop holds behind a map or an input stands for what the definition says. Assumes nothing.
use Prim.Native.Nat.{ℕ, ◌+◌, ◌≤◌, ◌<◌}
use native.Mathlib.Omega.{arith}
use mathlib.Core.Path.{◌≡◌, refl, ◌∙◌, ap}
use mathlib.Core.List.{List, [], ◌∷◌, ◌++◌}
use lib.ListN.{length}
use Rattle.grammar.specs.declared.line.NameRef.{NameRef}
use Rattle.tokens.specs.Token.{Name}
use Rattle.grammar.specs.Line.{name_in}
use Rattle.rules.specs.declared.types.AffineMap.{AffineMap}
use Rattle.lines.specs.declared.known.Known.{Known}
use Rattle.lines.specs.declared.step.Put.TheVariants.{Nothing, Map, Input, Stated, Let}
use Rattle.lines.specs.declared.step.Put.{Put}
use Rattle.rules.specs.Grown.{with_map, with_input}
use Rattle.rules.specs.Scope.{share_names}
use Rattle.rules.specs.Limits.{most_maps, most_entries, origin_from, masked_from}
use Rattle.lookup.specs.Names.{listed, names_in, put}
use Rattle.lines.specs.Known.{Kept, state_in, Sound, Sized}
use Rattle.lines.specs.Added.{InputFits, input_added}
use Rattle.lines.specs.Stored.{table_after, after}
use Rattle.lookup.proofs.Laws.Arrays.{front-more}
use Rattle.lines.proofs.Laws.States.{state-same}
use Rattle.lines.proofs.Laws.Lets.{let_size}
use Rattle.lookup.proofs.Laws.Named.{put-length, listed-apart, listed_next}
use Rattle.lookup.proofs.Laws.Shares.{shares-length, shares-apart, listed-shares}

-- the table keeps its size
pub table-length : (t : List NameRef) (k : Known) (p : Put) → length (table_after t k p) ≡ length t
table-length t k Nothing = refl
table-length t k (Map x f) = put-length t k.mapped x
table-length t k (Input x) =
    shares-length (put t (origin_from + k.wholes) x) (masked_from + k.parts) x k.shares
    ∙ put-length t (origin_from + k.wholes) x
table-length t k (Stated x st) = put-length t _ x
table-length t k (Let x f) = let_size t _ x f.count

module _ (s : List ℕ) (h : Kept) (K : Sound h.known) (Z : Sized h) (x : NameRef) where
  -- one map more, with its name
  pub map-means : (f : AffineMap) (j : Known) → h.known.mapped < most_maps
      → j ≡ record {
        stage = h.known.stage;
        shares = h.known.shares;
        mapped = h.known.mapped + 1;
        inputs = h.known.inputs;
        variables = h.known.variables;
        origin = h.known.origin;
        masked = h.known.masked;
        wholes = h.known.wholes;
        parts = h.known.parts;
        result = h.known.result;
        outputs = h.known.outputs;
        named = h.known.named;
      }
      → state_in s (after s h j (Map x f))
      ≡ with_map (name_in s x) f (state_in s h)
  unfolding state_in after with_map names_in
  map-means f j few e =
      let k = h.known in
      let t = h.names in
      let m = k.mapped in
      let at : m ≡ 0 + m = omega arith in
      let names : listed s (put t m x) 0 (m + 1) ≡ listed s t 0 m ++ name_in s x ∷ [] =
      (λ i. listed s (put t (at i) x) 0 (m + 1)) ∙ listed_next s t x 0 m (omega arith) Z.names in
      let origin = listed-apart t m x s origin_from k.wholes (λ i a b q. omega arith) in
      let masked = listed-apart t m x s masked_from k.parts (λ i a b q. omega arith) in
      let room : m < length h.arrays.maps = omega (arith, Z.maps) in
      let maps = front-more h.arrays.maps f m room in
      ap (λ (q : Known). state_in s (after s h q (Map x f))) e
      ∙ state-same k k.inputs k.variables names maps origin refl masked refl

  -- one input more, with its shares
  pub input-means : InputFits h.known
      → state_in s (after s h (input_added h.known) (Input x))
      ≡ with_input (name_in s x) (share_names (name_in s x) 0 h.known.shares) (state_in s h)
  unfolding state_in after with_input names_in
  input-means f =
      let k = h.known in
      let t = h.names in
      let o = k.wholes in
      let few : o < 272 = omega (arith, K.wholes, K.statements, f.0) in
      let all : k.parts + k.shares ≤ 272 = omega (arith, K.parts, K.statements, f.1) in
      let one = put t (origin_from + o) x in
      let size : length one ≡ most_entries = put-length t (origin_from + o) x ∙ Z.names in
      let maps =
      shares-apart one (masked_from + k.parts) x s 0 k.mapped k.shares
      (λ i a b c d. omega (arith, K.mapped, b, c))
      ∙ listed-apart t (origin_from + o) x s 0 k.mapped (λ i a b q. omega (arith, K.mapped, b, q)) in
      let origin =
      shares-apart one (masked_from + k.parts) x s origin_from (o + 1) k.shares
      (λ i a b c d. omega (arith, few, b, c))
      ∙ listed_next s t x origin_from o (omega (arith, few)) Z.names in
      let masked =
      listed-shares s one x masked_from k.parts k.shares (omega (arith, all)) size
      ∙ ap (λ (ns : List Name). ns ++ share_names (name_in s x) 0 k.shares)
      (listed-apart t (origin_from + o) x s masked_from k.parts (λ i a b q. omega (arith, few, a, q))) in
      state-same k (k.inputs + 1) (k.variables + k.shares) maps refl origin refl masked refl
