use Rattle.std.proofs.Common.{◌≡◌, count_by, not, nat_eq, length, sym, ◌∙◌, arith, rules}
use Rattle.std.proofs.lemmas.List.Sums.{count_by-le-length}
use Rattle.values.proofs.Laws.Sizes.{nonzeros-count}
use Rattle.values.proofs.raw.count_nonzero.Goals as goal

pub returns : goal.returns
returns c =
    let list = c.args.list in
    let e : c.count.result ≡ count_by (λ c. not (nat_eq c 0)) list = search rules in
    let l8 : length list ≡ 8 = search rules in
    (e ∙ sym (nonzeros-count list), omega (arith, count_by-le-length (λ c. not (nat_eq c 0)) list))
