-- What an accepted record adds to what the lines above it have given. Assumes nothing.
use Rattle.std.specs.Prelude.{ℕ, cond, List, map as map_list, eqb, length}
use Rattle.rules.specs.declared.types.Op.{Op}
use Rattle.rules.specs.declared.types.Statement.{Statement}
use Rattle.grammar.specs.Record.{Record, shares, map, input, origin, assign, letting, result, masked, output}
use Rattle.rules.specs.Order.{in_masked}
use Rattle.rules.specs.State.{State}
use Rattle.rules.specs.Grown.{with_shares, with_map, with_input, with_result, with_outputs}
use Rattle.rules.specs.Stated.{with_origin, with_masked, with_origin_all, with_masked_all}
use Rattle.rules.specs.Scope.{place_of, drawn, op_in, let_ops, share_names}
use Rattle.rules.specs.Faults.{block}

-- the statements of operations, all with line n
abbrev pub at_line : ℕ → List Op → List Statement
at_line n os = map_list (λ op. record { op = op; line = n }) os

-- what a record adds, apart from the stage; n is its line
unfoldable pub added : ℕ → Record → State → State
added n (shares k) s = with_shares k s
added n (map x c columns) s = with_map x (record { constant = c; columns = columns }) s
added n (input x) s = with_input x (share_names x 0 s.shares) s
added n origin s = s
added n (assign x f) s =
    let st : Statement = record { op = op_in (block s).names s.map_names s.variables f; line = n } in
    cond (eqb s.stage in_masked) (with_masked (drawn f) x st s) (with_origin x st s)
added n (letting x f) s =
    let b = block s in
    let sts = at_line n (let_ops b.names s.map_names (length b.names) f) in
    cond (eqb s.stage in_masked) (with_masked_all x sts s) (with_origin_all x sts s)
added n (result x) s = with_result (place_of x s.origin.names) s
added n masked s = s
added n (output xs) s = with_outputs (map_list (λ x. place_of x s.masked.names) xs) s
