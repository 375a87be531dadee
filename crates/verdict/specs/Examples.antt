-- The starred examples ("Examples") and those of M-102: each text, and the line that is printed for it.
-- Assumes nothing.
use Prim.Native.String.{String, ◌++◌}
use Rattle.std.specs.Prelude.{List, [], ◌∷◌}

-- a text, and its line
abbrev pub Example : Type 0
Example = String × String

-- the first seven lines of E1, E2 and E11
abbrev refresh : String
refresh = "shares\t2\ninput\tx\norigin\nresult\tx\nmasked\nrand\tr\nxor\ty.0\tx.0\tr\n"

-- E1: two shares, refreshed by one rand
abbrev e1 : Example
e1 = (refresh ++ "xor\ty.1\tx.1\tr\noutput\ty.0\ty.1\n", "equal\t0\t0\t0\t0\t0\n")

-- E2: line 8 is set y.1 x.1
abbrev e2 : Example
e2 = (refresh ++ "set\ty.1\tx.1\noutput\ty.0\ty.1\n", "differs\t0\t0\t1\t4\t0\t00\t00\t01\n")

-- the FIPS 197 map, and the lines up to the masked block
abbrev fips : String
fips = "map\taff\t63\t1f\t3e\t7c\tf8\tf1\te3\tc7\t8f\ninput\tx\norigin\napp\ty\taff\tx\nresult\ty\nmasked\n"

-- E3: the map on each of 2 shares, uncorrected
abbrev e3 : Example
e3 = (
  "shares\t2\n" ++ fips ++ "app\ty.0\taff\tx.0\napp\ty.1\taff\tx.1\noutput\ty.0\ty.1\n",
  "differs\t0\t0\t1\t2\t0\t00\t00\n",
)

-- E4: the map on each of 3 shares
abbrev e4 : Example
e4 = (
  "shares\t3\n" ++ fips ++ "app\ty.0\taff\tx.0\napp\ty.1\taff\tx.1\napp\ty.2\taff\tx.2\noutput\ty.0\ty.1\ty.2\n",
  "equal\t0\t0\t0\t0\t0\n",
)

-- E5: one share, x^256 by eight squarings against x
abbrev e5 : Example
e5 = (
  "shares\t1\ninput\tx\norigin\nresult\tx\nmasked\nmul\ta\tx.0\tx.0\nmul\tb\ta\ta\nmul\tc\tb\tb\nmul\td\tc\tc\n"
      ++ "mul\te\td\td\nmul\tf\te\te\nmul\tg\tf\tf\nmul\th\tg\tg\noutput\th\n",
  "equal\t0\t0\t0\t0\t0\n",
)

-- E6: one share, x^255 against #01; by the powers 2 3, 6 7, 14 15 and on
abbrev e6 : Example
e6 = (
  "shares\t1\ninput\tx\norigin\nset\tc\t#01\nresult\tc\nmasked\nmul\ta\tx.0\tx.0\nmul\tb\ta\tx.0\nmul\tc\tb\tb\n"
      ++ "mul\td\tc\tx.0\nmul\te\td\td\nmul\tf\te\tx.0\nmul\tg\tf\tf\nmul\th\tg\tx.0\nmul\ti\th\th\nmul\tj\ti\tx.0\n"
      ++ "mul\tk\tj\tj\nmul\tl\tk\tx.0\nmul\tm\tl\tl\nmul\tn\tm\tx.0\noutput\tn\n",
  "differs\t0\t0\t2\t1\t1\t00\n",
)

-- the lines of E8 up to the masked block
abbrev five : String
five = "shares\t1\norigin\nset\ta\t#05\nresult\ta\nmasked\n"

-- E8: no inputs, #05 against #05
abbrev e8 : Example
e8 = (five ++ "set\ta\t#05\noutput\ta\n", "equal\t0\t0\t0\t0\t0\n")

-- E8: #05 against #06
abbrev e8-other : Example
e8-other = (five ++ "set\ta\t#06\noutput\ta\n", "differs\t0\t0\t1\t0\t0\n")

-- E10: the empty text
abbrev e10 : Example
e10 = ("", "refused\t6\t1\t0\t0\t0\n")

-- E11: output naming y.0 twice
abbrev e11 : Example
e11 = (refresh ++ "xor\ty.1\tx.1\tr\noutput\ty.0\ty.0\n", "refused\t7\t9\t0\t0\t0\n")

-- E13: inputs a and b, of which the original reads a alone
abbrev e13 : Example
e13 = (
  "shares\t1\ninput\ta\ninput\tb\norigin\nmul\tc\ta\t#02\nresult\tc\nmasked\nmul\td\ta.0\t#02\noutput\td\n",
  "equal\t0\t0\t0\t0\t1\n",
)

-- M-102: a, the only input, cancels in the original
abbrev cancelled : Example
cancelled = (
  "shares\t1\ninput\ta\norigin\nxor\tc\ta\ta\nresult\tc\nmasked\nxor\td\ta.0\ta.0\noutput\td\n",
  "equal\t0\t0\t0\t0\t1\n",
)

-- M-102: the second input multiplied by #00 in both blocks
abbrev multiplied : Example
multiplied = (
  "shares\t2\ninput\ta\ninput\tb\norigin\nmul\tc\tb\t#00\nxor\td\ta\tc\nresult\td\nmasked\n"
      ++ "mul\tc.0\tb.0\t#00\nmul\tc.1\tb.1\t#00\nxor\td.0\ta.0\tc.0\nxor\td.1\ta.1\tc.1\noutput\td.0\td.1\n",
  "equal\t0\t0\t0\t0\t1\n",
)

-- E1 to E6, both of E8, E10, E11, E13 and both of M-102
abbrev pub examples : List Example
examples =
    e1 ∷ e2 ∷ e3 ∷ e4 ∷ e5 ∷ e6 ∷ e8 ∷ e8-other ∷ e10 ∷ e11 ∷ e13 ∷ cancelled ∷ multiplied ∷ []
