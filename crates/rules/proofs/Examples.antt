-- The scope document's starred examples that fix what reading answers, and formulas on one line: one table, and one
-- proof that the definition gives it.
use Prim.Native.Nat.{ℕ, zero, suc}
use Prim.Native.String.{String, ◌++◌}
use mathlib.Core.Path.{◌≡◌, refl}
use mathlib.Core.List.{List, [], ◌∷◌, map}
use lib.ListN.{replicate}
use Rattle.rules.specs.declared.types.Operand.TheVariants.{Place, Byte}
use Rattle.rules.specs.declared.types.Op.TheVariants.{Set, Xor, Mul, App, Rand}
use Rattle.tokens.specs.Ascii.{ascii}
use Rattle.rules.specs.Open.{text_open}
use Rattle.rules.specs.Read.{Reading, refused, accepted}
use Rattle.rules.specs.Read.{read_text}

-- A text, and what reading it gives.
abbrev Example : Type 0
Example = String × Reading

-- E1: two shares, refreshed by one rand
abbrev e1 : Example
e1 = (
  "shares\t2\ninput\tx\norigin\nresult\tx\nmasked\nrand\tr\nxor\ty.0\tx.0\tr\nxor\ty.1\tx.1\tr\noutput\ty.0\ty.1\n",
  accepted (record {
    shares = 2;
    maps = [];
    inputs = 1;
    variables = 3;
    origin = [];
    result = 0;
    masked =
        record { op = Rand 2; line = 6 }
        ∷ record { op = Xor (Place 0) (Place 2); line = 7 }
        ∷ record { op = Xor (Place 1) (Place 2); line = 8 }
        ∷ [];
    outputs = 3 ∷ 4 ∷ [];
    output_line = 9;
  }),
)

-- E2: E1 with line 8 changed
abbrev e2 : Example
e2 = (
  "shares\t2\ninput\tx\norigin\nresult\tx\nmasked\nrand\tr\nxor\ty.0\tx.0\tr\nset\ty.1\tx.1\noutput\ty.0\ty.1\n",
  accepted (record {
    shares = 2;
    maps = [];
    inputs = 1;
    variables = 3;
    origin = [];
    result = 0;
    masked =
        record { op = Rand 2; line = 6 }
        ∷ record { op = Xor (Place 0) (Place 2); line = 7 }
        ∷ record { op = Set (Place 1); line = 8 }
        ∷ [];
    outputs = 3 ∷ 4 ∷ [];
    output_line = 9;
  }),
)

-- E3: the FIPS 197 map on each of two shares
abbrev e3 : Example
e3 = (
  "shares\t2\nmap\taff\t63\t1f\t3e\t7c\tf8\tf1\te3\tc7\t8f\ninput\tx\norigin\napp\ty\taff\tx\nresult\ty\nmasked\n"
      ++ "app\ty.0\taff\tx.0\napp\ty.1\taff\tx.1\noutput\ty.0\ty.1\n",
  accepted (record {
    shares = 2;
    maps = record { constant = 0x63; columns = 0x1f ∷ 0x3e ∷ 0x7c ∷ 0xf8 ∷ 0xf1 ∷ 0xe3 ∷ 0xc7 ∷ 0x8f ∷ [] } ∷ [];
    inputs = 1;
    variables = 2;
    origin = record { op = App 0 (Place 0); line = 5 } ∷ [];
    result = 1;
    masked = record { op = App 0 (Place 0); line = 8 } ∷ record { op = App 0 (Place 1); line = 9 } ∷ [];
    outputs = 2 ∷ 3 ∷ [];
    output_line = 10;
  }),
)

-- E10: the empty text
abbrev e10 : Example
e10 = ("", refused 6 1)

-- E11: E1 with y.0 twice on its last line
abbrev e11 : Example
e11 = (
  "shares\t2\ninput\tx\norigin\nresult\tx\nmasked\nrand\tr\nxor\ty.0\tx.0\tr\nxor\ty.1\tx.1\tr\noutput\ty.0\ty.0\n",
  refused 7 9,
)

-- E13: the second input is idle
abbrev e13 : Example
e13 = (
  "shares\t1\ninput\ta\ninput\tb\norigin\nmul\tc\ta\t#02\nresult\tc\nmasked\nmul\td\ta.0\t#02\noutput\td\n",
  accepted (record {
    shares = 1;
    maps = [];
    inputs = 2;
    variables = 2;
    origin = record { op = Mul (Place 0) (Byte 2); line = 5 } ∷ [];
    result = 2;
    masked = record { op = Mul (Place 0) (Byte 2); line = 8 } ∷ [];
    outputs = 2 ∷ [];
    output_line = 9;
  }),
)

-- `let` with an operand alone: a `set`
abbrev let_alone : Example
let_alone = (
  "shares\t1\ninput\tx\norigin\nlet\ty\tx\nresult\ty\nmasked\nlet\tz\t#05\noutput\tz\n",
  accepted (record {
    shares = 1;
    maps = [];
    inputs = 1;
    variables = 1;
    origin = record { op = Set (Place 0); line = 4 } ∷ [];
    result = 1;
    masked = record { op = Set (Byte 5); line = 7 } ∷ [];
    outputs = 1 ∷ [];
    output_line = 8;
  }),
)

-- `let` with formulas that nest: left part first, inner before outer, the outermost giving the name
abbrev let_nested : Example
let_nested = (
  "shares\t1\nmap\tsq\t00\t01\t04\t10\t40\t1b\t6c\tab\t9a\ninput\tx\norigin\nlet\ty\txor(mul(x,#02),app(sq,x))\n"
      ++ "result\ty\nmasked\nlet\tz\tapp(sq,mul(x.0,xor(x.0,#01)))\noutput\tz\n",
  accepted (record {
    shares = 1;
    maps = record { constant = 0x00; columns = 0x01 ∷ 0x04 ∷ 0x10 ∷ 0x40 ∷ 0x1b ∷ 0x6c ∷ 0xab ∷ 0x9a ∷ [] } ∷ [];
    inputs = 1;
    variables = 1;
    origin =
        record { op = Mul (Place 0) (Byte 2); line = 5 }
        ∷ record { op = App 0 (Place 0); line = 5 }
        ∷ record { op = Xor (Place 1) (Place 2); line = 5 }
        ∷ [];
    result = 3;
    masked =
        record { op = Xor (Place 0) (Byte 1); line = 8 }
        ∷ record { op = Mul (Place 0) (Place 1); line = 8 }
        ∷ record { op = App 0 (Place 2); line = 8 }
        ∷ [];
    outputs = 3 ∷ [];
    output_line = 9;
  }),
)

-- a formula that nests d deep, with d operations
abbrev chain : ℕ → String
chain zero = "x"
chain (suc d) = "mul(x," ++ chain d ++ ")"

-- a formula that nests d deep, with all the operations that it can have
abbrev full : ℕ → String
full zero = "x"
full (suc d) = "xor(" ++ full d ++ "," ++ full d ++ ")"

-- Further refusals, one or more for each number; those of `let` last.
abbrev refusals : List Example
refusals =
    ("shares\t2\ninput\tX\n", refused 3 2)
    ∷ ("shares\t2\r\n", refused 3 1)
    ∷ ("shares\t2", refused 4 1)
    ∷ ("shares\t2X", refused 3 1)
    ∷ ("shares\t2\n\n", refused 5 2)
    ∷ ("\n", refused 5 1)
    ∷ ("shares\t9\n", refused 5 1)
    ∷ ("shares\t0\n", refused 5 1)
    ∷ ("shares\t2\t\n", refused 5 1)
    ∷ ("shares\t2\nshare\n", refused 5 2)
    ∷ ("shares\t2\nmap\tf\t63\t1f\t3e\t7c\tf8\tf1\te3\tc7\n", refused 5 2)
    ∷ ("shares\t2\ninput\tx.0\n", refused 5 2)
    ∷ ("shares\t2\ninput\tabcdefghijklm\n", refused 5 2)
    ∷ ("shares\t2\n", refused 6 2)
    ∷ ("origin\n", refused 6 1)
    ∷ ("shares\t2\nshares\t2\n", refused 6 2)
    ∷ ("shares\t2\norigin\nrand\tr\n", refused 6 3)
    ∷ ("shares\t1\ninput\tx\norigin\nresult\tx\nresult\tx\n", refused 6 5)
    ∷ ("shares\t1\ninput\tx\norigin\nresult\tx\nmasked\nmasked\n", refused 6 6)
    ∷ ("shares\t1\norigin\nset\ta\t#05\nresult\ta\nmasked\nset\ta\t#05\noutput\ta\norigin\n", refused 6 8)
    ∷ ("shares\t1\norigin\nset\ta\t#05\nresult\ta\nmasked\nset\ta\t#05\noutput\ta\nB\n", refused 3 8)
    ∷ ("shares\t1\ninput\tx\ninput\tx\n", refused 7 3)
    ∷ ("shares\t1\ninput\tx\norigin\nset\tx\ty\n", refused 7 4)
    ∷ ("shares\t1\ninput\tx\norigin\nset\ty\ty\n", refused 8 4)
    ∷ ("shares\t1\ninput\tx\norigin\napp\ty\tf\tx\n", refused 8 4)
    ∷ ("shares\t1\ninput\tx\norigin\nset\ty\tx\nresult\ty\nmasked\nset\tz\ty\n", refused 8 7)
    ∷ ("shares\t1\ninput\tx\norigin\nresult\tx.0\n", refused 8 4)
    ∷ ("shares\t1\ninput\tx\norigin\nresult\tx\nmasked\noutput\tx\n", refused 8 6)
    ∷ ("shares\t8\ninput\ta\ninput\tb\ninput\tc\n", refused 9 4)
    ∷ ("shares\t1\ninput\ta\ninput\tb\ninput\tc\ninput\td\ninput\te\n", refused 9 6)
    ∷ ("shares\t2\norigin\nset\ta\t#05\nresult\ta\nmasked\nset\ta\t#05\noutput\ta\n", refused 10 7)
    ∷ ("shares\t1\ninput\tx\norigin\nlet\ty\t" ++ chain 8 ++ "\n", refused 6 5)
    ∷ ("shares\t1\ninput\tx\norigin\nlet\ty\t" ++ chain 9 ++ "\n", refused 13 4)
    ∷ ("shares\t1\ninput\tx\norigin\nlet\ty\t" ++ chain 9 ++ ")\n", refused 5 4)
    ∷ ("shares\t1\nlet\ty\t" ++ chain 8 ++ "\n", refused 6 2)
    ∷ ("shares\t1\nlet\ty\t" ++ chain 9 ++ "\n", refused 13 2)
    ∷ ("shares\t1\ninput\tx\norigin\nlet\tx\txor(x,x)\n", refused 7 4)
    ∷ ("shares\t1\ninput\tx\norigin\nlet\ty\txor(x,mul(x,z))\n", refused 8 4)
    ∷ ("shares\t1\ninput\tx\norigin\nlet\ty\tapp(f,x)\n", refused 8 4)
    ∷ ("shares\t1\ninput\tx\norigin\nlet\ty\txor(x,y)\n", refused 8 4)
    ∷ ("shares\t1\ninput\tx\norigin\nlet\ty\t" ++ full 8 ++ "\nlet\tz\txor(x,x)\n", refused 6 6)
    ∷ ("shares\t1\ninput\tx\norigin\nlet\ty\t" ++ full 8 ++ "\nlet\tz\txor(x,mul(x,x))\n", refused 9 5)
    ∷ []

abbrev table : List Example
table = e1 ∷ e2 ∷ e3 ∷ e10 ∷ e11 ∷ e13 ∷ let_alone ∷ let_nested ∷ refusals

-- Reading each text of the table gives the answer beside it.
pub read_as-stated : map (λ e. read_text (ascii e.0)) table ≡ map (λ e. e.1) table
unfolding text_open
read_as-stated = refl

-- Refusal 2: a text of 16,385 bytes, whatever they are; one of 16,384 is read, and lacks its line feed.
pub too_long : read_text (replicate 16385 97) ≡ refused 2 0
unfolding text_open
too_long = refl

-- a text of 16,384 bytes is read
pub longest : read_text (replicate 16384 97) ≡ refused 4 1
unfolding text_open
longest = refl
