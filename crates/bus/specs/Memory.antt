-- Document 01, "Display memory": where a byte lies, what of it is kept, and the column after it.
use Rattle.std.specs.Prelude.{ℕ, ◌+◌, ◌*◌, ◌%◌, cond, eqb}
use Rattle.constants.specs.Sizes.{width, last_column, icon_page}

-- Of pages w wide, page p, column c lies at w p + c.
abbrev pub address_in : ℕ → ℕ → ℕ → ℕ
address_in w page column = page * w + column

-- Page p, column c lies at 132 p + c.
abbrev pub address : ℕ → ℕ → ℕ
address = address_in width

-- Page 8 has bit 0 only.
unfoldable pub kept : ℕ → ℕ → ℕ
kept page byte = cond (eqb page icon_page) (byte % 2) byte

-- The column moved on: after 131 comes 0.
unfoldable pub onward : ℕ → ℕ
onward column = cond (eqb column last_column) 0 (column + 1)
