-- The place of each of the 23 registers in the image, in document 01's order.
use Rattle.std.specs.Prelude.{ℕ}

abbrev pub page : ℕ
page = 0

abbrev pub column : ℕ
column = 1

abbrev pub start_line : ℕ
start_line = 2

abbrev pub offset : ℕ
offset = 3

abbrev pub multiplex : ℕ
multiplex = 4

abbrev pub contrast : ℕ
contrast = 5

-- resistor ratio
abbrev pub ratio : ℕ
ratio = 6

-- power control
abbrev pub power : ℕ
power = 7

abbrev pub bias : ℕ
bias = 8

-- quarter bias
abbrev pub quarter : ℕ
quarter = 9

-- byte of A9
abbrev pub held : ℕ
held = 10

-- frame phases
abbrev pub phases : ℕ
phases = 11

-- 0 normal, 1 mirrored
abbrev pub column_direction : ℕ
column_direction = 12

-- 0 normal, 1 reversed
abbrev pub row_direction : ℕ
row_direction = 13

-- entire on
abbrev pub entire : ℕ
entire = 14

abbrev pub reverse : ℕ
reverse = 15

-- display on
abbrev pub on : ℕ
on = 16

-- indicator on
abbrev pub indicator : ℕ
indicator = 17

-- indicator mode
abbrev pub mode : ℕ
mode = 18

-- awaited code
abbrev pub awaited : ℕ
awaited = 19

-- read-modify-write
abbrev pub modify : ℕ
modify = 20

-- saved column
abbrev pub saved : ℕ
saved = 21

abbrev pub fresh : ℕ
fresh = 22
