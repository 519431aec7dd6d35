-- Document 01, "Numbers given", and the refusals of document 02: each number by name.
use Rattle.std.specs.Prelude.{ℕ}

abbrev pub taken : ℕ
taken = 0

-- a lent state, memory or frame is too short
abbrev pub too_short : ℕ
too_short = 1

-- the state image is out of its ranges
abbrev pub out_of_range : ℕ
out_of_range = 2

-- a command byte outside the table, B9 to BF and F0 to FF apart, with no code awaited
abbrev pub outside_table : ℕ
outside_table = 3

-- B9 to BF with no code awaited; a page above 8 in the page call
abbrev pub no_page : ℕ
no_page = 4

-- an n of D3 or D4 that is not allowed; the code stays awaited
abbrev pub not_allowed : ℕ
not_allowed = 5

-- a data write or read while a code is awaited
abbrev pub code_awaited : ℕ
code_awaited = 6

-- a data write or read with the column above 131
abbrev pub column_above : ℕ
column_above = 7

-- one to three bytes where a header should stand, or a payload past the end
abbrev pub header_cut : ℕ
header_cut = 8

-- a kind that is not 1 to 4 (in a wide trace 1 to 5), or kind 4 with a payload
abbrev pub kind_unknown : ℕ
kind_unknown = 9

-- a compared read differs; that read has not happened
abbrev pub read_differs : ℕ
read_differs = 10

-- a list buffer is too small for all entries
abbrev pub list_too_small : ℕ
list_too_small = 11

-- a byte of a compared frame is above 1
abbrev pub frame_byte_above : ℕ
frame_byte_above = 12

-- a selection that is not left, right or both: a select payload, or a call's, that is not one byte of 1 to 3
abbrev pub no_selection : ℕ
no_selection = 13

-- a read with both chips selected
abbrev pub both_selected : ℕ
both_selected = 14

-- a command byte F0 to FF, test mode, with no code awaited, in the place of 3
abbrev pub test_mode : ℕ
test_mode = 15
