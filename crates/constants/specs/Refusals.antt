-- The refusals as code names them, and the numbers that documents 01 and 02 give them.
use Rattle.std.specs.Prelude.{ℕ, ◌≡◌, Result, Ok, Err}
use Rattle.constants.specs.Numbers.{taken, too_short, out_of_range, outside_table, no_page, not_allowed, code_awaited, column_above, header_cut, kind_unknown, read_differs, list_too_small, frame_byte_above, no_selection, both_selected, test_mode}
use Rattle.constants.specs.declared.refusal.Refusal.{Refusal}

-- The number of a refusal.
abbrev pub number_of_refusal : Refusal → ℕ
number_of_refusal Refusal.TooShort = too_short
number_of_refusal Refusal.OutOfRange = out_of_range
number_of_refusal Refusal.OutsideTable = outside_table
number_of_refusal Refusal.NoPage = no_page
number_of_refusal Refusal.NotAllowed = not_allowed
number_of_refusal Refusal.CodeAwaited = code_awaited
number_of_refusal Refusal.ColumnAbove = column_above
number_of_refusal Refusal.HeaderCut = header_cut
number_of_refusal Refusal.KindUnknown = kind_unknown
number_of_refusal Refusal.ReadDiffers = read_differs
number_of_refusal Refusal.ListTooSmall = list_too_small
number_of_refusal Refusal.FrameByteAbove = frame_byte_above
number_of_refusal Refusal.NoSelection = no_selection
number_of_refusal Refusal.BothSelected = both_selected
number_of_refusal Refusal.TestMode = test_mode

-- What is met: nothing that speaks against it, or a refusal.
abbrev pub Met : Type 0
Met = Result Unit Refusal

-- Its number: 0 where nothing is refused.
abbrev pub number_met : Met → ℕ
number_met (Ok done) = taken
number_met (Err refusal) = number_of_refusal refusal

-- Of a count that may be refused: the number, 0 where it is not; and the count, 0 where it is.
abbrev pub number_counted : Result ℕ Refusal → ℕ
number_counted (Ok count) = taken
number_counted (Err refusal) = number_of_refusal refusal

abbrev pub count_handed : Result ℕ Refusal → ℕ
count_handed (Ok count) = count
count_handed (Err refusal) = 0
