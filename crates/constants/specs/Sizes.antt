-- The sizes of documents 01 and 02.
use Rattle.std.specs.Prelude.{ℕ, ◌+◌, ◌*◌}

-- columns of the display memory, and of each row of the frame
abbrev pub width : ℕ
width = 132

-- the last column, after which comes 0
abbrev pub last_column : ℕ
last_column = 131

-- pages of the display memory
abbrev pub pages : ℕ
pages = 9

-- the page that holds the icons
abbrev pub icon_page : ℕ
icon_page = 8

-- bytes of the state image
abbrev pub image_size : ℕ
image_size = 23

-- bytes of the display memory, 1,188
abbrev pub memory_size : ℕ
memory_size = pages * width

-- panel rows; the RAM row after the last of them has the icons
abbrev pub height : ℕ
height = 64

-- rows of the frame: the panel rows, then the icon line
abbrev pub frame_rows : ℕ
frame_rows = height + 1

-- bytes of the frame, 8,580
abbrev pub frame_size : ℕ
frame_size = frame_rows * width

-- places of each row of the wide frame, 264: the left chip's, then the right chip's
abbrev pub wide_width : ℕ
wide_width = width + width

-- bytes of the wide frame, 17,160
abbrev pub wide_frame_size : ℕ
wide_frame_size = frame_rows * wide_width

-- bytes of a record's header in a trace
abbrev pub header_size : ℕ
header_size = 4

-- bytes of the longest trace that the listing program takes
abbrev pub longest_trace : ℕ
longest_trace = 65536

-- bytes of the longest listing: a buffer of that length is enough for any
abbrev pub longest_listing : ℕ
longest_listing = 27408

-- bytes of the longest listing of a wide frame
abbrev pub longest_wide_listing : ℕ
longest_wide_listing = 61728

-- bytes of an entry in the list of differing runs of two frames
abbrev pub frame_entry_size : ℕ
frame_entry_size = 5

-- bytes of an entry in the list of differing bytes of two memories
abbrev pub memory_entry_size : ℕ
memory_entry_size = 4

-- bytes of the longest list of differing runs, 42,900: a buffer of that length is enough for any
abbrev pub longest_frame_list : ℕ
longest_frame_list = frame_size * frame_entry_size

-- bytes of the longest list of differing bytes, 4,752
abbrev pub longest_memory_list : ℕ
longest_memory_list = memory_size * memory_entry_size
