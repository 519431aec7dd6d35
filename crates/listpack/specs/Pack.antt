-- A pack: entry after entry, each a named trace. An entry is the length of its name, the length of its trace, the name and the trace.
use Rattle.std.specs.Prelude.{ℕ, ◌+◌, ◌*◌, ◌≡◌, cond, ◌&&◌, List, [], ◌∷◌, ◌++◌, eqb, leb, length, get_or}
use Rattle.bus.specs.declared.start.Hung.{Hung}
use Rattle.framelisting.specs.Ascii.{ascii}
use Rattle.tracelisting.specs.Beginning.{begins}
use Rattle.listpack.specs.declared.pack.Entry.{Entry}

-- A number of four bytes, little-endian.
abbrev pub number : List ℕ → ℕ → ℕ
number bytes place = get_or bytes place 0 + 256 * (get_or bytes (place + 1) 0 + 256 * (get_or bytes (place + 2) 0 + 256 * get_or bytes (place + 3) 0))

-- bytes of a length in a header
abbrev pub length_size : ℕ
length_size = 4

-- bytes of an entry's header: the two lengths
abbrev pub header_size : ℕ
header_size = 8

abbrev pub name_length : List ℕ → ℕ
name_length bytes = number bytes 0

abbrev pub trace_length : List ℕ → ℕ
trace_length bytes = number bytes length_size

-- What stands first among the bytes: nothing; a whole entry, its header not cut and its name and trace not past the end; or a cut one.
unfoldable pub entry_of : List ℕ → Entry
entry_of bytes =
    cond (eqb (length bytes) 0) Entry.Nothing
    (cond (leb header_size (length bytes) && leb (header_size + name_length bytes + trace_length bytes) (length bytes))
    (Entry.Whole (record { name = name_length bytes; trace = trace_length bytes }))
    Entry.Cut)

-- The start that an entry is listed from: that of an old cabinet where its name begins with the word `upright` and a space, else that of a new one.
unfoldable pub hung_by : List ℕ → Hung
hung_by name = cond (begins (ascii "upright ") name) Hung.Upright Hung.UpsideDown

-- The word `upright` and a space, in figures.
abbrev pub upright_word : List ℕ
upright_word = 0x75 ∷ 0x70 ∷ 0x72 ∷ 0x69 ∷ 0x67 ∷ 0x68 ∷ 0x74 ∷ 0x20 ∷ []

pub record HungBy : Type 0 where
  -- A name that begins with it asks for the old start,
  pub upright : (rest : List ℕ) → hung_by (upright_word ++ rest) ≡ Hung.Upright
  -- any other for the new one.
  pub others : (name : List ℕ) → ((rest : List ℕ) → name ≡ upright_word ++ rest → ⊥) → hung_by name ≡ Hung.UpsideDown
