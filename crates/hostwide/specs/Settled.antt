-- Any two results that satisfy what an exported call states are equal: its answer, and what it leaves of everything lent to be changed. A field has the name of its call.
use Rattle.std.specs.Prelude.{ℕ, ◌≡◌, List}
use Rattle.constants.specs.Settles.{Settles}
use Rattle.bus.specs.Chip.{command_byte, data_written, data_read, reset_pulse}
use Rattle.picture.specs.Draw.{drawn}
use Rattle.framelisting.specs.Listing.{listed_wide}
use Rattle.widebus.specs.Pair.{Pair, Lent}
use Rattle.widebus.specs.WideCalls.{wide_call}
use Rattle.widepicture.specs.WideDraw.{draw_wide}
use Rattle.hostwide.specs.Events.{states_reply, lent_reply, read_reply, of_states, of_lent, of_read}
use Rattle.hostwide.specs.Page.{page_reply, page_reply_of}
use Rattle.hostwide.specs.List.{list_reply, of_listed}

pub record Settled : Type 0 where
  -- number, left state, right state
  pub ssd1815b_wide_command : (all : Pair Lent) (selection byte : ℕ) → Settles (λ (o : ℕ × List ℕ × List ℕ). states_reply o.0 o.1 o.2 ≡ of_states (wide_call selection (command_byte byte) all))
  -- number, states and memories
  pub ssd1815b_wide_write : (all : Pair Lent) (selection byte : ℕ) → Settles (λ (o : ℕ × Pair Lent). lent_reply o.0 o.1 ≡ of_lent (wide_call selection (data_written byte) all))
  -- number, byte, dummy mark, left state, right state
  pub ssd1815b_wide_read : (all : Pair Lent) (selection : ℕ) → Settles (λ (o : ℕ × ℕ × ℕ × List ℕ × List ℕ). read_reply o.0 o.1 o.2 o.3 o.4 ≡ of_read (wide_call selection data_read all))
  -- number, left state, right state
  pub ssd1815b_wide_reset : (all : Pair Lent) (selection : ℕ) → Settles (λ (o : ℕ × List ℕ × List ℕ). states_reply o.0 o.1 o.2 ≡ of_states (wide_call selection reset_pulse all))
  -- number, frame
  pub ssd1815b_wide_draw : (all : Pair Lent) (frame : List ℕ) → Settles (λ (o : ℕ × List ℕ). drawn o.0 o.1 ≡ draw_wide all frame)
  -- number, length, text
  pub ssd1815b_wide_list : (number offset : ℕ) (frame text : List ℕ) → Settles (λ (o : ℕ × ℕ × List ℕ). list_reply o.0 o.1 o.2 ≡ of_listed (listed_wide number offset frame text))
  -- number, place, length
  pub ssd1815b_wide_page : (left right : List ℕ) (side page : ℕ) → Settles (λ (o : ℕ × ℕ × ℕ). page_reply o.0 o.1 o.2 ≡ page_reply_of side left right page)
