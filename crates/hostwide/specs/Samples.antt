-- What C is handed of some calls, worked out. proofs/Samples.antt proves `Samples` by computing.
use Rattle.std.specs.Prelude.{◌≡◌, List, replicate, ℕ}
use Rattle.bus.specs.Places.{on, fresh}
use Rattle.bus.specs.Registers.{power_on, image_of, ◌with◌≔◌}
use Rattle.bus.specs.Chip.{command_byte, data_read}
use Rattle.widebus.specs.Pair.{Pair, ◌beside◌, Lent, lent, both_lent}
use Rattle.widebus.specs.WideCalls.{wide_call}
use Rattle.widebus.specs.Samples.{zeros}
use Rattle.hostwide.specs.Events.{states_reply, read_reply, of_states, of_read}
use Rattle.hostwide.specs.Page.{page_reply, page_reply_of}

-- Both chips at power-on, in the order in which C lends them.
abbrev pub both_at_power_on : Pair Lent
both_at_power_on = both_lent (image_of power_on) zeros (image_of power_on) zeros

pub record Samples : Type 0 where
  -- What is lent first is the left chip's.
  pub order : (a b c d : List ℕ) → both_lent a b c d ≡ (lent a b beside lent c d)
  -- AF for the right chip.
  pub right : of_states (wide_call 2 (command_byte 0xAF) both_at_power_on) ≡ states_reply 0 (image_of power_on) (image_of (power_on with on ≔ 1))
  -- A dummy read of the left chip,
  pub dummy : of_read (wide_call 1 data_read both_at_power_on) ≡ read_reply 0 0 1 (image_of (power_on with fresh ≔ 0)) (image_of power_on)
  -- and a read of both.
  pub of_both : of_read (wide_call 3 data_read both_at_power_on) ≡ read_reply 14 0 0 (image_of power_on) (image_of power_on)
  -- The page call: the icons of the right chip,
  pub icons : page_reply_of 2 zeros zeros 8 ≡ page_reply 0 1056 132
  -- a page above 8,
  pub above : page_reply_of 1 zeros zeros 9 ≡ page_reply 4 0 0
  -- no such side, which goes before 4,
  pub no_side : page_reply_of 3 zeros zeros 9 ≡ page_reply 13 0 0
  -- and 1 before both, of the other side's memory too.
  pub short : page_reply_of 3 zeros (replicate 1187 0) 9 ≡ page_reply 1 0 0
  pub other_short : page_reply_of 1 zeros (replicate 1187 0) 9 ≡ page_reply 1 0 0
