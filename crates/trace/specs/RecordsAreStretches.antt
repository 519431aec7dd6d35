-- A record's events are a stretch on the bus: where the number is 0 all is done, and else the record stops as many bytes past the payload's offset as events were taken.
use Rattle.std.specs.Prelude.{ℕ, ◌+◌, ◌≡◌, cond, List, eqb}
use Rattle.constants.specs.Numbers.{taken}
use Rattle.bus.specs.Stretch.{Stretched, stretch}
use Rattle.bus.specs.StretchLaws.{NeverZero}
use Rattle.trace.specs.Play.{Machine, Ending, stopped, done, play_events}

-- How a stretch ends whose first event has its byte at an offset.
abbrev pub ending_at : {S : Type 0} → ℕ → Stretched S → Ending S
ending_at offset r = cond (eqb r.number taken) (done r.state) (stopped r.number (offset + r.count) r.state)

-- Over any machine that refuses with no 0.
abbrev pub RecordsAreStretches : {S E : Type 0} → Machine S E → Type 0
RecordsAreStretches {S} {E} machine = NeverZero machine.step → (events : List E) (offset : ℕ) (s : S) → play_events machine events offset s ≡ ending_at offset (stretch machine.step events s)
